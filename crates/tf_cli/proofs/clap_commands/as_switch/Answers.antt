use Rattle.std.proofs.Common.{ap}
use Rattle.clap.specs.Walk.{rule_of}
use Rattle.tf_cli.proofs.Building.{global_of}
use Rattle.tf_cli.proofs.clap_commands.as_switch.Goals as goal

pub returns : goal.returns
returns c = (ap rule_of c.action.ensures, ap global_of c.action.ensures)
