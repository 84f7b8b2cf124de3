use Rattle.std.proofs.Common.{ap, ◌∙◌}
use Rattle.hcl_grammar.specs.Operators.{levels}
use Rattle.hcl_grammar.specs.Pure.NodeMakers.{group}
use Rattle.hcl_parse.proofs.Chains.{before_all}
use Rattle.hcl_parse.proofs.grouping.group.Goals as goal

pub returns : goal.returns
returns c = (c.in_ok-made.ensures {u = tt}).made ∙ ap (group levels c.args.head) (before_all c.args.operations)
