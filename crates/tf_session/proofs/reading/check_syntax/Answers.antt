-- What the steps say of a text that parses, and their error.
use Rattle.std.proofs.Common.{sym, subst}
use Rattle.tf_session.specs.declared.command.Fault.{Fault}
use Rattle.tf_session.specs.Rewrites.{IsSyntaxFault}
use Rattle.tf_session.proofs.ReadTexts.{does_parse, not_read}
use Rattle.tf_session.proofs.reading.check_syntax.Goals as goal

pub returns-in-Ok-clause-text : goal.returns-in-Ok-clause-text
returns-in-Ok-clause-text c = c.in-Ok.ensures.reads.1.0

pub returns-in-Ok-clause-derived : goal.returns-in-Ok-clause-derived
returns-in-Ok-clause-derived c = (c.in-Ok.ensures.reads.0, c.in-Ok.ensures.reads.1.2)

pub returns-in-Ok-clause-parses : goal.returns-in-Ok-clause-parses
returns-in-Ok-clause-parses c = does_parse c.args.text.now (record { scanned = c.in-Ok.scanned; tree = c.in-Ok.ensures.reads.0 }) c.in-Ok.ensures.reads.1

pub returns-in-Err-clause-fault : goal.returns-in-Err-clause-fault
returns-in-Err-clause-fault c =
    subst (λ (fault : Fault). IsSyntaxFault c.args.text.now fault) (sym c.from.ensures) (not_read c.args.text.now c.in-Err.fault c.in-Err.ensures.fault)
