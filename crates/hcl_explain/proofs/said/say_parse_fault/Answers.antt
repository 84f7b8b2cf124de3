-- Nothing is said of an error that is at no token of the one list of them.
use Rattle.hcl_explain.proofs.SaidLemmas.{none_of_tokens, none_of_fault}
use Rattle.hcl_explain.proofs.said.say_parse_fault.Goals as goal

pub returns-in-Ok-clause-none : goal.returns-in-Ok-clause-none
returns-in-Ok-clause-none c =
    none_of_tokens c.one_tokenization.ensures c.in-Ok.scanned _ c.args.fault
    c.say_of_tokens.result c.in-Ok.ensures.text c.in-Ok.ensures.tokenization
    c.say_of_tokens.ensures.none

pub returns-in-Err-clause-none : goal.returns-in-Err-clause-none
returns-in-Err-clause-none c =
    none_of_fault c.no_tokenization_with_fault.ensures c.args.text.now c.in-Err.fault
    c.args.fault c.none_unless_memory.result c.in-Err.ensures.fault
    c.none_unless_memory.ensures.memory
