-- The last `<` for a value is that of the one list of tokens.
use Rattle.hcl_explain.proofs.HeredocLemmas.{some_of_tokens, only_of_tokens, none_of_tokens}
use Rattle.hcl_explain.proofs.HeredocLemmas.{none_of_fault}
use Rattle.hcl_explain.proofs.heredoc.last_less.Goals as goal

pub returns-in-Ok-clause-some : goal.returns-in-Ok-clause-some
returns-in-Ok-clause-some c =
    some_of_tokens c.in-Ok.scanned _ c.place_of_less.result c.in-Ok.ensures.text
    c.in-Ok.ensures.tokenization c.place_of_less.ensures.some

pub returns-in-Ok-clause-only : goal.returns-in-Ok-clause-only
returns-in-Ok-clause-only c =
    only_of_tokens c.one_tokenization.ensures c.in-Ok.scanned _ c.place_of_less.result
    c.in-Ok.ensures.text c.in-Ok.ensures.tokenization c.place_of_less.ensures.some

pub returns-in-Ok-clause-none : goal.returns-in-Ok-clause-none
returns-in-Ok-clause-none c =
    none_of_tokens c.one_tokenization.ensures c.in-Ok.scanned _ c.place_of_less.result
    c.in-Ok.ensures.tokenization c.place_of_less.ensures.none

pub returns-in-Err-clause-none : goal.returns-in-Err-clause-none
returns-in-Err-clause-none c =
    none_of_fault c.no_tokenization_with_fault.ensures c.args.text.now c.in-Err.fault
    c.none_unless_memory.result c.in-Err.ensures.fault c.none_unless_memory.ensures.memory
