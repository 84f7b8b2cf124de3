-- Whether a value ends with the text of a sequence, of its one list of tokens.
use Rattle.hcl_explain.specs.Sequences.{has_value_last}
use Rattle.hcl_explain.proofs.SequenceLemmas.{decided, not_tokens}
use Rattle.hcl_explain.proofs.sequence.ends_in_value.Goals as goal

pub returns-in-Ok : goal.returns-in-Ok
returns-in-Ok c =
    decided c.one_tokenization.ensures has_value_last _ _ c.in-Ok.scanned.pairs
    c.in-Ok.scanned.last c.has_value_last.result c.sequence_text.ensures
    c.in-Ok.ensures.tokenization c.has_value_last.ensures

pub returns-in-Err : goal.returns-in-Err
returns-in-Err c =
    not_tokens c.no_tokenization_with_fault.ensures has_value_last _ _ c.in-Err.fault
    c.no_unless_memory.result c.sequence_text.ensures c.in-Err.ensures.fault
    c.no_unless_memory.ensures.no c.no_unless_memory.ensures.memory
