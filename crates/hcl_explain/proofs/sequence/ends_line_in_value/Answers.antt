-- Whether a value ends the first line of a sequence, outside of brackets, by its tokens.
use Rattle.std.proofs.Common.{◌≡◌, ap, ◌∙◌}
use Rattle.hcl_explain.specs.Sequences.{has_value_alone, sequence_text}
use Rattle.hcl_explain.specs.Lines.{first_line}
use Rattle.hcl_explain.proofs.SequenceLemmas.{decided, not_tokens}
use Rattle.hcl_explain.proofs.sequence.ends_line_in_value.Goals as goal

pub returns-in-Ok : goal.returns-in-Ok
returns-in-Ok c =
    let same : c.sequence_text.result.now ≡ sequence_text (first_line c.args.sequence.now) =
    c.sequence_text.ensures ∙ ap sequence_text c.first_line.ensures in
    decided c.one_tokenization.ensures has_value_alone _ _ c.in-Ok.scanned.pairs
    c.in-Ok.scanned.last c.has_value_alone.result same c.in-Ok.ensures.tokenization
    c.has_value_alone.ensures

pub returns-in-Err : goal.returns-in-Err
returns-in-Err c =
    let same : c.sequence_text.result.now ≡ sequence_text (first_line c.args.sequence.now) =
    c.sequence_text.ensures ∙ ap sequence_text c.first_line.ensures in
    not_tokens c.no_tokenization_with_fault.ensures has_value_alone _ _ c.in-Err.fault
    c.no_unless_memory.result same c.in-Err.ensures.fault
    c.no_unless_memory.ensures.no c.no_unless_memory.ensures.memory
