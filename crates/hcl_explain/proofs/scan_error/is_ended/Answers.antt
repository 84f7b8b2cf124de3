use Rattle.std.proofs.Common.{◌≡◌, ap, ◌∙◌, drop, List, ℕ}
use Rattle.hcl_explain.specs.Sequences.{EndsInValue, sequence_text, between}
use Rattle.hcl_explain.proofs.SequenceLemmas.{decided_of}
use Rattle.hcl_explain.proofs.scan_error.is_ended.Goals as goal

pub returns : goal.returns
returns c =
    let same : c.bytes_from.result.now ≡ between c.args.text.now c.args.opened c.args.at =
    c.bytes_from.ensures ∙ ap (λ (x : List ℕ). drop c.args.opened x) c.prefix.ensures in
    decided_of (λ (x : List ℕ). EndsInValue (sequence_text x)) _ _ c.ends_in_value.result same
    c.ends_in_value.ensures
