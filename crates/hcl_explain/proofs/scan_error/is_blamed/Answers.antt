-- Whether a value ends with the sequence, which has a line feed and after whose quote more follows.
use Rattle.std.proofs.Common.{rules, ◌≡◌, ◌==◌, ◌⊎◌, ℕ, List, IfOk, true, false, drop, subst}
use Rattle.std.specs.Bool.{Decides}
use Rattle.std.specs.List.{list_any}
use Rattle.hcl_token.specs.Bytes.{line_feed}
use Rattle.hcl_explain.specs.Sequences.{between, is_line_end, sequence_text, EndsInValue}
use Rattle.hcl_explain.proofs.SequenceLemmas.{only_third}
use Rattle.hcl_explain.proofs.scan_error.is_blamed.Goals as goal

pub returns : goal.returns
returns c =
    let text = c.args.text.now in
    let sequence = c.bytes_from-sequence.result.now in
    let rest = drop 1 (drop c.args.at text) in
    let same : sequence ≡ between text c.args.opened c.args.at = first_of (cc, search rules) in
    let has : list_any (λ b. b == line_feed) sequence ≡ true = first_of (search rules, cc) in
    let more : is_line_end rest ≡ false = first_of (search rules, cc) in
    subst (λ (x : List ℕ). IfOk c.ends_in_value.result
    (λ b. Decides b ((list_any (λ b. b == line_feed) x ≡ false)
    ⊎ (is_line_end rest ≡ true) ⊎ EndsInValue (sequence_text x)))) same
    (only_third (EndsInValue (sequence_text sequence)) _ _ c.ends_in_value.result has more
    c.ends_in_value.ensures)
