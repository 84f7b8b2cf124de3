-- Whether a value ends the line, after which a letter begins one, and where the sequence is open.
use Rattle.std.proofs.Common.{rules, ◌≡◌, ◌∙◌, ℕ, List, true, ap, subst, drop, take}
use Rattle.hcl_scan.specs.Fault.{IsFault}
use Rattle.hcl_scan.specs.declared.fault.ScanFault.TheVariants.{OpenTemplate}
use Rattle.hcl_explain.specs.Lines.{line_end, first_line}
use Rattle.hcl_explain.specs.Sequences.{IsOpenBefore, HasTokens, has_value_alone, sequence_text}
use Rattle.hcl_explain.specs.Sequences.{is_before_letter}
use Rattle.hcl_explain.proofs.WithoutLemmas.{all_of}
use Rattle.hcl_explain.proofs.without.ends_with_line.Goals as goal

pub returns : goal.returns
returns c =
    let text = c.args.text.now in
    let opened = c.args.opened in
    let same = ap is_before_letter c.bytes_from.ensures in
    let letter : is_before_letter (drop opened text) ≡ true = first_of (cc, search rules) in
    let shown : c.in_ok-is_open_at.field-0 ≡ true = first_of (cc, search rules) in
    let before : c.prefix.result.now ≡ take (line_end text opened) text =
    c.prefix.ensures ∙ ap (λ (n : ℕ). take n text) c.line_end.ensures in
    let is : IsOpenBefore text (line_end text opened) opened =
    subst (λ (x : List ℕ). IsFault x (OpenTemplate opened)) before
    (c.in_ok-is_open_at.ensures.0 shown) in
    all_of (is_before_letter (drop opened text) ≡ true)
    (IsOpenBefore text (line_end text opened) opened)
    (λ (x : List ℕ). HasTokens has_value_alone (sequence_text (first_line x))) _ _
    c.ends_line_in_value.result letter is c.bytes_from-2.ensures c.ends_line_in_value.ensures
