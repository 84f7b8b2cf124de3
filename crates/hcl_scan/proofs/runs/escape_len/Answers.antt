use Rattle.std.proofs.Common.{sym, ◌∙◌, refl}
use Rattle.std.proofs.lemmas.Bool.{ne_eqb}
use Rattle.hcl_scan.proofs.UnitLemmas.{escape_length_at}
use Rattle.hcl_scan.proofs.runs.escape_len.Goals as goal

pub returns-then-has_eight_hex-clause-value : goal.returns-then-has_eight_hex-clause-value
returns-then-has_eight_hex-clause-value c =
    let hex = sym c.has_eight_hex.ensures.value ∙ c.if-has_eight_hex.true in
    rw (escape_length_at c.args.text.now c.args.at, ← c.byte_at-b.ensures.value, c.if-b-eq85.true, hex) refl

pub returns-else-has_eight_hex-clause-value : goal.returns-else-has_eight_hex-clause-value
returns-else-has_eight_hex-clause-value c =
    let hex = sym c.has_eight_hex.ensures.value ∙ c.if-has_eight_hex.false in
    rw (escape_length_at c.args.text.now c.args.at, ← c.byte_at-b.ensures.value, c.if-b-eq85.true, hex) refl

pub returns-else-b-eq85-clause-value : goal.returns-else-b-eq85-clause-value
returns-else-b-eq85-clause-value c =
    let simple = sym c.is_simple_escape.ensures ∙ c.if-is_simple_escape.false in
    rw (escape_length_at c.args.text.now c.args.at, ← c.byte_at-b.ensures.value, simple, ne_eqb _ 117 c.if-b-eq117.false, ne_eqb _ 85 c.if-b-eq85.false) refl
