use Rattle.std.proofs.Common.{arith, sym, ◌∙◌, refl}
use Rattle.hcl_scan.proofs.UnitLemmas.{quote_unit_at, quote_unit_escape}
use Rattle.std.proofs.lemmas.Bool.{ne_eqb}
use Rattle.hcl_scan.proofs.runs.QuoteUnitUnit.len_at.Goals as goal

pub returns-else-len-eq0-clause-value : goal.returns-else-len-eq0-clause-value
returns-else-len-eq0-clause-value c =
    quote_unit_escape c.args.text.now c.args.at _ c.args._at_line_start c.requires c.if-b-eq92.true c.escape_len-len.ensures.value (omega arith)

pub returns-else-is_at_line_end-clause-value : goal.returns-else-is_at_line_end-clause-value
returns-else-is_at_line_end-clause-value c =
    let other = ne_eqb _ 92 c.if-b-eq92.false in
    let quote = ne_eqb _ 34 c.if-b-eq34.false in
    let sigil = sym c.is_sigil.ensures ∙ c.if-is_sigil.false in
    let line = sym c.is_at_line_end.ensures ∙ c.if-is_at_line_end.false in
    rw (quote_unit_at c.args.text.now c.args.at c.args._at_line_start c.requires, other, sigil, quote, line) refl
