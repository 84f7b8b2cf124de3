use Rattle.std.proofs.Common.{length, sym, ap, subst, ◌∙◌, arith}
use Rattle.hcl_token.specs.declared.place.Place.{Place}
use Rattle.hcl_token.specs.Inner.LineColumn.{IsPlaceBounded}
use Rattle.hcl_token.proofs.OrderLemmas.{order-le}
use Rattle.hcl_token.proofs.LineColumnLemmas.{ascii_part, last_within, range_bounded, range_length}
use Rattle.hcl_token.proofs.line_column.place_after_tokens.Goals as goal

pub slice-bytes-requires-clause-ordered : goal.slice-bytes-requires-clause-ordered
slice-bytes-requires-clause-ordered c = order-le _ _ _ c.requires.order

pub place_after_ascii-requires-clause-line : goal.place_after_ascii-requires-clause-line
place_after_ascii-requires-clause-line c =
    omega (arith, ap length c.slice-bytes.ensures, range_length _ _ _ _ _ c.requires, c.requires.bounded.line, c.requires.within, c.requires.short)

pub place_after_ascii-requires-clause-column : goal.place_after_ascii-requires-clause-column
place_after_ascii-requires-clause-column c =
    omega (arith, ap length c.slice-bytes.ensures, range_length _ _ _ _ _ c.requires, c.requires.bounded.column, c.requires.within, c.requires.short)

pub overflow_cast-last : goal.overflow_cast-last
overflow_cast-last c =
    let last = last_within _ _ _ _ _ _ _ c.requires c.slice-bytes.ensures c.last_line-last.ensures in
    omega (arith, last.0, c.requires.within, c.requires.short)

pub overflow_sub-to : goal.overflow_sub-to
overflow_sub-to c = (last_within _ _ _ _ _ _ _ c.requires c.slice-bytes.ensures c.last_line-last.ensures).0

pub place_by_last_line-requires : goal.place_by_last_line-requires
place_by_last_line-requires c = (
  c.args.to,
  record {
    range = c.requires;
    unmarked = sym c.has_mark.ensures ∙ c.if-has_mark.false;
    ends = (last_within _ _ _ _ _ _ _ c.requires c.slice-bytes.ensures c.last_line-last.ensures).1;
  },
)

pub returns-then-has_mark-clause-bounded : goal.returns-then-has_mark-clause-bounded
returns-then-has_mark-clause-bounded c = subst (λ (p : Place). IsPlaceBounded p c.args.to) (sym c.place_after_each.ensures) (range_bounded _ _ _ _ _ c.requires)

pub returns-then-is_ascii_without_cr-clause-value : goal.returns-then-is_ascii_without_cr-clause-value
returns-then-is_ascii_without_cr-clause-value c =
    c.place_after_ascii.ensures
    ∙ ascii_part _ _ _ _ _ _ _ c.requires c.slice-bytes.ensures c.last_line-last.ensures (sym c.is_ascii_without_cr.ensures ∙ c.if-is_ascii_without_cr.true) (sym c.has_mark.ensures ∙ c.if-has_mark.false)

pub returns-then-is_ascii_without_cr-clause-bounded : goal.returns-then-is_ascii_without_cr-clause-bounded
returns-then-is_ascii_without_cr-clause-bounded c =
    let value = c.place_after_ascii.ensures
    ∙ ascii_part _ _ _ _ _ _ _ c.requires c.slice-bytes.ensures c.last_line-last.ensures (sym c.is_ascii_without_cr.ensures ∙ c.if-is_ascii_without_cr.true) (sym c.has_mark.ensures ∙ c.if-has_mark.false) in
    subst (λ (p : Place). IsPlaceBounded p c.args.to) (sym value) (range_bounded _ _ _ _ _ c.requires)

pub returns-else-is_ascii_without_cr-clause-bounded : goal.returns-else-is_ascii_without_cr-clause-bounded
returns-else-is_ascii_without_cr-clause-bounded c = subst (λ (p : Place). IsPlaceBounded p c.args.to) (sym c.place_by_last_line.ensures) (range_bounded _ _ _ _ _ c.requires)
