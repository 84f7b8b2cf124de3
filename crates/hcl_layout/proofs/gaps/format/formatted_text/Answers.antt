use Rattle.std.proofs.Common.{◌≡◌, ℕ, List, sym, subst, rules}
use Rattle.edit_record.specs.Lists.Pieces.{Transforms}
use Rattle.hcl_layout.specs.Gaps.Layout.{layout_edits, layout_text}
use Rattle.hcl_layout.proofs.GapsLemmas.LayoutPieces.{layout_turns}
use Rattle.hcl_layout.proofs.gaps.format.formatted_text.Goals as goal

pub returns-clause-turns : goal.returns-clause-turns
returns-clause-turns c =
    let made : c.in_ok-text_with_gaps.field-0.items ≡ layout_text c.args.scanned.now = search rules in
    subst (λ (x : List ℕ). Transforms (layout_edits c.args.scanned.now) c.args.scanned.now.text x) (sym made) (layout_turns c.args.scanned.now c.text-text.ensures.tokenization)
