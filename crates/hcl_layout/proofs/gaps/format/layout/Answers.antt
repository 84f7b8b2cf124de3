use Rattle.std.proofs.Common.{sym, subst, arith}
use Rattle.edit_record.specs.Lists.Pieces.{EditList, Transforms}
use Rattle.hcl_layout.specs.Gaps.Layout.{layout_edits, layout_text}
use Rattle.hcl_layout.proofs.GapsLemmas.LayoutPieces.{layout_turns, made_list, read_made}
use Rattle.hcl_layout.proofs.gaps.format.layout.Goals as goal

pub returns-clause-edits : goal.returns-clause-edits
returns-clause-edits c =
    made_list c.pieces_make_valid_edits.ensures c.args.scanned.now _ c.text-text.ensures.tokenization (read_made c.args.scanned.now.text c.text-text.result.now (layout_edits c.args.scanned.now).entries _ c.make.result _ c.make.ensures c.text-text.ensures.text c.in_ok-edits.ensures.ok c.in-Ok.is)

pub returns-clause-turns : goal.returns-clause-turns
returns-clause-turns c =
    let same = made_list c.pieces_make_valid_edits.ensures c.args.scanned.now _ c.text-text.ensures.tokenization (read_made c.args.scanned.now.text c.text-text.result.now (layout_edits c.args.scanned.now).entries _ c.make.result _ c.make.ensures c.text-text.ensures.text c.in_ok-edits.ensures.ok c.in-Ok.is) in
    subst (λ (e : EditList). Transforms e c.args.scanned.now.text (layout_text c.args.scanned.now)) (sym same) (layout_turns c.args.scanned.now c.text-text.ensures.tokenization)

pub unreachable-requires : goal.unreachable-requires
unreachable-requires c =
    let long = made_list c.pieces_make_valid_edits.ensures c.args.scanned.now _ c.text-text.ensures.tokenization (read_made c.args.scanned.now.text c.text-text.result.now (layout_edits c.args.scanned.now).entries _ c.make.result _ c.make.ensures c.text-text.ensures.text c.in_ok-edits.ensures.ok c.in-Err.is) in
    omega (arith, long, c.in_ok-edits.ensures.short)
