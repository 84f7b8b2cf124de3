use Rattle.std.proofs.Common.{◌≡◌, length, [], refl, sym, ap, ◌∙◌, arith}
use Rattle.hcl_token.specs.Tokens.{whole_text}
use Rattle.hcl_layout.specs.Gaps.Layout.{layout_pairs}
use Rattle.hcl_layout.specs.Gaps.Inner.Stages.{unchanged, with_gaps}
use Rattle.hcl_layout.proofs.GapsLemmas.EditLemmas.{last_at}
use Rattle.hcl_layout.proofs.GapsLemmas.LayoutPieces.{unchanged_is, is_unchanged, layout_tokens}
use Rattle.hcl_layout.proofs.gaps.format.is_laid_out.Goals as goal

pub returns-then-all_unchanged-clause-answer : goal.returns-then-all_unchanged-clause-answer
returns-then-all_unchanged-clause-answer c =
    let ps = c.args.scanned.now.pairs in
    let last = c.args.scanned.now.last in
    let read = c.all_unchanged.ensures ∙ ap (λ g. unchanged ps (with_gaps g ps) last) c.deref.ensures.value ∙ ap (λ qs. unchanged ps qs last) c.in_ok-gaps.ensures.layout in (
      λ yes. unchanged_is ps (layout_pairs ps) last (layout_tokens ps) (sym read ∙ c.if-all_unchanged.true),
      λ h. refl,
    )

pub returns-then-all_unchanged-clause-short : goal.returns-then-all_unchanged-clause-short
returns-then-all_unchanged-clause-short c =
    let ps = c.args.scanned.now.pairs in
    let last = c.args.scanned.now.last in
    let text = c.args.scanned.now.text in
    let read = c.all_unchanged.ensures ∙ ap (λ g. unchanged ps (with_gaps g ps) last) c.deref.ensures.value ∙ ap (λ qs. unchanged ps qs last) c.in_ok-gaps.ensures.layout in
    let same = (unchanged_is ps (layout_pairs ps) last (layout_tokens ps) (sym read ∙ c.if-all_unchanged.true)).0 in
    let size : length (whole_text (layout_pairs ps) []) ≡ length (whole_text ps []) = ap (λ qs. length (whole_text qs [])) same in
    omega (arith, size, last_at ps last text c.text-text.ensures.tokenization.tokenizes.text_is, c.text-text.ensures.tokenization.short)

pub returns-clause-answer : goal.returns-clause-answer
returns-clause-answer c =
    let ps = c.args.scanned.now.pairs in
    let last = c.args.scanned.now.last in
    let read = c.all_unchanged.ensures ∙ ap (λ g. unchanged ps (with_gaps g ps) last) c.deref.ensures.value ∙ ap (λ qs. unchanged ps qs last) c.in_ok-gaps.ensures.layout in (
      λ yes. absurd (cc),
      λ h. sym c.if-all_unchanged.false ∙ read ∙ is_unchanged ps (layout_pairs ps) last h.0 h.1,
    )
