use Rattle.std.proofs.Common.{◌≡◌, ℕ, List, length, take, slice_range, ap, sym, ◌∙◌, arith}
use Rattle.tf_fix.specs.Edits.Parts.{parts, text_of_parts, boundary_index}
use Rattle.tf_fix.proofs.SettledLemmas.{parts_written}
use Rattle.tf_fix.proofs.PartLemmas.{length_written, text_within, text_range}
use Rattle.tf_fix.proofs.boundary.text_between.Goals as goal

pub slice-requires-clause-ordered : goal.slice-requires-clause-ordered
slice-requires-clause-ordered c =
    let a = c.offset.ensures in
    let b = c.offset-2.ensures in
    let more = length_written (parts c.args.scanned.now) (boundary_index c.args.from) (boundary_index c.args.to) c.requires.order in
    omega (arith, a, b, more)

pub slice-requires-clause-within : goal.slice-requires-clause-within
slice-requires-clause-within c =
    let b = c.offset-2.ensures in
    let whole = text_within (parts c.args.scanned.now) (boundary_index c.args.to) in
    let text = ap length (c.text.ensures.text ∙ c.text.ensures.tokenization.tokenizes.text_is ∙ sym (parts_written c.args.scanned.now.pairs c.args.scanned.now.last)) in
    omega (arith, b, whole, text)

pub returns : goal.returns
returns c =
    let text : c.text.result.now ≡ text_of_parts (parts c.args.scanned.now) = c.text.ensures.text ∙ c.text.ensures.tokenization.tokenizes.text_is ∙ sym (parts_written c.args.scanned.now.pairs c.args.scanned.now.last) in
    c.slice.ensures
    ∙ ap (λ (t : List ℕ). slice_range t c.offset.result c.offset-2.result) text
    ∙ ap (λ k. slice_range (text_of_parts (parts c.args.scanned.now)) k c.offset-2.result) c.offset.ensures
    ∙ ap (λ k. slice_range (text_of_parts (parts c.args.scanned.now)) (length (text_of_parts (take (boundary_index c.args.from) (parts c.args.scanned.now)))) k) c.offset-2.ensures
    ∙ text_range (parts c.args.scanned.now) (boundary_index c.args.from) (boundary_index c.args.to) c.requires.order
