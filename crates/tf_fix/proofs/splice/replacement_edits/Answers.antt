use Rattle.std.proofs.Common.{◌≡◌, ◌≤◌, ◌-◌, ◌*◌, ◌∷◌, ◌++◌, [], List, length, take, drop, slice_index_or, subst, arith, refl, sym, ◌∙◌}
use Rattle.edit_record.specs.Lists.Pieces.{EditEntry, changed_entries}
use Rattle.tf_fix.specs.Edits.Replacements.{replaced_pieces}
use Rattle.tf_fix.specs.JoinedTokens.{Prev}
use Rattle.tf_fix.specs.Edits.Parts.{parts, boundary_index}
use Rattle.tf_fix.specs.Inner.Views.{prev_view, replacements}
use Rattle.tf_fix.specs.declared.splice.Replacement.{Replacement}
use Rattle.tf_fix.proofs.InsertionLemmas.{insertion_after}
use Rattle.tf_fix.proofs.ComparisonLemmas.{IsCompared, split_first, order_le, order_next, loop_step}
use Rattle.tf_fix.proofs.splice.replacement_edits.Goals as goal

-- the first that is left, and the rest
split : (left : List Replacement) (one any : Replacement) → 1 ≤ length left → one ≡ slice_index_or left 0 any → left ≡ one ∷ take (length left - 1) (drop 1 left)
split left one any some is = subst (λ (r : Replacement). left ≡ r ∷ take (length left - 1) (drop 1 left)) (sym is) (split_first left any some)

pub prev_before-prev-requires-clause-within : goal.prev_before-prev-requires-clause-within
prev_before-prev-requires-clause-within c =
    let pairs = c.args.scanned.now.pairs in
    let whole = changed_entries 0 (replaced_pieces (parts c.args.scanned.now) (replacements pairs c.args.all.now)) in
    let left = c.loop-left.left.now in
    let rest = take (length left - 1) (drop 1 left) in
    let compared = subst (λ (rs : List Replacement). IsCompared pairs c.args.scanned.now.last whole c.loop-left.edits.items (prev_view c.loop-left.prev) (boundary_index c.loop-left.at) rs)
    (split left c.unpack-one.result _ c.in-len1-up.len_at_least (c.unpack-one.ensures ∙ c.first-item.is)) c.loop-left.invariant in
    omega (arith, compared.1.1, order_le _ (replacements pairs (rest)) (2 * length pairs) compared.1.2)

pub replacement_edit-requires-clause-within : goal.replacement_edit-requires-clause-within
replacement_edit-requires-clause-within c =
    let pairs = c.args.scanned.now.pairs in
    let whole = changed_entries 0 (replaced_pieces (parts c.args.scanned.now) (replacements pairs c.args.all.now)) in
    let left = c.loop-left.left.now in
    let rest = take (length left - 1) (drop 1 left) in
    let compared = subst (λ (rs : List Replacement). IsCompared pairs c.args.scanned.now.last whole c.loop-left.edits.items (prev_view c.loop-left.prev) (boundary_index c.loop-left.at) rs)
    (split left c.unpack-one.result _ c.in-len1-up.len_at_least (c.unpack-one.ensures ∙ c.first-item.is)) c.loop-left.invariant in
    order_le _ (replacements pairs (rest)) (2 * length pairs) compared.1.2

pub replacement_edit-requires-clause-end : goal.replacement_edit-requires-clause-end
replacement_edit-requires-clause-end c =
    let pairs = c.args.scanned.now.pairs in
    let whole = changed_entries 0 (replaced_pieces (parts c.args.scanned.now) (replacements pairs c.args.all.now)) in
    let left = c.loop-left.left.now in
    let rest = take (length left - 1) (drop 1 left) in
    let compared = subst (λ (rs : List Replacement). IsCompared pairs c.args.scanned.now.last whole c.loop-left.edits.items (prev_view c.loop-left.prev) (boundary_index c.loop-left.at) rs)
    (split left c.unpack-one.result _ c.in-len1-up.len_at_least (c.unpack-one.ensures ∙ c.first-item.is)) c.loop-left.invariant in
    let next = order_next _ (replacements pairs (rest)) (2 * length pairs) compared.1.2 in
    let said = c.next_boundary.ensures in
    omega (arith, said, next.1)

pub loop-left-preserved : goal.loop-left-preserved
loop-left-preserved c =
    let pairs = c.args.scanned.now.pairs in
    let last = c.args.scanned.now.last in
    let left = c.loop-left.left.now in
    let one = c.unpack-one.result in
    let rest = take (length left - 1) (drop 1 left) in
    let whole = changed_entries 0 (replaced_pieces (parts c.args.scanned.now) (replacements pairs c.args.all.now)) in
    let compared = subst (λ (rs : List Replacement). IsCompared pairs last whole c.loop-left.edits.items (prev_view c.loop-left.prev) (boundary_index c.loop-left.at) rs)
    (split left c.unpack-one.result _ c.in-len1-up.len_at_least (c.unpack-one.ensures ∙ c.first-item.is)) c.loop-left.invariant in
    let pushed : c.push.new.self.items ≡ c.loop-left.edits.items ++ c.in_ok-replacement_edit.field-0 ∷ [] =
    c.in_ok-push.ensures.items in
    let e_is : c.in_ok-replacement_edit.field-0 ≡ _ = rw (c.in_ok-replacement_edit.ensures.at, c.in_ok-replacement_edit.ensures.removed, c.in_ok-replacement_edit.ensures.added, c.next_boundary.ensures) refl in
    let next = loop_step pairs last whole c.loop-left.edits.items c.in_ok-replacement_edit.field-0 (prev_view c.loop-left.prev) (prev_view c.prev_before-prev.result) (boundary_index c.loop-left.at)
    one (rest) compared c.prev_before-prev.ensures e_is in
    let P : List EditEntry → Prev → Type 0 = λ es prev. IsCompared pairs last whole es prev (boundary_index one.to) (rest) in
    subst (λ es. P es (prev_view c.prev_after_insertion-prev.result)) (sym pushed) (subst (λ prev. P (c.loop-left.edits.items ++ c.in_ok-replacement_edit.field-0 ∷ []) prev) (sym (c.prev_after_insertion-prev.ensures pairs one.first ∙ sym (insertion_after pairs (prev_view c.prev_before-prev.result) one.from one.to one.first one.insertion))) next)
