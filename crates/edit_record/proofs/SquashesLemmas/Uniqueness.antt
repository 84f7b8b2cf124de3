-- Two lists of edits squash to one list at most.
use Rattle.std.proofs.Common.{◌≡◌, ℕ, ◌+◌, List, [], ◌∷◌, ◌++◌, length, map, refl, arith, sym, ap, ◌∙◌}
use Rattle.edit_record.specs.declared.lists.direction.Direction.TheVariants.{Forward}
use Rattle.edit_record.specs.Lists.Pieces.{EditEntry, EditList}
use Rattle.edit_record.specs.Lists.Inner.Walks.{Walks, SameRest}
use Rattle.edit_record.specs.Lists.Inner.Exact.{walks_from_transforms}
use Rattle.edit_record.proofs.ListsLemmas.Parts.{equal_prefixes}
use Rattle.edit_record.specs.Squashes.Groups.{Extent, extent_of}
use Rattle.edit_record.specs.Squashes.Squash.{IsSquash}

-- ---- places and lengths determine the bytes

walks_at : (n n' : ℕ) (es : List EditEntry) (t t' u u' : List ℕ) → n ≡ n' → t ≡ t' → u ≡ u' → Walks Forward n' es SameRest t' u' → Walks Forward n es SameRest t u
walks_at n n' es t t' u u' p q r g = rw (p, q, r) g

entry_same : (e e' : EditEntry) → e.at ≡ e'.at → e.removed ≡ e'.removed → e.added ≡ e'.added → e ≡ e'
entry_same e e' p q r = ap (λ k. record { at = k; removed = e.removed; added = e.added }) p ∙ ap (λ k. record { at = e'.at; removed = k; added = e.added }) q ∙ ap (λ k. record { at = e'.at; removed = e'.removed; added = k }) r

same_bytes : (es es' : List EditEntry) (from : ℕ) (t v : List ℕ) → map extent_of es ≡ map extent_of es' → Walks Forward from es SameRest t v → Walks Forward from es' SameRest t v → es ≡ es'
same_bytes [] [] from t v x g k = refl
same_bytes [] (e' ∷ es') from t v x g k = absurd cc
same_bytes (e ∷ es) [] from t v x g k = absurd cc
same_bytes (e ∷ es) (e' ∷ es') from t v x g k =
    let first : extent_of e ≡ extent_of e' = cc in
    let others : map extent_of es ≡ map extent_of es' = cc in
    let at = ap (λ (y : Extent). y.at) first in
    let rl = ap (λ (y : Extent). y.removed) first in
    let al = ap (λ (y : Extent). y.added) first in
    let g_gap = g.gap in let k_gap = k.gap in
    let old = equal_prefixes g.kept k.kept (e.removed ++ g.t_rest) (e'.removed ++ k.t_rest) (omega arith) (sym g.t_is ∙ k.t_is) in
    let new = equal_prefixes g.kept k.kept (e.added ++ g.u_rest) (e'.added ++ k.u_rest) (omega arith) (sym g.u_is ∙ k.u_is) in
    let removed = equal_prefixes e.removed e'.removed g.t_rest k.t_rest rl old.1 in
    let added = equal_prefixes e.added e'.added g.u_rest k.u_rest al new.1 in
    let same = entry_same e e' at removed.0 added.0 in
    let rest = walks_at (e.at + length e.removed) (e'.at + length e'.removed) es' g.t_rest k.t_rest g.u_rest k.u_rest (ap (λ (y : Extent). y.at + y.removed) first) removed.1 added.1 k.rest in
    ap (λ y. y ∷ es) same ∙ ap (λ y. e' ∷ y) (same_bytes es es' (e.at + length e.removed) g.t_rest g.u_rest others g.rest rest)

list_same : (c c' : EditList) → c.old_len ≡ c'.old_len → c.entries ≡ c'.entries → c ≡ c'
list_same c c' p q = ap (λ k. record { old_len = k; entries = c.entries }) p ∙ ap (λ k. record { old_len = c'.old_len; entries = k }) q

pub determined : (a b c d : EditList) → IsSquash a b c → IsSquash a b d → c ≡ d
determined a b c d h k =
    let w = h.composable in
    let t = w.0 in let v = w.2 in
    let turns = (h.equivalent t v).1 (w.1, w.3, w.4) in
    let turns' = (k.equivalent t v).1 (w.1, w.3, w.4) in
    list_same c d (h.old_len_is ∙ sym k.old_len_is) (same_bytes c.entries d.entries 0 t v (h.shape ∙ sym k.shape) (walks_from_transforms c t v turns) (walks_from_transforms d t v turns'))
