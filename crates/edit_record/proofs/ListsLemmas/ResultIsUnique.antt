-- Edits have one result for a text.
use Rattle.std.proofs.Common.{◌≡◌, ℕ, zero, suc, ◌+◌, ◌<◌, List, [], ◌∷◌, ◌++◌, length, take, Result, Ok, Err, refl, subst, arith, inl, inr}
use Rattle.std.proofs.lemmas.Bool.{cases_lt}
use Rattle.std.proofs.lemmas.List.{take-take}
use Rattle.edit_record.specs.declared.lists.change.Refused.{Refused}
use Rattle.edit_record.specs.declared.lists.change.Refused.TheVariants.{Length, Differs, Memory}
use Rattle.edit_record.specs.declared.lists.direction.Direction.{Direction}
use Rattle.edit_record.specs.declared.lists.direction.Direction.TheVariants.{Forward, Backward}
use Rattle.edit_record.specs.Lists.Pieces.{EditEntry, EditList}
use Rattle.edit_record.specs.Lists.ChangeResults.{IsChangeResult, ChangeResultIsUnique, HasExpectedLen, expected_len, AppliesTo, IsFirstMismatch}
use Rattle.edit_record.specs.Lists.Apply.{written_bytes, apply_edits}
use Rattle.edit_record.specs.Lists.Inner.Walks.{Walks, SameRest}
use Rattle.edit_record.specs.Lists.Inner.Exact.{forward_exact, backward_exact}
use Rattle.edit_record.proofs.ListsLemmas.FirstMismatch.{applies_from_walks, walks_from_applies}
use Rattle.edit_record.proofs.ListsLemmas.JournalResults.{worked}

-- ---- fewer edits apply

first_walk : (direction : Direction) (from k : ℕ) (es : List EditEntry) (t u : List ℕ) → Walks direction from es SameRest t u → (v : List ℕ) × Walks direction from (take k es) SameRest t v
first_walk direction from zero es t u g = (t, refl)
first_walk direction from (suc k) [] t u g = (u, g)
first_walk direction from (suc k) (e ∷ es) t u g =
    let r = first_walk direction (e.at + length e.removed) k es g.t_rest g.u_rest g.rest in
    (g.kept ++ (written_bytes direction e ++ r.0), record { kept = g.kept; t_rest = g.t_rest; u_rest = r.0; gap = g.gap; t_is = g.t_is; u_is = refl; rest = r.1 })

fewer_apply : (direction : Direction) (es : List EditEntry) (t : List ℕ) (k : ℕ) → AppliesTo direction es t → AppliesTo direction (take k es) t
fewer_apply direction es t k h =
    let g = walks_from_applies direction es t h in
    let f = first_walk direction 0 k es t g.0 g.1 in
    applies_from_walks direction (take k es) t f.0 f.1

-- the mismatch of a lower number would be one of the edits that apply
no_lower : (direction : Direction) (es : List EditEntry) (t : List ℕ) (i j : ℕ) → IsFirstMismatch direction es t i → IsFirstMismatch direction es t j → i < j → ⊥
no_lower direction es t i j p q lt =
    p.with_it (subst (λ (x : List EditEntry). AppliesTo direction x t) (take-take (i + 1) j es (omega (arith, lt))) (fewer_apply direction (take j es) t (i + 1) q.before))

mismatch_unique : (direction : Direction) (es : List EditEntry) (t : List ℕ) (i j : ℕ) → IsFirstMismatch direction es t i → IsFirstMismatch direction es t j → i ≡ j
mismatch_unique direction es t i j p q = elim (cases_lt i j) [
  | inl lt ↦ absurd (no_lower direction es t i j p q lt)
  | inr ge ↦ elim (cases_lt j i) [ inl lt ↦ absurd (no_lower direction es t j i q p lt) | inr le ↦ omega (arith, ge, le) ]
]

-- ---- what each result says, in one form for both directions

abbrev Facts : Direction → EditList → List ℕ → Result (List ℕ) Refused → Type 0
Facts direction e t (Ok u) = HasExpectedLen direction e t × AppliesTo direction e.entries t × (apply_edits direction e t ≡ Ok u)
Facts direction e t (Err (Length expected found)) = (expected ≡ expected_len direction e) × (found ≡ length t) × ¬ (HasExpectedLen direction e t)
Facts direction e t (Err (Differs step edit)) = (step ≡ 0) × HasExpectedLen direction e t × IsFirstMismatch direction e.entries t edit
Facts direction e t (Err Memory) = ⊥

facts : (direction : Direction) (e : EditList) (t : List ℕ) (r : Result (List ℕ) Refused) → IsChangeResult direction e t r → Facts direction e t r
facts Forward e t (Ok u) h =
    let is = (forward_exact e t u).1 h in
    (worked Forward e t u is, record { pieces = h.pieces; side_is = h.old_is; edits_are = h.edits_are }, is)
facts Backward e t (Ok u) h =
    let is = (backward_exact e u t).1 h in
    (worked Backward e t u is, record { pieces = h.pieces; side_is = h.new_is; edits_are = h.edits_are }, is)
facts Forward e t (Err (Length a b)) h = h
facts Backward e t (Err (Length a b)) h = h
facts Forward e t (Err (Differs a b)) h = h
facts Backward e t (Err (Differs a b)) h = h
facts Forward e t (Err Memory) h = h
facts Backward e t (Err Memory) h = h

-- edits that apply have no mismatch
applies_or_not : (direction : Direction) (es : List EditEntry) (t : List ℕ) (edit : ℕ) → AppliesTo direction es t → IsFirstMismatch direction es t edit → ⊥
applies_or_not direction es t edit h m = m.with_it (fewer_apply direction es t (edit + 1) h)

one : (direction : Direction) (e : EditList) (t : List ℕ) (r s : Result (List ℕ) Refused) → Facts direction e t r → Facts direction e t s → r ≡ s
one direction e t (Ok u) (Ok v) p q = let a = p.2 in let b = q.2 in cc
one direction e t (Ok u) (Err (Length a b)) p q = absurd (q.2 p.0)
one direction e t (Ok u) (Err (Differs a b)) p q = absurd (applies_or_not direction e.entries t b p.1 q.2)
one direction e t (Ok u) (Err Memory) p q = absurd q
one direction e t (Err (Length a b)) (Ok v) p q = absurd (p.2 q.0)
one direction e t (Err (Length a b)) (Err (Length c d)) p q = let h = p.0 in let i = p.1 in let j = q.0 in let k = q.1 in cc
one direction e t (Err (Length a b)) (Err (Differs c d)) p q = absurd (p.2 q.1)
one direction e t (Err (Length a b)) (Err Memory) p q = absurd q
one direction e t (Err (Differs a b)) (Ok v) p q = absurd (applies_or_not direction e.entries t b q.1 p.2)
one direction e t (Err (Differs a b)) (Err (Length c d)) p q = absurd (q.2 p.1)
one direction e t (Err (Differs a b)) (Err (Differs c d)) p q = let h = mismatch_unique direction e.entries t b d p.2 q.2 in let i = p.0 in let j = q.0 in cc
one direction e t (Err (Differs a b)) (Err Memory) p q = absurd q
one direction e t (Err Memory) s p q = absurd p

pub result_unique : ChangeResultIsUnique
result_unique direction e t r s p q = one direction e t r s (facts direction e t r p) (facts direction e t s q)
