-- What applying and undoing edits answers is what the pieces say.
use Rattle.std.proofs.Common.{◌≡◌, ◌≢◌, ◌↔◌, ℕ, ◌+◌, List, length, Bool, true, false, cond, eqb, eq-eqb}
use Rattle.std.proofs.Common.{Result, Ok, Err, refl, arith}
use Rattle.std.proofs.lemmas.Bool.{eqb-true}
use Rattle.edit_record.specs.declared.lists.change.Refused.{Refused}
use Rattle.edit_record.specs.declared.lists.change.Refused.TheVariants.{Length, Memory}
use Rattle.edit_record.specs.declared.lists.direction.Direction.{Direction}
use Rattle.edit_record.specs.declared.lists.direction.Direction.TheVariants.{Forward, Backward}
use Rattle.edit_record.specs.Lists.Pieces.{EditList, Transforms, removed_len, added_len}
use Rattle.edit_record.specs.Lists.Validity.{new_len}
use Rattle.edit_record.specs.Lists.Apply.{apply_edits, walk}
use Rattle.edit_record.specs.Lists.Inner.Walks.{Walks, SameRest}
use Rattle.edit_record.specs.Lists.Inner.WalkExact.{walks_from_pieces, pieces_from_walks, flip, lengths}
use Rattle.edit_record.specs.Lists.Inner.WalkExact.{walks_from_walk, walk_from_walks, walk_never_memory}

tested : (b : Bool) (r : Result (List ℕ) Refused) (f : Refused) (u : List ℕ)
    → cond b r (Err f) ≡ Ok u → (b ≡ true) × (r ≡ Ok u)
tested true r f u e = (refl, e)
tested false r f u e = absurd cc

-- what turns, by the relation
pub walks_from_transforms : (e : EditList) (t u : List ℕ) → Transforms e t u
    → Walks Forward 0 e.entries SameRest t u
walks_from_transforms e t u h =
    rw (← h.edits_are, ← h.old_is, ← h.new_is) (walks_from_pieces 0 h.pieces)

pub transforms_from_walks : (e : EditList) (t u : List ℕ) → length t ≡ e.old_len
    → Walks Forward 0 e.entries SameRest t u → Transforms e t u
transforms_from_walks e t u len g = let p = pieces_from_walks 0 e.entries t u g in
    record {
      len = len;
      pieces = p.pieces;
      old_is = p.old_is;
      new_is = p.new_is;
      edits_are = p.edits_are;
    }

pub forward_exact : (e : EditList) (t u : List ℕ) → (apply_edits Forward e t ≡ Ok u)
    ↔ Transforms e t u
forward_exact e t u = (
  λ h. let p = tested (eqb (length t) e.old_len) _ _ u h in
      transforms_from_walks e t u (eqb-true _ _ p.0) (walks_from_walk Forward 0 0 e.entries t u p.1),
  λ h. rw (eq-eqb (length t) e.old_len h.len)
      (walk_from_walks Forward 0 0 e.entries t u (walks_from_transforms e t u h)),
)

pub backward_exact : (e : EditList) (t u : List ℕ) → (apply_edits Backward e u ≡ Ok t)
    ↔ Transforms e t u
backward_exact e t u = (
  λ h.
      let p = tested (eqb (length u + removed_len e.entries)
      (e.old_len + added_len e.entries)) _ _ t h in
      let g = flip Backward 0 e.entries u t (walks_from_walk Backward 0 0 e.entries u t p.1) in
      let n = eqb-true _ _ p.0 in
      let l = lengths 0 e.entries t u g in
      transforms_from_walks e t u (omega arith) g,
  λ h.
      let g = walks_from_transforms e t u h in
      let l = lengths 0 e.entries t u g in
      let len = h.len in
      let n : length u + removed_len e.entries ≡ e.old_len + added_len e.entries = omega arith in
      rw (eq-eqb (length u + removed_len e.entries) (e.old_len + added_len e.entries) n)
      (walk_from_walks Backward 0 0 e.entries u t (flip Forward 0 e.entries t u g)),
)

never_tested : (b : Bool) (r : Result (List ℕ) Refused) (expected found : ℕ) → r ≢ Err Memory
    → cond b r (Err (Length expected found)) ≢ Err Memory
never_tested true r expected found never = never
never_tested false r expected found never = λ e. cc

pub answer_never_memory : (direction : Direction) (e : EditList) (t : List ℕ)
    → apply_edits direction e t ≢ Err Memory
answer_never_memory Forward e t =
    never_tested (eqb (length t) e.old_len) (walk Forward 0 0 e.entries t) e.old_len (length t)
    (walk_never_memory Forward 0 0 e.entries t)
answer_never_memory Backward e u =
    never_tested (eqb (length u + removed_len e.entries) (e.old_len + added_len e.entries))
    (walk Backward 0 0 e.entries u) (new_len e) (length u)
    (walk_never_memory Backward 0 0 e.entries u)
