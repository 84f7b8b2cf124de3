-- Where the walk over a text stops, and what is refused there.
use Rattle.std.proofs.Common.{◌≡◌, ℕ, suc, ◌+◌, ◌-◌, ◌<◌, List, [], ◌∷◌, ◌++◌, length, take, drop, Bool, true, false, cond, eqb, Result, Ok, Err, refl, arith, ap, ◌∙◌, add-one}
use Rattle.std.proofs.lemmas.Bool.{eqb-true, eqb-false}
use Rattle.std.proofs.lemmas.List.{drop_at, length-take-le}
use Rattle.edit_record.specs.declared.lists.change.Refused.{Refused}
use Rattle.edit_record.specs.declared.lists.change.Refused.TheVariants.{Length, Differs}
use Rattle.edit_record.specs.declared.lists.direction.Direction.{Direction}
use Rattle.edit_record.specs.declared.lists.direction.Direction.TheVariants.{Forward, Backward}
use Rattle.edit_record.specs.Lists.Pieces.{EditEntry, EditList, old_text, new_text, changed_entries, removed_len, added_len}
use Rattle.edit_record.specs.Lists.ChangeResults.{IsChangeResult, HasExpectedLen, expected_len, AppliesTo, IsFirstMismatch}
use Rattle.edit_record.specs.Lists.Apply.{read_bytes, written_bytes, prepend, matches_at, walk, apply_edits}
use Rattle.edit_record.specs.Lists.Inner.Walks.{Walks, SameRest}
use Rattle.edit_record.specs.Lists.Inner.WalkExact.{matches_at_true, matches_at_again, prepend_err, walks_from_pieces, pieces_from_walks, flip}
use Rattle.edit_record.specs.Lists.Inner.Exact.{forward_exact, backward_exact}

-- the edits before this one go on to some text, and with it they go on to none
pub record Stops (direction : Direction) (i from : ℕ) (es : List EditEntry) (t : List ℕ) (f : Refused) : Type 0 where
  pub edit : ℕ
  pub in_range : edit < length es
  pub named : f ≡ Differs 0 (i + edit)
  pub u : List ℕ
  pub before : Walks direction from (take edit es) SameRest t u
  pub with_it : (v : List ℕ) → Walks direction from (take (suc edit) es) SameRest t v → ⊥

refuses_here : (direction : Direction) (i from : ℕ) (e : EditEntry) (es : List EditEntry) (t : List ℕ) (f : Refused) → matches_at from e.at (read_bytes direction e) t ≡ false → f ≡ Differs 0 i → Stops direction i from (e ∷ es) t f
refuses_here direction i from e es t f s n = record {
  edit = 0;
  in_range = omega arith;
  named = n ∙ ap (λ k. Differs 0 k) (omega arith);
  u = t;
  before = refl;
  with_it = λ v g.
      let again = matches_at_again from e.at g.kept (read_bytes direction e) g.t_rest g.gap in
      let is : matches_at from e.at (read_bytes direction e) t ≡ true = ap (λ (x : List ℕ). matches_at from e.at (read_bytes direction e) x) g.t_is ∙ again in
      absurd cc;
}

rest_is : (kept bytes rest t : List ℕ) (n : ℕ) → length kept ≡ n → t ≡ kept ++ (bytes ++ rest) → drop (length bytes) (drop n t) ≡ rest
rest_is kept bytes rest t n l e = rw (e, drop_at kept (bytes ++ rest) n l, drop_at bytes rest (length bytes) refl) refl

walks_along : (direction : Direction) (from : ℕ) (es : List EditEntry) (x y u : List ℕ) → x ≡ y → Walks direction from es SameRest y u → Walks direction from es SameRest x u
walks_along direction from es x y u e g = rw e g

pub refuses_walk : (direction : Direction) (i from : ℕ) (es : List EditEntry) (t : List ℕ) (f : Refused) → walk direction i from es t ≡ Err f → Stops direction i from es t f
refuses_walk direction i from [] t f e = absurd cc
refuses_walk direction i from (d ∷ es) t f e =
    elim (matches_at from d.at (read_bytes direction d) t) as (λ b. matches_at from d.at (read_bytes direction d) t ≡ b → cond b (prepend (take (d.at - from) t ++ written_bytes direction d) (walk direction (i + 1) (d.at + length d.removed) es (drop (length (read_bytes direction d)) (drop (d.at - from) t)))) (Err (Differs 0 i)) ≡ Err f → Stops direction i from (d ∷ es) t f) [
      | true ↦ λ s w.
          let rest = drop (length (read_bytes direction d)) (drop (d.at - from) t) in
          let r = refuses_walk direction (i + 1) (d.at + length d.removed) es rest f (prepend_err (take (d.at - from) t ++ written_bytes direction d) f (walk direction (i + 1) (d.at + length d.removed) es rest) w) in
          let h = matches_at_true from d.at (read_bytes direction d) t s in
          let later = h.later in
          let there = r.in_range in
          let gap : from + length (take (d.at - from) t) ≡ d.at = rw (length-take-le (d.at - from) t h.in_bounds) (omega arith) in
          record {
            edit = suc r.edit;
            in_range = omega arith;
            named = r.named ∙ ap (λ k. Differs 0 k) (omega arith);
            u = take (d.at - from) t ++ (written_bytes direction d ++ r.u);
            before = record { kept = take (d.at - from) t; t_rest = rest; u_rest = r.u; gap = gap; t_is = h.is; u_is = refl; rest = r.before };
            with_it = λ v g.
                let g_gap = g.gap in
                let n : length g.kept ≡ d.at - from = omega arith in
                r.with_it g.u_rest (walks_along direction (d.at + length d.removed) (take (suc r.edit) es) rest g.t_rest g.u_rest (rest_is g.kept (read_bytes direction d) g.t_rest t (d.at - from) n g.t_is) g.rest);
          }
      | false ↦ λ s w. refuses_here direction i from d es t f s cc
    ] refl e

-- ---- refusals

pub applies_from_walks : (direction : Direction) (es : List EditEntry) (t u : List ℕ) → Walks direction 0 es SameRest t u → AppliesTo direction es t
applies_from_walks Forward es t u g = let p = pieces_from_walks 0 es t u g in record { pieces = p.pieces; side_is = p.old_is; edits_are = p.edits_are }
applies_from_walks Backward es t u g = let p = pieces_from_walks 0 es u t (flip Backward 0 es t u g) in record { pieces = p.pieces; side_is = p.new_is; edits_are = p.edits_are }

pub walks_from_applies : (direction : Direction) (es : List EditEntry) (t : List ℕ) → AppliesTo direction es t → (u : List ℕ) × Walks direction 0 es SameRest t u
walks_from_applies Forward es t h = (new_text h.pieces, rw (← h.edits_are, ← h.side_is) (walks_from_pieces 0 h.pieces))
walks_from_applies Backward es t h = (old_text h.pieces, rw (← h.edits_are, ← h.side_is) (flip Forward 0 (changed_entries 0 h.pieces) (old_text h.pieces) (new_text h.pieces) (walks_from_pieces 0 h.pieces)))

lowest : (direction : Direction) (es : List EditEntry) (t : List ℕ) (f : Refused) (s : Stops direction 0 0 es t f) → IsFirstMismatch direction es t s.edit
lowest direction es t f s = record {
  in_range = s.in_range;
  before = applies_from_walks direction (take s.edit es) t s.u s.before;
  with_it = λ h. let g = walks_from_applies direction (take (s.edit + 1) es) t h in s.with_it g.0 (rw (← add-one s.edit) g.1);
}

at_lowest : (direction : Direction) (es : List EditEntry) (t : List ℕ) (f : Refused) → walk direction 0 0 es t ≡ Err f → (k : ℕ) × (f ≡ Differs 0 k) × IsFirstMismatch direction es t k
at_lowest direction es t f e = let s = refuses_walk direction 0 0 es t f e in (s.edit, s.named ∙ ap (λ k. Differs 0 k) (omega arith), lowest direction es t f s)

walked : (direction : Direction) (e : EditList) (t : List ℕ) (r : Result (List ℕ) Refused) → HasExpectedLen direction e t → ((u : List ℕ) → walk direction 0 0 e.entries t ≡ Ok u → IsChangeResult direction e t (Ok u)) → walk direction 0 0 e.entries t ≡ r → IsChangeResult direction e t r
walked direction e t (Ok u) len ok w = ok u w
walked Forward e t (Err f) len ok w = let k = at_lowest Forward e.entries t f w in rw k.1 (refl, len, k.2)
walked Backward e t (Err f) len ok w = let k = at_lowest Backward e.entries t f w in rw k.1 (refl, len, k.2)

answers_by : (direction : Direction) (e : EditList) (t : List ℕ) (b : Bool) → ((b ≡ true) → HasExpectedLen direction e t) → ((b ≡ false) → HasExpectedLen direction e t → ⊥) → ((u : List ℕ) → cond b (walk direction 0 0 e.entries t) (Err (Length (expected_len direction e) (length t))) ≡ Ok u → IsChangeResult direction e t (Ok u)) → IsChangeResult direction e t (cond b (walk direction 0 0 e.entries t) (Err (Length (expected_len direction e) (length t))))
answers_by direction e t true yes_len no_len ok = walked direction e t (walk direction 0 0 e.entries t) (yes_len refl) ok refl
answers_by Forward e t false yes_len no_len ok = (refl, refl, no_len refl)
answers_by Backward e t false yes_len no_len ok = (refl, refl, no_len refl)

-- the answer as a function is the one that pieces give
pub answers : (direction : Direction) (e : EditList) (t : List ℕ) → IsChangeResult direction e t (apply_edits direction e t)
answers Forward e t = answers_by Forward e t (eqb (length t) e.old_len) (λ b. eqb-true (length t) e.old_len b) (λ b. eqb-false (length t) e.old_len b) (λ u. (forward_exact e t u).0)
answers Backward e u = answers_by Backward e u (eqb (length u + removed_len e.entries) (e.old_len + added_len e.entries)) (λ b. eqb-true (length u + removed_len e.entries) (e.old_len + added_len e.entries) b) (λ b. eqb-false (length u + removed_len e.entries) (e.old_len + added_len e.entries) b) (λ t. (backward_exact e t u).0)
