-- Texts that edits transform, and that two lists transform one after the other.
use Rattle.std.proofs.Common.{◌≡◌, ℕ, ◌+◌, ◌-◌, ◌≤◌, List, [], ◌∷◌, ◌++◌, length, replicate, refl, arith}
use Rattle.std.proofs.lemmas.List.{length-replicate}
use Rattle.edit_record.specs.declared.lists.direction.Direction.TheVariants.{Forward}
use Rattle.edit_record.specs.Lists.Pieces.{EditEntry, Transforms, as_list, removed_len, added_len}
use Rattle.edit_record.specs.Lists.Validity.{AreDisjoint}
use Rattle.edit_record.specs.Lists.Inner.Walks.{Walks}
use Rattle.edit_record.specs.Lists.Inner.WalkExact.{lengths}
use Rattle.edit_record.specs.Lists.Inner.Exact.{walks_from_transforms, transforms_from_walks}
use Rattle.edit_record.proofs.ListsLemmas.Parts.{Ends, ends_from_same, same_from_ends}
use Rattle.edit_record.proofs.ListsLemmas.Pairs.{Both}

-- ---- there is such a text

pub record SomeWalk (from : ℕ) (es : List EditEntry) (K : ℕ → List ℕ → List ℕ → Type 0) : Type 0 where
  pub t : List ℕ
  pub u : List ℕ
  pub walks_to : Walks Forward from es K t u

-- K holds of some texts at each place up to n
pub some_walks : (n from : ℕ) (es : List EditEntry) (K : ℕ → List ℕ → List ℕ → Type 0) → AreDisjoint n from es → ((p : ℕ) → p ≤ n → (t : List ℕ) × (u : List ℕ) × K p t u) → SomeWalk from es K
some_walks n from [] K p k = let w = k from p in record { t = w.0; u = w.1; walks_to = w.2 }
some_walks n from (e ∷ es) K p k =
    let w = some_walks n (e.at + length e.removed) es K p.1 k in
    let later = p.0.later in
    let kept = replicate (e.at - from) 0 in
    let l : length kept ≡ e.at - from = length-replicate (e.at - from) 0 in
    record {
      t = kept ++ (e.removed ++ w.t);
      u = kept ++ (e.added ++ w.u);
      walks_to = record { kept = kept; t_rest = w.t; u_rest = w.u; gap = omega arith; t_is = refl; u_is = refl; rest = w.walks_to };
    }

pub some_text : (n from : ℕ) (es : List EditEntry) → AreDisjoint n from es → SomeWalk from es (Ends n)
some_text n from es p = some_walks n from es (Ends n) p (λ q l. let z = replicate (n - q) 0 in let k : length z ≡ n - q = length-replicate (n - q) 0 in (z, z, (refl, omega arith)))

pub walk_lengths : (n from : ℕ) (es : List EditEntry) (t u : List ℕ) → Walks Forward from es (Ends n) t u → (length u + removed_len es ≡ length t + added_len es) × (from + length t ≡ n)
walk_lengths n from es t u g = let s = same_from_ends n from es t u g in (lengths from es t u s.0, s.1)

-- ---- both lists, by the relation and by pieces

module _ (la lb : ℕ) where
  pub both_from_turns : (a b : List EditEntry) (t u v : List ℕ) → Transforms (as_list la a) t u → Transforms (as_list lb b) u v → Both la lb [] 0 a [] 0 b t v
  both_from_turns a b t u v p q =
      let tl = p.len in let ul = q.len in
      record {
        mid_first = u;
        mid_second = u;
        same = refl;
        first = ends_from_same la 0 a t u (omega arith) (walks_from_transforms (as_list la a) t u p);
        second = ends_from_same lb 0 b u v (omega arith) (walks_from_transforms (as_list lb b) u v q);
      }

  pub turns_from_both : (a b : List EditEntry) (t v : List ℕ) → Both la lb [] 0 a [] 0 b t v → (u : List ℕ) × Transforms (as_list la a) t u × Transforms (as_list lb b) u v
  turns_from_both a b t v h =
      let f = same_from_ends la 0 a t h.mid_first h.first in
      let g = same_from_ends lb 0 b h.mid_second v h.second in
      let tl = f.1 in let ul = g.1 in
      (h.mid_second, transforms_from_walks (as_list la a) t h.mid_second (omega arith) (rw (← h.same) f.0), transforms_from_walks (as_list lb b) h.mid_second v (omega arith) g.0)
