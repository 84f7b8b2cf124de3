-- Parts of lists, and what edits do to the start of a text that they keep.
use Rattle.std.proofs.Common.{◌≡◌, ℕ, ◌+◌, ◌≤◌, ◌<◌, List, [], ◌∷◌, ◌++◌, length, take, drop, refl, arith, sym, ap, ◌∙◌, append_assoc, length-append, subst}
use Rattle.std.proofs.lemmas.List.{take-append-drop, length-take-le, nil_from_length, append-nil}
use Rattle.edit_record.specs.declared.lists.direction.Direction.TheVariants.{Forward}
use Rattle.edit_record.specs.Lists.Pieces.{EditEntry}
use Rattle.edit_record.specs.Lists.Validity.{AreDisjoint}
use Rattle.edit_record.specs.Lists.Inner.Walks.{Walks, SameRest}

-- x is a prefix of k
pub record SplitLists {X : Type 0} (x k t s : List X) : Type 0 where
  pub more : List X
  pub whole : k ≡ x ++ more
  pub rest : t ≡ more ++ s

pub split_lists : {X : Type 0} (x k t s : List X) → length x ≤ length k → x ++ t ≡ k ++ s → SplitLists x k t s
split_lists [] k t s l e = record { more = k; whole = refl; rest = e }
split_lists (a ∷ x) [] t s l e = absurd (omega arith)
split_lists {X} (a ∷ x) (b ∷ k) t s l e =
    let tail : x ++ t ≡ k ++ s = cc in
    let head : b ≡ a = cc in
    let c = split_lists x k t s (omega arith) tail in
    record { more = c.more; whole = ap (λ (y : List X). b ∷ y) c.whole ∙ ap (λ (y : X). y ∷ (x ++ c.more)) head; rest = c.rest }

pub equal_prefixes : {X : Type 0} (a b c d : List X) → length a ≡ length b → a ++ c ≡ b ++ d → (a ≡ b) × (c ≡ d)
equal_prefixes {X} a b c d l e =
    let p = split_lists a b c d (omega arith) e in
    let n : length b ≡ length a + length p.more = ap length p.whole ∙ length-append a p.more in
    let none = nil_from_length p.more (omega arith) in
    let same : b ≡ a = p.whole ∙ ap (λ (y : List X). a ++ y) none ∙ append-nil a in
    (sym same, p.rest ∙ ap (λ (y : List X). y ++ d) none)

-- after the edits the texts are one, and the old one ends at n
abbrev pub Ends : ℕ → ℕ → List ℕ → List ℕ → Type 0
Ends n from t u = (t ≡ u) × (from + length t ≡ n)

pub ends_from_same : (n from : ℕ) (es : List EditEntry) (t u : List ℕ) → from + length t ≡ n → Walks Forward from es SameRest t u → Walks Forward from es (Ends n) t u
ends_from_same n from [] t u l g = (g, l)
ends_from_same n from (e ∷ es) t u l g =
    let gap = g.gap in
    let len = ap length g.t_is in
    let m = length-append g.kept (e.removed ++ g.t_rest) in
    let k = length-append e.removed g.t_rest in
    record { kept = g.kept; t_rest = g.t_rest; u_rest = g.u_rest; gap = g.gap; t_is = g.t_is; u_is = g.u_is; rest = ends_from_same n (e.at + length e.removed) es g.t_rest g.u_rest (omega arith) g.rest }

pub same_from_ends : (n from : ℕ) (es : List EditEntry) (t u : List ℕ) → Walks Forward from es (Ends n) t u → Walks Forward from es SameRest t u × (from + length t ≡ n)
same_from_ends n from [] t u g = g
same_from_ends n from (e ∷ es) t u g =
    let h = same_from_ends n (e.at + length e.removed) es g.t_rest g.u_rest g.rest in
    let gap = g.gap in
    let len = ap length g.t_is in
    let m = length-append g.kept (e.removed ++ g.t_rest) in
    let k = length-append e.removed g.t_rest in
    let l = h.1 in
    (record { kept = g.kept; t_rest = g.t_rest; u_rest = g.u_rest; gap = g.gap; t_is = g.t_is; u_is = g.u_is; rest = h.0 }, omega arith)

-- bytes before the next edit stay
pub record Passed (n from : ℕ) (x : List ℕ) (es : List EditEntry) (t u : List ℕ) : Type 0 where
  pub u_rest : List ℕ
  pub u_is : u ≡ x ++ u_rest
  pub rest : Walks Forward (from + length x) es (Ends n) t u_rest

pub pass : (n from : ℕ) (x : List ℕ) (es : List EditEntry) (t u : List ℕ) → AreDisjoint n (from + length x) es → Walks Forward from es (Ends n) (x ++ t) u → Passed n from x es t u
pass n from x [] t u p g =
    let l = g.1 in let m = length-append x t in
    record { u_rest = t; u_is = sym g.0; rest = (refl, omega arith) }
pass n from x (e ∷ es) t u p g =
    let gap = g.gap in let later = p.0.later in
    let c = split_lists x g.kept t (e.removed ++ g.t_rest) (omega arith) g.t_is in
    let k : length g.kept ≡ length x + length c.more = ap length c.whole ∙ length-append x c.more in
    record {
      u_rest = c.more ++ (e.added ++ g.u_rest);
      u_is = g.u_is ∙ ap (λ (y : List ℕ). y ++ (e.added ++ g.u_rest)) c.whole ∙ append_assoc x c.more (e.added ++ g.u_rest);
      rest = record { kept = c.more; t_rest = g.t_rest; u_rest = g.u_rest; gap = omega arith; t_is = c.rest; u_is = refl; rest = g.rest };
    }

pub pass_back : (n from : ℕ) (x : List ℕ) (es : List EditEntry) (t u : List ℕ) → Walks Forward (from + length x) es (Ends n) t u → Walks Forward from es (Ends n) (x ++ t) (x ++ u)
pass_back n from x [] t u g = let l = g.1 in let m = length-append x t in (ap (λ (y : List ℕ). x ++ y) g.0, omega arith)
pass_back n from x (e ∷ es) t u g =
    let gap = g.gap in
    record {
      kept = x ++ g.kept;
      t_rest = g.t_rest;
      u_rest = g.u_rest;
      gap = rw length-append (omega arith);
      t_is = rw append_assoc (ap (λ (y : List ℕ). x ++ y) g.t_is);
      u_is = rw append_assoc (ap (λ (y : List ℕ). x ++ y) g.u_is);
      rest = g.rest;
    }

-- at least k bytes are there
pub long : (n from k : ℕ) (es : List EditEntry) (t u : List ℕ) → AreDisjoint n (from + k) es → Walks Forward from es (Ends n) t u → k ≤ length t
long n from k [] t u p g = let l = g.1 in omega (arith, p)
long n from k (e ∷ es) t u p g =
    let gap = g.gap in let later = p.0.later in
    let len = ap length g.t_is in
    let m = length-append g.kept (e.removed ++ g.t_rest) in
    omega arith

-- the same, where the new text is known
at_text_start : (n from : ℕ) (x w : List ℕ) (es : List EditEntry) (t u : List ℕ) → length w ≡ length x → AreDisjoint n (from + length x) es → Walks Forward from es (Ends n) (w ++ t) (x ++ u) → (x ≡ w) × Walks Forward (from + length x) es (Ends n) t u
at_text_start n from x w es t u wl p g =
    let q = pass n from w es t (x ++ u) (rw wl p) g in
    let f = equal_prefixes x w u q.u_rest (sym wl) q.u_is in
    let P : ℕ → Type 0 = λ k. Walks Forward (from + k) es (Ends n) t q.u_rest in
    (f.0, rw f.1 (subst P wl q.rest))

pub pass_new : (n from : ℕ) (x : List ℕ) (es : List EditEntry) (t u : List ℕ) → AreDisjoint n (from + length x) es → Walks Forward from es (Ends n) t (x ++ u) → (t_rest : List ℕ) × (t ≡ x ++ t_rest) × Walks Forward (from + length x) es (Ends n) t_rest u
pass_new n from x es t u p g =
    let l = long n from (length x) es t (x ++ u) p g in
    let split = take-append-drop (length x) t in
    let q = at_text_start n from x (take (length x) t) es (drop (length x) t) u (length-take-le (length x) t l) p (rw split g) in
    (drop (length x) t, sym split ∙ ap (λ (y : List ℕ). y ++ drop (length x) t) (sym q.0), q.1)

pub placed_earlier : (n from k : ℕ) (es : List EditEntry) → from ≤ k → AreDisjoint n k es → AreDisjoint n from es
placed_earlier n from k [] l p = omega (arith, p)
placed_earlier n from k (e ∷ es) l p = let q = p.0.later in (record { later = omega arith; within = p.0.within; some = p.0.some }, p.1)

pub placed_longer : (n m from : ℕ) (es : List EditEntry) → n ≤ m → AreDisjoint n from es → AreDisjoint m from es
placed_longer n m from [] l p = omega (arith, p)
placed_longer n m from (e ∷ es) l p = let q = p.0.within in (record { later = p.0.later; within = omega arith; some = p.0.some }, placed_longer n m (e.at + length e.removed) es l p.1)

pub placed_push : (n from : ℕ) (es : List EditEntry) (e : EditEntry) → AreDisjoint n from es → n ≤ e.at → 0 < length e.removed + length e.added → AreDisjoint (e.at + length e.removed) from (es ++ e ∷ [])
placed_push n from [] e p l s = (record { later = omega (arith, p); within = omega arith; some = s }, omega arith)
placed_push n from (d ∷ es) e p l s = let q = p.0.within in (record { later = p.0.later; within = omega arith; some = p.0.some }, placed_push n (d.at + length d.removed) es e p.1 l s)

-- the end of the last edit
abbrev pub end_of : ℕ → List EditEntry → ℕ
end_of from [] = from
end_of from (e ∷ es) = end_of (e.at + length e.removed) es

pub end_within : (n from : ℕ) (es : List EditEntry) → AreDisjoint n from es → end_of from es ≤ n
end_within n from [] p = p
end_within n from (e ∷ es) p = end_within n (e.at + length e.removed) es p.1
