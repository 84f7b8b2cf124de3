-- What the state means, over all texts, and that each step keeps it.
use Rattle.std.proofs.Common.{◌≡◌, ℕ, ◌+◌, ◌-◌, ◌≤◌, List, [], ◌∷◌, ◌++◌, length, take, drop, min, Bool, true, false, cond, refl, arith, sym, ap, ◌∙◌, subst, length-append, append_assoc, add-zero, ◌&&◌}
use Rattle.std.specs.Prelude.{◌==◌}
use Rattle.std.proofs.lemmas.Bool.{eqb-true, and_parts}
use Rattle.std.proofs.lemmas.List.{length-drop, length-take-le, append-nil, nil_from_length, take-append-drop}
use Rattle.edit_record.specs.declared.lists.direction.Direction.TheVariants.{Forward}
use Rattle.edit_record.specs.Lists.Pieces.{EditEntry}
use Rattle.edit_record.specs.Lists.Validity.{AreDisjoint}
use Rattle.edit_record.specs.Lists.Inner.Walks.{EditStep, Walks}
use Rattle.edit_record.specs.Squashes.Inner.Merge.{State, finish_edit, skip_kept, with_first, with_second, common_len, cancel_common}
use Rattle.edit_record.proofs.ListsLemmas.Parts.{Ends, end_of, end_within}
use Rattle.edit_record.proofs.ListsLemmas.Pairs.{Alike, alike_then, walks_alike, Both, Moved, Passes, passes_first, passes_second, passes_met, passes_first_left, passes_second_left, Skips, skips}

pub walks_push : (from : ℕ) (es : List EditEntry) (e : EditEntry) (K : ℕ → List ℕ → List ℕ → Type 0) → Alike (Walks Forward from (es ++ e ∷ []) K) (Walks Forward from es (λ p. EditStep Forward p e (K (e.at + length e.removed))))
walks_push from [] e K = record { go = λ t v h. h; back = λ t v h. h }
walks_push from (d ∷ es) e K =
    let a = walks_push (d.at + length d.removed) es e K in
    record {
      go = λ t v g. record { kept = g.kept; t_rest = g.t_rest; u_rest = g.u_rest; gap = g.gap; t_is = g.t_is; u_is = g.u_is; rest = a.go g.t_rest g.u_rest g.rest };
      back = λ t v g. record { kept = g.kept; t_rest = g.t_rest; u_rest = g.u_rest; gap = g.gap; t_is = g.t_is; u_is = g.u_is; rest = a.back g.t_rest g.u_rest g.rest };
    }

abbrev pub edit : ℕ → List ℕ → List ℕ → EditEntry
edit at removed added = record { at = at; removed = removed; added = added }

pub step_moved : (p at : ℕ) (r n x y : List ℕ) (K L : List ℕ → List ℕ → Type 0) → Passes x y K L → Alike (EditStep Forward p (edit at r n) K) (EditStep Forward p (edit at (r ++ x) (n ++ y)) L)
step_moved p at r n x y K L m = record {
  go = λ t v g.
      let h = m.go g.t_rest g.u_rest g.rest in
      record {
        kept = g.kept;
        t_rest = h.t_rest;
        u_rest = h.v_rest;
        gap = g.gap;
        t_is = g.t_is ∙ ap (λ (z : List ℕ). g.kept ++ (r ++ z)) h.t_is ∙ ap (λ (z : List ℕ). g.kept ++ z) (sym (append_assoc r x h.t_rest));
        u_is = g.u_is ∙ ap (λ (z : List ℕ). g.kept ++ (n ++ z)) h.v_is ∙ ap (λ (z : List ℕ). g.kept ++ z) (sym (append_assoc n y h.v_rest));
        rest = h.rest;
      };
  back = λ t v g. record {
    kept = g.kept;
    t_rest = x ++ g.t_rest;
    u_rest = y ++ g.u_rest;
    gap = g.gap;
    t_is = g.t_is ∙ ap (λ (z : List ℕ). g.kept ++ z) (append_assoc r x g.t_rest);
    u_is = g.u_is ∙ ap (λ (z : List ℕ). g.kept ++ z) (append_assoc n y g.u_rest);
    rest = m.back g.t_rest g.u_rest g.rest;
  };
}

pub step_skip : (la lb p at n : ℕ) (K L : List ℕ → List ℕ → Type 0) → p ≤ at → Skips la lb n K L → Alike (EditStep Forward p (edit at [] []) K) (EditStep Forward p (edit (at + n) [] []) L)
step_skip la lb p at n K L le s = record {
  go = λ t v g.
      let h = s.skip_moves g.t_rest g.u_rest g.rest in
      let gap = g.gap in let wl = h.1 in
      record {
        kept = g.kept ++ h.0;
        t_rest = h.2.t_rest;
        u_rest = h.2.v_rest;
        gap = rw length-append (omega arith);
        t_is = g.t_is ∙ ap (λ (z : List ℕ). g.kept ++ z) h.2.t_is ∙ sym (append_assoc g.kept h.0 h.2.t_rest);
        u_is = g.u_is ∙ ap (λ (z : List ℕ). g.kept ++ z) h.2.v_is ∙ sym (append_assoc g.kept h.0 h.2.v_rest);
        rest = h.2.rest;
      };
  back = λ t v g.
      let gap = g.gap in
      let k1 = take (at - p) g.kept in let k2 = drop (at - p) g.kept in
      let split = take-append-drop (at - p) g.kept in
      let l1 : length k1 ≡ at - p = length-take-le (at - p) g.kept (omega arith) in
      let l2 : length k2 ≡ length g.kept - (at - p) = length-drop (at - p) g.kept in
      record {
        kept = k1;
        t_rest = k2 ++ g.t_rest;
        u_rest = k2 ++ g.u_rest;
        gap = omega arith;
        t_is = g.t_is ∙ ap (λ (z : List ℕ). z ++ g.t_rest) (sym split) ∙ append_assoc k1 k2 g.t_rest;
        u_is = g.u_is ∙ ap (λ (z : List ℕ). z ++ g.u_rest) (sym split) ∙ append_assoc k1 k2 g.u_rest;
        rest = s.skip_back k2 g.t_rest g.u_rest (omega arith) g.rest;
      };
}

-- an edit, and then an empty one right after it
pub step_finish : (p at end : ℕ) (r n : List ℕ) (K : List ℕ → List ℕ → Type 0) → at + length r ≡ end → Alike (EditStep Forward p (edit at r n) K) (EditStep Forward p (edit at r n) (EditStep Forward (at + length r) (edit end [] []) K))
step_finish p at end r n K e = record {
  go = λ t v g. record {
    kept = g.kept;
    t_rest = g.t_rest;
    u_rest = g.u_rest;
    gap = g.gap;
    t_is = g.t_is;
    u_is = g.u_is;
    rest = record { kept = []; t_rest = g.t_rest; u_rest = g.u_rest; gap = omega arith; t_is = refl; u_is = refl; rest = g.rest };
  };
  back = λ t v g.
      let h = g.rest in
      let gap = h.gap in
      let none = nil_from_length h.kept (omega arith) in
      record {
        kept = g.kept;
        t_rest = h.t_rest;
        u_rest = h.u_rest;
        gap = g.gap;
        t_is = g.t_is ∙ ap (λ (z : List ℕ). g.kept ++ (r ++ z)) (h.t_is ∙ ap (λ (z : List ℕ). z ++ h.t_rest) none);
        u_is = g.u_is ∙ ap (λ (z : List ℕ). g.kept ++ (n ++ z)) (h.u_is ∙ ap (λ (z : List ℕ). z ++ h.u_rest) none);
        rest = h.rest;
      };
}

-- the same steps, and after them what holds of the same texts
pub step_alike : (p : ℕ) (e : EditEntry) (K L : List ℕ → List ℕ → Type 0) → Alike K L → Alike (EditStep Forward p e K) (EditStep Forward p e L)
step_alike p e K L a = record {
  go = λ t v g. record { kept = g.kept; t_rest = g.t_rest; u_rest = g.u_rest; gap = g.gap; t_is = g.t_is; u_is = g.u_is; rest = a.go g.t_rest g.u_rest g.rest };
  back = λ t v g. record { kept = g.kept; t_rest = g.t_rest; u_rest = g.u_rest; gap = g.gap; t_is = g.t_is; u_is = g.u_is; rest = a.back g.t_rest g.u_rest g.rest };
}

-- an edit that is put at the end of the list, or is empty
put_alike : (out : List EditEntry) (at end : ℕ) (r n : List ℕ) (K : List ℕ → List ℕ → Type 0) (b : Bool) → ((length r == 0) && (length n == 0)) ≡ b → at + length r ≡ end
    → Alike (Walks Forward 0 out (λ p. EditStep Forward p (edit at r n) K)) (Walks Forward 0 (cond b out (out ++ edit at r n ∷ [])) (λ p. EditStep Forward p (edit end [] []) K))
put_alike out at end r n K true t e =
    let q = and_parts (length r == 0) (length n == 0) t in
    let rl = eqb-true (length r) 0 q.0 in
    let rz = nil_from_length r rl in
    let nz = nil_from_length n (eqb-true (length n) 0 q.1) in
    let ez : end ≡ at = omega arith in
    rw (rz, nz, ez) (record { go = λ t v h. h; back = λ t v h. h })
put_alike out at end r n K false t e =
    let push = walks_push 0 out (edit at r n) (λ p. EditStep Forward p (edit end [] []) K) in
    let mid = walks_alike 0 out (λ p. EditStep Forward p (edit at r n) K) (λ p. EditStep Forward p (edit at r n) (EditStep Forward (at + length r) (edit end [] []) K)) (step_finish (end_of 0 out) at end r n K e) in
    record { go = λ t v h. push.back t v (mid.go t v h); back = λ t v h. mid.back t v (push.go t v h) }

module _ (la lb : ℕ) where
  abbrev pub Rest : State → List EditEntry → List EditEntry → List ℕ → List ℕ → Type 0
  Rest s xs ys = Both la lb s.first_pending s.first_end xs s.second_pending s.second_end ys

  -- the edits that are done, the one that is being made, and what is left
  abbrev pub Means : State → List EditEntry → List EditEntry → List ℕ → List ℕ → Type 0
  Means s xs ys = Walks Forward 0 s.out (λ p. EditStep Forward p (edit s.at s.removed s.added) (Rest s xs ys))

  pub means_first : (e : EditEntry) (s : State) (xs ys : List EditEntry) → length s.first_pending ≡ 0 → s.first_end ≤ e.at → e.at - s.first_end ≤ length s.second_pending → Alike (Means s (e ∷ xs) ys) (Means (with_first e s) xs ys)
  means_first e s xs ys z later within =
      let none = nil_from_length s.first_pending z in
      let d = e.at - s.first_end in
      let p = passes_first la lb e xs s.second_pending s.first_end s.second_end ys later within in
      walks_alike 0 s.out (λ p. EditStep Forward p (edit s.at s.removed s.added) (Rest s (e ∷ xs) ys)) (λ p. EditStep Forward p (edit s.at (s.removed ++ take d s.second_pending ++ e.removed) s.added) (Rest (with_first e s) xs ys))
      (rw (none, append_assoc) (subst (λ (n : List ℕ). Alike (EditStep Forward (end_of 0 s.out) (edit s.at s.removed s.added) (Both la lb [] s.first_end (e ∷ xs) s.second_pending s.second_end ys)) (EditStep Forward (end_of 0 s.out) (edit s.at (s.removed ++ (take d s.second_pending ++ e.removed)) n) (Rest (with_first e s) xs ys))) (append-nil s.added)
      (step_moved (end_of 0 s.out) s.at s.removed s.added (take d s.second_pending ++ e.removed) [] _ _ p)))

  pub means_second : (e : EditEntry) (s : State) (xs ys : List EditEntry) → length s.second_pending ≡ 0 → s.second_end ≤ e.at → e.at - s.second_end ≤ length s.first_pending → Alike (Means s xs (e ∷ ys)) (Means (with_second e s) xs ys)
  means_second e s xs ys z later within =
      let none = nil_from_length s.second_pending z in
      let d = e.at - s.second_end in
      let p = passes_second la lb e ys s.first_pending s.first_end s.second_end xs later within in
      walks_alike 0 s.out (λ p. EditStep Forward p (edit s.at s.removed s.added) (Rest s xs (e ∷ ys))) (λ p. EditStep Forward p (edit s.at s.removed (s.added ++ take d s.first_pending ++ e.added)) (Rest (with_second e s) xs ys))
      (rw (none, append_assoc) (subst (λ (n : List ℕ). Alike (EditStep Forward (end_of 0 s.out) (edit s.at s.removed s.added) (Both la lb s.first_pending s.first_end xs [] s.second_end (e ∷ ys))) (EditStep Forward (end_of 0 s.out) (edit s.at n (s.added ++ (take d s.first_pending ++ e.added))) (Rest (with_second e s) xs ys))) (append-nil s.removed)
      (step_moved (end_of 0 s.out) s.at s.removed s.added [] (take d s.first_pending ++ e.added) _ _ p)))

  moved_none : (L : List ℕ → List ℕ → Type 0) (t v : List ℕ) → Moved [] [] L t v → L t v
  moved_none L t v m = rw (m.t_is, m.v_is) m.rest

  alike_from_passes : (K L : List ℕ → List ℕ → Type 0) → Passes [] [] K L → Alike K L
  alike_from_passes K L p = record {
    go = λ t v h. moved_none L t v (p.go t v h);
    back = λ t v h. p.back t v h;
  }

  met_alike : (x pa pb a b : List ℕ) (af : ℕ) (xs : List EditEntry) (bf : ℕ) (ys : List EditEntry) → a ≡ x ++ pa → b ≡ x ++ pb → Alike (Both la lb a af xs b bf ys) (Both la lb pa af xs pb bf ys)
  met_alike x pa pb a b af xs bf ys p q = rw (p, q) (alike_from_passes _ _ (passes_met la lb x pa pb af xs bf ys))

  pub means_met : (s : State) (xs ys : List EditEntry) → take (common_len s) s.first_pending ≡ take (common_len s) s.second_pending → Alike (Means s xs ys) (Means (cancel_common s) xs ys)
  means_met s xs ys e =
      let m = common_len s in
      let p : s.first_pending ≡ take m s.first_pending ++ drop m s.first_pending = sym (take-append-drop m s.first_pending) in
      let q : s.second_pending ≡ take m s.first_pending ++ drop m s.second_pending = sym (take-append-drop m s.second_pending) ∙ ap (λ (z : List ℕ). z ++ drop m s.second_pending) (sym e) in
      walks_alike 0 s.out (λ p. EditStep Forward p (edit s.at s.removed s.added) (Rest s xs ys)) (λ p. EditStep Forward p (edit s.at s.removed s.added) (Rest (cancel_common s) xs ys))
      (step_alike (end_of 0 s.out) (edit s.at s.removed s.added) (Rest s xs ys) (Rest (cancel_common s) xs ys) (met_alike (take m s.first_pending) (drop m s.first_pending) (drop m s.second_pending) s.first_pending s.second_pending s.first_end xs s.second_end ys p q))

  -- bytes of one list that the other keeps
  passes_left : (pa pb : List ℕ) (af : ℕ) (xs : List EditEntry) (bf : ℕ) (ys : List EditEntry) → min (length pa) (length pb) ≡ 0 → AreDisjoint la (af + length pb) xs → AreDisjoint lb (bf + length pa) ys
      → Passes pb pa (Both la lb pa af xs pb bf ys) (Both la lb [] (af + length pb) xs [] (bf + length pa) ys)
  passes_left [] pb af xs bf ys one p q = rw add-zero (passes_second_left la lb pb af xs bf ys p)
  passes_left (a ∷ pa) [] af xs bf ys one p q = rw add-zero (passes_first_left la lb (a ∷ pa) af xs bf ys q)
  passes_left (a ∷ pa) (b ∷ pb) af xs bf ys one p q = absurd (omega arith)

  pub means_closed : (s : State) (xs ys : List EditEntry) → s.at + length s.removed ≡ s.first_end → min (length s.first_pending) (length s.second_pending) ≡ 0 → AreDisjoint la (s.first_end + length s.second_pending) xs → AreDisjoint lb (s.second_end + length s.first_pending) ys
      → Alike (Means s xs ys) (Means (finish_edit s) xs ys)
  means_closed s xs ys at one p q =
      let l = length-append s.removed s.second_pending in
      let moved = step_moved (end_of 0 s.out) s.at s.removed s.added s.second_pending s.first_pending (Rest s xs ys) (Rest (finish_edit s) xs ys) (passes_left s.first_pending s.second_pending s.first_end xs s.second_end ys one p q) in
      alike_then _ _ _
      (walks_alike 0 s.out (λ p. EditStep Forward p (edit s.at s.removed s.added) (Rest s xs ys)) (λ p. EditStep Forward p (edit s.at (s.removed ++ s.second_pending) (s.added ++ s.first_pending)) (Rest (finish_edit s) xs ys)) moved)
      (put_alike s.out s.at (s.first_end + length s.second_pending) (s.removed ++ s.second_pending) (s.added ++ s.first_pending) (Rest (finish_edit s) xs ys) _ refl (omega arith))

  -- no edit is being made
  abbrev pub empty_at : List EditEntry → ℕ → ℕ → ℕ → State
  empty_at out at af bf = record { out = out; at = at; removed = []; added = []; first_pending = []; second_pending = []; first_end = af; second_end = bf; has_first = false; has_second = false }

  pub means_skipped : (n : ℕ) (out : List EditEntry) (at af bf : ℕ) (xs ys : List EditEntry) → AreDisjoint at 0 out → AreDisjoint la (af + n) xs → AreDisjoint lb (bf + n) ys
      → Alike (Means (empty_at out at af bf) xs ys) (Means (skip_kept n (empty_at out at af bf)) xs ys)
  means_skipped n out at af bf xs ys d p q =
      walks_alike 0 out (λ p. EditStep Forward p (edit at [] []) (Both la lb [] af xs [] bf ys)) (λ p. EditStep Forward p (edit (at + n) [] []) (Both la lb [] (af + n) xs [] (bf + n) ys))
      (step_skip la lb (end_of 0 out) at n _ _ (end_within at 0 out d) (skips la lb n af bf xs ys p q))

  ended : (p at af bf : ℕ) → p ≤ at → at ≡ af → af ≤ la → bf + la ≡ lb + af → Alike (EditStep Forward p (edit at [] []) (Both la lb [] af [] [] bf [])) (Ends la p)
  ended p at af bf le e within balance = record {
    go = λ t v g.
        let h = g.rest in
        let gap = g.gap in
        let f = h.first.1 in
        let len = ap length g.t_is in
        let m = length-append g.kept g.t_rest in
        (g.t_is ∙ ap (λ (z : List ℕ). g.kept ++ z) (h.first.0 ∙ h.same ∙ h.second.0) ∙ sym g.u_is, omega arith);
    back = λ t v g.
        let k = take (at - p) t in let r = drop (at - p) t in
        let len = g.1 in
        let lr : length r ≡ length t - (at - p) = length-drop (at - p) t in
        let lk : length k ≡ at - p = length-take-le (at - p) t (omega arith) in
        let split = take-append-drop (at - p) t in
        record {
          kept = k;
          t_rest = r;
          u_rest = r;
          gap = omega arith;
          t_is = sym split;
          u_is = sym g.0 ∙ sym split;
          rest = record { mid_first = r; mid_second = r; same = refl; first = (refl, omega arith); second = (refl, omega arith) };
        };
  }

  pub means_end : (out : List EditEntry) (at af bf : ℕ) → AreDisjoint at 0 out → at ≡ af → af ≤ la → bf + la ≡ lb + af → Alike (Means (empty_at out at af bf) [] []) (Walks Forward 0 out (Ends la))
  means_end out at af bf d e within balance = walks_alike 0 out (λ p. EditStep Forward p (edit at [] []) (Both la lb [] af [] [] bf [])) (Ends la) (ended (end_of 0 out) at af bf (end_within at 0 out d) e within balance)

  pub means_start : (xs ys : List EditEntry) → Alike (Both la lb [] 0 xs [] 0 ys) (Means (empty_at [] 0 0 0) xs ys)
  means_start xs ys = record {
    go = λ t v h. record { kept = []; t_rest = t; u_rest = v; gap = refl; t_is = refl; u_is = refl; rest = h };
    back = λ t v g.
        let gap = g.gap in
        let none = nil_from_length g.kept (omega arith) in
        rw (g.t_is, g.u_is, none) g.rest;
  }
