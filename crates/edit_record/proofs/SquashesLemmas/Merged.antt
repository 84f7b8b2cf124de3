-- The whole merge, step by step.
use Rattle.std.proofs.Common.{◌≡◌, ℕ, ◌+◌, ◌-◌, ◌≤◌, ◌<◌, List, [], ◌∷◌, ◌++◌, length, take, drop, replicate, Bool, true, false, refl, arith, sym, ap, ◌∙◌, append_assoc, length-append, ◌⊎◌, inl, inr}
use Rattle.std.proofs.lemmas.List.{append-nil, length-replicate, take_at, nil_from_length, length-take-le, length-drop, take-append-drop}
use Rattle.edit_record.specs.declared.lists.direction.Direction.TheVariants.{Forward}
use Rattle.edit_record.specs.Lists.Pieces.{EditEntry, as_list}
use Rattle.edit_record.specs.Lists.Validity.{AreDisjoint, AreValidEdits, new_len}
use Rattle.edit_record.specs.Lists.Inner.Walks.{EditStep, Walks}
use Rattle.edit_record.specs.Lists.Inner.Exact.{walks_from_transforms, transforms_from_walks}
use Rattle.edit_record.specs.Squashes.Inner.Merge.{State, finish_edit, common_len, cancel_common, prepare_next, take_next, initial, MergeInvariant, OneIsDone, IsReadyFor}
use Rattle.edit_record.specs.Squashes.Squash.{AreComposable, IsContradiction, IsSquash}
use Rattle.edit_record.proofs.ListsLemmas.Placed.{placed_within}
use Rattle.edit_record.proofs.ListsLemmas.Parts.{Ends, ends_from_same, same_from_ends, placed_earlier, placed_longer, equal_prefixes}
use Rattle.edit_record.proofs.ListsLemmas.Pairs.{Both, Alike, alike_then}
use Rattle.edit_record.proofs.ListsLemmas.Composition.{some_walks, some_text, walk_lengths, both_from_turns, turns_from_both}
use Rattle.edit_record.proofs.SquashesLemmas.Soundness.{sound_first, sound_second, sound_met, sound_closed, one_cancelled}
use Rattle.edit_record.proofs.SquashesLemmas.Means.{Means, Rest, edit, means_first, means_second, means_met, means_closed, means_end, means_start}
use Rattle.edit_record.proofs.SquashesLemmas.Preparing.{Readied, readies}
use Rattle.edit_record.proofs.SquashesLemmas.MergesGroups.{Grouped, GroupedReady, grouped_start, grouped_first, grouped_second, grouped_met, grouped_readied, grouped_end}

module _ (la lb : ℕ) where
  abbrev pub Passable : List EditEntry → List EditEntry → Type 0
  Passable a b = (t : List ℕ) × (v : List ℕ) × Both la lb [] 0 a [] 0 b t v

  -- the edits of b that are taken, all but the last of which can follow a
  pub record LastOf (a taken : List EditEntry) : Type 0 where
    pub but_last : List EditEntry
    pub last : EditEntry
    pub whole : taken ≡ but_last ++ last ∷ []
    pub passable : Passable a but_last

  -- what is kept by each step, where xs and ys are left of a and b
  pub record Kept (a b : List EditEntry) (s : State) (xs ys : List EditEntry) : Type 0 where
    pub sound : MergeInvariant la lb s xs ys
    pub taken : List EditEntry
    pub whole : b ≡ taken ++ ys
    pub none : taken ≡ [] → length s.second_pending ≡ 0
    pub earlier : (taken ≡ []) ⊎ LastOf a taken
    pub grouped : Grouped a b s xs ys
    pub equivalent : (tail : List EditEntry) → AreDisjoint lb s.second_end tail → Alike (Both la lb [] 0 a [] 0 (taken ++ tail)) (Means la lb s xs tail)

  pub record Progress (a b : List EditEntry) (s : State) (xs ys : List EditEntry) : Type 0 where
    pub kept : Kept a b s xs ys
    pub one : OneIsDone s

  pub progress_start : (lc : ℕ) (a b : List EditEntry) → AreValidEdits la lb a → AreValidEdits lb lc b → Progress a b initial a b
  progress_start lc a b p q =
      let n = p.new in
      record {
        kept = record {
          sound = record { first_fits = p.old_fits; second_fits = q.old_fits; first_placed = p.disjoint; second_placed = q.disjoint; at_is = refl; done = omega arith; balance = omega arith; no_first = λ _. refl; no_second = λ _. refl };
          taken = [];
          whole = refl;
          none = λ _. refl;
          earlier = inl refl;
          grouped = grouped_start la lb a b;
          equivalent = λ tail h. means_start la lb a tail;
        };
        one = refl;
      }

  pub ready_for : (a b : List EditEntry) (s : State) (xs ys : List EditEntry) (r : Bool × State) → Progress a b s xs ys → r ≡ prepare_next s xs ys → IsReadyFor r.0 r.1 xs ys
  ready_for a b s xs ys r p e =
      let q = readies la lb s xs ys p.kept.sound p.one in
      rw e ((la, lb, q.sound, q.one), q.takes)

  -- what is left of the first list transforms some text
  witness : (s : State) (xs : List EditEntry) (ys : List EditEntry) → MergeInvariant la lb s xs ys → length s.second_pending ≡ 0 → (t : List ℕ) × (v : List ℕ) × Means la lb s xs [] t v
  witness s xs ys h z =
      let f = some_text la s.first_end xs h.first_placed in
      let l = walk_lengths la s.first_end xs f.t f.u f.walks_to in
      let none = nil_from_length s.second_pending z in
      let balance = h.balance in
      let l0 = l.0 in let l1 = l.1 in
      let k = length-append s.first_pending f.u in
      let rest : Rest la lb s xs [] f.t (s.first_pending ++ f.u) = record { mid_first = f.u; mid_second = s.first_pending ++ f.u; same = rw none refl; first = f.walks_to; second = (refl, omega arith) } in
      let made : (p : ℕ) → p ≤ s.at → (t : List ℕ) × (v : List ℕ) × EditStep Forward p (edit s.at s.removed s.added) (Rest la lb s xs []) t v = λ p le.
      let kept = replicate (s.at - p) 0 in
      let kl : length kept ≡ s.at - p = length-replicate (s.at - p) 0 in
      (kept ++ (s.removed ++ f.t), kept ++ (s.added ++ (s.first_pending ++ f.u)), record { kept = kept; t_rest = f.t; u_rest = s.first_pending ++ f.u; gap = omega arith; t_is = refl; u_is = refl; rest = rest }) in
      let w = some_walks s.at 0 s.out (λ p. EditStep Forward p (edit s.at s.removed s.added) (Rest la lb s xs [])) h.done made in
      (w.t, w.u, w.walks_to)

  took_first : (a b : List EditEntry) (s s' : State) (xs ys : List EditEntry) → Kept a b s xs ys → Readied la lb s (true, s') xs ys → GroupedReady a b (true, s') xs ys → (q : State × List EditEntry × List EditEntry) → q ≡ take_next true s' xs ys → Kept a b q.0 q.1 q.2 × (length q.1 + length q.2 < length xs + length ys)
  took_first a b s s' [] ys k r gr q e = absurd r.takes
  took_first a b s s' (x ∷ xs) ys k r gr q e =
      let later = r.sound.first_placed.0.later in
      let shorter = r.shorter in
      let m = length-drop (x.at - s'.first_end) s'.second_pending in
      rw e (
        record {
          sound = sound_first la lb x s' xs ys r.sound r.takes.0 r.takes.1;
          taken = k.taken;
          whole = k.whole;
          none = λ z. let n = k.none z in omega arith;
          earlier = k.earlier;
          grouped = grouped_first la lb a b s' x xs ys gr r.takes.0 r.takes.1;
          equivalent = λ tail p. alike_then _ _ _ (k.equivalent tail (placed_earlier lb s.second_end s'.second_end tail r.later p)) (alike_then _ _ _ (r.equivalent tail p) (means_first la lb x s' xs tail r.takes.0 later r.takes.1));
        },
        omega arith,
      )

  push_some : (ys : List EditEntry) (y : EditEntry) → ys ++ y ∷ [] ≡ [] → ⊥
  push_some [] y e = cc
  push_some (x ∷ ys) y e = cc

  took_second : (a b : List EditEntry) (s s' : State) (xs ys : List EditEntry) → 0 < length xs + length ys → Kept a b s xs ys → Readied la lb s (false, s') xs ys → GroupedReady a b (false, s') xs ys → (q : State × List EditEntry × List EditEntry) → q ≡ take_next false s' xs ys → Kept a b q.0 q.1 q.2 × (length q.1 + length q.2 < length xs + length ys)
  took_second a b s s' xs [] more k r gr q e = let z = r.takes in absurd (omega arith)
  took_second a b s s' xs (y ∷ ys) more k r gr q e =
      let later = r.sound.second_placed.0.later in
      let none : AreDisjoint lb s'.second_end [] = let w = r.sound.second_placed.0.within in omega arith in
      let w = witness s' xs (y ∷ ys) r.sound r.takes.0 in
      let back = (k.equivalent [] (placed_earlier lb s.second_end s'.second_end [] r.later none)).back w.0 w.1 ((r.equivalent [] none).back w.0 w.1 w.2) in
      let passable : Passable a k.taken = (w.0, w.1, rw append-nil at back) in
      rw e (
        record {
          sound = sound_second la lb y s' xs ys r.sound r.takes.0 r.takes.1;
          taken = k.taken ++ y ∷ [];
          whole = k.whole ∙ sym (append_assoc k.taken (y ∷ []) ys);
          none = λ z. absurd (push_some k.taken y z);
          earlier = inr (record { but_last = k.taken; last = y; whole = refl; passable = passable });
          grouped = grouped_second la lb a b s' y xs ys gr r.takes.0 r.takes.1 later;
          equivalent = λ tail p.
              let placed : AreDisjoint lb s'.second_end (y ∷ tail) = (r.sound.second_placed.0, p) in
              rw append_assoc (alike_then _ _ _ (k.equivalent (y ∷ tail) (placed_earlier lb s.second_end s'.second_end (y ∷ tail) r.later placed)) (alike_then _ _ _ (r.equivalent (y ∷ tail) placed) (means_second la lb y s' xs tail r.takes.0 later r.takes.1)));
        },
        omega arith,
      )

  took_by : (a b : List EditEntry) (s s' : State) (xs ys : List EditEntry) (first : Bool) → 0 < length xs + length ys → Kept a b s xs ys → Readied la lb s (first, s') xs ys → GroupedReady a b (first, s') xs ys → (q : State × List EditEntry × List EditEntry) → q ≡ take_next first s' xs ys → Kept a b q.0 q.1 q.2 × (length q.1 + length q.2 < length xs + length ys)
  took_by a b s s' xs ys true more k r gr q e = took_first a b s s' xs ys k r gr q e
  took_by a b s s' xs ys false more k r gr q e = took_second a b s s' xs ys more k r gr q e

  pub takes_one : (a b : List EditEntry) (s s' : State) (xs ys : List EditEntry) (first : Bool) (q : State × List EditEntry × List EditEntry) → 0 < length xs + length ys → Progress a b s xs ys → (first, s') ≡ prepare_next s xs ys → q ≡ take_next first s' xs ys → Kept a b q.0 q.1 q.2 × (length q.1 + length q.2 < length xs + length ys)
  takes_one a b s s' xs ys first q more p e f =
      let r = readies la lb s xs ys p.kept.sound p.one in
      took_by a b s s' xs ys first more p.kept (rw e r) (rw e (grouped_readied la lb a b s xs ys more p.kept.grouped p.kept.sound p.one r.sound.first_placed)) q f

  pub continues_with : (a b : List EditEntry) (s s' : State) (xs ys : List EditEntry) → Kept a b s xs ys → take (common_len s) s.first_pending ≡ take (common_len s) s.second_pending → s' ≡ cancel_common s → Progress a b s' xs ys
  continues_with a b s s' xs ys k e f =
      let m = length-drop (common_len s) s.second_pending in
      rw f (record {
        kept = record {
          sound = sound_met la lb s xs ys k.sound;
          taken = k.taken;
          whole = k.whole;
          none = λ z. let n = k.none z in omega arith;
          earlier = k.earlier;
          grouped = grouped_met la lb a b s xs ys k.grouped;
          equivalent = λ tail p. alike_then _ _ _ (k.equivalent tail p) (means_met la lb s xs tail e);
        };
        one = one_cancelled s;
      })

  -- ---- bytes that differ

  walks_last : (from : ℕ) (es : List EditEntry) (K : ℕ → List ℕ → List ℕ → Type 0) (t v : List ℕ) → Walks Forward from es K t v → (p : ℕ) × (x : List ℕ) × (y : List ℕ) × K p x y
  walks_last from [] K t v g = (from, t, v, g)
  walks_last from (e ∷ es) K t v g = walks_last (e.at + length e.removed) es K g.t_rest g.u_rest g.rest

  both_meet : (s : State) (xs ys : List EditEntry) (t v : List ℕ) → Rest la lb s xs ys t v → take (common_len s) s.first_pending ≡ take (common_len s) s.second_pending
  both_meet s xs ys t v h =
      let m = common_len s in
      let la : length (take m s.first_pending) ≡ m = length-take-le m s.first_pending (omega arith) in
      let lb : length (take m s.second_pending) ≡ m = length-take-le m s.second_pending (omega arith) in
      let p = sym (append_assoc (take m s.first_pending) (drop m s.first_pending) h.mid_first) ∙ ap (λ (z : List ℕ). z ++ h.mid_first) (take-append-drop m s.first_pending) in
      let q = ap (λ (z : List ℕ). z ++ h.mid_second) (sym (take-append-drop m s.second_pending)) ∙ append_assoc (take m s.second_pending) (drop m s.second_pending) h.mid_second in
      (equal_prefixes (take m s.first_pending) (take m s.second_pending) (drop m s.first_pending ++ h.mid_first) (drop m s.second_pending ++ h.mid_second) (sym (sym la) ∙ sym lb) (p ∙ h.same ∙ q)).0

  none_walks : (s : State) (xs ys : List EditEntry) (t v : List ℕ) → (take (common_len s) s.first_pending ≡ take (common_len s) s.second_pending → ⊥) → Means la lb s xs ys t v → ⊥
  none_walks s xs ys t v differ h =
      let g = walks_last 0 s.out (λ p. EditStep Forward p (edit s.at s.removed s.added) (Rest la lb s xs ys)) t v h in
      differ (both_meet s xs ys g.3.t_rest g.3.u_rest g.3.rest)

  blocked : (a b : List EditEntry) (s : State) (xs ys : List EditEntry) → Kept a b s xs ys → (take (common_len s) s.first_pending ≡ take (common_len s) s.second_pending → ⊥) → (tail : List EditEntry) → AreDisjoint lb s.second_end tail → (b' : List EditEntry) → (k : Kept a b s xs ys) → b' ≡ k.taken ++ tail → AreComposable (as_list la a) (as_list lb b') → ⊥
  blocked a b s xs ys h differ tail p b' k e c =
      let both = both_from_turns la lb a b' c.0 c.1 c.2 c.3 c.4 in
      none_walks s xs tail c.0 c.2 differ ((k.equivalent tail p).go c.0 c.2 (rw e at both))

  contradicts_at : (a b : List EditEntry) (s : State) (xs ys : List EditEntry) (k : Kept a b s xs ys) → (take (common_len s) s.first_pending ≡ take (common_len s) s.second_pending → ⊥) → LastOf a k.taken → IsContradiction (as_list la a) (as_list lb b) (length b - length ys - 1)
  contradicts_at a b s xs ys k differ l =
      let n = length b - length ys - 1 in
      let whole : b ≡ (l.but_last ++ l.last ∷ []) ++ ys = k.whole ∙ ap (λ (z : List EditEntry). z ++ ys) l.whole in
      let again : b ≡ l.but_last ++ (l.last ∷ ys) = whole ∙ append_assoc l.but_last (l.last ∷ []) ys in
      let bl : length b ≡ length (l.but_last ++ (l.last ∷ ys)) = ap length again in
      let al = length-append l.but_last (l.last ∷ ys) in
      let nl : length l.but_last ≡ n = omega arith in
      let tl : length (l.but_last ++ l.last ∷ []) ≡ length l.but_last + 1 = length-append l.but_last (l.last ∷ []) in
      let first : take n b ≡ l.but_last = ap (take n) again ∙ take_at l.but_last (l.last ∷ ys) n nl in
      let with_last : take (n + 1) b ≡ k.taken = ap (take (n + 1)) whole ∙ take_at (l.but_last ++ l.last ∷ []) ys (n + 1) (omega arith) ∙ sym l.whole in
      let f = turns_from_both la lb a l.but_last l.passable.0 l.passable.1 l.passable.2 in
      let placed_end : AreDisjoint lb s.second_end [] = let r = placed_within lb s.second_end ys k.sound.second_placed in omega arith in
      let before : AreComposable (as_list la a) (as_list lb l.but_last) = (l.passable.0, f.0, l.passable.1, f.1, f.2) in
      record {
        in_range = omega arith;
        before = rw first before;
        with_it = blocked a b s xs ys k differ [] placed_end (take (n + 1) b) k (with_last ∙ sym (append-nil k.taken));
        none = blocked a b s xs ys k differ ys k.sound.second_placed b k k.whole;
      }

  nothing_meets : (s : State) → length s.second_pending ≡ 0 → take (common_len s) s.first_pending ≡ take (common_len s) s.second_pending
  nothing_meets s z =
      let m : common_len s ≡ 0 = omega arith in
      rw m refl

  some_taken : (a b : List EditEntry) (s : State) (xs ys : List EditEntry) (k : Kept a b s xs ys) → (take (common_len s) s.first_pending ≡ take (common_len s) s.second_pending → ⊥) → (taken : List EditEntry) → k.taken ≡ taken → (taken ≡ []) ⊎ LastOf a taken → LastOf a taken
  some_taken a b s xs ys k differ taken e (inl z) = absurd (differ (nothing_meets s (k.none (e ∙ z))))
  some_taken a b s xs ys k differ taken e (inr l) = l

  pub contradicts : (a b : List EditEntry) (s : State) (xs ys : List EditEntry) → Kept a b s xs ys → (take (common_len s) s.first_pending ≡ take (common_len s) s.second_pending → ⊥) → IsContradiction (as_list la a) (as_list lb b) (length b - length ys - 1)
  contradicts a b s xs ys k differ = contradicts_at a b s xs ys k differ (some_taken a b s xs ys k differ k.taken refl k.earlier)

  pub one_taken : (a b : List EditEntry) (s : State) (xs ys : List EditEntry) → Kept a b s xs ys → (take (common_len s) s.first_pending ≡ take (common_len s) s.second_pending → ⊥) → length ys + 1 ≤ length b
  one_taken a b s xs ys k differ =
      let l = some_taken a b s xs ys k differ k.taken refl k.earlier in
      let bl : length b ≡ length k.taken + length ys = ap length k.whole ∙ length-append k.taken ys in
      let tl : length k.taken ≡ length l.but_last + 1 = ap length l.whole ∙ length-append l.but_last (l.last ∷ []) in
      omega arith

  -- ---- at the end

  at_end : (s : State) → MergeInvariant la lb s [] [] → OneIsDone s → (s.first_end + length s.second_pending ≤ la) × (s.second_end + length s.first_pending ≤ lb)
  at_end s h one =
      let p : s.first_end ≤ la = h.first_placed in let q : s.second_end ≤ lb = h.second_placed in let b = h.balance in
      (omega arith, omega arith)

  squashes : (a b c : List EditEntry) (s : State) → Progress a b s [] [] → c ≡ (finish_edit s).out → Alike (Both la lb [] 0 a [] 0 b) (Walks Forward 0 c (Ends la))
  squashes a b c s p e =
      let k = p.kept in
      let n = at_end s k.sound p.one in
      let h = sound_closed la lb s [] [] k.sound n.0 n.1 in
      let balance = h.balance in
      let at = h.at_is in
      let af = n.0 in
      let q : AreDisjoint lb s.second_end [] = k.sound.second_placed in
      rw (e, k.whole) (alike_then _ _ _ (k.equivalent [] q) (alike_then _ _ _ (means_closed la lb s [] [] k.sound.at_is p.one n.0 n.1)
      (means_end la lb (finish_edit s).out (finish_edit s).at (finish_edit s).first_end (finish_edit s).second_end h.done (omega arith) (omega arith) (omega arith))))

  pub ends_well : (lc : ℕ) (a b c : List EditEntry) (s : State) → AreValidEdits la lb a → AreValidEdits lb lc b → Progress a b s [] [] → c ≡ (finish_edit s).out → new_len (as_list la a) ≡ lb → AreValidEdits la lc c × IsSquash (as_list la a) (as_list lb b) (as_list la c)
  ends_well lc a b c s p q r e follows =
      let k = r.kept in
      let n = at_end s k.sound r.one in
      let h = sound_closed la lb s [] [] k.sound n.0 n.1 in
      let at = h.at_is in
      let af = n.0 in
      let placed : AreDisjoint la 0 c = rw e (placed_longer (finish_edit s).at la 0 (finish_edit s).out (omega arith) h.done) in
      let alike = squashes a b c s r e in
      let w = some_text la 0 c placed in
      let both = alike.back w.t w.u w.walks_to in
      let l1 = walk_lengths la 0 c w.t w.u w.walks_to in
      let l2 = walk_lengths la 0 a w.t both.mid_first both.first in
      let l3 = walk_lengths lb 0 b both.mid_second w.u both.second in
      let x1 = l1.0 in let x2 = l1.1 in let x3 = l3.0 in let x4 = l3.1 in
      let new = q.new in
      let walks_to = turns_from_both la lb a b w.t w.u both in (
        record { disjoint = placed; new = omega arith; old_fits = p.old_fits; new_fits = q.new_fits },
        record {
          lengths_match = follows;
          old_len_is = refl;
          composable = (w.t, walks_to.0, w.u, walks_to.1, walks_to.2);
          equivalent = λ t v. (
            λ h. let len = h.len in turns_from_both la lb a b t v (alike.back t v (ends_from_same la 0 c t v (omega arith) (walks_from_transforms (as_list la c) t v h))),
            λ h. let g = same_from_ends la 0 c t v (alike.go t v (both_from_turns la lb a b t h.0 v h.1 h.2)) in let len = g.1 in transforms_from_walks (as_list la c) t v (omega arith) g.0,
          );
          shape = grouped_end la lb a b c s k.grouped k.sound r.one e;
        },
      )
