-- A take has one answer: where one of its swaps is refused, no other outcome is possible.
use Rattle.std.proofs.Common.{◌≡◌, ◌∙◌, ◌<◌, ◌+◌, ◌⊎◌, ℕ, zero, suc, List, [], ◌∷◌, ◌++◌, length, take, Ok, Err, refl, sym, ap, subst, arith, length-append, inl, inr}
use Rattle.std.proofs.lemmas.List.{length-map}
use Rattle.edit_record.specs.Lists.Journal.{JournalEntry, edits_of, words_of}
use Rattle.edit_record.specs.Lists.Validity.{ApplyIsDeterministic}
use Rattle.edit_record.specs.Lists.Pieces.{EditList, Transforms}
use Rattle.edit_record.specs.Swaps.Swap.{IsItem, SwapTo, SwapIsUnique}
use Rattle.edit_record.specs.Swaps.MoveToEnd.{IsMovedToEnd, MoveToEndIsUnique}
use Rattle.edit_record.specs.Swaps.MoveToEndResult.{SomeMeet, SwapIsTooLong, FailsAt}
use Rattle.tf_session.specs.declared.command.Done.{Done}
use Rattle.tf_session.specs.declared.command.Fault.{Fault}
use Rattle.tf_session.specs.declared.command.Fault.TheVariants.{TooLong, NoRecord, Blocked}
use Rattle.tf_lint.specs.Steps.{texts_differ}
use Rattle.tf_session.specs.Machine.{done}
use Rattle.tf_session.specs.Layers.{Layer, History, last_text, top_text, record_of, records_in, LayersAreConsistent, RemovesLayer}
use Rattle.tf_session.specs.RemovingRecord.{FailsAfter, CannotRemove}
use Rattle.tf_session.specs.NthItem.{Nth}
use Rattle.tf_session.specs.TakeLaws.{TakeResultIsUnique}
use Rattle.tf_session.proofs.Histories.{records_on}

-- why two lists do not change places really excludes that they do
abbrev pub Excludes : (EditList → EditList → Type 0) → Type 0
Excludes R = (a b c d : EditList) → R a b → SwapTo a b c d → ⊥

pub met_excludes : Excludes SomeMeet
met_excludes a b c d m h = h.apart m.1 m.2 (m.3.meet)

pub overflows_excludes : Excludes SwapIsTooLong
overflows_excludes a b c d m h = let w = h.within in let o = m.2 in omega (arith, w, o)

-- a number has one member
pub nth_once : {X : Type 0} (xs lower low following rest : List X) (x y : X) → xs ≡ lower ++ x ∷ following → xs ≡ low ++ y ∷ rest → length lower ≡ length low → (lower ≡ low) × (x ≡ y) × (following ≡ rest)
nth_once xs [] [] following rest x y e f n = let g : x ∷ following ≡ y ∷ rest = sym e ∙ f in (refl, cc, cc)
nth_once xs [] (l ∷ low) following rest x y e f n = absurd (omega (arith, n))
nth_once xs (l ∷ lower) [] following rest x y e f n = absurd (omega (arith, n))
nth_once xs (l ∷ lower) (m ∷ low) following rest x y e f n =
    let g : l ∷ (lower ++ x ∷ following) ≡ m ∷ (low ++ y ∷ rest) = sym e ∙ f in
    let tail : lower ++ x ∷ following ≡ low ++ y ∷ rest = cc in
    let head : l ≡ m = cc in
    let h = nth_once (lower ++ x ∷ following) lower low following rest x y refl tail (omega (arith, n)) in
    ((λ i. head i ∷ h.0 i), h.1, h.2)

pub numbers : (n i j : ℕ) → n ≡ i + 1 → n ≡ j + 1 → i ≡ j
numbers n i j e f = omega (arith, e, f)

pub there_is : {X : Type 0} (n : ℕ) (xs : List X) → Nth n xs → (n ≡ 0) ⊎ (length xs < n) → ⊥
there_is n xs h (inl z) = let e = h.number in omega (arith, z, e)
there_is n xs h (inr l) = let e = h.number in let s = ap length h.all ∙ length-append h.before (h.item ∷ h.after) in omega (arith, l, e, s)

record_nth : (n : ℕ) (ls : List Layer) → Nth n ls → Nth n (records_in ls)
record_nth n ls h = record {
  before = records_in h.before;
  item = record_of h.item;
  after = records_in h.after;
  all = ap records_in h.all ∙ records_on h.before (h.item ∷ h.after);
  number = (let l = length-map h.before record_of in let m = h.number in omega (arith, l, m));
}

module _ (one_swap : SwapIsUnique) where
  -- where all lists can be passed, none refuses
  pub all_or_stuck : (R : EditList → EditList → Type 0) (k : ℕ) (a next there last : EditList) (bs cs passed : List EditList) → Excludes R → IsMovedToEnd a bs cs last → IsMovedToEnd a (take k bs) passed there → IsItem k next bs → R there next → ⊥
  all_or_stuck R k a next there last [] cs passed ex all went is r = is
  all_or_stuck R k a next there last (b ∷ bs) [] passed ex all went is r = all
  all_or_stuck R zero a next there last (b ∷ bs) (c ∷ cs) [] ex all went is r =
      ex a b c all.0 (subst (λ (x : EditList). R a x) is (subst (λ (x : EditList). R x next) (sym went) r)) all.1
  all_or_stuck R zero a next there last (b ∷ bs) (c ∷ cs) (p ∷ passed) ex all went is r = went
  all_or_stuck R (suc k) a next there last (b ∷ bs) (c ∷ cs) [] ex all went is r = went
  all_or_stuck R (suc k) a next there last (b ∷ bs) (c ∷ cs) (p ∷ passed) ex all went is r =
      let same = one_swap a b c all.0 p went.0 all.1.swap went.1.swap in
      all_or_stuck R k all.0 next there last bs cs passed ex all.2 (subst (λ (x : EditList). IsMovedToEnd x (take k bs) passed there) (sym same.1) went.2) is r

  -- two lists that refuse are one, for the same reason
  pub stuck_once : (Q R : EditList → EditList → Type 0) (a : EditList) (bs : List EditList) (k j : ℕ) → Excludes Q → Excludes R
      → (p q : List EditList) (x y next other : EditList) → IsMovedToEnd a (take k bs) p x → IsItem k next bs → Q x next → IsMovedToEnd a (take j bs) q y → IsItem j other bs → R y other
      → (k ≡ j) × (x ≡ y) × (next ≡ other)
  stuck_once Q R a [] k j exq exr p q x y next other wp ip rq wq iq rr = absurd ip
  stuck_once Q R a (b ∷ bs) zero zero exq exr [] [] x y next other wp ip rq wq iq rr = (refl, sym wp ∙ wq, ip ∙ sym iq)
  stuck_once Q R a (b ∷ bs) zero zero exq exr [] (d ∷ q) x y next other wp ip rq wq iq rr = absurd wq
  stuck_once Q R a (b ∷ bs) zero zero exq exr (c ∷ p) q x y next other wp ip rq wq iq rr = absurd wp
  stuck_once Q R a (b ∷ bs) zero (suc j) exq exr [] [] x y next other wp ip rq wq iq rr = absurd wq
  stuck_once Q R a (b ∷ bs) zero (suc j) exq exr [] (d ∷ q) x y next other wp ip rq wq iq rr =
      absurd (exq a b d wq.0 (subst (λ (z : EditList). Q a z) ip (subst (λ (z : EditList). Q z next) (sym wp) rq)) wq.1)
  stuck_once Q R a (b ∷ bs) zero (suc j) exq exr (c ∷ p) q x y next other wp ip rq wq iq rr = absurd wp
  stuck_once Q R a (b ∷ bs) (suc k) zero exq exr [] q x y next other wp ip rq wq iq rr = absurd wp
  stuck_once Q R a (b ∷ bs) (suc k) zero exq exr (c ∷ p) [] x y next other wp ip rq wq iq rr =
      absurd (exr a b c wp.0 (subst (λ (z : EditList). R a z) iq (subst (λ (z : EditList). R z other) (sym wq) rr)) wp.1)
  stuck_once Q R a (b ∷ bs) (suc k) zero exq exr (c ∷ p) (d ∷ q) x y next other wp ip rq wq iq rr = absurd wq
  stuck_once Q R a (b ∷ bs) (suc k) (suc j) exq exr [] q x y next other wp ip rq wq iq rr = absurd wp
  stuck_once Q R a (b ∷ bs) (suc k) (suc j) exq exr (c ∷ p) [] x y next other wp ip rq wq iq rr = absurd wq
  stuck_once Q R a (b ∷ bs) (suc k) (suc j) exq exr (c ∷ p) (d ∷ q) x y next other wp ip rq wq iq rr =
      let same = one_swap a b c wp.0 d wq.0 wp.1.swap wq.1.swap in
      let h = stuck_once Q R wp.0 bs k j exq exr p q x y next other wp.2 ip rq (subst (λ (z : EditList). IsMovedToEnd z (take j bs) q y) (sym same.1) wq.2) iq rr in
      (ap (λ (z : ℕ). suc z) h.0, h.1, h.2)

  -- where record n passes all later ones, none of them refuses it
  pub passed_or_stuck : (R : EditList → EditList → Type 0) → Excludes R → (n k : ℕ) (rs : List JournalEntry) (nth : Nth n rs) (others : List EditList) (last : EditList)
      → IsMovedToEnd nth.item.edits (edits_of nth.after) others last → FailsAfter n rs k R → ⊥
  passed_or_stuck R ex n k rs nth others last all s =
      let h = nth_once rs nth.before s.nth.before nth.after s.nth.after nth.item s.nth.item nth.all s.nth.all (numbers n (length nth.before) (length s.nth.before) nth.number s.nth.number) in
      let taken = subst (λ (x : JournalEntry). IsMovedToEnd x.edits (edits_of s.nth.after) others last) h.1
      (subst (λ (x : List JournalEntry). IsMovedToEnd nth.item.edits (edits_of x) others last) h.2 all) in
      all_or_stuck R k s.nth.item.edits s.fails.next s.fails.moved_edits last (edits_of s.nth.after) others s.fails.swapped_lists ex taken s.fails.is_moved s.fails.next_is s.fails.refuses

  -- so the first list that refuses is one, for the same reason
  pub stuck_same : (Q R : EditList → EditList → Type 0) → Excludes Q → Excludes R → (n k j : ℕ) (rs : List JournalEntry) → FailsAfter n rs k Q → FailsAfter n rs j R → (k ≡ j) × (a : EditList) × (b : EditList) × Q a b × R a b
  stuck_same Q R exq exr n k j rs s t =
      let h = nth_once rs s.nth.before t.nth.before s.nth.after t.nth.after s.nth.item t.nth.item s.nth.all t.nth.all (numbers n (length s.nth.before) (length t.nth.before) s.nth.number t.nth.number) in
      let u : FailsAt s.nth.item.edits (edits_of s.nth.after) j R =
      subst (λ (x : JournalEntry). FailsAt x.edits (edits_of s.nth.after) j R) (sym h.1) (subst (λ (x : List JournalEntry). FailsAt t.nth.item.edits (edits_of x) j R) (sym h.2) t.fails) in
      let o = stuck_once Q R s.nth.item.edits (edits_of s.nth.after) k j exq exr s.fails.swapped_lists u.swapped_lists s.fails.moved_edits u.moved_edits s.fails.next u.next
      s.fails.is_moved s.fails.next_is s.fails.refuses u.is_moved u.next_is u.refuses in
      (o.0, s.fails.moved_edits, s.fails.next, s.fails.refuses, subst (λ (x : EditList). R x s.fails.next) (sym o.1) (subst (λ (x : EditList). R u.moved_edits x) (sym o.2) u.refuses))

pub met_or_overflows : (a b : EditList) → SomeMeet a b → SwapIsTooLong a b → ⊥
met_or_overflows a b m o = o.1 m.1 m.2 m.3.meet

module _ (one_swap : SwapIsUnique) (takes_one : MoveToEndIsUnique) (into_one : ApplyIsDeterministic) where
  -- ---- layers

  one_rise : (below : List ℕ) (ls ms : List Layer) → LayersAreConsistent below ls → LayersAreConsistent below ms → edits_of (records_in ls) ≡ edits_of (records_in ms) → words_of (records_in ls) ≡ words_of (records_in ms) → ls ≡ ms
  one_rise below [] [] p q e w = refl
  one_rise below [] (m ∷ ms) p q e w = absurd cc
  one_rise below (l ∷ ls) [] p q e w = absurd cc
  one_rise below (l ∷ ls) (m ∷ ms) p q e w =
      let edits : l.edits ≡ m.edits = cc in
      let word : l.word ≡ m.word = cc in
      let lists : edits_of (records_in ls) ≡ edits_of (records_in ms) = cc in
      let words : words_of (records_in ls) ≡ words_of (records_in ms) = cc in
      let text : l.text ≡ m.text = into_one m.edits below l.text m.text (subst (λ (x : EditList). Transforms x below l.text) edits p.0) q.0 in
      let rest = one_rise m.text ls ms (subst (λ (x : List ℕ). LayersAreConsistent x ls) text p.1) q.1 lists words in
      let same : l ≡ m = λ i. record { word = word i; edits = edits i; text = text i } in
      λ i. same i ∷ rest i

  one_out : (n : ℕ) (old : History) (d e : Done) (new another : History) → RemovesLayer n old d new → RemovesLayer n old e another → (d ≡ e) × (new ≡ another)
  one_out n old d e new another p q =
      let h = nth_once old.layers p.nth.before q.nth.before p.nth.after q.nth.after p.nth.item q.nth.item p.nth.all q.nth.all (numbers n (length p.nth.before) (length q.nth.before) p.nth.number q.nth.number) in
      let taken = subst (λ (x : Layer). IsMovedToEnd x.edits (edits_of (records_in p.nth.after)) (edits_of (records_in q.new_layers)) q.moved_edits) (sym h.1)
      (subst (λ (x : List Layer). IsMovedToEnd q.nth.item.edits (edits_of (records_in x)) (edits_of (records_in q.new_layers)) q.moved_edits) (sym h.2) q.is_moved) in
      let lists = ((takes_one p.nth.item.edits (edits_of (records_in p.nth.after))).one (edits_of (records_in p.new_layers)) (edits_of (records_in q.new_layers)) p.moved_edits q.moved_edits p.is_moved taken).0 in
      let words = p.words ∙ ap (λ (x : List Layer). words_of (records_in x)) h.2 ∙ sym q.words in
      let rise = subst (λ (x : List Layer). LayersAreConsistent (last_text old.first x) q.new_layers) (sym h.0) q.consistent in
      let others = one_rise (last_text old.first p.nth.before) p.new_layers q.new_layers p.consistent rise lists words in
      let same : new ≡ another = p.new_is ∙ (λ i. record { first = old.first; layers = h.0 i ++ others i }) ∙ sym q.new_is in
      (p.done_is ∙ ap (λ (x : History). done (texts_differ (top_text x) (top_text old)) 0 0) same ∙ sym q.done_is, same)

  -- ---- what excludes what

  out_or_stuck : (R : EditList → EditList → Type 0) → Excludes R → (n k : ℕ) (old new : History) (d : Done) → RemovesLayer n old d new → FailsAfter n (records_in old.layers) k R → ⊥
  unfolding record_nth
  out_or_stuck R ex n k old new d p s =
      passed_or_stuck one_swap R ex n k (records_in old.layers) (record_nth n old.layers p.nth) (edits_of (records_in p.new_layers)) p.moved_edits p.is_moved s

  -- the reasons for which no record is removed
  abbrev Ways : ℕ → List JournalEntry → Fault → Type 0
  Ways n rs f = ((f ≡ NoRecord) × ((n ≡ 0) ⊎ (length rs < n)))
      ⊎ (((f ≡ TooLong) × (k : ℕ) × FailsAfter n rs k SwapIsTooLong) ⊎ ((k : ℕ) × (f ≡ Blocked (n + k + 1)) × FailsAfter n rs k SomeMeet))

  ways : (n : ℕ) (rs : List JournalEntry) (f : Fault) → CannotRemove n rs f → Ways n rs f
  ways n rs TooLong h = inr (inl (refl, h.0, h.1))
  ways n rs NoRecord h = inl (refl, h)
  ways n rs (Blocked number) h = inr (inr (h.0, ap (λ (m : ℕ). Blocked m) h.2, h.1))
  ways n rs _ h = absurd h

  same_way : (n : ℕ) (rs : List JournalEntry) (f g : Fault) → Ways n rs f → Ways n rs g → f ≡ g
  same_way n rs f g (inl p) (inl q) = p.0 ∙ sym q.0
  same_way n rs f g (inl p) (inr (inl q)) = absurd (there_is n rs q.2.nth p.1)
  same_way n rs f g (inl p) (inr (inr q)) = absurd (there_is n rs q.2.nth p.1)
  same_way n rs f g (inr (inl p)) (inl q) = absurd (there_is n rs p.2.nth q.1)
  same_way n rs f g (inr (inl p)) (inr (inl q)) = p.0 ∙ sym q.0
  same_way n rs f g (inr (inl p)) (inr (inr q)) = let s = stuck_same one_swap SomeMeet SwapIsTooLong met_excludes overflows_excludes n q.0 p.1 rs q.2 p.2 in absurd (met_or_overflows s.1 s.2 s.3 s.4)
  same_way n rs f g (inr (inr p)) (inl q) = absurd (there_is n rs p.2.nth q.1)
  same_way n rs f g (inr (inr p)) (inr (inl q)) = let s = stuck_same one_swap SomeMeet SwapIsTooLong met_excludes overflows_excludes n p.0 q.1 rs p.2 q.2 in absurd (met_or_overflows s.1 s.2 s.3 s.4)
  same_way n rs f g (inr (inr p)) (inr (inr q)) = let s = stuck_same one_swap SomeMeet SomeMeet met_excludes met_excludes n p.0 q.0 rs p.2 q.2 in p.1 ∙ ap (λ (k : ℕ). Blocked (n + k + 1)) s.0 ∙ sym q.1

  out_or_way : (n : ℕ) (old new : History) (d : Done) (f : Fault) → RemovesLayer n old d new → Ways n (records_in old.layers) f → ⊥
  out_or_way n old new d f p (inl q) = there_is n (records_in old.layers) (record_nth n old.layers p.nth) q.1
  out_or_way n old new d f p (inr (inl q)) = out_or_stuck SwapIsTooLong overflows_excludes n q.1 old new d p q.2
  out_or_way n old new d f p (inr (inr q)) = out_or_stuck SomeMeet met_excludes n q.0 old new d p q.2

  pub take_has_one_answer : TakeResultIsUnique
  take_has_one_answer n old (Ok d) (Ok e) new another p q = let h = one_out n old d e new another p q in (ap (λ (x : Done). Ok x) h.0, h.1)
  take_has_one_answer n old (Ok d) (Err f) new another p q = absurd (out_or_way n old new d f p (ways n (records_in old.layers) f q.0))
  take_has_one_answer n old (Err f) (Ok e) new another p q = absurd (out_or_way n old another e f q (ways n (records_in old.layers) f p.0))
  take_has_one_answer n old (Err f) (Err g) new another p q =
      (ap (λ (x : Fault). Err x) (same_way n (records_in old.layers) f g (ways n (records_in old.layers) f p.0) (ways n (records_in old.layers) g q.0)), p.1 ∙ sym q.1)
