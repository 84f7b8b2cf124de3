-- One record has gone before the edits.
use Rattle.std.proofs.Common.{◌≡◌, ◌↔◌, ℕ, ◌+◌, ◌-◌, ◌≤◌, List, [], ◌∷◌, length, Bool, true, false, refl, arith, sym, ap, ◌∙◌, subst}
use Rattle.std.proofs.lemmas.Bool.{false≢true}
use Rattle.edit_record.specs.declared.lists.edits.TheConstants.{MAX_TEXT}
use Rattle.edit_record.specs.Lists.Pieces.{EditEntry, EditList, as_list, removed_len, added_len}
use Rattle.edit_record.specs.Lists.Validity.{AreValidEdits, new_len}
use Rattle.edit_record.specs.Swaps.Swap.{SwapTo, ExceedsLimit, IsWithinLimit}
use Rattle.edit_record.specs.Swaps.Inner.RelativeEnds.{ends_of}
use Rattle.edit_record.specs.Swaps.Inner.EditEnds.{with_ends, ends_at}
use Rattle.edit_record.specs.Swaps.Inner.MovingEditsView.{edits_now, IsWellFormed, HasMovedPast}
use Rattle.edit_record.specs.declared.swaps.moving_edits.MovingEdits.{MovingEdits}
use Rattle.edit_record.proofs.SwapsLemmas.SwapSteps.{before_made, after_made, is_swap, fits}
use Rattle.edit_record.proofs.SwapsLemmas.RelativeEnds.RelativeEndsLemmas.{ends_len}
use Rattle.edit_record.proofs.SwapsLemmas.RelativeEnds.SetPlaces.{SameTexts, moved_texts, placed_texts, same_texts_on, placed_back}

pub moving_follows : (m : MovingEdits) (b : EditList) (k : ℕ) → IsWellFormed m → k ≡ b.old_len → m.new_len ≡ k → new_len (edits_now m) ≡ b.old_len
moving_follows m b k h is same = let n = h.made.new in omega (arith, n, is, same)

-- a text that is not too long
pub short_enough : (m : MovingEdits) (b : EditList) (over : Bool) → (over ≡ true) ↔ ExceedsLimit (edits_now m) b → over ≡ false → IsWithinLimit (edits_now m) b
short_enough m b over is e =
    let none : ExceedsLimit (edits_now m) b → ⊥ = λ l. false≢true (sym e ∙ is.1 l) in
    omega arith

module _ (m n : MovingEdits) (b : EditList) (us : List EditEntry) (moving : IsWellFormed m) (follows : new_len (edits_now m) ≡ b.old_len) (w : HasMovedPast (edits_now m) b us m n) (x y : ℕ) (x_is : x + removed_len b.entries ≡ b.old_len + added_len b.entries) (y_is : y ≡ b.old_len) where
  within : n.old_len + x ≤ MAX_TEXT + y → IsWithinLimit (edits_now m) b
  within le = let o = w.old_len in omega (arith, o, le, x_is, y_is)

  len_is : (n.old_len + x) - y ≡ m.old_len - w.place.old + w.place.other
  len_is = let o = w.old_len in let l = w.exchange.len in omega (arith, o, l, x_is, y_is)

  pub made_before : n.old_len + x ≤ MAX_TEXT + y → AreValidEdits n.old_len ((n.old_len + x) - y) us
  made_before le =
      before_made (edits_now m) b w.place follows w.exchange ((n.old_len + x) - y) len_is (fits (edits_now m) b w.place w.exchange ((n.old_len + x) - y) len_is (within le)) n.old_len us w.old_len (sym w.us_are)

  texts : SameTexts w.place.vs n.edits.items
  texts =
      let l = ends_len m.ends.items in
      let k = moving.len in
      let one = moved_texts _ _ _ _ w.exchange.firsts in
      let two = placed_texts m.edits.items (ends_of m.ends.items) (omega (arith, l, k)) in
      subst (λ (z : List EditEntry). SameTexts w.place.vs z) (sym w.edits) (same_texts_on w.place.vs (with_ends m.edits.items (ends_of m.ends.items)) m.edits.items one two)

  placed_now : with_ends n.edits.items (ends_of n.ends.items) ≡ w.place.vs
  placed_now = ap (with_ends n.edits.items) w.ends ∙ placed_back 0 0 n.edits.items w.place.vs texts

  pub has_moved : n.old_len + x ≤ MAX_TEXT + y → (k : MovingEdits) (z : ℕ) (before : EditList) → k.old_len ≡ (n.old_len + x) - y → k.new_len ≡ z → z + removed_len b.entries ≡ b.old_len + added_len b.entries → k.edits.items ≡ n.edits.items → k.ends.items ≡ n.ends.items → before ≡ as_list n.old_len us
      → SwapTo (edits_now m) b before (edits_now k) × IsWellFormed k
  has_moved le k z before old_is new_is z_is edits_are ends_are before_is =
      let len = (n.old_len + x) - y in
      let small = fits (edits_now m) b w.place w.exchange len len_is (within le) in
      let vs_now : with_ends k.edits.items (ends_of k.ends.items) ≡ w.place.vs = (λ i. with_ends (edits_are i) (ends_of (ends_are i))) ∙ placed_now in
      let list_is : edits_now k ≡ as_list len w.place.vs = λ i. as_list (old_is i) (vs_now i) in
      let made : AreValidEdits len z w.place.vs = after_made (edits_now m) b w.place follows w.exchange len len_is small z w.place.vs z_is refl in
      let el = ap length ends_are in
      let dl = ap length edits_are in
      let wl = w.len in
      let ml = moving.len in
      let we = ap length w.edits in (
        record {
          lengths_match = follows;
          apart = w.exchange.apart;
          within = within le;
          swap = is_swap (edits_now m) b w.place follows w.exchange len len_is small n.old_len us w.place.vs before (edits_now k) w.old_len (sym w.us_are) refl before_is list_is;
        },
        record {
          made = subst (λ (l : List EditEntry). AreValidEdits k.old_len k.new_len l) (sym vs_now) (subst (λ (o : ℕ). AreValidEdits o k.new_len w.place.vs) (sym old_is) (subst (λ (o : ℕ). AreValidEdits len o w.place.vs) (sym new_is) made));
          ends = ap ends_of ends_are ∙ w.ends ∙ ap (ends_at 0 0) (sym vs_now);
          len = omega (arith, el, dl, wl, ml, we);
        },
      )

texts_same : (es : List EditEntry) → SameTexts es es
texts_same [] = tt
texts_same (e ∷ es) = (refl, refl, texts_same es)

-- edits whose ends have been found
pub made_moving : (m : MovingEdits) (e : EditList) → m.old_len ≡ e.old_len → m.new_len + removed_len e.entries ≡ e.old_len + added_len e.entries → m.edits.items ≡ e.entries → AreValidEdits e.old_len (new_len e) m.edits.items
    → ends_of m.ends.items ≡ ends_at 0 0 e.entries → length m.ends.items ≡ length e.entries → (edits_now m ≡ e) × IsWellFormed m
made_moving m e old_is new_is edits_are made ends_are len =
    let now : with_ends m.edits.items (ends_of m.ends.items) ≡ e.entries = (λ i. with_ends (edits_are i) (ends_are i)) ∙ placed_back 0 0 e.entries e.entries (texts_same e.entries) in
    let n : new_len e ≡ m.new_len = omega (arith, new_is) in
    let same = subst (λ (l : List EditEntry). AreValidEdits e.old_len (new_len e) l) edits_are made in
    let l = ap length edits_are in (
      (λ i. as_list (old_is i) (now i)),
      record {
        made = subst (λ (z : List EditEntry). AreValidEdits m.old_len m.new_len z) (sym now) (subst (λ (o : ℕ). AreValidEdits o m.new_len e.entries) (sym old_is) (subst (λ (k : ℕ). AreValidEdits e.old_len k e.entries) n same));
        ends = ends_are ∙ ap (ends_at 0 0) (sym now);
        len = omega (arith, len, l);
      },
    )
