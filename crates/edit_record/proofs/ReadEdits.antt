-- The loop over the edits of a list: what is read, and what is still to be read.
use Rattle.std.proofs.Common.{◌≡◌, ℕ, ◌+◌, ◌-◌, ◌≤◌, ◌<◌, List, [], ◌∷◌, ◌++◌, Ok, true, inr, subst, sym, ◌⊎◌}
use Rattle.edit_record.specs.Lists.Pieces.{EditEntry}
use Rattle.edit_record.specs.Parsing.{repeat_at, edit_at}
use Rattle.edit_record.specs.declared.edit_sums.EditSums.{EditSums}
use Rattle.edit_record.specs.Inner.Allocating.{edits_allocate}
use Rattle.edit_record.specs.Inner.EditSums.{AreSummedUp}
use Rattle.edit_record.proofs.Allocating.{edit_taken}
use Rattle.edit_record.proofs.Many.{with_prefix, one_more}

pub record HasRead (count : ℕ) (text : List ℕ) (i : ℕ) (rest : List ℕ) (es : List EditEntry) (s : EditSums) : Type 0 where
  pub same : with_prefix es (repeat_at edit_at (count - i) rest) ≡ repeat_at edit_at count text
  pub fewer : s.removed ≤ s.end
  pub summed : AreSummedUp es s
  pub begun : (rest ≡ text) ⊎ (edits_allocate count text ≡ true)

pub read_one : (count i : ℕ) (text rest after : List ℕ) (es new : List EditEntry) (x : EditEntry) (s t : EditSums) → HasRead count text i rest es s → i < count → new ≡ es ++ x ∷ [] → edit_at rest ≡ Ok (x, after) → t.removed ≤ t.end
    → (AreSummedUp es s → AreSummedUp (es ++ x ∷ []) t) → HasRead count text (i + 1) after new t
read_one count i text rest after es new x s t h lt pushed read fewer summed = record {
  same = subst (λ (xs : List EditEntry). with_prefix xs (repeat_at edit_at (count - (i + 1)) after) ≡ repeat_at edit_at count text) (sym pushed)
      (one_more edit_at es count i rest (repeat_at edit_at count text) x after lt read h.same);
  fewer = fewer;
  summed = subst (λ (xs : List EditEntry). AreSummedUp xs t) (sym pushed) (summed h.summed);
  begun = inr (edit_taken i count rest text (x, after) lt h.begun read);
}
