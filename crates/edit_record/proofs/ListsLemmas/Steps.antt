-- A step of the walk.
use Rattle.std.proofs.Common.{◌≡◌, ℕ, ◌+◌, ◌-◌, ◌≤◌, List, ◌∷◌, ◌++◌, length, take, drop, Bool, true, Result, Ok, Err, refl, sym, ap, ◌∙◌, append_assoc}
use Rattle.std.specs.Str.{bytes_eq}
use Rattle.std.proofs.lemmas.List.{take_rest}
use Rattle.edit_record.specs.declared.lists.change.Refused.{Refused}
use Rattle.edit_record.specs.declared.lists.direction.Direction.{Direction}
use Rattle.edit_record.specs.Lists.Pieces.{EditEntry}
use Rattle.edit_record.specs.Lists.Apply.{read_bytes, written_bytes, prepend, matches_at, walk}
use Rattle.edit_record.specs.Lists.Inner.WalkExact.{matches_at_is}

pub prepend-prepend : (a b : List ℕ) (r : Result (List ℕ) Refused) → prepend a (prepend b r) ≡ prepend (a ++ b) r
prepend-prepend a b (Ok x) = ap (λ (t : List ℕ). Ok t) (sym (append_assoc a b x))
prepend-prepend a b (Err e) = refl

pub walk_matches : (direction : Direction) (i from : ℕ) (e : EditEntry) (es : List EditEntry) (out t : List ℕ) → matches_at from e.at (read_bytes direction e) t ≡ true
    → prepend ((out ++ take (e.at - from) t) ++ written_bytes direction e) (walk direction (i + 1) (e.at + length e.removed) es (drop (length (read_bytes direction e)) (drop (e.at - from) t))) ≡ prepend out (walk direction i from (e ∷ es) t)
walk_matches direction i from e es out t s =
    rw (s, prepend-prepend, append_assoc) refl

-- One step, from what each call gives.
pub step_walks : (direction : Direction) (i from : ℕ) (e : EditEntry) (es : List EditEntry) (out kept after read put out2 t : List ℕ) (len : ℕ) (ok : Bool)
    → kept ≡ take (e.at - from) t → after ≡ drop (e.at - from) t → read ≡ read_bytes direction e → put ≡ written_bytes direction e → out2 ≡ (out ++ kept) ++ put → len ≡ length e.removed
    → ok ≡ bytes_eq read (take (length read) after) → ok ≡ true → from ≤ e.at → e.at - from ≤ length t
    → prepend out2 (walk direction (i + 1) (e.at + len) es (take (length after - length read) (drop (length read) after))) ≡ prepend out (walk direction i from (e ∷ es) t)
step_walks direction i from e es out kept after read put out2 t len ok kept_is after_is read_is put_is out2_is len_is ok_is test later within_len =
    let s : bytes_eq (read_bytes direction e) (take (length (read_bytes direction e)) (drop (e.at - from) t)) ≡ true = rw (← read_is, ← after_is) (sym ok_is ∙ test) in
    rw (take_rest, out2_is, len_is, kept_is, put_is, read_is, after_is) (walk_matches direction i from e es out t (matches_at_is from e.at (read_bytes direction e) t later within_len ∙ s))
