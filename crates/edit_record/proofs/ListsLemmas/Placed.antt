-- Where the edits of a list lie.
use Rattle.std.proofs.Common.{◌≡◌, ℕ, ◌+◌, ◌-◌, ◌≤◌, ◌<◌, List, [], ◌∷◌, length, drop, get_or, arith, sym, ap, ◌∙◌}
use Rattle.std.proofs.lemmas.List.{drop_more}
use Rattle.edit_record.specs.declared.lists.direction.Direction.{Direction}
use Rattle.edit_record.specs.declared.lists.direction.Direction.TheVariants.{Forward, Backward}
use Rattle.edit_record.specs.Lists.Pieces.{EditEntry, removed_len, added_len}
use Rattle.edit_record.specs.Lists.Validity.{AreDisjoint}
use Rattle.edit_record.specs.Lists.Apply.{read_bytes}

-- what a read of the element at i says of the rest
pub drop_item : {X : Type 0} (xs : List X) (i : ℕ) (x : X) → i < length xs → x ≡ get_or xs i x → drop i xs ≡ x ∷ drop (i + 1) xs
drop_item xs i x lt is = drop_more xs i x lt ∙ ap (λ y. y ∷ drop (i + 1) xs) (sym is)

pub placed_within : (old_len from : ℕ) (es : List EditEntry) → AreDisjoint old_len from es → from + removed_len es ≤ old_len
placed_within old_len from [] p = omega (arith, p)
placed_within old_len from (e ∷ es) p = let r = placed_within old_len (e.at + length e.removed) es p.1 in let q = p.0.later in omega arith

-- how long the rest of the text is, from the old place from
abbrev pub SpaceLeft : Direction → ℕ → ℕ → ℕ → List EditEntry → Type 0
SpaceLeft Forward old_len from len es = from + len ≡ old_len
SpaceLeft Backward old_len from len es = from + len + removed_len es ≡ old_len + added_len es

-- the next gap and the bytes after it are within the rest of the text
pub record HasSpace (direction : Direction) (old_len from len : ℕ) (e : EditEntry) (es : List EditEntry) : Type 0 where
  pub later : from ≤ e.at
  pub fits : (e.at - from) + length (read_bytes direction e) ≤ len
  pub next : SpaceLeft direction old_len (e.at + length e.removed) (len - (e.at - from) - length (read_bytes direction e)) es

pub has_space : (direction : Direction) (old_len from len : ℕ) (e : EditEntry) (es : List EditEntry) → AreDisjoint old_len from (e ∷ es) → SpaceLeft direction old_len from len (e ∷ es) → HasSpace direction old_len from len e es
has_space Forward old_len from len e es p r =
    let q = p.0.later in let w = p.0.within in
    record { later = q; fits = omega (arith, r); next = omega (arith, r) }
has_space Backward old_len from len e es p r =
    let q = p.0.later in let w = p.0.within in
    let m = placed_within old_len (e.at + length e.removed) es p.1 in
    record { later = q; fits = omega (arith, r); next = omega (arith, r) }
