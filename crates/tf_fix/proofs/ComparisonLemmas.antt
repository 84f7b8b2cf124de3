-- One turn of the loop over replacements.
use Rattle.std.proofs.Common.{◌≡◌, ℕ, ◌+◌, ◌-◌, ◌*◌, ◌≤◌, List, [], ◌∷◌, ◌++◌, length, take, drop, slice_range, slice_index_or, sym, ap, ◌∙◌, arith, append_assoc}
use Rattle.std.proofs.lemmas.List.{take_all}
use Rattle.edit_record.specs.Lists.Pieces.{EditEntry, changed_entries}
use Rattle.hcl_token.specs.Tokens.{Pair}
use Rattle.tf_fix.specs.Edits.Parts.{TextPart, parts_of, text_of_parts, boundary_index}
use Rattle.tf_fix.specs.JoinedTokens.{Prev}
use Rattle.tf_fix.specs.Edits.SettledSpaces.{prev_of_parts}
use Rattle.tf_fix.specs.Edits.Replacements.{Replacement, AreReplacementsInOrder, added, stays_until, pieces_from}
use Rattle.tf_fix.specs.Inner.Views.{next_index, replacement_parts, replacements, HaveBytes}
use Rattle.tf_fix.specs.declared.splice.Replacement.{Replacement as Replacing}
use Rattle.tf_fix.proofs.PartLemmas.{length_written, staying_is}

pub order_le : (at : ℕ) (rs : List Replacement) (end : ℕ) → AreReplacementsInOrder at rs end → at ≤ end
order_le at [] end o = o
order_le at (r ∷ rs) end o = let rest = order_le r.to rs end o.2 in omega (arith, o.0, o.1, rest)

pub order_next : (at : ℕ) (rs : List Replacement) (end : ℕ) → AreReplacementsInOrder at rs end → (at ≤ next_index (end + 1) rs) × (next_index (end + 1) rs ≤ end + 1)
order_next at [] end o = (omega (arith, o), omega arith)
order_next at (r ∷ rs) end o = let rest = order_le r.to rs end o.2 in (o.0, omega (arith, o.1, rest))

pub split_first : {X : Type 0} (xs : List X) (d : X) → 1 ≤ length xs → xs ≡ slice_index_or xs 0 d ∷ take (length xs - 1) (drop 1 xs)
split_first [] d some = absurd (omega (arith, some))
split_first (x ∷ xs) d some = ap (λ t. x ∷ t) (sym (take_all (length (x ∷ xs) - 1) xs (omega arith)))

pub first_change : (xs : List TextPart) (prev : Prev) (at : ℕ) (r : Replacement) (rs : List Replacement) → at ≤ r.from → r.from ≤ r.to
    → changed_entries (length (text_of_parts (take at xs))) (pieces_from prev at xs (r ∷ rs))
    ≡ record {
      at = length (text_of_parts (take r.from xs));
      removed = text_of_parts (slice_range xs r.from r.to);
      added = added (prev_of_parts prev (slice_range xs at r.from)) r.inserted_parts (stays_until r.to xs rs);
    } ∷ changed_entries (length (text_of_parts (take r.to xs))) (pieces_from (prev_of_parts (prev_of_parts prev (slice_range xs at r.from)) r.inserted_parts) r.to xs rs)
first_change xs prev at r rs kept slice_written =
    let there = prev_of_parts prev (slice_range xs at r.from) in
    let more = pieces_from (prev_of_parts there r.inserted_parts) r.to xs rs in
    let change : ℕ → EditEntry = λ n. record { at = n; removed = text_of_parts (slice_range xs r.from r.to); added = added there r.inserted_parts (stays_until r.to xs rs) } in
    ap (λ n. change n ∷ changed_entries (n + length (text_of_parts (slice_range xs r.from r.to))) more) (sym (length_written xs at r.from kept))
    ∙ ap (λ n. change (length (text_of_parts (take r.from xs))) ∷ changed_entries n more) (sym (length_written xs r.from r.to slice_written))

-- what the loop keeps
abbrev pub IsCompared : List Pair → List ℕ → List EditEntry → List EditEntry → Prev → ℕ → List Replacing → Type 0
IsCompared pairs last whole done prev at left =
    (done ++ changed_entries (length (text_of_parts (take at (parts_of pairs last)))) (pieces_from prev at (parts_of pairs last) (replacements pairs left)) ≡ whole)
    × AreReplacementsInOrder at (replacements pairs left) (2 * length pairs)
    × HaveBytes pairs left

pub loop_step : (pairs : List Pair) (last : List ℕ) (whole done : List EditEntry) (e : EditEntry) (prev there : Prev) (at : ℕ) (one : Replacing) (rest : List Replacing)
    → IsCompared pairs last whole done prev at (one ∷ rest)
    → there ≡ prev_of_parts prev (slice_range (parts_of pairs last) at (boundary_index one.from))
    → e ≡ record {
      at = length (text_of_parts (take (boundary_index one.from) (parts_of pairs last)));
      removed = text_of_parts (slice_range (parts_of pairs last) (boundary_index one.from) (boundary_index one.to));
      added = added there (replacement_parts pairs one.from one.to one.first one.insertion) (slice_range (parts_of pairs last) (boundary_index one.to) (next_index (2 * length pairs + 1) (replacements pairs rest)));
    }
    → IsCompared pairs last whole (done ++ e ∷ []) (prev_of_parts there (replacement_parts pairs one.from one.to one.first one.insertion)) (boundary_index one.to) rest
loop_step pairs last whole done e prev there at one rest compared near_is e_is =
    let xs = parts_of pairs last in
    let stay = staying_is pairs last (boundary_index one.to) (replacements pairs rest) in
    let next = first_change xs prev at (record { from = boundary_index one.from; to = boundary_index one.to; inserted_parts = replacement_parts pairs one.from one.to one.first one.insertion }) (replacements pairs rest) compared.1.0 compared.1.1 in
    let said : done ++ (e ∷ changed_entries (length (text_of_parts (take (boundary_index one.to) xs))) (pieces_from (prev_of_parts there (replacement_parts pairs one.from one.to one.first one.insertion)) (boundary_index one.to) xs (replacements pairs rest))) ≡ whole =
    rw (e_is, ← stay, near_is, ← next) compared.0 in
    (append_assoc done (e ∷ []) _ ∙ said, compared.1.2, compared.2.1)
