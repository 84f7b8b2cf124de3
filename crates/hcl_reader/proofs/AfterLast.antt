-- After the last token nothing is read.
use Rattle.std.proofs.Common.{◌≡◌, ℕ, zero, suc, ◌≤◌, Bool, true, false, List, [], ◌∷◌, length, slice_get, Option, Some, None, option_map, refl, ap, arith}
use Rattle.std.proofs.lemmas.Option.{slice_get_past}
use Rattle.hcl_grammar.specs.Pure.Reading.{next_is_word}
use Rattle.hcl_grammar.specs.Tokens.{Token, next_index, next_token, next_kind, after_next}
use Rattle.hcl_reader.proofs.Places.{unread}

no_kind : (o : Option Token) → option_map (λ (t : Token). t.0) o ≡ None → o ≡ None
no_kind None h = refl
no_kind (Some t) h = absurd (cc)

-- where there is no token, the list has ended
beyond : (ts : List Token) (i : ℕ) → slice_get ts i ≡ None → length ts ≤ i
beyond [] i h = omega arith
beyond (t ∷ ts) zero h = absurd (cc)
beyond (t ∷ ts) (suc i) h = omega (arith, beyond ts i h)

from_there : (ts : List Token) (m : Bool) (i : ℕ) → i ≤ next_index ts m i
unfolding next_index
from_there ts m i = omega arith

expect_end : (ts : List Token) (m : Bool) (i : ℕ) → length ts ≤ i → next_kind ts m i ≡ None
unfolding next_kind next_token
expect_end ts m i h = ap (option_map (λ (t : Token). t.0)) (slice_get_past ts (next_index ts m i) (omega (arith, h, from_there ts m i)))

-- where no token comes next, no word follows it
pub nothing_after : (ts : List Token) (m : Bool) (w : List ℕ) (i : ℕ) → next_kind ts m i ≡ None → next_is_word ts true w (after_next ts m i) ≡ false
unfolding next_kind next_token after_next
nothing_after ts m w i h = unread ts true w (suc (next_index ts m i)) (expect_end ts true (suc (next_index ts m i)) (omega (arith, beyond ts (next_index ts m i) (no_kind (slice_get ts (next_index ts m i)) h))))
