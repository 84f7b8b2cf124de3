-- What the code reads of the tokens next to a place.
use Rattle.std.proofs.Common.{◌≡◌, ◌↔◌, ℕ, ◌+◌, ◌-◌, ◌*◌, ◌≤◌, ◌<◌, ◌==◌, nat_lt, Bool, true, false, IsTrue, List, [], ◌∷◌, length, take, drop, slice_range, slice_get, Some, None, refl, sym, ap, ◌∙◌, arith}
use Rattle.std.specs.Option.{option_map}
use Rattle.std.proofs.lemmas.Bool.{ltb-true, ltb-false}
use Rattle.hcl_token.specs.declared.item.Item.{Item}
use Rattle.hcl_token.specs.declared.kind.Kind.{Kind}
use Rattle.hcl_token.specs.TokenizedText.{item_of, item_after, kind_of, spelling_of, gap_of}
use Rattle.hcl_token.specs.Tokens.{Pair}
use Rattle.tf_fix.specs.Edits.Parts.{parts_of, text_of_parts}
use Rattle.tf_fix.specs.Edits.Parts.TextPart.{Gap, Token}
use Rattle.tf_fix.specs.JoinedTokens.{Prev, joins_prev}
use Rattle.tf_fix.specs.Edits.SettledSpaces.{prev_of_parts, is_glued}
use Rattle.tf_fix.specs.Inner.Views.{prev_at}
use Rattle.tf_fix.proofs.PartLemmas.{known, range_last, gap_and_token_first, token_first, parts_drop, start_text, stop_text, after_token, after_empty, prev_after_whitespace, glued_gap, glued_empty, glued_whitespace, glued_token}

pub is_not : (b : Bool) {P : Type 0} → IsTrue b ↔ P → b ≡ false → P → ⊥
is_not b both f p = absurd (cc (both.1 p, f))

pub start_at : (pairs : List Pair) (last : List ℕ) (i : ℕ) (item : Item) → i < length pairs → Some item ≡ item_of pairs i
    → item.start ≡ length (text_of_parts (take (2 * i + 1) (parts_of pairs last)))
start_at pairs last i item lt result_is =
    let (p, found, leading) = known pairs i lt in
    let is : Some item ≡ Some (item_after (take i pairs) p) = result_is ∙ ap (option_map (λ (q : Pair). item_after (take i pairs) q)) found in
    let same : item ≡ item_after (take i pairs) p = cc is in
    ap (λ (x : Item). x.start) same ∙ ap length (sym (start_text pairs last i p found))

pub stop_at : (pairs : List Pair) (last : List ℕ) (i : ℕ) (item : Item) → i < length pairs → Some item ≡ item_of pairs i
    → item.stop ≡ length (text_of_parts (take (2 * i + 2) (parts_of pairs last)))
stop_at pairs last i item lt result_is =
    let (p, found, leading) = known pairs i lt in
    let is : Some item ≡ Some (item_after (take i pairs) p) = result_is ∙ ap (option_map (λ (q : Pair). item_after (take i pairs) q)) found in
    let same : item ≡ item_after (take i pairs) p = cc is in
    ap (λ (x : Item). x.stop) same ∙ ap length (sym (stop_text pairs last i p found))

strictly : (n m : ℕ) → n ≤ m → (n ≡ m → ⊥) → n < m
strictly n m le other = elim (nat_lt n m) as (λ b. nat_lt n m ≡ b → n < m) [
  | true ↦ λ e. ltb-true n m e
  | false ↦ λ e. absurd (other (omega (arith, le, ltb-false n m e)))
] refl

-- a gap with a token before it
pub prev_token : (pairs : List Pair) (last : List ℕ) (prev : Prev) (from i : ℕ) (view : Prev) → from ≤ 2 * i → (from ≡ 2 * i → ⊥) → i ≤ length pairs
    → Some view ≡ option_map prev_at (slice_get pairs (i - 1)) → view ≡ prev_of_parts prev (slice_range (parts_of pairs last) from (2 * i))
prev_token pairs last prev from i view le other within result_is =
    let some : from < 2 * i = strictly from (2 * i) le other in
    let (p, found, leading) = known pairs (i - 1) (omega (arith, some, within)) in
    let is : Some view ≡ Some (prev_at p) = result_is ∙ ap (option_map prev_at) found in
    let same : view ≡ prev_at p = cc is in
    let two : 2 * i ≡ 2 * (i - 1) + 1 + 1 = omega (arith, some) in
    let whole = range_last (parts_of pairs last) from (2 * (i - 1) + 1) (Token p.kind p.spelling) _ (omega (arith, some)) (token_first pairs last (i - 1) p found) in
    same ∙ sym (after_token prev (slice_range (parts_of pairs last) from (2 * (i - 1) + 1)) p.kind p.spelling) ∙ ap (prev_of_parts prev) (sym whole) ∙ ap (λ k. prev_of_parts prev (slice_range (parts_of pairs last) from k)) (sym two)

pub prev_empty : (pairs : List Pair) (last : List ℕ) (prev : Prev) (from i : ℕ) (gap : List ℕ) (view : Prev) → from ≤ 2 * i → i < length pairs
    → Some gap ≡ gap_of pairs i → gap ≡ [] → view ≡ prev_of_parts prev (slice_range (parts_of pairs last) from (2 * i))
    → view ≡ prev_of_parts prev (slice_range (parts_of pairs last) from (2 * i + 1))
prev_empty pairs last prev from i gap view le lt result_is empty same =
    let (p, found, leading) = known pairs i lt in
    let is : Some gap ≡ Some p.gap = result_is ∙ ap (option_map (λ (q : Pair). q.gap)) found in
    let none : p.gap ≡ [] = cc (is, empty) in
    let whole = range_last (parts_of pairs last) from (2 * i) (Gap p.gap) _ le (gap_and_token_first pairs last i p found) in
    same ∙ sym (after_empty prev (slice_range (parts_of pairs last) from (2 * i)) p.gap none) ∙ ap (prev_of_parts prev) (sym whole)

pub prev_whitespace : (pairs : List Pair) (last : List ℕ) (prev : Prev) (from i : ℕ) (gap : List ℕ) → from ≤ 2 * i → i < length pairs
    → Some gap ≡ gap_of pairs i → (gap ≡ [] → ⊥) → None ≡ prev_of_parts prev (slice_range (parts_of pairs last) from (2 * i + 1))
prev_whitespace pairs last prev from i gap le lt result_is some =
    let (p, found, leading) = known pairs i lt in
    let is : Some gap ≡ Some p.gap = result_is ∙ ap (option_map (λ (q : Pair). q.gap)) found in
    let same : gap ≡ p.gap = cc is in
    let whole = range_last (parts_of pairs last) from (2 * i) (Gap p.gap) _ le (gap_and_token_first pairs last i p found) in
    sym (ap (prev_of_parts prev) whole ∙ prev_after_whitespace prev (slice_range (parts_of pairs last) from (2 * i)) p.gap (λ e. some (same ∙ e)))

-- whether the neighbor joins with the token after it
read_token : (pairs : List Pair) (i : ℕ) (p : Pair) (kind : Kind) (spelling : List ℕ) → slice_get pairs i ≡ Some p → Some kind ≡ kind_of pairs i
    → Some spelling ≡ spelling_of pairs i → (prev : Prev) → joins_prev prev kind spelling ≡ joins_prev prev p.kind p.spelling
read_token pairs i p kind spelling found k s prev =
    let k_is : Some kind ≡ Some p.kind = k ∙ ap (option_map (λ (q : Pair). q.kind)) found in
    let s_is : Some spelling ≡ Some p.spelling = s ∙ ap (option_map (λ (q : Pair). q.spelling)) found in
    let k_same : kind ≡ p.kind = cc k_is in
    let s_same : spelling ≡ p.spelling = cc s_is in
    rw (k_same, s_same) refl

pub glued_after_gap : (pairs : List Pair) (last : List ℕ) (prev : Prev) (i to : ℕ) (gap : List ℕ) (kind : Kind) (spelling : List ℕ) → i < length pairs → 2 * i + 2 ≤ to
    → Some gap ≡ gap_of pairs i → gap ≡ [] → Some kind ≡ kind_of pairs i → Some spelling ≡ spelling_of pairs i
    → joins_prev prev kind spelling ≡ is_glued prev (slice_range (parts_of pairs last) (2 * i) to)
glued_after_gap pairs last prev i to gap kind spelling lt past result_is empty k s =
    let (p, found, leading) = known pairs i lt in
    let is : Some gap ≡ Some p.gap = result_is ∙ ap (option_map (λ (q : Pair). q.gap)) found in
    let none : p.gap ≡ [] = cc (is, empty) in
    read_token pairs i p kind spelling found k s prev
    ∙ sym (ap (λ t. is_glued prev (take (to - 2 * i) t)) (gap_and_token_first pairs last i p found) ∙ glued_empty prev p.gap p.kind p.spelling (to - 2 * i) _ (omega (arith, past)) none)

pub glued_after_whitespace : (pairs : List Pair) (last : List ℕ) (prev : Prev) (i to : ℕ) (gap : List ℕ) → i < length pairs
    → Some gap ≡ gap_of pairs i → (gap ≡ [] → ⊥) → false ≡ is_glued prev (slice_range (parts_of pairs last) (2 * i) to)
glued_after_whitespace pairs last prev i to gap lt result_is some =
    let (p, found, leading) = known pairs i lt in
    let is : Some gap ≡ Some p.gap = result_is ∙ ap (option_map (λ (q : Pair). q.gap)) found in
    let same : gap ≡ p.gap = cc is in
    sym (ap (λ t. is_glued prev (take (to - 2 * i) t)) (gap_and_token_first pairs last i p found) ∙ glued_whitespace prev p.gap (to - 2 * i) _ (λ e. some (same ∙ e)))

few : (n m : ℕ) → (n + 2 ≤ m → ⊥) → m - n ≤ 1
few n m short = elim (nat_lt (n + 1) m) as (λ b. nat_lt (n + 1) m ≡ b → m - n ≤ 1) [
  | true ↦ λ e. absurd (short (omega (arith, ltb-true (n + 1) m e)))
  | false ↦ λ e. omega (arith, ltb-false (n + 1) m e)
] refl

pub glued_short : (pairs : List Pair) (last : List ℕ) (prev : Prev) (i to : ℕ) → i ≤ length pairs → (2 * i + 2 ≤ to → ⊥)
    → false ≡ is_glued prev (slice_range (parts_of pairs last) (2 * i) to)
glued_short pairs last prev i to le short =
    let less : to - 2 * i ≤ 1 = few (2 * i) to short in
    sym (ap (λ t. is_glued prev (take (to - 2 * i) t)) (parts_drop pairs last i le) ∙ glued_gap prev (to - 2 * i) (drop i pairs) last less)

pub glued_after_token : (pairs : List Pair) (last : List ℕ) (prev : Prev) (i to : ℕ) (kind : Kind) (spelling : List ℕ) → i < length pairs → 2 * i + 2 ≤ to
    → Some kind ≡ kind_of pairs i → Some spelling ≡ spelling_of pairs i
    → joins_prev prev kind spelling ≡ is_glued prev (slice_range (parts_of pairs last) (2 * i + 1) to)
glued_after_token pairs last prev i to kind spelling lt past k s =
    let (p, found, leading) = known pairs i lt in
    read_token pairs i p kind spelling found k s prev
    ∙ sym (ap (λ t. is_glued prev (take (to - (2 * i + 1)) t)) (token_first pairs last i p found) ∙ glued_token prev p.kind p.spelling (to - (2 * i + 1)) _ (omega (arith, past)))

pub before_gap : (from i : ℕ) (b : Bool) → from ≤ 2 * i + 1 → IsTrue b ↔ (from ≡ 2 * i + 1) → b ≡ false → from ≤ 2 * i
before_gap from i b le both f = let some : from < 2 * i + 1 = strictly from (2 * i + 1) le (is_not b both f) in omega (arith, some)

pub empty_is : (xs : List ℕ) (b : Bool) → b ≡ (length xs == 0) → b ≡ true → xs ≡ []
empty_is [] b e is = refl
empty_is (x ∷ xs) b e is = absurd (grind (arith, e, is))

pub nonempty_is : (xs : List ℕ) (b : Bool) → b ≡ (length xs == 0) → b ≡ false → xs ≡ [] → ⊥
nonempty_is xs b e is none = absurd (grind (arith, e, is, ap length none))
