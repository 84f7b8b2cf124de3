-- The parts of a text by number.
use Rattle.std.proofs.Common.{◌≡◌, ℕ, zero, suc, ◌+◌, ◌-◌, ◌*◌, ◌≤◌, ◌<◌, false, List, [], ◌∷◌, ◌++◌, length, take, drop, slice_range, slice_get, Some, None, refl, sym, ap, ap₂, ◌∙◌, arith, length-append, length-drop, inl, inr}
use Rattle.std.proofs.lemmas.List.{append-nil, take-append-drop, take-take, drop-take, drop_more, take_all, drop-drop}
use Rattle.std.proofs.lemmas.List.Folds.{drop_split}
use Rattle.std.proofs.lemmas.Option.{slice_get_cases}
use Rattle.std.proofs.Math.Seq.{take-append_seam, drop-append_seam}
use Rattle.hcl_token.specs.declared.kind.Kind.{Kind}
use Rattle.hcl_token.specs.Tokens.{Pair, whole_text}
use Rattle.tf_fix.specs.Edits.Parts.{TextPart, parts_of, text_of_parts}
use Rattle.tf_fix.specs.Edits.Parts.TextPart.{Gap, Token}
use Rattle.tf_fix.specs.JoinedTokens.{Prev, joins_prev}
use Rattle.tf_fix.specs.Edits.SettledSpaces.{prev_of_parts, is_glued}
use Rattle.tf_fix.specs.Edits.Replacements.{Replacement, stays_until}
use Rattle.tf_fix.specs.Inner.Views.{next_index}
use Rattle.tf_fix.proofs.SettledLemmas.{written-append, after-append}

-- ---- slices

pub take_sum : {X : Type 0} (n a b : ℕ) (xs : List X) → n ≡ a + b → take n xs ≡ take a xs ++ take b (drop a xs)
take_sum n a b xs e =
    ap (λ k. take k xs) e ∙ sym (take-append-drop a (take (a + b) xs))
    ∙ ap₂ (λ s t. s ++ t) (take-take a (a + b) xs (omega arith)) (drop-take a b xs)

pub take_range : {X : Type 0} (xs : List X) (from to : ℕ) → from ≤ to → take to xs ≡ take from xs ++ slice_range xs from to
take_range xs from to le = take_sum to from (to - from) xs (omega (arith, le))

drop_again : {X : Type 0} (xs : List X) (from to : ℕ) → from ≤ to → drop (to - from) (drop from xs) ≡ drop to xs
drop_again xs from to le = drop-drop (to - from) from xs ∙ ap (λ k. drop k xs) (omega (arith, le))

-- one more at the end of a slice
pub range_last : {X : Type 0} (xs : List X) (from to : ℕ) (x : X) (rest : List X) → from ≤ to → drop to xs ≡ x ∷ rest
    → slice_range xs from (to + 1) ≡ slice_range xs from to ++ x ∷ []
range_last xs from to x rest le here =
    let whole : to + 1 - from ≡ (to - from) + 1 = omega (arith, le) in
    let split : drop from xs ≡ slice_range xs from to ++ drop to xs = drop_split xs from to le in
    let again : drop (to - from) (drop from xs) ≡ drop to xs = drop_again xs from to le in
    take_sum (to + 1 - from) (to - from) 1 (drop from xs) whole ∙ ap (λ t. slice_range xs from to ++ take 1 t) (again ∙ here)

-- the first of a slice
pub range_first : {X : Type 0} (xs : List X) (from to : ℕ) (x : X) (rest : List X) → from < to → drop from xs ≡ x ∷ rest
    → slice_range xs from to ≡ x ∷ take (to - from - 1) rest
range_first xs from to x rest lt here =
    let whole : to - from ≡ suc (to - from - 1) = omega (arith, lt) in
    ap (λ k. take k (drop from xs)) whole ∙ ap (λ t. take (suc (to - from - 1)) t) here

pub range_none : {X : Type 0} (xs : List X) (from to : ℕ) → to ≤ from → slice_range xs from to ≡ []
range_none xs from to le = let whole : to - from ≡ 0 = omega (arith, le) in ap (λ k. take k (drop from xs)) whole

-- ---- pairs by number

pub known : {X : Type 0} (xs : List X) (i : ℕ) → i < length xs → (x : X) × (slice_get xs i ≡ Some x) × (drop i xs ≡ x ∷ drop (i + 1) xs)
known xs i lt = elim (slice_get_cases xs i).1 [
  | inl (x, within, found, same) ↦ (x, found, rw (← same) (drop_more xs i x within))
  | inr (past, none) ↦ absurd (omega (arith, past, lt))
]

pub parts_length : (pairs : List Pair) (last : List ℕ) → length (parts_of pairs last) ≡ 2 * length pairs + 1
parts_length [] last = refl
parts_length (p ∷ ps) last = omega (arith, parts_length ps last)

pub parts_drop : (pairs : List Pair) (last : List ℕ) (i : ℕ) → i ≤ length pairs → drop (2 * i) (parts_of pairs last) ≡ parts_of (drop i pairs) last
parts_drop pairs last zero le = refl
parts_drop [] last (suc i) le = absurd (omega (arith, le))
parts_drop (p ∷ ps) last (suc i) le =
    let two : 2 * suc i ≡ suc (suc (2 * i)) = omega arith in
    ap (λ k. drop k (parts_of (p ∷ ps) last)) two ∙ parts_drop ps last i (omega (arith, le))

-- the gap and the token of this number, and what follows
pub gap_and_token_first : (pairs : List Pair) (last : List ℕ) (i : ℕ) (p : Pair) → slice_get pairs i ≡ Some p
    → drop (2 * i) (parts_of pairs last) ≡ Gap p.gap ∷ Token p.kind p.spelling ∷ drop (2 * i + 2) (parts_of pairs last)
gap_and_token_first [] last i p found = absurd (cc found)
gap_and_token_first (q ∷ ps) last zero p found = let same : q ≡ p = cc found in ap (λ (x : Pair). Gap x.gap ∷ Token x.kind x.spelling ∷ parts_of ps last) same
gap_and_token_first (q ∷ ps) last (suc i) p found =
    let two : 2 * suc i ≡ suc (suc (2 * i)) = omega arith in
    let four : 2 * suc i + 2 ≡ suc (suc (2 * i + 2)) = omega arith in
    ap (λ k. drop k (parts_of (q ∷ ps) last)) two ∙ gap_and_token_first ps last i p found
    ∙ ap (λ k. Gap p.gap ∷ Token p.kind p.spelling ∷ drop k (parts_of (q ∷ ps) last)) (sym four)

pub token_first : (pairs : List Pair) (last : List ℕ) (i : ℕ) (p : Pair) → slice_get pairs i ≡ Some p
    → drop (2 * i + 1) (parts_of pairs last) ≡ Token p.kind p.spelling ∷ drop (2 * i + 2) (parts_of pairs last)
token_first pairs last i p found =
    sym (drop-drop 1 (2 * i) (parts_of pairs last)) ∙ ap (drop 1) (gap_and_token_first pairs last i p found)

-- ---- what is before a place, as text

pub start_text : (pairs : List Pair) (last : List ℕ) (i : ℕ) (p : Pair) → slice_get pairs i ≡ Some p
    → text_of_parts (take (2 * i + 1) (parts_of pairs last)) ≡ whole_text (take i pairs) p.gap
start_text [] last i p found = absurd (cc found)
start_text (q ∷ ps) last zero p found = let same : q ≡ p = cc found in ap (λ (x : Pair). x.gap ++ []) same ∙ append-nil p.gap
start_text (q ∷ ps) last (suc i) p found =
    let three : 2 * suc i + 1 ≡ suc (suc (2 * i + 1)) = omega arith in
    ap (λ k. text_of_parts (take k (parts_of (q ∷ ps) last))) three ∙ ap (λ t. q.gap ++ (q.spelling ++ t)) (start_text ps last i p found)

pub stop_text : (pairs : List Pair) (last : List ℕ) (i : ℕ) (p : Pair) → slice_get pairs i ≡ Some p
    → text_of_parts (take (2 * i + 2) (parts_of pairs last)) ≡ whole_text (take i pairs) (p.gap ++ p.spelling)
stop_text [] last i p found = absurd (cc found)
stop_text (q ∷ ps) last zero p found =
    let same : q ≡ p = cc found in ap (λ (x : Pair). x.gap ++ (x.spelling ++ [])) same ∙ ap (λ t. p.gap ++ t) (append-nil p.spelling)
stop_text (q ∷ ps) last (suc i) p found =
    let four : 2 * suc i + 2 ≡ suc (suc (2 * i + 2)) = omega arith in
    ap (λ k. text_of_parts (take k (parts_of (q ∷ ps) last))) four ∙ ap (λ t. q.gap ++ (q.spelling ++ t)) (stop_text ps last i p found)

range_seam : (a b c : List ℕ) (n m : ℕ) → n ≡ length a → m ≡ length a + length b → slice_range (a ++ (b ++ c)) n m ≡ b
range_seam a b c n m leading end =
    let whole : m - n ≡ length b = omega (arith, leading, end) in
    ap (λ k. take (m - n) (drop k (a ++ (b ++ c)))) leading ∙ ap (λ t. take (m - n) t) (drop-append_seam a (b ++ c))
    ∙ ap (λ k. take k (b ++ c)) whole ∙ take-append_seam b c

pub length_written : (xs : List TextPart) (from to : ℕ) → from ≤ to
    → length (text_of_parts (take to xs)) ≡ length (text_of_parts (take from xs)) + length (text_of_parts (slice_range xs from to))
length_written xs from to le =
    ap (λ t. length (text_of_parts t)) (take_range xs from to le) ∙ ap length (written-append (take from xs) (slice_range xs from to))
    ∙ length-append (text_of_parts (take from xs)) (text_of_parts (slice_range xs from to))

pub text_range : (xs : List TextPart) (from to : ℕ) → from ≤ to
    → slice_range (text_of_parts xs) (length (text_of_parts (take from xs))) (length (text_of_parts (take to xs))) ≡ text_of_parts (slice_range xs from to)
text_range xs from to le =
    let a = take from xs in
    let b = slice_range xs from to in
    let c = drop to xs in
    let split : xs ≡ a ++ (b ++ c) = sym (take-append-drop from xs) ∙ ap (λ t. a ++ t) (drop_split xs from to le) in
    let whole : text_of_parts xs ≡ text_of_parts a ++ (text_of_parts b ++ text_of_parts c) = ap text_of_parts split ∙ written-append a (b ++ c) ∙ ap (λ t. text_of_parts a ++ t) (written-append b c) in
    ap (λ t. slice_range t (length (text_of_parts a)) (length (text_of_parts (take to xs)))) whole
    ∙ range_seam (text_of_parts a) (text_of_parts b) (text_of_parts c) _ _ refl (length_written xs from to le)

pub text_within : (xs : List TextPart) (to : ℕ) → length (text_of_parts (take to xs)) ≤ length (text_of_parts xs)
text_within xs to =
    let whole = ap (λ t. length (text_of_parts t)) (sym (take-append-drop to xs)) ∙ ap length (written-append (take to xs) (drop to xs)) ∙ length-append (text_of_parts (take to xs)) (text_of_parts (drop to xs)) in
    omega (arith, whole)

-- ---- the token that the next one after a slice may join

pub after_token : (prev : Prev) (xs : List TextPart) (kind : Kind) (spelling : List ℕ) → prev_of_parts prev (xs ++ Token kind spelling ∷ []) ≡ Some (kind, spelling)
after_token prev xs kind spelling = after-append prev xs (Token kind spelling ∷ [])

pub after_empty : (prev : Prev) (xs : List TextPart) (gap : List ℕ) → gap ≡ [] → prev_of_parts prev (xs ++ Gap gap ∷ []) ≡ prev_of_parts prev xs
after_empty prev xs gap e = rw e (after-append prev xs (Gap [] ∷ []))

none_after_whitespace : (prev : Prev) (gap : List ℕ) → (gap ≡ [] → ⊥) → prev_of_parts prev (Gap gap ∷ []) ≡ None
none_after_whitespace prev [] some = absurd (some refl)
none_after_whitespace prev (b ∷ gap) some = refl

pub prev_after_whitespace : (prev : Prev) (xs : List TextPart) (gap : List ℕ) → (gap ≡ [] → ⊥) → prev_of_parts prev (xs ++ Gap gap ∷ []) ≡ None
prev_after_whitespace prev xs gap some = after-append prev xs (Gap gap ∷ []) ∙ none_after_whitespace (prev_of_parts prev xs) gap some

-- ---- whether the neighbour joins with the start of a slice

glued_none : (prev : Prev) (k : ℕ) (gap : List ℕ) (rest : List TextPart) → k ≤ 1 → is_glued prev (take k (Gap gap ∷ rest)) ≡ false
glued_none prev zero gap rest le = refl
glued_none prev (suc zero) [] rest le = refl
glued_none prev (suc zero) (b ∷ gap) rest le = refl
glued_none prev (suc (suc k)) gap rest le = absurd (omega (arith, le))

pub glued_gap : (prev : Prev) (k : ℕ) (ps : List Pair) (last : List ℕ) → k ≤ 1 → is_glued prev (take k (parts_of ps last)) ≡ false
glued_gap prev k [] last le = glued_none prev k last [] le
glued_gap prev k (p ∷ ps) last le = glued_none prev k p.gap _ le

pub glued_empty : (prev : Prev) (gap : List ℕ) (kind : Kind) (spelling : List ℕ) (k : ℕ) (rest : List TextPart) → 2 ≤ k → gap ≡ []
    → is_glued prev (take k (Gap gap ∷ Token kind spelling ∷ rest)) ≡ joins_prev prev kind spelling
glued_empty prev gap kind spelling zero rest le e = absurd (omega (arith, le))
glued_empty prev gap kind spelling (suc zero) rest le e = absurd (omega (arith, le))
glued_empty prev gap kind spelling (suc (suc k)) rest le e = rw e refl

pub glued_whitespace : (prev : Prev) (gap : List ℕ) (k : ℕ) (rest : List TextPart) → (gap ≡ [] → ⊥) → is_glued prev (take k (Gap gap ∷ rest)) ≡ false
glued_whitespace prev gap zero rest some = refl
glued_whitespace prev [] (suc k) rest some = absurd (some refl)
glued_whitespace prev (b ∷ gap) (suc k) rest some = refl

pub glued_token : (prev : Prev) (kind : Kind) (spelling : List ℕ) (k : ℕ) (rest : List TextPart) → 1 ≤ k
    → is_glued prev (take k (Token kind spelling ∷ rest)) ≡ joins_prev prev kind spelling
glued_token prev kind spelling zero rest le = absurd (omega (arith, le))
glued_token prev kind spelling (suc k) rest le = refl

pub staying_is : (pairs : List Pair) (last : List ℕ) (at : ℕ) (rs : List Replacement)
    → stays_until at (parts_of pairs last) rs ≡ slice_range (parts_of pairs last) at (next_index (2 * length pairs + 1) rs)
staying_is pairs last at [] =
    let all = parts_length pairs last in
    sym (take_all (2 * length pairs + 1 - at) (drop at (parts_of pairs last)) (omega (arith, all, length-drop at (parts_of pairs last))))
staying_is pairs last at (r ∷ rs) = refl
