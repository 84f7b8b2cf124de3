-- Going over the tokens of a text, and over its lines.
use Rattle.std.proofs.Common.{◌≡◌, ℕ, zero, suc, ◌+◌, ◌-◌, ◌<◌, ◌≤◌, Bool, true, false, nat_lt, List, [], ◌∷◌, length, take, drop, get_or, slice_range, Some, if◌then◌else◌, refl, sym, ap, ap₂, subst, ◌∙◌, arith, inl, inr}
use Rattle.std.specs.Prelude.{slice_get}
use Rattle.std.specs.Option.{option_map}
use Rattle.std.proofs.lemmas.Option.{slice_get_cases}
use Rattle.std.proofs.Common.{count_by, cond, reverse, set, take_all, ◌++◌}
use Rattle.std.proofs.lemmas.List.Sums.{sum_by-cons}
use Rattle.std.proofs.lemmas.List.{drop_more, drop_all, drop-drop, take_more, length-take-le, reverse-append}
use Rattle.std.proofs.Math.Seq.{set-append_seam}
use Rattle.hcl_token.specs.declared.kind.Kind.{Kind}
use Rattle.hcl_token.specs.declared.kind.Kind.TheVariants.{LineEnd, HereOpen, HereClose}
use Rattle.hcl_token.specs.Tokens.{Pair}
use Rattle.hcl_token.specs.TokenizedText.{kind_of, spelling_of, gap_of}
use Rattle.hcl_layout.specs.Gaps.Lines.{Line, heredocs_after, ends_line}
use Rattle.hcl_layout.specs.Gaps.Inner.Stages.{prepend_to_first, lines_from, line_len, open_heredocs_after, open_heredocs_of, SplitsLine, close_brackets}
use Rattle.hcl_layout.specs.Gaps.Inner.CodeViews.{is_here_open}
use Rattle.std.proofs.Common.{take-add}
use Rattle.std.proofs.lemmas.Bool.Decides.{nat_tests}

-- token i, which is before token `to`
pub record TokenHere (pairs : List Pair) (i to : ℕ) : Type 0 where
  pub pair : Pair
  pub at : slice_get pairs i ≡ Some pair
  pub rest : drop i pairs ≡ pair ∷ drop (i + 1) pairs
  pub range : slice_range pairs i to ≡ pair ∷ slice_range pairs (i + 1) to

pub token_here : (pairs : List Pair) (i to : ℕ) → i < to → to ≤ length pairs → TokenHere pairs i to
token_here pairs i to less within = elim (slice_get_cases pairs i).1 [
  | inl (x, inside, found, same) ↦
      let split : drop i pairs ≡ x ∷ drop (i + 1) pairs = rw (← same) (drop_more pairs i x inside) in
      let count : to - i ≡ suc (to - (i + 1)) = omega arith in
      record { pair = x; at = found; rest = split; range = ap₂ (λ n (ps : List Pair). take n ps) count split }
  | inr (past, none) ↦ absurd (omega arith)
]

pub kind_is : (pairs : List Pair) (i to : ℕ) (k : Kind) (t : TokenHere pairs i to) → Some k ≡ kind_of pairs i → k ≡ t.pair.kind
kind_is pairs i to k t h = let e = h ∙ ap (option_map (λ (p : Pair). p.kind)) t.at in cc

pub spelling_is : (pairs : List Pair) (i to : ℕ) (s : List ℕ) (t : TokenHere pairs i to) → Some s ≡ spelling_of pairs i → s ≡ t.pair.spelling
spelling_is pairs i to s t h = let e = h ∙ ap (option_map (λ (p : Pair). p.spelling)) t.at in cc

pub gap_is : (pairs : List Pair) (i to : ℕ) (g : List ℕ) (t : TokenHere pairs i to) → Some g ≡ gap_of pairs i → g ≡ t.pair.gap
gap_is pairs i to g t h = let e = h ∙ ap (option_map (λ (p : Pair). p.gap)) t.at in cc

-- ---- the first line

-- the first line and those after it
IsSplit : ℕ → List Pair → Type 0
IsSplit open_heredocs ps = lines_from open_heredocs ps ≡ record { frozen = nat_lt 0 open_heredocs; pairs = take (line_len open_heredocs ps) ps } ∷ lines_from (open_heredocs_after open_heredocs ps) (drop (line_len open_heredocs ps) ps)

split_if : (open_heredocs : ℕ) (p : Pair) (ps : List Pair) (ends : Bool) → ends_line open_heredocs p.kind ≡ ends
    → ((q : Pair) (qs : List Pair) → ps ≡ q ∷ qs → IsSplit (heredocs_after open_heredocs p.kind) ps) → IsSplit open_heredocs (p ∷ ps)
unfolding IsSplit
split_if open_heredocs p ps true is rest = rw is refl
split_if open_heredocs p [] false is rest = rw is refl
split_if open_heredocs p (q ∷ qs) false is rest = rw is (ap (prepend_to_first (nat_lt 0 open_heredocs) p) (rest q qs refl))

pub first_line : (open_heredocs : ℕ) (p : Pair) (ps : List Pair) → lines_from open_heredocs (p ∷ ps) ≡ record { frozen = nat_lt 0 open_heredocs; pairs = take (line_len open_heredocs (p ∷ ps)) (p ∷ ps) } ∷ lines_from (open_heredocs_after open_heredocs (p ∷ ps)) (drop (line_len open_heredocs (p ∷ ps)) (p ∷ ps))
unfolding IsSplit
first_line open_heredocs p [] = split_if open_heredocs p [] (ends_line open_heredocs p.kind) refl (λ q qs e. absurd (cc))
first_line open_heredocs p (r ∷ ps) = split_if open_heredocs p (r ∷ ps) (ends_line open_heredocs p.kind) refl (λ q qs e. first_line (heredocs_after open_heredocs p.kind) r ps)

len_some : (open_heredocs : ℕ) (p : Pair) (ps : List Pair) → 0 < line_len open_heredocs (p ∷ ps)
len_some open_heredocs p ps = elim (ends_line open_heredocs p.kind) as (λ b. 0 < (if b then 1 else suc (line_len (heredocs_after open_heredocs p.kind) ps))) [ true ↦ omega arith | false ↦ omega arith ]

begins_frozen : (frozen : Bool) → nat_lt 0 (open_heredocs_of frozen) ≡ frozen
begins_frozen true = refl
begins_frozen false = refl

-- the first line from token `at` on
first_at : (pairs : List Pair) (at : ℕ) (frozen : Bool) → at < length pairs
    → (0 < line_len (open_heredocs_of frozen) (drop at pairs))
    × (lines_from (open_heredocs_of frozen) (drop at pairs) ≡ record { frozen = frozen; pairs = take (line_len (open_heredocs_of frozen) (drop at pairs)) (drop at pairs) } ∷ lines_from (open_heredocs_after (open_heredocs_of frozen) (drop at pairs)) (drop (line_len (open_heredocs_of frozen) (drop at pairs)) (drop at pairs)))
first_at pairs at frozen inside =
    let t = token_here pairs at (length pairs) inside (omega arith) in
    rw t.rest (
      len_some (open_heredocs_of frozen) t.pair (drop (at + 1) pairs),
      first_line (open_heredocs_of frozen) t.pair (drop (at + 1) pairs)
          ∙ ap (λ f. record { frozen = f; pairs = take (line_len (open_heredocs_of frozen) (t.pair ∷ drop (at + 1) pairs)) (t.pair ∷ drop (at + 1) pairs) } ∷ lines_from (open_heredocs_after (open_heredocs_of frozen) (t.pair ∷ drop (at + 1) pairs)) (drop (line_len (open_heredocs_of frozen) (t.pair ∷ drop (at + 1) pairs)) (t.pair ∷ drop (at + 1) pairs))) (begins_frozen frozen),
    )

splits : (pairs : List Pair) (at : ℕ) (frozen : Bool) (past : ℕ) (next : Bool) → at < length pairs → past ≤ length pairs
    → at + line_len (open_heredocs_of frozen) (drop at pairs) ≡ past
    → lines_from (open_heredocs_after (open_heredocs_of frozen) (drop at pairs)) (drop past pairs) ≡ lines_from (open_heredocs_of next) (drop past pairs)
    → SplitsLine pairs at frozen past next
splits pairs at frozen past next inside within len following =
    let first = first_at pairs at frozen inside in
    let n : ℕ = line_len (open_heredocs_of frozen) (drop at pairs) in
    let count : n ≡ past - at = omega arith in
    let rest : drop n (drop at pairs) ≡ drop past pairs = drop-drop n at pairs ∙ ap (λ k. drop k pairs) (omega arith) in
    record {
      more = omega (arith, first.0);
      within = within;
      line = first.1 ∙ ap₂ (λ (ps : List Pair) (ls : List Line). record { frozen = frozen; pairs = ps } ∷ ls) (ap (λ k. take k (drop at pairs)) count) (ap (λ ps. lines_from (open_heredocs_after (open_heredocs_of frozen) (drop at pairs)) ps) rest ∙ following);
    }

-- a line that began at token `at` goes on at token i
pub record IsInLine (pairs : List Pair) (at : ℕ) (frozen : Bool) (i open_heredocs : ℕ) : Type 0 where
  pub len : at + line_len (open_heredocs_of frozen) (drop at pairs) ≡ i + line_len open_heredocs (drop i pairs)
  pub following : open_heredocs_after (open_heredocs_of frozen) (drop at pairs) ≡ open_heredocs_after open_heredocs (drop i pairs)
  pub later : at ≤ i
  pub small : open_heredocs + at ≤ i + 1

pub in_line_begins : (pairs : List Pair) (at : ℕ) (frozen : Bool) → IsInLine pairs at frozen at (open_heredocs_of frozen)
in_line_begins pairs at true = record { len = refl; following = refl; later = omega arith; small = omega arith }
in_line_begins pairs at false = record { len = refl; following = refl; later = omega arith; small = omega arith }

heredocs_one_more : (open_heredocs : ℕ) (k : Kind) → heredocs_after open_heredocs k ≤ open_heredocs + 1
heredocs_one_more open_heredocs HereOpen = omega arith
heredocs_one_more open_heredocs HereClose = omega arith
heredocs_one_more open_heredocs k = omega arith

pub in_line_next : (pairs : List Pair) (at : ℕ) (frozen : Bool) (i open_heredocs : ℕ) (k : Kind) → IsInLine pairs at frozen i open_heredocs → i < length pairs → Some k ≡ kind_of pairs i → ends_line open_heredocs k ≡ false
    → IsInLine pairs at frozen (i + 1) (heredocs_after open_heredocs k)
in_line_next pairs at frozen i open_heredocs k l inside is continues_line =
    let t = token_here pairs i (length pairs) inside (omega arith) in
    let same = kind_is pairs i (length pairs) k t is in
    let ends_no_line : ends_line open_heredocs t.pair.kind ≡ false = ap (ends_line open_heredocs) (sym same) ∙ continues_line in
    let len : line_len open_heredocs (drop i pairs) ≡ suc (line_len (heredocs_after open_heredocs k) (drop (i + 1) pairs)) = rw (t.rest, ends_no_line, same) refl in
    let following : open_heredocs_after open_heredocs (drop i pairs) ≡ open_heredocs_after (heredocs_after open_heredocs k) (drop (i + 1) pairs) = rw (t.rest, ends_no_line, same) refl in
    record { len = omega (arith, l.len, len); following = l.following ∙ following; later = omega (arith, l.later); small = omega (arith, l.small, heredocs_one_more open_heredocs k) }

frozen_after_line : (open_heredocs : ℕ) (k : Kind) → ends_line open_heredocs k ≡ true → heredocs_after open_heredocs k ≡ open_heredocs_of (is_here_open k)
frozen_after_line zero LineEnd h = refl
frozen_after_line zero HereOpen h = refl
frozen_after_line zero k h = absurd (cc)
frozen_after_line (suc open_heredocs) k h = absurd (cc)

pub line_ends : (pairs : List Pair) (at : ℕ) (frozen : Bool) (i open_heredocs : ℕ) (k : Kind) → IsInLine pairs at frozen i open_heredocs → at < length pairs → i < length pairs → Some k ≡ kind_of pairs i → ends_line open_heredocs k ≡ true
    → SplitsLine pairs at frozen (i + 1) (is_here_open k)
line_ends pairs at frozen i open_heredocs k l begins inside is ends =
    let t = token_here pairs i (length pairs) inside (omega arith) in
    let same = kind_is pairs i (length pairs) k t is in
    let ends_here : ends_line open_heredocs t.pair.kind ≡ true = ap (ends_line open_heredocs) (sym same) ∙ ends in
    let len : line_len open_heredocs (drop i pairs) ≡ 1 = rw (t.rest, ends_here) refl in
    let following : open_heredocs_after open_heredocs (drop i pairs) ≡ open_heredocs_of (is_here_open k) = rw (t.rest, ends_here) (ap (heredocs_after open_heredocs) (sym same) ∙ frozen_after_line open_heredocs k ends) in
    splits pairs at frozen (i + 1) (is_here_open k) begins (omega arith) (l.len ∙ ap (λ n. i + n) len) (ap (λ h. lines_from h (drop (i + 1) pairs)) (l.following ∙ following))

pub text_ends : (pairs : List Pair) (at : ℕ) (frozen : Bool) (i open_heredocs : ℕ) → IsInLine pairs at frozen i open_heredocs → at < length pairs → i ≡ length pairs → SplitsLine pairs at frozen (length pairs) false
text_ends pairs at frozen i open_heredocs l begins e =
    let none : drop i pairs ≡ [] = drop_all i pairs (omega arith) in
    let none_remain : drop (length pairs) pairs ≡ [] = drop_all (length pairs) pairs (omega arith) in
    let len : line_len open_heredocs (drop i pairs) ≡ 0 = rw none refl in
    splits pairs at frozen (length pairs) false begins (omega arith) (omega (arith, l.len, len)) (rw none_remain refl)

-- ---- counts, and the end of a stack

-- a count of tokens, one token further
pub counted : (f : Kind → Bool) (pairs : List Pair) (i to : ℕ) (k : Kind) → i < to → to ≤ length pairs → Some k ≡ kind_of pairs i
    → count_by (λ (p : Pair). f p.kind) (slice_range pairs i to) ≡ (if f k then 1 else 0) + count_by (λ (p : Pair). f p.kind) (slice_range pairs (i + 1) to)
counted f pairs i to k less within is =
    let t = token_here pairs i to less within in
    let same : (if f t.pair.kind then 1 else 0) ≡ (if f k then 1 else 0) = ap (λ j. cond (f j) 1 0) (sym (kind_is pairs i to k t is)) in
    ap (count_by (λ (p : Pair). f p.kind)) t.range
    ∙ sum_by-cons (λ (p : Pair). cond (f p.kind) 1 0) t.pair (slice_range pairs (i + 1) to)
    ∙ ap (λ n. n + count_by (λ (p : Pair). f p.kind) (slice_range pairs (i + 1) to)) same

pub record IsEnd (xs : List ℕ) (n top : ℕ) : Type 0 where
  pub last : reverse xs ≡ top ∷ reverse (take n xs)
  pub changed : (v : ℕ) → reverse (set xs n v) ≡ v ∷ reverse (take n xs)

pub end_of : (xs : List ℕ) (n top : ℕ) → n + 1 ≡ length xs → top ≡ get_or xs n top → IsEnd xs n top
end_of xs n top len is =
    let split : xs ≡ take n xs ++ top ∷ [] = sym (take_all (n + 1) xs (omega arith)) ∙ take_more xs n top (omega arith) ∙ ap (λ v. take n xs ++ v ∷ []) (sym is) in
    let size : length (take n xs) ≡ n = length-take-le n xs (omega arith) in
    record {
      last = ap reverse split ∙ reverse-append (take n xs) (top ∷ []);
      changed = λ v. ap (λ ys. reverse (set ys n v)) split ∙ ap (λ k. reverse (set (take n xs ++ top ∷ []) k v)) (sym size) ∙ ap reverse (set-append_seam (take n xs) top [] v) ∙ reverse-append (take n xs) (v ∷ []);
    }

-- one step of closing brackets on a stack that is kept with its top at the end
pub close_ends : (xs : List ℕ) (n left top : ℕ) → n + 1 ≡ length xs → top ≡ get_or xs n top → left < top → close_brackets left (reverse xs) ≡ reverse (set xs n (top - left))
close_ends xs n left top len is less =
    let e = end_of xs n top len is in
    let test : nat_lt left top ≡ true = grind (arith, nat_tests) in
    let head : close_brackets left (top ∷ reverse (take n xs)) ≡ (top - left) ∷ reverse (take n xs) = rw test refl in
    ap (close_brackets left) e.last ∙ head ∙ sym (e.changed (top - left))

pub close_next : (xs : List ℕ) (n left top : ℕ) → n + 1 ≡ length xs → top ≡ get_or xs n top → top ≤ left → close_brackets left (reverse xs) ≡ close_brackets (left - top) (reverse (take n xs))
close_next xs n left top len is less =
    let e = end_of xs n top len is in
    let test : nat_lt left top ≡ false = grind (arith, nat_tests) in
    let head : close_brackets left (top ∷ reverse (take n xs)) ≡ close_brackets (left - top) (reverse (take n xs)) = rw test refl in
    ap (close_brackets left) e.last ∙ head

pub no_items : (xs : List ℕ) → length xs ≡ 0 → xs ≡ []
no_items [] h = refl
no_items (x ∷ xs) h = absurd (omega arith)

-- ---- ranges of tokens

pub range_split : (ps : List Pair) (a b c : ℕ) → a ≤ b → b ≤ c → slice_range ps a c ≡ slice_range ps a b ++ slice_range ps b c
range_split ps a b c h g =
    let count : c - a ≡ (b - a) + (c - b) = omega arith in
    let rest : drop (b - a) (drop a ps) ≡ drop b ps = drop-drop (b - a) a ps ∙ ap (λ n. drop n ps) (omega arith) in
    ap (λ n. take n (drop a ps)) count ∙ take-add (b - a) (c - b) (drop a ps) ∙ ap (λ (xs : List Pair). slice_range ps a b ++ take (c - b) xs) rest

pub none_there : (ps : List Pair) (a : ℕ) → slice_range ps a a ≡ []
none_there ps a = let none : a - a ≡ 0 = omega arith in ap (λ n. take n (drop a ps)) none
