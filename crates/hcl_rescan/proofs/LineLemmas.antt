-- Whole lines: where they can be cut off from what follows them, and put before other lines.
use Rattle.std.proofs.Common.{◌≡◌, ◌≢◌, ℕ, zero, suc, ◌+◌, ◌-◌, ◌<◌, ◌≤◌, false, List, [], ◌∷◌, ◌++◌, length, take, drop, slice_get, slice_range, Some, refl, sym, ap, ap₂, subst, ◌∙◌, inl, inr, ◌⊎◌, arith, append_assoc, length-append, take-append-drop, drop-drop, take_at, drop_at, take_all}
use Rattle.std.proofs.lemmas.List.Folds.{drop_split}
use Rattle.std.specs.Option.{option_map}
use Rattle.hcl_token.specs.declared.item.Item.{Item}
use Rattle.hcl_token.specs.declared.kind.Kind.{Kind}
use Rattle.hcl_token.specs.declared.kind.Kind.TheVariants.{Mark, LineEnd, LineComment, QuoteLit, HereLit}
use Rattle.hcl_token.specs.TokenizedText.{TokenizedText, kind_of, item_of, item_after}
use Rattle.hcl_token.specs.Joins.{joins_with}
use Rattle.hcl_token.specs.Tokens.{Pair, whole_text}
use Rattle.hcl_scan.specs.Modes.{Mode, mode_of, modes_after}
use Rattle.hcl_scan.specs.Lexeme.{IsLexeme}
use Rattle.hcl_scan.specs.Follows.{following_text, AllowsNext, FollowsFrom, Follows, IsApart, AreApart, mark}
use Rattle.hcl_rescan.specs.Inner.WholeLines.{EndsWithLineEnd, AreWholeLines, AreSelfContained, IsLineStart, IsLineRange}
use Rattle.hcl_scan.proofs.PairLemmas.{modes_after_pairs, joining_rest}

-- ---- the last line end requires nothing of what follows it

-- what a token requires of the next ones it requires of the first of them alone
allows_next_first : (kind : Kind) (q : Pair) (ps others : List Pair) (last other : List ℕ) → AllowsNext kind (q ∷ ps) last → AllowsNext kind (q ∷ others) other
allows_next_first LineComment q ps others last other h = h
allows_next_first QuoteLit q ps others last other h = h
allows_next_first HereLit q ps others last other h = h
allows_next_first kind q ps others last other h = tt

lexeme_end : (mode : Mode) (kind : Kind) (s rest other : List ℕ) → kind ≡ LineEnd → IsLexeme mode kind s rest → IsLexeme mode kind s other
lexeme_end mode LineEnd s rest other e h = h
lexeme_end mode kind s rest other e h = absurd (cc)

allows_next_end : (kind : Kind) (ps : List Pair) (last : List ℕ) → kind ≡ LineEnd → AllowsNext kind ps last
allows_next_end LineEnd ps last e = tt
allows_next_end kind ps last e = absurd (cc)

joins_end : (kind other : Kind) (s t : List ℕ) → kind ≡ LineEnd → joins_with kind s other t ≡ false
joins_end LineEnd other s t e = refl
joins_end kind other s t e = absurd (cc)

apart_end : (kind : Kind) (s : List ℕ) (ps : List Pair) → kind ≡ LineEnd → IsApart kind s ps
apart_end kind s [] e = tt
apart_end kind s (q ∷ qs) e = λ _. joins_end kind q.kind s q.spelling e

-- ---- cut off

-- after a stretch that ends in a line end with no opening open, the rest goes on by itself
follow_prefix : (ps rest : List Pair) (modes : List Mode) (last : List ℕ) → EndsWithLineEnd ps → modes_after_pairs modes ps ≡ [] → FollowsFrom modes (ps ++ rest) last [] → FollowsFrom modes ps [] []
follow_prefix [] rest modes last end none f = none
follow_prefix (p ∷ []) rest modes last end none f =
    (f.0, f.1, lexeme_end (mode_of modes) p.kind p.spelling (following_text rest last) [] end f.2, allows_next_end p.kind [] [] end, none)
follow_prefix (p ∷ q ∷ ps) rest modes last end none f =
    (f.0, f.1, f.2, allows_next_first p.kind q (ps ++ rest) ps last [] f.3, follow_prefix (q ∷ ps) rest (modes_after p.kind p.spelling modes) last end none f.4)

follow_rest : (ps rest : List Pair) (modes : List Mode) (last : List ℕ) → modes_after_pairs modes ps ≡ [] → FollowsFrom modes (ps ++ rest) last [] → FollowsFrom [] rest last []
follow_rest [] rest modes last none f = subst (λ (m : List Mode). FollowsFrom m rest last []) none f
follow_rest (p ∷ ps) rest modes last none f = follow_rest ps rest (modes_after p.kind p.spelling modes) last none f.4

apart_prefix : (ps rest : List Pair) → AreApart (ps ++ rest) → AreApart ps
apart_prefix [] rest a = tt
apart_prefix (p ∷ []) rest a = (tt, tt)
apart_prefix (p ∷ q ∷ ps) rest a = (a.0, apart_prefix (q ∷ ps) rest a.1)

apart_rest : (ps rest : List Pair) → AreApart (ps ++ rest) → AreApart rest
apart_rest [] rest a = a
apart_rest (p ∷ ps) rest a = apart_rest ps rest a.1

-- ---- put before others

follow_both : (ps rest : List Pair) (modes : List Mode) (last : List ℕ) → EndsWithLineEnd ps → FollowsFrom modes ps [] [] → FollowsFrom [] rest last [] → FollowsFrom modes (ps ++ rest) last []
follow_both [] rest modes last end f g = subst (λ (m : List Mode). FollowsFrom m rest last []) (sym f) g
follow_both (p ∷ []) rest modes last end f g =
    (f.0, f.1, lexeme_end (mode_of modes) p.kind p.spelling [] (following_text rest last) end f.2, allows_next_end p.kind rest last end, subst (λ (m : List Mode). FollowsFrom m rest last []) (sym f.4) g)
follow_both (p ∷ q ∷ ps) rest modes last end f g =
    (f.0, f.1, f.2, allows_next_first p.kind q ps (ps ++ rest) [] last f.3, follow_both (q ∷ ps) rest (modes_after p.kind p.spelling modes) last end f.4 g)

apart_both : (ps rest : List Pair) → EndsWithLineEnd ps → AreApart ps → AreApart rest → AreApart (ps ++ rest)
apart_both [] rest end a b = b
apart_both (p ∷ []) rest end a b = (apart_end p.kind p.spelling rest end, b)
apart_both (p ∷ q ∷ ps) rest end a b = (a.0, apart_both (q ∷ ps) rest end a.1 b)

ends_both : (ps rest : List Pair) → EndsWithLineEnd ps → EndsWithLineEnd rest → EndsWithLineEnd (ps ++ rest)
ends_both [] rest end more = more
ends_both (p ∷ []) [] end more = end
ends_both (p ∷ []) (q ∷ rest) end more = more
ends_both (p ∷ q ∷ ps) rest end more = ends_both (q ∷ ps) rest end more

pub lines_both : (ps rest : List Pair) → AreWholeLines ps → AreWholeLines rest → AreWholeLines (ps ++ rest)
lines_both ps rest a b = record {
  follow = follow_both ps rest [] [] a.ended a.follow b.follow;
  ended = ends_both ps rest a.ended b.ended;
  apart = apart_both ps rest a.ended a.apart b.apart;
}

pub last_both : (ps rest : List Pair) (last : List ℕ) → AreWholeLines ps → AreSelfContained rest last → AreSelfContained (ps ++ rest) last
last_both ps rest last a b = record {
  follow = follow_both ps rest [] last a.ended a.follow b.follow;
  apart = apart_both ps rest a.ended a.apart b.apart;
}

-- ---- one token more

pub modes_more : (ps : List Pair) (p : Pair) (modes : List Mode) → modes_after_pairs modes (ps ++ p ∷ []) ≡ modes_after p.kind p.spelling (modes_after_pairs modes ps)
modes_more [] p modes = refl
modes_more (q ∷ ps) p modes = modes_more ps p (modes_after q.kind q.spelling modes)

ends_more : (ps : List Pair) (p : Pair) → p.kind ≡ LineEnd → EndsWithLineEnd (ps ++ p ∷ [])
ends_more [] p e = e
ends_more (q ∷ []) p e = e
ends_more (q ∷ r ∷ ps) p e = ends_more (r ∷ ps) p e

take_none : (n : ℕ) → take {A = Pair} n [] ≡ []
take_none zero = refl
take_none (suc n) = refl

take_split : (m n : ℕ) (ps : List Pair) → take (m + n) ps ≡ take m ps ++ take n (drop m ps)
take_split zero n ps = ap (λ k. take k ps) (omega arith)
take_split (suc m) n [] = take_none (suc m + n) ∙ sym (take_none n)
take_split (suc m) n (p ∷ ps) =
    let more : suc m + n ≡ suc (m + n) = omega arith in
    ap (λ k. take k (p ∷ ps)) more ∙ ap (λ (x : List Pair). p ∷ x) (take_split m n ps)

-- a stretch is one up to a place, and one from there on
pub range_split : (ps : List Pair) (from at to : ℕ) → from ≤ at → at ≤ to → slice_range ps from to ≡ slice_range ps from at ++ slice_range ps at to
range_split ps from at to le more =
    let width : to - from ≡ (at - from) + (to - at) = omega arith in
    ap (λ n. take n (drop from ps)) width
    ∙ take_split (at - from) (to - at) (drop from ps)
    ∙ ap (λ (x : List Pair). slice_range ps from at ++ take (to - at) x) (drop-drop (at - from) from ps ∙ ap (λ n. drop n ps) (omega arith))

pub one_at : (ps : List Pair) (i : ℕ) (p : Pair) → slice_get ps i ≡ Some p → drop i ps ≡ p ∷ drop (suc i) ps
one_at [] i p e = absurd (cc)
one_at (q ∷ ps) zero p e = ap (λ (x : Pair). x ∷ ps) (some_same q p e)
  where
    some_same : (x y : Pair) → Some x ≡ Some y → x ≡ y
    some_same x y h = cc
one_at (q ∷ ps) (suc i) p e = one_at ps i p e

one_range : (ps : List Pair) (i : ℕ) (p : Pair) → slice_get ps i ≡ Some p → slice_range ps i (i + 1) ≡ p ∷ []
one_range ps i p e =
    let width : i + 1 - i ≡ 1 = omega arith in
    ap (λ n. take n (drop i ps)) width ∙ ap (take 1) (one_at ps i p e)

pub range_more : (ps : List Pair) (from i : ℕ) (p : Pair) → from ≤ i → slice_get ps i ≡ Some p → slice_range ps from (i + 1) ≡ slice_range ps from i ++ p ∷ []
range_more ps from i p le e = range_split ps from i (i + 1) le (omega arith) ∙ ap (λ (x : List Pair). slice_range ps from i ++ x) (one_range ps i p e)

-- the pairs before a number, with those of a stretch from there on
take_range : (ps : List Pair) (from to : ℕ) → from ≤ to → take to ps ≡ take from ps ++ slice_range ps from to
take_range ps from to le =
    let width : to ≡ from + (to - from) = omega arith in
    ap (λ n. take n ps) width ∙ take_split from (to - from) ps

-- ---- lengths and texts

pub whole_rest : (ps : List Pair) (last : List ℕ) → whole_text ps last ≡ whole_text ps [] ++ last
whole_rest [] last = refl
whole_rest (p ∷ ps) last =
    ap (λ (r : List ℕ). p.gap ++ (p.spelling ++ r)) (whole_rest ps last)
    ∙ ap (λ (r : List ℕ). p.gap ++ r) (sym (append_assoc p.spelling (whole_text ps []) last))
    ∙ sym (append_assoc p.gap (p.spelling ++ whole_text ps []) last)

pub whole_both : (ps qs : List Pair) (last : List ℕ) → whole_text (ps ++ qs) last ≡ whole_text ps (whole_text qs last)
whole_both [] qs last = refl
whole_both (p ∷ ps) qs last = ap (λ (r : List ℕ). p.gap ++ (p.spelling ++ r)) (whole_both ps qs last)

length_both : (ps qs : List Pair) → length (whole_text (ps ++ qs) []) ≡ length (whole_text ps []) + length (whole_text qs [])
length_both ps qs = ap length (whole_both ps qs []) ∙ joining_rest ps (whole_text qs [])

length_one : (p : Pair) → length (whole_text (p ∷ []) []) ≡ length p.gap + length p.spelling
length_one p = omega (arith, length-append p.gap (p.spelling ++ []), length-append p.spelling [])

-- ---- a line more

after_end : (kind : Kind) (s : List ℕ) (modes : List Mode) → kind ≡ LineEnd → modes_after kind s modes ≡ modes
after_end LineEnd s modes e = refl
after_end kind s modes e = absurd (cc)

-- a text whose first token is no byte order mark
pub unmarked : (pairs : List Pair) (last : List ℕ) (kind : Kind) → Follows pairs last [] → Some kind ≡ kind_of pairs 0 → kind ≢ Mark → FollowsFrom [] pairs last []
unmarked pairs last kind f e other = at_text_start f.prefix
  where
    at_text_start : (pairs ≡ f.body) ⊎ (pairs ≡ mark ∷ f.body) → FollowsFrom [] pairs last []
    at_text_start (inl same) = subst (λ (x : List Pair). FollowsFrom [] x last []) (sym same) f.follows
    at_text_start (inr same) =
        let first : Some kind ≡ Some Mark = e ∙ ap (λ (x : List Pair). kind_of x 0) same in
        absurd (other (cc))

-- the line that ends with this token, and what follows it
pub next_line : (tokenized : TokenizedText) (from at i : ℕ) (p : Pair) → IsLineStart tokenized from at → from ≤ i → i < length tokenized.pairs → slice_get tokenized.pairs i ≡ Some p → p.kind ≡ LineEnd
    → modes_after_pairs [] (slice_range tokenized.pairs from i) ≡ []
    → IsLineStart tokenized (i + 1) (length (whole_text (take (i + 1) tokenized.pairs) [])) × IsLineRange tokenized.pairs from (i + 1)
next_line tokenized from at i p f le within e end none =
    let ps : List Pair = tokenized.pairs in
    let line : List Pair = slice_range ps from (i + 1) in
    let rest : List Pair = drop (i + 1) ps in
    let split : drop from ps ≡ line ++ rest = drop_split ps from (i + 1) (omega arith) in
    let more : line ≡ slice_range ps from i ++ p ∷ [] = range_more ps from i p le e in
    let ended : EndsWithLineEnd line = subst EndsWithLineEnd (sym more) (ends_more (slice_range ps from i) p end) in
    let modes : modes_after_pairs [] line ≡ [] =
    ap (modes_after_pairs []) more ∙ modes_more (slice_range ps from i) p [] ∙ after_end p.kind p.spelling (modes_after_pairs [] (slice_range ps from i)) end ∙ none in
    let follow : FollowsFrom [] (line ++ rest) tokenized.last [] = subst (λ (x : List Pair). FollowsFrom [] x tokenized.last []) split f.rest.follow in
    let apart : AreApart (line ++ rest) = subst AreApart split f.rest.apart in (
      record {
        within = omega arith;
        place = refl;
        rest = record { follow = follow_rest line rest [] tokenized.last modes follow; apart = apart_rest line rest apart };
      },
      record {
        ordered = omega arith;
        lines = record { follow = follow_prefix line rest [] tokenized.last ended modes follow; ended = ended; apart = apart_prefix line rest apart };
      },
    )

-- where a token ends
pub stop_is : (ps : List Pair) (i : ℕ) (p : Pair) (item : Item) → slice_get ps i ≡ Some p → Some item ≡ item_of ps i → item ≡ item_after (take i ps) p
stop_is ps i p item e same =
    let found : Some item ≡ Some (item_after (take i ps) p) = same ∙ ap (option_map (λ (q : Pair). item_after (take i ps) q)) e in
    cc

take_next : (ps : List Pair) (i : ℕ) (p : Pair) → slice_get ps i ≡ Some p → take (i + 1) ps ≡ take i ps ++ p ∷ []
take_next ps i p e = take_range ps i (i + 1) (omega arith) ∙ ap (λ (x : List Pair). take i ps ++ x) (one_range ps i p e)

-- what is known of an item by its number
pub record Placed (ps : List Pair) (i : ℕ) (p : Pair) (item : Item) : Type 0 where
  pub kind : item.kind ≡ p.kind
  pub gap_at : item.gap_at ≡ length (whole_text (take i ps) [])
  pub start : item.start ≡ length (whole_text (take i ps) []) + length p.gap
  pub stop : item.stop ≡ length (whole_text (take i ps) []) + length p.gap + length p.spelling
  pub next : item.stop ≡ length (whole_text (take (i + 1) ps) [])

pub placed : (ps : List Pair) (i : ℕ) (p : Pair) (item : Item) → slice_get ps i ≡ Some p → Some item ≡ item_of ps i → Placed ps i p item
placed ps i p item e same =
    let before : List Pair = take i ps in
    let is : item ≡ item_after before p = stop_is ps i p item e same in
    let start : item.start ≡ length (whole_text before []) + length p.gap = ap (λ (x : Item). x.start) is ∙ joining_rest before p.gap in
    let stop : item.stop ≡ length (whole_text before []) + length p.gap + length p.spelling =
    ap (λ (x : Item). x.stop) is ∙ joining_rest before (p.gap ++ p.spelling) ∙ omega (arith, length-append p.gap p.spelling) in
    record {
      kind = ap (λ (x : Item). x.kind) is;
      gap_at = ap (λ (x : Item). x.gap_at) is;
      start = start;
      stop = stop;
      next = omega (arith, stop, ap (λ (x : List Pair). length (whole_text x [])) (take_next ps i p e), length_both before (p ∷ []), length_one p);
    }

-- a number of a token has a pair
pub pair_there : (ps : List Pair) (i : ℕ) → i < length ps → (p : Pair) × (slice_get ps i ≡ Some p)
pair_there [] i h = absurd (omega arith)
pair_there (q ∷ ps) zero h = (q, refl)
pair_there (q ∷ ps) (suc i) h = pair_there ps i (omega arith)

-- ---- the bytes of a stretch

pub range_at : (text a b rest : List ℕ) (at : ℕ) → drop at text ≡ a ++ (b ++ rest) → slice_range text (at + length a) (at + length a + length b) ≡ b
range_at text a b rest at e =
    let width : at + length a + length b - (at + length a) ≡ length b = omega arith in
    let here : drop (at + length a) text ≡ b ++ rest = sym (drop-drop (length a) at text) ∙ ap (drop (length a)) e ∙ drop_at a (b ++ rest) (length a) refl in
    ap (λ n. take n (drop (at + length a) text)) width ∙ ap (take (length b)) here ∙ take_at b rest (length b) refl

pub record RangeText (tokenized : TokenizedText) (from at to end : ℕ) : Type 0 where
  pub ordered : at ≤ end
  pub within : end ≤ length tokenized.text
  pub bytes : slice_range tokenized.text at end ≡ whole_text (slice_range tokenized.pairs from to) []

pub range_text : (tokenized : TokenizedText) (from at to end : ℕ) → tokenized.text ≡ whole_text tokenized.pairs tokenized.last → IsLineStart tokenized from at → IsLineStart tokenized to end → from ≤ to → RangeText tokenized from at to end
range_text tokenized from at to end whole f g le =
    let ps : List Pair = tokenized.pairs in
    let before : List ℕ = whole_text (take from ps) [] in
    let mid : List Pair = slice_range ps from to in
    let bytes : List ℕ = whole_text mid [] in
    let rest : List ℕ = whole_text (drop to ps) tokenized.last in
    let leading : end ≡ at + length bytes = g.place ∙ ap (λ (x : List Pair). length (whole_text x [])) (take_range ps from to le) ∙ length_both (take from ps) mid ∙ omega (arith, f.place) in
    let text_is : tokenized.text ≡ before ++ (bytes ++ rest) =
    whole
    ∙ ap (λ (x : List Pair). whole_text x tokenized.last) (sym (take-append-drop to ps) ∙ ap (λ (x : List Pair). x ++ drop to ps) (take_range ps from to le))
    ∙ whole_both (take from ps ++ mid) (drop to ps) tokenized.last
    ∙ whole_both (take from ps) mid rest
    ∙ whole_rest (take from ps) (whole_text mid rest)
    ∙ ap (λ (x : List ℕ). before ++ x) (whole_rest mid rest) in
    let at_is : at ≡ length before = f.place in
    let split_at_length : slice_range (before ++ (bytes ++ rest)) (0 + length before) (0 + length before + length bytes) ≡ bytes = range_at (before ++ (bytes ++ rest)) before bytes rest 0 refl in
    record {
      ordered = omega (arith, leading);
      within = omega (arith, leading, at_is, ap length text_is, length-append before (bytes ++ rest), length-append bytes rest);
      bytes = ap₂ (slice_range tokenized.text) at_end prefix_end ∙ ap (λ (x : List ℕ). slice_range x (0 + length before) (0 + length before + length bytes)) text_is ∙ split_at_length;
    }
  where
    at_end : at ≡ 0 + length (whole_text (take from tokenized.pairs) [])
    at_end = omega (arith, f.place)

    prefix_end : end ≡ 0 + length (whole_text (take from tokenized.pairs) []) + length (whole_text (slice_range tokenized.pairs from to) [])
    prefix_end = g.place ∙ ap (λ (x : List Pair). length (whole_text x [])) (take_range tokenized.pairs from to le) ∙ length_both (take from tokenized.pairs) (slice_range tokenized.pairs from to) ∙ omega arith

-- ---- where a pair begins

pub place_in : (tokenized : TokenizedText) (i : ℕ) → tokenized.text ≡ whole_text tokenized.pairs tokenized.last → length (whole_text (take i tokenized.pairs) []) ≤ length tokenized.text
place_in tokenized i whole =
    let split : whole_text tokenized.pairs [] ≡ whole_text (take i tokenized.pairs ++ drop i tokenized.pairs) [] = ap (λ (x : List Pair). whole_text x []) (sym (take-append-drop i tokenized.pairs)) in
    omega (arith, ap length whole, joining_rest tokenized.pairs tokenized.last, ap length split, length_both (take i tokenized.pairs) (drop i tokenized.pairs))

-- ---- from token to token

pub kind_is : (ps : List Pair) (i : ℕ) (p : Pair) (kind : Kind) → slice_get ps i ≡ Some p → Some kind ≡ kind_of ps i → p.kind ≡ kind
kind_is ps i p kind e same =
    let found : Some kind ≡ Some p.kind = same ∙ ap (option_map (λ (q : Pair). q.kind)) e in
    cc

-- the line that ends with this token
pub line_start_at_line_end : (tokenized : TokenizedText) (from at i : ℕ) (kind : Kind) (item : Item) → IsLineStart tokenized from at → from ≤ i → i < length tokenized.pairs → Some kind ≡ kind_of tokenized.pairs i → kind ≡ LineEnd → Some item ≡ item_of tokenized.pairs i
    → modes_after_pairs [] (slice_range tokenized.pairs from i) ≡ [] → IsLineStart tokenized (i + 1) item.stop × IsLineRange tokenized.pairs from (i + 1) × (from < i + 1)
line_start_at_line_end tokenized from at i kind item f le within is end is_item none =
    let there = pair_there tokenized.pairs i within in
    let line = next_line tokenized from at i there.0 f le within there.1 (kind_is tokenized.pairs i there.0 kind there.1 is ∙ end) none in
    let next = (placed tokenized.pairs i there.0 item there.1 is_item).next in
    (subst (IsLineStart tokenized (i + 1)) (sym next) line.0, line.1, omega arith)

-- ---- tokens that don't join

apart_push : (ps : List Pair) (p q : Pair) → AreApart (ps ++ p ∷ []) → IsApart p.kind p.spelling (q ∷ []) → AreApart ((ps ++ p ∷ []) ++ q ∷ [])
apart_push [] p q a one = (one, (tt, tt))
apart_push (r ∷ []) p q a one = (a.0, (one, (tt, tt)))
apart_push (r ∷ s ∷ ps) p q a one = (a.0, apart_push (s ∷ ps) p q a.1 one)

-- the first tokens, with one more
pub apart_more : (ps : List Pair) (i : ℕ) → 0 < i → i < length ps → AreApart (take i ps) → ((p q : Pair) → slice_get ps (i - 1) ≡ Some p → slice_get ps i ≡ Some q → IsApart p.kind p.spelling (q ∷ [])) → AreApart (take (i + 1) ps)
apart_more ps i some within a apart =
    let first = pair_there ps (i - 1) (omega arith) in
    let second = pair_there ps i within in
    let back : i - 1 + 1 ≡ i = omega arith in
    let before : take i ps ≡ take (i - 1) ps ++ first.0 ∷ [] = ap (λ n. take n ps) (sym back) ∙ take_next ps (i - 1) first.0 first.1 in
    let more : take (i + 1) ps ≡ (take (i - 1) ps ++ first.0 ∷ []) ++ second.0 ∷ [] = take_next ps i second.0 second.1 ∙ ap (λ (x : List Pair). x ++ second.0 ∷ []) before in
    subst AreApart (sym more) (apart_push (take (i - 1) ps) first.0 second.0 (subst AreApart before a) (apart first.0 second.0 first.1 second.1))

pub apart_one : (ps : List Pair) → AreApart (take 1 ps)
apart_one [] = tt
apart_one (p ∷ ps) = (tt, tt)

pub apart_all : (ps : List Pair) (i : ℕ) → length ps ≤ i → AreApart (take i ps) → AreApart ps
apart_all ps i all a = subst AreApart (take_all i ps all) a

-- the last token ends a line
pub last_ends : (ps : List Pair) (kind : Kind) → 0 < length ps → Some kind ≡ kind_of ps (length ps - 1) → kind ≡ LineEnd → EndsWithLineEnd ps
last_ends ps kind some is end =
    let last = pair_there ps (length ps - 1) (omega arith) in
    let back : length ps - 1 + 1 ≡ length ps = omega arith in
    let all : ps ≡ take (length ps - 1) ps ++ last.0 ∷ [] = sym (take_all (length ps) ps (omega arith)) ∙ ap (λ n. take n ps) (sym back) ∙ take_next ps (length ps - 1) last.0 last.1 in
    subst EndsWithLineEnd (sym all) (ends_more (take (length ps - 1) ps) last.0 (kind_is ps (length ps - 1) last.0 kind last.1 is ∙ end))
