-- Tokens in order, and the parts of a text that they represent.
use Rattle.std.proofs.Common.{◌≡◌, ℕ, zero, suc, ◌+◌, ◌-◌, ◌<◌, ◌≤◌, List, [], ◌∷◌, ◌++◌, length, take, drop, get_or, slice_range, slice_get, Some, IsUtf8, refl, sym, ap, ap₂, subst, ◌∙◌, arith, append_assoc, length-append, length-drop}
use Rattle.std.proofs.lemmas.List.{append_cancel_right, length-take-le, get_or_default}
use Rattle.std.proofs.lemmas.List.Folds.{drop_split}
use Rattle.hcl_token.specs.declared.item.Item.{Item}
use Rattle.hcl_token.specs.declared.span.Span.{Span}
use Rattle.hcl_token.specs.Tokens.{Pair, whole_text}
use Rattle.hcl_token.specs.Pairs.{pair_at, pairs_from, pairs_of, spans_from, InOrder, gap_at, gap_from}
use Rattle.hcl_token.specs.TokenizedText.{AreUtf8, item_after}
use Rattle.hcl_token.specs.Inner.LineColumn.{IsWellFormed}

pub order-le : (tokens : List Span) (from last : ℕ) → InOrder from tokens last → from ≤ last
order-le [] from last o = omega arith
order-le (x ∷ tokens) from last o = omega (arith, order-le tokens x.stop last o.2)

-- what holds of a token by its number
pub order-at : (tokens : List Span) (from last i : ℕ) (d : Span) → InOrder from tokens last → i < length tokens
    → (gap_from from tokens i ≤ (get_or tokens i d).start) × ((get_or tokens i d).start ≤ (get_or tokens i d).stop) × ((get_or tokens i d).stop ≤ last)
order-at [] from last i d o h = absurd (omega arith)
order-at (x ∷ tokens) from last zero d o h = (o.0, o.1, order-le tokens x.stop last o.2)
order-at (x ∷ tokens) from last (suc i) d o h = order-at tokens x.stop last i d o.2 (omega arith)

pub utf8-at : (text : List ℕ) (tokens : List Span) (from i : ℕ) (d : Span) → AreUtf8 (pairs_from text from tokens) → i < length tokens
    → IsUtf8 (pair_at text (gap_from from tokens i) (get_or tokens i d)).gap × IsUtf8 (pair_at text (gap_from from tokens i) (get_or tokens i d)).spelling
utf8-at text [] from i d u h = absurd (omega arith)
utf8-at text (x ∷ tokens) from zero d u h = (u.0, u.1)
utf8-at text (x ∷ tokens) from (suc i) d u h = utf8-at text tokens x.stop i d u.2 (omega arith)

pub pair-at : (text : List ℕ) (tokens : List Span) (from i : ℕ) (token : Span) → i < length tokens → token ≡ get_or tokens i token
    → slice_get (pairs_from text from tokens) i ≡ Some (pair_at text (gap_from from tokens i) token)
pair-at text [] from i token h e = absurd (omega arith)
pair-at text (x ∷ tokens) from zero token h e = ap (λ (y : Span). Some (pair_at text from y)) (sym e)
pair-at text (x ∷ tokens) from (suc i) token h e = pair-at text tokens x.stop i token (omega arith) e

pub length-pairs : (text : List ℕ) (tokens : List Span) (from : ℕ) → length (pairs_from text from tokens) ≡ length tokens
length-pairs text [] from = refl
length-pairs text (x ∷ tokens) from = ap suc (length-pairs text tokens x.stop)

pub pairs-take : (text : List ℕ) (tokens : List Span) (from n : ℕ) → take n (pairs_from text from tokens) ≡ pairs_from text from (take n tokens)
pairs-take text [] from zero = refl
pairs-take text [] from (suc n) = refl
pairs-take text (x ∷ tokens) from zero = refl
pairs-take text (x ∷ tokens) from (suc n) = ap (λ (ps : List Pair). pair_at text from x ∷ ps) (pairs-take text tokens x.stop n)

pub pairs-drop : (text : List ℕ) (tokens : List Span) (from n : ℕ) → drop n (pairs_from text from tokens) ≡ pairs_from text (gap_from from tokens n) (drop n tokens)
pairs-drop text [] from zero = refl
pairs-drop text [] from (suc n) = refl
pairs-drop text (x ∷ tokens) from zero = refl
pairs-drop text (x ∷ tokens) from (suc n) = pairs-drop text tokens x.stop n

-- where the gap before a token begins
pub gap-first : (tokens : List Span) (from : ℕ) → gap_from from tokens 0 ≡ from
gap-first [] from = refl
gap-first (x ∷ tokens) from = refl

pub gap-after : (tokens : List Span) (from i : ℕ) (d : Span) → i < length tokens → gap_from from tokens (suc i) ≡ (get_or tokens i d).stop
gap-after [] from i d h = absurd (omega arith)
gap-after (x ∷ tokens) from zero d h = gap-first tokens x.stop
gap-after (x ∷ tokens) from (suc i) d h = gap-after tokens x.stop i d (omega arith)

gap-drop : (tokens : List Span) (from i k : ℕ) → gap_from (gap_from from tokens i) (drop i tokens) k ≡ gap_from from tokens (i + k)
gap-drop tokens from zero k = ap (λ n. gap_from n tokens k) (gap-first tokens from) ∙ ap (gap_from from tokens) (omega arith)
gap-drop [] from (suc i) k = refl
gap-drop (x ∷ tokens) from (suc i) k =
    let more : suc (i + k) ≡ suc i + k = omega arith in
    gap-drop tokens x.stop i k ∙ ap (gap_from from (x ∷ tokens)) more

pub order-drop : (tokens : List Span) (from last i : ℕ) → InOrder from tokens last → InOrder (gap_from from tokens i) (drop i tokens) last
order-drop [] from last zero o = o
order-drop [] from last (suc i) o = o
order-drop (x ∷ tokens) from last zero o = o
order-drop (x ∷ tokens) from last (suc i) o = order-drop tokens x.stop last i o.2

pub order-take : (tokens : List Span) (from last i : ℕ) → InOrder from tokens last → InOrder from (take i tokens) (gap_from from tokens i)
order-take [] from last zero o = refl
order-take [] from last (suc i) o = refl
order-take (x ∷ tokens) from last zero o = refl
order-take (x ∷ tokens) from last (suc i) o = (o.0, o.1, order-take tokens x.stop last i o.2)

pub order-slice : (tokens : List Span) (begin last from to : ℕ) → InOrder begin tokens last → from ≤ to
    → InOrder (gap_from begin tokens from) (slice_range tokens from to) (gap_from begin tokens to)
order-slice tokens begin last from to o le =
    let end : from + (to - from) ≡ to = omega arith in
    subst (λ n. InOrder (gap_from begin tokens from) (slice_range tokens from to) n)
    (gap-drop tokens begin from (to - from) ∙ ap (gap_from begin tokens) end)
    (order-take (drop from tokens) (gap_from begin tokens from) last (to - from) (order-drop tokens begin last from o))

pub gap-le : (tokens : List Span) (begin last i : ℕ) → InOrder begin tokens last → gap_from begin tokens i ≤ last
gap-le tokens begin last i o = order-le (drop i tokens) (gap_from begin tokens i) last (order-drop tokens begin last i o)

pub utf8-drop : (text : List ℕ) (tokens : List Span) (from i : ℕ) → AreUtf8 (pairs_from text from tokens) → AreUtf8 (pairs_from text (gap_from from tokens i) (drop i tokens))
utf8-drop text [] from zero u = u
utf8-drop text [] from (suc i) u = u
utf8-drop text (x ∷ tokens) from zero u = u
utf8-drop text (x ∷ tokens) from (suc i) u = utf8-drop text tokens x.stop i u.2

utf8-take : (text : List ℕ) (tokens : List Span) (from i : ℕ) → AreUtf8 (pairs_from text from tokens) → AreUtf8 (pairs_from text from (take i tokens))
utf8-take text tokens from zero u = tt
utf8-take text [] from (suc i) u = u
utf8-take text (x ∷ tokens) from (suc i) u = (u.0, u.1, utf8-take text tokens x.stop i u.2)

pub utf8-slice : (text : List ℕ) (tokens : List Span) (begin from to : ℕ) → AreUtf8 (pairs_from text begin tokens)
    → AreUtf8 (pairs_from text (gap_from begin tokens from) (slice_range tokens from to))
utf8-slice text tokens begin from to u = utf8-take text (drop from tokens) (gap_from begin tokens from) (to - from) (utf8-drop text tokens begin from u)

-- the gaps and the tokens make the text
pub text_is-from : (text : List ℕ) (tokens : List Span) (from last : ℕ) → InOrder from tokens last → whole_text (pairs_from text from tokens) (drop last text) ≡ drop from text
text_is-from text [] from last o = ap (λ n. drop n text) (sym o)
text_is-from text (x ∷ tokens) from last o =
    let rest = text_is-from text tokens x.stop last o.2 in
    let spelling : drop x.start text ≡ slice_range text x.start x.stop ++ drop x.stop text = drop_split text x.start x.stop o.1 in
    let gap : drop from text ≡ slice_range text from x.start ++ drop x.start text = drop_split text from x.start o.0 in
    ap (λ (r : List ℕ). slice_range text from x.start ++ (slice_range text x.start x.stop ++ r)) rest
    ∙ ap (λ (r : List ℕ). slice_range text from x.start ++ r) (sym spelling)
    ∙ sym gap

pub whole_text-append : (pairs : List Pair) (last : List ℕ) → whole_text pairs last ≡ whole_text pairs [] ++ last
whole_text-append [] last = refl
whole_text-append (p ∷ pairs) last =
    ap (λ (r : List ℕ). p.gap ++ (p.spelling ++ r)) (whole_text-append pairs last)
    ∙ ap (λ (r : List ℕ). p.gap ++ r) (sym (append_assoc p.spelling (whole_text pairs []) last))
    ∙ sym (append_assoc p.gap (p.spelling ++ whole_text pairs []) last)

pub text_is-slice : (text : List ℕ) (tokens : List Span) (from to : ℕ) → InOrder from tokens to → whole_text (pairs_from text from tokens) [] ≡ slice_range text from to
text_is-slice text tokens from to o =
    append_cancel_right (whole_text (pairs_from text from tokens) []) (slice_range text from to) (drop to text)
    (sym (whole_text-append (pairs_from text from tokens) (drop to text)) ∙ text_is-from text tokens from to o ∙ drop_split text from to (order-le tokens from to o))

pub length-range : (text : List ℕ) (from to : ℕ) → from ≤ to → to ≤ length text → length (slice_range text from to) ≡ to - from
length-range text from to le within = length-take-le (to - from) (drop from text) (omega (arith, length-drop from text))

-- what is known of token i of a text
pub record IsTokenAt (text : List ℕ) (tokens : List Span) (i : ℕ) (token : Span) : Type 0 where
  pub gap : gap_at tokens i ≤ token.start
  pub spelling : token.start ≤ token.stop
  pub within : token.stop ≤ length text
  pub gap_utf8 : IsUtf8 (slice_range text (gap_at tokens i) token.start)
  pub spelling_utf8 : IsUtf8 (slice_range text token.start token.stop)
  pub pair : slice_get (pairs_of text tokens) i ≡ Some (pair_at text (gap_at tokens i) token)

pub token_at : (text : List ℕ) (tokens : List Span) (last i : ℕ) (token d : Span) → IsWellFormed text tokens last → i < length tokens → token ≡ get_or tokens i d
    → IsTokenAt text tokens i token
token_at text tokens last i token d o h e =
    let places = order-at tokens 0 last i d o.order h in
    let utf8 = utf8-at text tokens 0 i d o.utf8 h in
    let same : token ≡ get_or tokens i token = e ∙ get_or_default tokens i d token h in
    let starts : token.start ≡ (get_or tokens i d).start = ap (λ (x : Span). x.start) e in
    let stops : token.stop ≡ (get_or tokens i d).stop = ap (λ (x : Span). x.stop) e in
    record {
      gap = omega (arith, places.0, starts);
      spelling = omega (arith, places.1, starts, stops);
      within = omega (arith, places.2, stops, o.within);
      gap_utf8 = subst (λ (x : Span). IsUtf8 (slice_range text (gap_at tokens i) x.start)) (sym e) utf8.0;
      spelling_utf8 = subst (λ (x : Span). IsUtf8 (slice_range text x.start x.stop)) (sym e) utf8.1;
      pair = pair-at text tokens 0 i token h same;
    }

-- what is before token i, and the token by the lengths of that
pub text_is-before : (text : List ℕ) (tokens : List Span) (last i : ℕ) → InOrder 0 tokens last → whole_text (take i (pairs_of text tokens)) [] ≡ slice_range text 0 (gap_at tokens i)
text_is-before text tokens last i o =
    ap (λ (ps : List Pair). whole_text ps []) (pairs-take text tokens 0 i)
    ∙ text_is-slice text (take i tokens) 0 (gap_at tokens i) (order-take tokens 0 last i o)

same_item : (item : Item) (gap_at start stop : ℕ) → item.gap_at ≡ gap_at → item.start ≡ start → item.stop ≡ stop
    → let other : Item = record { gap_at = gap_at; start = start; stop = stop; kind = item.kind } in item ≡ other
same_item item gap_at start stop e f g =
    let with_gap : ℕ → Item = λ n. record { gap_at = n; start = item.start; stop = item.stop; kind = item.kind } in
    let with_start : ℕ → Item = λ n. record { gap_at = gap_at; start = n; stop = item.stop; kind = item.kind } in
    let with_stop : ℕ → Item = λ n. record { gap_at = gap_at; start = start; stop = n; kind = item.kind } in
    ap with_gap e ∙ ap with_start f ∙ ap with_stop g

pub item_is : (text : List ℕ) (tokens : List Span) (last i at : ℕ) (token : Span) → IsWellFormed text tokens last → at ≡ gap_at tokens i → IsTokenAt text tokens i token
    → let item : Item = record { gap_at = at; start = token.start; stop = token.stop; kind = token.kind } in
    item ≡ item_after (take i (pairs_of text tokens)) (pair_at text (gap_at tokens i) token)
item_is text tokens last i at token o begins k =
    let from : ℕ = gap_at tokens i in
    let before : List Pair = take i (pairs_of text tokens) in
    let gap : List ℕ = slice_range text from token.start in
    let spelling : List ℕ = slice_range text token.start token.stop in
    let leading : length (whole_text before []) ≡ from =
    ap length (text_is-before text tokens last i o.order) ∙ length-range text 0 from (omega arith) (omega (arith, k.gap, k.spelling, k.within))
    ∙ omega arith in
    let gap_len : length gap ≡ token.start - from = length-range text from token.start k.gap (omega (arith, k.spelling, k.within)) in
    let spelling_len : length spelling ≡ token.stop - token.start = length-range text token.start token.stop k.spelling k.within in
    let with_gap : length (whole_text before gap) ≡ token.start =
    ap length (whole_text-append before gap) ∙ length-append (whole_text before []) gap ∙ omega (arith, leading, gap_len, k.gap) in
    let with_token : length (whole_text before (gap ++ spelling)) ≡ token.stop =
    ap length (whole_text-append before (gap ++ spelling)) ∙ length-append (whole_text before []) (gap ++ spelling)
    ∙ omega (arith, leading, gap_len, spelling_len, k.gap, k.spelling, length-append gap spelling) in
    let item : Item = record { gap_at = at; start = token.start; stop = token.stop; kind = token.kind } in
    same_item item _ _ _ (begins ∙ sym leading) (sym with_gap) (sym with_token)

-- ---- tokens by the lengths of their pairs

same_span : (token : Span) (start stop : ℕ) → token.start ≡ start → token.stop ≡ stop → ◌≡◌ {A = Span} token (record { start = start; stop = stop; kind = token.kind })
same_span token start stop e f =
    let with_start : ℕ → Span = λ n. record { start = n; stop = token.stop; kind = token.kind } in
    let with_stop : ℕ → Span = λ n. record { start = start; stop = n; kind = token.kind } in
    ap with_start e ∙ ap with_stop f

pub spans_again : (text : List ℕ) (tokens : List Span) (from last : ℕ) → InOrder from tokens last → last ≤ length text → tokens ≡ spans_from from (pairs_from text from tokens)
spans_again text [] from last o within = refl
spans_again text (x ∷ tokens) from last o within =
    let end : x.stop ≤ last = order-le tokens x.stop last o.2 in
    let gap : List ℕ = slice_range text from x.start in
    let spelling : List ℕ = slice_range text x.start x.stop in
    let gap_len : length gap ≡ x.start - from = length-range text from x.start o.0 (omega (arith, o.1)) in
    let spelling_len : length spelling ≡ x.stop - x.start = length-range text x.start x.stop o.1 (omega arith) in
    let start : x.start ≡ from + length gap = omega (arith, o.0) in
    let stop : x.stop ≡ from + length gap + length spelling = omega (arith, o.0, o.1) in
    ap₂ (λ (t : Span) (l : List Span). t ∷ l) (same_span x _ _ start stop)
    (spans_again text tokens x.stop last o.2 within ∙ ap (λ n. spans_from n (pairs_from text x.stop tokens)) stop)
