-- Lines of the text before that are taken over into a new one.
use Rattle.std.proofs.Common.{◌≡◌, true, ℕ, ◌+◌, ◌-◌, ◌≤◌, List, [], ◌∷◌, ◌++◌, length, take, drop}
use Rattle.std.proofs.Common.{slice_range, refl, sym, ap, ap₂, subst, ◌∙◌, inl, arith, append_assoc}
use Rattle.std.proofs.Common.{length-append, length-drop, length-take-le, take-append-drop}
use Rattle.std.proofs.Common.{drop-drop, drop_at, take_all}
use Rattle.std.proofs.lemmas.List.Folds.{drop_split}
use Rattle.std.specs.List.{list_all}
use Rattle.hcl_token.specs.declared.span.Span.{Span}
use Rattle.hcl_token.specs.TokenizedText.{TokenizedText}
use Rattle.hcl_token.specs.Pairs.{pair_at, pairs_from, pairs_of, spans_from, InOrder}
use Rattle.hcl_token.specs.Tokens.{Pair, whole_text}
use Rattle.hcl_scan.specs.Characters.{is_whitespace}
use Rattle.hcl_scan.specs.Tokenization.{IsTokenization, MAX_TEXT}
use Rattle.hcl_scan.specs.Follows.{FollowsFrom, Follows}
use Rattle.hcl_rescan.specs.Inner.WholeLines.{EndsWithLineEnd, AreWholeLines, AreSelfContained}
use Rattle.hcl_rescan.specs.Inner.WholeLines.{IsLineStart, IsLineRange, IsRescannedTo, IsRescanned}
use Rattle.hcl_scan.proofs.PairLemmas.{joining_rest}
use Rattle.hcl_scan.proofs.WritesBack.{writes_back}
use Rattle.hcl_rescan.proofs.LineLemmas.{lines_both, last_both, whole_rest, whole_both, range_at, RangeText}

-- ---- the text begun

same_pair : (p : Pair) (gap spelling : List ℕ) → gap ≡ p.gap → spelling ≡ p.spelling
    → ◌≡◌ {A = Pair} (record { gap = gap; kind = p.kind; spelling = spelling }) p
same_pair p gap spelling e f = ap₂ (λ (x y : List ℕ). record { gap = x; kind = p.kind; spelling = y }) e f

-- pairs that are in a text are those of their tokens
pub pairs_again : (ps : List Pair) (text : List ℕ) (at : ℕ) (rest : List ℕ)
    → drop at text ≡ whole_text ps rest → pairs_from text at (spans_from at ps) ≡ ps
pairs_again [] text at rest e = refl
pairs_again (p ∷ ps) text at rest e =
    let more : List ℕ = whole_text ps rest in
    let start : ℕ = at + length p.gap in
    let stop : ℕ = start + length p.spelling in
    let zero_at : at + 0 ≡ at = omega arith in
    let zero_more : at + 0 + length p.gap ≡ start = omega arith in
    let gap : slice_range text at start ≡ p.gap =
    sym (ap₂ (slice_range text) zero_at zero_more) ∙ range_at text [] p.gap (p.spelling ++ more) at e in
    let spelling : slice_range text start stop ≡ p.spelling = range_at text p.gap p.spelling more at e in
    let following : drop stop text ≡ more =
    sym (drop-drop (length p.gap + length p.spelling) at text ∙ ap (λ n. drop n text) (omega arith))
    ∙ ap (drop (length p.gap + length p.spelling)) (e ∙ sym (append_assoc p.gap p.spelling more))
    ∙ drop_at (p.gap ++ p.spelling) more (length p.gap + length p.spelling) (length-append p.gap p.spelling) in
    ap₂ (λ (x : Pair) (xs : List Pair). x ∷ xs) (same_pair p (slice_range text at start) (slice_range text start stop) gap spelling) (pairs_again ps text stop rest following)

order_again : (ps : List Pair) (at : ℕ) → InOrder at (spans_from at ps) (at + length (whole_text ps []))
order_again [] at = omega arith
order_again (p ∷ ps) at =
    let next : ℕ = at + length p.gap + length p.spelling in
    let far : next + length (whole_text ps []) ≡ at + length (whole_text (p ∷ ps) []) =
    omega (arith, length-append p.gap (p.spelling ++ whole_text ps []), length-append p.spelling (whole_text ps [])) in
    (omega arith, omega arith, subst (λ n. InOrder next (spans_from next ps) n) far (order_again ps next))

order_both : (xs ys : List Span) (from at to : ℕ) → InOrder from xs at → InOrder at ys to
    → InOrder from (xs ++ ys) to
order_both [] ys from at to a b = subst (λ n. InOrder n ys to) (sym a) b
order_both (x ∷ xs) ys from at to a b = (a.0, a.1, order_both xs ys x.stop at to a.2 b)

-- tokens after others begin where these end
pairs_both : (text : List ℕ) (xs ys : List Span) (from at : ℕ) → InOrder from xs at
    → pairs_from text from (xs ++ ys) ≡ pairs_from text from xs ++ pairs_from text at ys
pairs_both text [] ys from at a = ap (λ n. pairs_from text n ys) a
pairs_both text (x ∷ xs) ys from at a =
    ap (λ (ps : List Pair). pair_at text from x ∷ ps) (pairs_both text xs ys x.stop at a.2)

-- what pairs do to the new text, where they follow what is made of it
record ExtendsText (text : List ℕ) (tokens : List Span) (at : ℕ) (ps : List Pair) (rest : List ℕ) : Type 0 where
  pairs : pairs_of text (tokens ++ spans_from at ps) ≡ pairs_of text tokens ++ ps
  text_is : text ≡ whole_text (pairs_of text (tokens ++ spans_from at ps)) rest
  order : InOrder 0 (tokens ++ spans_from at ps) (at + length (whole_text ps []))
  rest_is : drop (at + length (whole_text ps [])) text ≡ rest
  within : at + length (whole_text ps []) + length rest ≡ length text

rescanned_after : (text : List ℕ) (tokens : List Span) (at : ℕ) (ps : List Pair) (rest : List ℕ)
    → IsRescannedTo text tokens at → drop at text ≡ whole_text ps rest → ExtendsText text tokens at ps rest
rescanned_after text tokens at ps rest b e =
    let pairs : pairs_of text (tokens ++ spans_from at ps) ≡ pairs_of text tokens ++ ps =
    pairs_both text tokens (spans_from at ps) 0 at b.order ∙ ap (λ (x : List Pair). pairs_of text tokens ++ x) (pairs_again ps text at rest e) in
    record {
      pairs = pairs;
      text_is = b.text_is ∙ ap (whole_text (pairs_of text tokens)) e ∙ sym (whole_both (pairs_of text tokens) ps rest) ∙ ap (λ (x : List Pair). whole_text x rest) (sym pairs);
      order = order_both tokens (spans_from at ps) 0 at (at + length (whole_text ps [])) b.order (order_again ps at);
      rest_is =
          sym (drop-drop (length (whole_text ps [])) at text)
          ∙ ap (drop (length (whole_text ps []))) (e ∙ whole_rest ps rest)
          ∙ drop_at (whole_text ps []) rest (length (whole_text ps [])) refl;
      within = omega (arith, b.within, length-drop {A = ℕ} at text, ap length e, joining_rest ps rest);
    }

-- the text begun, with lines more
pub rescanned_more : (text : List ℕ) (tokens : List Span) (at : ℕ) (ps : List Pair) (rest : List ℕ)
    → IsRescannedTo text tokens at → AreWholeLines ps → drop at text ≡ whole_text ps rest
    → IsRescannedTo text (tokens ++ spans_from at ps) (at + length (whole_text ps []))
rescanned_more text tokens at ps rest b lines e =
    let more : ExtendsText text tokens at ps rest = rescanned_after text tokens at ps rest b e in
    record {
      within = omega (arith, more.within);
      lines = subst AreWholeLines (sym more.pairs) (lines_both (pairs_of text tokens) ps b.lines lines);
      text_is = more.text_is ∙ ap (whole_text (pairs_of text (tokens ++ spans_from at ps))) (sym more.rest_is);
      order = more.order;
    }

-- the text begun, with its last tokens
pub rescanned_last : (text : List ℕ) (tokens : List Span) (at : ℕ) (ps : List Pair) (last : List ℕ)
    → length text ≤ MAX_TEXT → IsRescannedTo text tokens at → AreSelfContained ps last
    → list_all is_whitespace last ≡ true → drop at text ≡ whole_text ps last
    → IsRescanned text (tokens ++ spans_from at ps) (length text - length last)
rescanned_last text tokens at ps last short b rest is_white e =
    let new : List Pair = pairs_of text (tokens ++ spans_from at ps) in
    let more : ExtendsText text tokens at ps last = rescanned_after text tokens at ps last b e in
    let end : at + length (whole_text ps []) ≡ length text - length last = omega (arith, more.within) in
    let is_last : drop (length text - length last) text ≡ last = ap (λ n. drop n text) (sym end) ∙ more.rest_is in
    let are : AreSelfContained new last = subst (λ (x : List Pair). AreSelfContained x last) (sym more.pairs) (last_both (pairs_of text tokens) ps last b.lines rest) in
    let follows : Follows new last [] = record { body = new; prefix = inl refl; follows = are.follow; whitespace = is_white } in
    let tokenized : IsTokenization (whole_text new last) new last = writes_back new last follows are.apart (subst (λ (x : List ℕ). length x ≤ MAX_TEXT) more.text_is short) in
    record {
      tokenization = subst (λ (x : List ℕ). IsTokenization text new x) (sym is_last) (subst (λ (x : List ℕ). IsTokenization x new last) (sym more.text_is) tokenized);
      order = subst (λ n. InOrder 0 (tokens ++ spans_from at ps) n) end more.order;
      within = omega arith;
    }

-- ---- lines taken over

-- lines of the one text whose bytes are in the other, after what is made of it
pub taken : (text : List ℕ) (tokens new : List Span) (at : ℕ) (tokenized : TokenizedText)
    (from leading to end : ℕ) (bytes : List ℕ) → IsRescannedTo text tokens at
    → IsLineRange tokenized.pairs from to → RangeText tokenized from leading to end
    → bytes ≡ slice_range tokenized.text leading end
    → drop at text ≡ bytes ++ drop (at + length bytes) text
    → new ≡ tokens ++ spans_from at (slice_range tokenized.pairs from to)
    → IsRescannedTo text new (at + length bytes)
taken text tokens new at tokenized from leading to end bytes b s t e drop_is_whole is =
    let lines : List Pair = slice_range tokenized.pairs from to in
    let rest : List ℕ = drop (at + length bytes) text in
    let same : bytes ≡ whole_text lines [] = e ∙ t.bytes in
    let whole : drop at text ≡ whole_text lines rest = drop_is_whole ∙ ap (λ (x : List ℕ). x ++ rest) same ∙ sym (whole_rest lines rest) in
    let size : length bytes ≡ length (whole_text lines []) = ap length same in
    let more : IsRescannedTo text (tokens ++ spans_from at lines) (at + length (whole_text lines [])) = rescanned_more text tokens at lines rest b s.lines whole in
    subst (λ (x : List Span). IsRescannedTo text x (at + length bytes)) (sym is) (subst (λ n. IsRescannedTo text (tokens ++ spans_from at lines) (at + n)) (sym size) more)

-- and they fit there
pub lines_fit : (text bytes : List ℕ) (at : ℕ) (tokenized : TokenizedText) (from leading to end : ℕ)
    → RangeText tokenized from leading to end → bytes ≡ slice_range tokenized.text leading end
    → drop at text ≡ bytes ++ drop (at + length bytes) text → at ≤ length text
    → length text ≤ MAX_TEXT → at + length (whole_text (slice_range tokenized.pairs from to) []) ≤ MAX_TEXT
lines_fit text bytes at tokenized from leading to end t e drop_is_whole within short =
    omega (arith, ap length (e ∙ t.bytes), ap length drop_is_whole, length-append bytes (drop (at + length bytes) text), length-drop {A = ℕ} at text)

all_range : (ps : List Pair) → slice_range ps 0 (length ps) ≡ ps
all_range ps = ap (λ n. take n ps) (omega arith) ∙ take_all (length ps) ps (omega arith)

-- lines that were cut by themselves
pub lines_scanned : (text piece : List ℕ) (tokens new : List Span) (at len : ℕ)
    (tokenized : TokenizedText) → IsRescannedTo text tokens at → at + len ≤ length text
    → piece ≡ slice_range text at (at + len) → IsTokenization piece tokenized.pairs tokenized.last
    → AreSelfContained tokenized.pairs tokenized.last
    → EndsWithLineEnd tokenized.pairs → tokenized.last ≡ []
    → new ≡ tokens ++ spans_from at (slice_range tokenized.pairs 0 (length tokenized.pairs))
    → IsRescannedTo text new (at + len)
lines_scanned text piece tokens new at len tokenized b within e c last ended none is =
    let ps : List Pair = tokenized.pairs in
    let rest : List ℕ = drop (at + len) text in
    let lines : AreWholeLines ps = record { follow = subst (λ (x : List ℕ). FollowsFrom [] ps x []) none last.follow; ended = ended; apart = last.apart } in
    let bytes : whole_text ps [] ≡ slice_range text at (at + len) = ap (whole_text ps) (sym none) ∙ sym c.tokenizes.text_is ∙ e in
    let whole : drop at text ≡ whole_text ps rest = drop_split text at (at + len) (omega arith) ∙ ap (λ (x : List ℕ). x ++ rest) (sym bytes) ∙ sym (whole_rest ps rest) in
    let width : at + len - at ≡ len = omega arith in
    let size : length (whole_text ps []) ≡ len = ap length bytes ∙ length-take-le (at + len - at) (drop at text) (omega (arith, length-drop {A = ℕ} at text)) ∙ width in
    let more : IsRescannedTo text (tokens ++ spans_from at ps) (at + length (whole_text ps [])) = rescanned_more text tokens at ps rest b lines whole in
    let same : new ≡ tokens ++ spans_from at ps = is ∙ ap (λ (x : List Pair). tokens ++ spans_from at x) (all_range ps) in
    subst (λ (x : List Span). IsRescannedTo text x (at + len)) (sym same) (subst (λ n. IsRescannedTo text (tokens ++ spans_from at ps) (at + n)) size more)

-- what is left, as it was in the text before
pub record RestText (text : List ℕ) (at : ℕ) (tokenized : TokenizedText) (from : ℕ) : Type 0 where
  pub text_is : drop at text ≡ whole_text (drop from tokenized.pairs) tokenized.last
  pub pairs : slice_range tokenized.pairs from (length tokenized.pairs) ≡ drop from tokenized.pairs
  pub fits : at + length (whole_text (slice_range tokenized.pairs from (length tokenized.pairs)) []) ≤ MAX_TEXT
  pub last : length tokenized.last ≤ length text

to_end : (text : List ℕ) (at : ℕ) → slice_range text at (length text) ≡ drop at text
to_end text at = take_all (length text - at) (drop at text) (omega (arith, length-drop {A = ℕ} at text))

pub rest_text : (text : List ℕ) (at : ℕ) (tokenized : TokenizedText) (from leading : ℕ)
    → tokenized.text ≡ whole_text tokenized.pairs tokenized.last
    → IsLineStart tokenized from leading → at ≤ length text → length text ≤ MAX_TEXT
    → slice_range text at (length text) ≡ slice_range tokenized.text leading (length tokenized.text)
    → RestText text at tokenized from
rest_text text at tokenized from leading whole f within short same =
    let ps : List Pair = tokenized.pairs in
    let rest : List ℕ = whole_text (drop from ps) tokenized.last in
    let all : tokenized.text ≡ whole_text (take from ps) [] ++ rest =
    whole
    ∙ ap (λ (x : List Pair). whole_text x tokenized.last) (sym (take-append-drop from ps))
    ∙ whole_both (take from ps) (drop from ps) tokenized.last
    ∙ whole_rest (take from ps) rest in
    let old : drop leading tokenized.text ≡ rest = ap (drop leading) all ∙ drop_at (whole_text (take from ps) []) rest leading (sym f.place) in
    let is : drop at text ≡ rest = sym (to_end text at) ∙ same ∙ to_end tokenized.text leading ∙ old in
    let pairs : slice_range ps from (length ps) ≡ drop from ps = take_all (length ps - from) (drop from ps) (omega (arith, length-drop {A = Pair} from ps)) in
    let size : length (whole_text (slice_range ps from (length ps)) []) ≡ length (whole_text (drop from ps) []) = ap (λ (x : List Pair). length (whole_text x [])) pairs in
    record {
      text_is = is;
      pairs = pairs;
      fits = omega (arith, size, ap length is, joining_rest (drop from ps) tokenized.last, length-drop {A = ℕ} at text);
      last = omega (arith, ap length is, joining_rest (drop from ps) tokenized.last, length-drop {A = ℕ} at text);
    }

-- so with the pieces that are compared
pub same_rest : (text old other bytes mine : List ℕ) (at : ℕ) (tokenized : TokenizedText)
    (from leading : ℕ) → tokenized.text ≡ whole_text tokenized.pairs tokenized.last
    → IsLineStart tokenized from leading → at ≤ length text → length text ≤ MAX_TEXT
    → old ≡ tokenized.text → other ≡ tokenized.text → bytes ≡ slice_range old leading (length other)
    → mine ≡ slice_range text at (length text) → mine ≡ bytes → RestText text at tokenized from
same_rest text old other bytes mine at tokenized from leading whole f within short is again bytes_are mine_are same =
    rest_text text at tokenized from leading whole f within short
    (sym mine_are ∙ same ∙ bytes_are ∙ ap₂ (λ (x y : List ℕ). slice_range x leading (length y)) is again)

pub rest_rescanned : (text : List ℕ) (tokens new : List Span) (at : ℕ) (tokenized : TokenizedText)
    (from leading : ℕ) → length text ≤ MAX_TEXT → IsRescannedTo text tokens at
    → IsLineStart tokenized from leading → list_all is_whitespace tokenized.last ≡ true
    → RestText text at tokenized from
    → new ≡ tokens ++ spans_from at (slice_range tokenized.pairs from (length tokenized.pairs))
    → IsRescanned text new (length text - length tokenized.last)
rest_rescanned text tokens new at tokenized from leading short b f is_white rest is =
    let same : new ≡ tokens ++ spans_from at (drop from tokenized.pairs) = is ∙ ap (λ (x : List Pair). tokens ++ spans_from at x) rest.pairs in
    subst (λ (x : List Span). IsRescanned text x (length text - length tokenized.last)) (sym same) (rescanned_last text tokens at (drop from tokenized.pairs) tokenized.last short b f.rest is_white rest.text_is)
