-- What is copied of a text at once: gaps that stay, each with the token after it.
use Rattle.std.proofs.Common.{◌≡◌, ℕ, ◌+◌, ◌-◌, ◌<◌, ◌≤◌, ◌==◌, Bool, true, false, if◌then◌else◌, List, [], ◌∷◌, ◌++◌, length, take, drop, get_or, slice_range, Some, refl, sym, ap, ap₂, ◌∙◌, arith, append_assoc, length-append, length-drop, take-append-drop, take_at}
use Rattle.std.specs.Str.{bytes_eq}
use Rattle.std.specs.Option.{option_map}
use Rattle.std.proofs.lemmas.List.{drop_all, take_all, append-nil, drop-append-le}
use Rattle.hcl_token.specs.declared.item.Item.{Item}
use Rattle.hcl_token.specs.Tokens.{Pair, whole_text}
use Rattle.hcl_token.specs.TokenizedText.{spelling_of, gap_of, item_of, item_after}
use Rattle.hcl_layout.specs.Gaps.Inner.Stages.{KEEP_GAP, resolved_gap, resolved_len, space_count, with_gaps, AreUnchanged}
use Rattle.hcl_layout.specs.Gaps.Space.{spaces}
use Rattle.std.proofs.Common.{zero, suc, subst, sum_by, inl, inr}
use Rattle.std.proofs.lemmas.Bool.{cases_eq}
use Rattle.std.proofs.lemmas.List.Sums.{sum_by-cons}
use Rattle.hcl_layout.proofs.GapsLemmas.GapLaw.{length_replicate}
use Rattle.hcl_layout.proofs.GapsLemmas.CellGaps.{gaps_length}
use Rattle.hcl_layout.proofs.GapsLemmas.LayoutPieces.{same_is}
use Rattle.hcl_layout.proofs.GapsLemmas.LineLemmas.{token_here, spelling_is, gap_is}
use Rattle.hcl_layout.proofs.GapsLemmas.LineWidths.{bytes_joining}
use Rattle.hcl_layout.proofs.GapsLemmas.EditLemmas.{taken_more, text_step, last_at}

-- where the gap before token i begins
pub reached : List Pair → ℕ → ℕ
reached ps i = length (whole_text (take i ps) [])

-- ---- a range of a text in three pieces

module _ (leading piece rest : List ℕ) where
  range_prefix : (a : ℕ) → a ≤ length leading → slice_range (leading ++ (piece ++ rest)) a (length leading) ≡ drop a leading
  range_prefix a h =
      ap (take (length leading - a)) (drop-append-le a leading (piece ++ rest) h)
      ∙ take_at (drop a leading) (piece ++ rest) (length leading - a) (length-drop a leading)

  range_more : (a : ℕ) → a ≤ length leading → slice_range (leading ++ (piece ++ rest)) a (length leading + length piece) ≡ drop a leading ++ piece
  range_more a h =
      ap (take (length leading + length piece - a)) (drop-append-le a leading (piece ++ rest) h ∙ sym (append_assoc (drop a leading) piece rest))
      ∙ take_at (drop a leading ++ piece) rest (length leading + length piece - a) (omega (arith, length-append (drop a leading) piece, length-drop a leading))

-- ---- the text at token i

whole_append : (xs ys : List Pair) (last : List ℕ) → whole_text (xs ++ ys) last ≡ whole_text xs [] ++ whole_text ys last
whole_append [] ys last = refl
whole_append (x ∷ xs) ys last =
    ap (λ (t : List ℕ). x.gap ++ (x.spelling ++ t)) (whole_append xs ys last)
    ∙ sym (append_assoc x.gap (x.spelling ++ whole_text xs []) (whole_text ys last) ∙ ap (λ (t : List ℕ). x.gap ++ t) (append_assoc x.spelling (whole_text xs []) (whole_text ys last)))

module _ (ps : List Pair) (last : List ℕ) (i : ℕ) (g s : List ℕ) (inside : i < length ps) (g_is : Some g ≡ gap_of ps i) (s_is : Some s ≡ spelling_of ps i) where
  split : whole_text ps last ≡ whole_text (take i ps) [] ++ ((g ++ s) ++ whole_text (drop (i + 1) ps) last)
  split =
      let t = token_here ps i (length ps) inside (omega arith) in
      let rest : List ℕ = whole_text (drop (i + 1) ps) last in
      let here : whole_text (drop i ps) last ≡ g ++ (s ++ rest) =
      ap (λ (qs : List Pair). whole_text qs last) t.rest
      ∙ ap₂ (λ (x y : List ℕ). x ++ (y ++ rest)) (sym (gap_is ps i (length ps) g t g_is)) (sym (spelling_is ps i (length ps) s t s_is)) in
      ap (λ (qs : List Pair). whole_text qs last) (sym (take-append-drop i ps))
      ∙ whole_append (take i ps) (drop i ps) last
      ∙ ap (λ (x : List ℕ). whole_text (take i ps) [] ++ x) (here ∙ sym (append_assoc g s rest))

  pub next : reached ps (i + 1) ≡ reached ps i + length (g ++ s)
  unfolding reached
  next =
      let t = token_here ps i (length ps) inside (omega arith) in
      let leading : List ℕ = whole_text (take i ps) [] in
      let extended : whole_text (take (i + 1) ps) [] ≡ leading ++ (g ++ (s ++ [])) =
      ap (λ (qs : List Pair). whole_text qs []) (taken_more ps i t inside)
      ∙ whole_append (take i ps) (t.pair ∷ []) []
      ∙ ap₂ (λ (x y : List ℕ). leading ++ (x ++ (y ++ []))) (sym (gap_is ps i (length ps) g t g_is)) (sym (spelling_is ps i (length ps) s t s_is)) in
      omega (arith, ap length extended, length-append leading (g ++ (s ++ [])), length-append g (s ++ []), length-append s [], length-append g s)

  module _ (source : List ℕ) (source_is : source ≡ whole_text ps last) where
    pub within : reached ps (i + 1) ≤ length source
    unfolding reached
    within =
        let leading : List ℕ = whole_text (take i ps) [] in
        omega (arith, next, ap length source_is, ap length split, length-append leading ((g ++ s) ++ whole_text (drop (i + 1) ps) last), length-append (g ++ s) (whole_text (drop (i + 1) ps) last))

    more : (a : ℕ) → a ≤ reached ps i → slice_range source a (reached ps (i + 1)) ≡ slice_range source a (reached ps i) ++ (g ++ s)
    unfolding reached
    more a h =
        let leading : List ℕ = whole_text (take i ps) [] in
        let rest : List ℕ = whole_text (drop (i + 1) ps) last in
        let is : source ≡ leading ++ ((g ++ s) ++ rest) = source_is ∙ split in
        ap₂ (λ (x : List ℕ) n. slice_range x a n) is next
        ∙ range_more leading (g ++ s) rest a h
        ∙ ap (λ (x : List ℕ). x ++ (g ++ s)) (sym (range_prefix leading (g ++ s) rest a h) ∙ ap (λ (x : List ℕ). slice_range x a (length leading)) (sym is))

    alone : slice_range source (reached ps i + length g) (reached ps (i + 1)) ≡ s
    unfolding reached
    alone =
        let leading : List ℕ = whole_text (take i ps) [] in
        let rest : List ℕ = whole_text (drop (i + 1) ps) last in
        let is : source ≡ (leading ++ g) ++ (s ++ rest) =
        source_is ∙ split ∙ ap (λ (x : List ℕ). leading ++ x) (append_assoc g s rest) ∙ sym (append_assoc leading g (s ++ rest)) in
        let size : length leading + length g ≡ length (leading ++ g) = sym (length-append leading g) in
        let end : reached ps (i + 1) ≡ length (leading ++ g) + length s = omega (arith, next, size, length-append g s) in
        ap (λ (x : List ℕ). slice_range x (length leading + length g) (reached ps (i + 1))) is
        ∙ ap₂ (λ a n. slice_range ((leading ++ g) ++ (s ++ rest)) a n) size end
        ∙ range_more (leading ++ g) s rest (length (leading ++ g)) (omega arith)
        ∙ ap (λ (x : List ℕ). x ++ s) (drop_all (length (leading ++ g)) (leading ++ g) (omega arith))

    -- ---- one token more: what is written, and copied up to it, with what is to come

    module _ (ns : List ℕ) (size : length ns ≡ length ps) (a : ℕ) (h : a ≤ reached ps i) (out whole : List ℕ)
        (so_far : out ++ (slice_range source a (reached ps i) ++ whole_text (drop i (with_gaps ns ps)) []) ≡ whole) where
      pub stays_on : bytes_eq g (resolved_gap (get_or ns i 0) g) ≡ true
          → out ++ (slice_range source a (reached ps (i + 1)) ++ whole_text (drop (i + 1) (with_gaps ns ps)) []) ≡ whole
      stays_on same =
          let rest : List ℕ = whole_text (drop (i + 1) (with_gaps ns ps)) [] in
          let before : List ℕ = slice_range source a (reached ps i) in
          let edits_remain : whole_text (drop i (with_gaps ns ps)) [] ≡ g ++ (s ++ rest) =
          text_step ns ps i g s size inside g_is s_is ∙ ap (λ (x : List ℕ). x ++ (s ++ rest)) (sym (same_is g (resolved_gap (get_or ns i 0) g) same)) in
          ap (λ (x : List ℕ). out ++ (x ++ rest)) (more a h)
          ∙ ap (λ (x : List ℕ). out ++ x) (append_assoc before (g ++ s) rest ∙ ap (λ (x : List ℕ). before ++ x) (append_assoc g s rest ∙ sym edits_remain))
          ∙ so_far

      pub changes : (copied new : List ℕ) → copied ≡ out ++ slice_range source a (reached ps i) → new ≡ copied ++ resolved_gap (get_or ns i 0) g
          → new ++ (slice_range source (reached ps i + length g) (reached ps (i + 1)) ++ whole_text (drop (i + 1) (with_gaps ns ps)) []) ≡ whole
      changes copied new first second =
          let rest : List ℕ = whole_text (drop (i + 1) (with_gaps ns ps)) [] in
          let before : List ℕ = slice_range source a (reached ps i) in
          let gap : List ℕ = resolved_gap (get_or ns i 0) g in
          ap (λ (x : List ℕ). new ++ (x ++ rest)) alone
          ∙ ap (λ (x : List ℕ). x ++ (s ++ rest)) (second ∙ ap (λ (x : List ℕ). x ++ gap) first)
          ∙ append_assoc (out ++ before) gap (s ++ rest)
          ∙ append_assoc out before (gap ++ (s ++ rest))
          ∙ ap (λ (x : List ℕ). out ++ (before ++ x)) (sym (text_step ns ps i g s size inside g_is s_is))
          ∙ so_far

-- each token has a gap
pub gap_there : (ps : List Pair) (i : ℕ) → i < length ps → (g : List ℕ) × (Some g ≡ gap_of ps i)
gap_there ps i inside =
    let t = token_here ps i (length ps) inside (omega arith) in
    (t.pair.gap, sym (ap (option_map (λ (p : Pair). p.gap)) t.at))

-- at the start nothing is written, and nothing is copied
pub nothing_yet : (source : List ℕ) (ps : List Pair) (out whole : List ℕ) → out ≡ [] → out ++ (slice_range source 0 (reached ps 0) ++ whole) ≡ whole
unfolding reached
nothing_yet source ps out whole none = ap (λ (x : List ℕ). x ++ (slice_range source 0 (reached ps 0) ++ whole)) none

-- each token has a spelling
pub spelling_there : (ps : List Pair) (i : ℕ) → i < length ps → (s : List ℕ) × (Some s ≡ spelling_of ps i)
spelling_there ps i inside =
    let t = token_here ps i (length ps) inside (omega arith) in
    (t.pair.spelling, sym (ap (option_map (λ (p : Pair). p.spelling)) t.at))

-- one more gap that stays
pub stay_more : (ps : List Pair) (ns : List ℕ) (from i : ℕ) (gap : List ℕ) → Some gap ≡ gap_of ps i → bytes_eq gap (resolved_gap (get_or ns i 0) gap) ≡ true → AreUnchanged ps ns from i → AreUnchanged ps ns from (i + 1)
stay_more ps ns from i gap there same stay = λ k g later before g_is. elim (cases_eq k i) [
  | inl here ↦
      let both : Some g ≡ Some gap = g_is ∙ ap (gap_of ps) here ∙ sym there in
      let e : g ≡ gap = cc in
      ap₂ (λ (x : List ℕ) j. bytes_eq x (resolved_gap (get_or ns j 0) x)) e here ∙ same
  | inr other ↦ stay k g later (omega arith) g_is
]

-- across gaps that stay: what is written, what is to be copied and the rest are still the whole
module _ (ps : List Pair) (last source : List ℕ) (source_is : source ≡ whole_text ps last) (ns : List ℕ) (size : length ns ≡ length ps) (a : ℕ) (out whole : List ℕ) where
  pub stay_to : (n from to : ℕ) → to ≡ from + n → to ≤ length ps → AreUnchanged ps ns from to → a ≤ reached ps from
      → out ++ (slice_range source a (reached ps from) ++ whole_text (drop from (with_gaps ns ps)) []) ≡ whole
      → (a ≤ reached ps to) × (out ++ (slice_range source a (reached ps to) ++ whole_text (drop to (with_gaps ns ps)) []) ≡ whole)
  stay_to zero from to e fits stay following so_far =
      let same : from ≡ to = omega arith in
      (subst (λ i. a ≤ reached ps i) same following, subst (λ i. out ++ (slice_range source a (reached ps i) ++ whole_text (drop i (with_gaps ns ps)) []) ≡ whole) same so_far)
  stay_to (suc n) from to e fits stay following so_far =
      let inside : from < length ps = omega arith in
      let (g, g_is) = gap_there ps from inside in
      let (s, s_is) = spelling_there ps from inside in
      let one = stays_on ps last from g s inside g_is s_is source source_is ns size a following out whole so_far (stay from g (omega arith) (omega arith) g_is) in
      let further : a ≤ reached ps (from + 1) = omega (arith, next ps last from g s inside g_is s_is, following) in
      stay_to n (from + 1) to (omega arith) fits (λ k h later before h_is. stay k h (omega arith) before h_is) further one

-- the places of a token
pub gap_place : (ps : List Pair) (i : ℕ) (item : Item) (g : List ℕ) → i < length ps → Some item ≡ item_of ps i → Some g ≡ gap_of ps i
    → (item.gap_at ≡ reached ps i) × (item.start ≡ reached ps i + length g)
unfolding reached
gap_place ps i item g inside item_is g_is =
    let t = token_here ps i (length ps) inside (omega arith) in
    let e = item_is ∙ ap (option_map (λ (p : Pair). item_after (take i ps) p)) t.at in
    let f : item ≡ item_after (take i ps) t.pair = cc in (
      ap (λ (x : Item). x.gap_at) f,
      ap (λ (x : Item). x.start) f ∙ omega (arith, bytes_joining (take i ps) t.pair.gap, bytes_joining (take i ps) [], ap length (gap_is ps i (length ps) g t g_is)),
    )

-- after the last token
pub all_copied : (ns : List ℕ) (ps : List Pair) (last source : List ℕ) (i a : ℕ) (out whole : List ℕ) → length ns ≡ length ps → length ps ≤ i → source ≡ whole_text ps last
    → out ++ (slice_range source a (reached ps i) ++ whole_text (drop i (with_gaps ns ps)) []) ≡ whole
    → (reached ps i ≡ length source - length last) × (out ++ slice_range source a (reached ps i) ≡ whole)
unfolding reached
all_copied ns ps last source i a out whole size h source_is so_far =
    let none : whole_text (drop i (with_gaps ns ps)) [] ≡ [] = ap (λ (qs : List Pair). whole_text qs []) (drop_all i (with_gaps ns ps) (omega (arith, gaps_length ns ps size))) in
    let all : reached ps i ≡ length (whole_text ps []) = ap (λ (qs : List Pair). length (whole_text qs [])) (take_all i ps h) in
    let before : List ℕ = slice_range source a (reached ps i) in (
      all ∙ sym (last_at ps last source source_is),
      ap (λ (x : List ℕ). out ++ x) (sym (append-nil before) ∙ ap (λ (x : List ℕ). before ++ x) (sym none)) ∙ so_far,
    )

-- ---- lengths

-- a token by its places
item_there : (ps : List Pair) (i : ℕ) (item : Item) → i < length ps → Some item ≡ item_of ps i → (p : Pair) × (Some p.gap ≡ gap_of ps i) × (Some p.spelling ≡ spelling_of ps i) × (item.start ≡ item.gap_at + length p.gap) × (item.stop ≡ item.start + length p.spelling)
item_there ps i item inside item_is =
    let t = token_here ps i (length ps) inside (omega arith) in
    let e = item_is ∙ ap (option_map (λ (p : Pair). item_after (take i ps) p)) t.at in
    let f : item ≡ item_after (take i ps) t.pair = cc in
    let none = bytes_joining (take i ps) [] in
    let gap = bytes_joining (take i ps) t.pair.gap in
    let both = bytes_joining (take i ps) (t.pair.gap ++ t.pair.spelling) in (
      t.pair,
      sym (ap (option_map (λ (p : Pair). p.gap)) t.at),
      sym (ap (option_map (λ (p : Pair). p.spelling)) t.at),
      omega (arith, ap (λ (x : Item). x.start) f, ap (λ (x : Item). x.gap_at) f, none, gap),
      omega (arith, ap (λ (x : Item). x.stop) f, ap (λ (x : Item). x.start) f, gap, both, length-append t.pair.gap t.pair.spelling),
    )

pub item_order : (ps : List Pair) (i : ℕ) (item : Item) → i < length ps → Some item ≡ item_of ps i → (item.gap_at ≤ item.start) × (item.start ≤ item.stop)
item_order ps i item inside item_is =
    let (p, g, s, start, stop) = item_there ps i item inside item_is in
    (omega (arith, start), omega (arith, stop))

meant_len : (m a b c : ℕ) (g s : List ℕ) (test : Bool) → (m == KEEP_GAP) ≡ test → b ≡ a + length g → c ≡ b + length s → length (resolved_gap m g) + length s ≡ (if m == KEEP_GAP then c - a else m + (c - b))
meant_len m a b c g s true h p q = rw h (omega (arith, p, q))
meant_len m a b c g s false h p q = rw h (omega (arith, p, q, length_replicate m 32))

-- one token more
pub item_step : (ns : List ℕ) (ps : List Pair) (i : ℕ) (item : Item) (n : ℕ) → length ns ≡ length ps → i < length ps → Some item ≡ item_of ps i → n ≡ resolved_len (get_or ns i 0) item
    → length (whole_text (drop i (with_gaps ns ps)) []) ≡ n + length (whole_text (drop (i + 1) (with_gaps ns ps)) [])
item_step ns ps i item n size inside item_is n_is =
    let (p, g, s, start, stop) = item_there ps i item inside item_is in
    let m : ℕ = get_or ns i 0 in
    let rest : List ℕ = whole_text (drop (i + 1) (with_gaps ns ps)) [] in
    let whole = ap length (text_step ns ps i p.gap p.spelling size inside g s) in
    let len = meant_len m item.gap_at item.start item.stop p.gap p.spelling (m == KEEP_GAP) refl start stop in
    omega (arith, whole, len, n_is, length-append (resolved_gap m p.gap) (p.spelling ++ rest), length-append p.spelling rest)

-- ---- capacity

gap_most : (n : ℕ) (g : List ℕ) → length (resolved_gap n g) ≤ length g + space_count n
gap_most n g = elim (n == KEEP_GAP) as (λ v. length (if v then g else spaces n) ≤ length g + (if v then 0 else n)) [
  | true ↦ omega arith
  | false ↦ omega (arith, length_replicate n 32)
]

-- a text has no more bytes than it had with its old gaps, plus the new ones
pub most_len : (ns : List ℕ) (ps : List Pair) → length (whole_text (with_gaps ns ps) []) ≤ length (whole_text ps []) + sum_by space_count ns
most_len [] ps = omega arith
most_len (n ∷ ns) [] = omega arith
most_len (n ∷ ns) (p ∷ ps) =
    let old : List ℕ = whole_text ps [] in
    let new : List ℕ = whole_text (with_gaps ns ps) [] in
    omega (
      arith,
      most_len ns ps,
      gap_most n p.gap,
      sum_by-cons space_count n ns,
      length-append (resolved_gap n p.gap) (p.spelling ++ new),
      length-append p.spelling new,
      length-append p.gap (p.spelling ++ old),
      length-append p.spelling old,
    )
