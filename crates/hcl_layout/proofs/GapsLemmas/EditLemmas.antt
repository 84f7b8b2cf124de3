-- Gaps compared, counted and written as edits.
use Rattle.std.proofs.Common.{◌≡◌, ℕ, zero, suc, ◌+◌, ◌-◌, ◌<◌, ◌≤◌, ◌==◌, ◌&&◌, Bool, true, false, List, [], ◌∷◌, ◌++◌, length, take, drop, get_or, Some, if◌then◌else◌, refl, sym, ap, ap₂, ◌∙◌, arith, length-append, append_assoc}
use Rattle.std.specs.Str.{bytes_eq}
use Rattle.std.specs.Prelude.{slice_get}
use Rattle.std.specs.Option.{option_map}
use Rattle.std.proofs.lemmas.List.{drop_more, drop_all, take_more, take_all, append-nil}
use Rattle.std.proofs.lemmas.Bool.{and_right}
use Rattle.std.proofs.lemmas.Bool.Decides.{nat_tests}
use Rattle.hcl_token.specs.Tokens.{Pair, whole_text}
use Rattle.hcl_token.specs.TokenizedText.{spelling_of, gap_of}
use Rattle.edit_record.specs.Lists.Pieces.{EditEntry, Piece, changed_entries}
use Rattle.hcl_token.specs.declared.item.Item.{Item}
use Rattle.hcl_token.specs.TokenizedText.{item_of, item_after}
use Rattle.hcl_layout.proofs.GapsLemmas.LineWidths.{bytes_joining}
use Rattle.edit_record.specs.Lists.Pieces.Piece.{Kept, Changed}
use Rattle.hcl_layout.specs.Gaps.Space.{spaces}
use Rattle.hcl_layout.specs.Gaps.Layout.{gap_piece, pieces}
use Rattle.hcl_layout.specs.Gaps.Inner.Stages.{unchanged, KEEP_GAP, resolved_gap, with_gaps, AreUnchanged, IsChanged}
use Rattle.hcl_layout.proofs.GapsLemmas.LineLemmas.{TokenHere, token_here, spelling_is, gap_is}
use Rattle.hcl_layout.proofs.GapsLemmas.CellGaps.{gapped, gaps_length}
use Rattle.hcl_layout.proofs.GapsLemmas.LayoutPieces.{same_self_bytes}

-- ---- comparing a gap

pub other_length : (g : List ℕ) (n : ℕ) → (length g ≡ n → ⊥) → bytes_eq g (spaces n) ≡ false
other_length [] zero h = absurd (h refl)
other_length [] (suc n) h = refl
other_length (a ∷ g) zero h = refl
other_length (a ∷ g) (suc n) h = and_right (a == 32) (bytes_eq g (spaces n)) (other_length g n (λ e. h (ap suc e)))

gap_step : (g : List ℕ) (i : ℕ) → i < length g → bytes_eq (drop i g) (spaces (length g - i)) ≡ ((get_or g i 0 == 32) && bytes_eq (drop (i + 1) g) (spaces (length g - (i + 1))))
gap_step g i h =
    let count : length g - i ≡ suc (length g - (i + 1)) = omega arith in
    ap₂ (λ (t : List ℕ) n. bytes_eq t (spaces n)) (drop_more g i 0 h) count

pub gap_differs : (g : List ℕ) (i : ℕ) → i < length g → (get_or g i 0 ≡ 32 → ⊥) → bytes_eq (drop i g) (spaces (length g - i)) ≡ false
gap_differs g i h n = let test : (get_or g i 0 == 32) ≡ false = grind (arith, nat_tests, n) in gap_step g i h ∙ rw test refl

pub gap_next : (g : List ℕ) (i : ℕ) → i < length g → get_or g i 0 ≡ 32 → bytes_eq (drop i g) (spaces (length g - i)) ≡ bytes_eq (drop (i + 1) g) (spaces (length g - (i + 1)))
gap_next g i h n = let test : (get_or g i 0 == 32) ≡ true = grind (arith, nat_tests, n) in gap_step g i h ∙ rw test refl

pub gap_ends : (g : List ℕ) (i : ℕ) → length g ≤ i → bytes_eq (drop i g) (spaces (length g - i)) ≡ true
gap_ends g i h = let none : length g - i ≡ 0 = omega arith in ap₂ (λ (t : List ℕ) n. bytes_eq t (spaces n)) (drop_all i g h) none

-- a gap of spaces alone
pub all_spaces : (g : List ℕ) (n : ℕ) → g ≡ spaces (length g) → length g ≡ n → true ≡ bytes_eq g (spaces n)
all_spaces g n h e = sym (same_self_bytes g) ∙ ap (bytes_eq g) (h ∙ ap spaces e)

pub stays_spaced : (g : List ℕ) (n : ℕ) → bytes_eq g (spaces n) ≡ true → bytes_eq g (resolved_gap n g) ≡ true
stays_spaced g n h = elim (n == KEEP_GAP) as (λ b. bytes_eq g (if b then g else spaces n) ≡ true) [
  | true ↦ same_self_bytes g
  | false ↦ h
]

pub stays_if_kept : (g : List ℕ) (n : ℕ) → bytes_eq g (spaces n) ≡ false → bytes_eq g (resolved_gap n g) ≡ (n == KEEP_GAP)
stays_if_kept g n h = elim (n == KEEP_GAP) as (λ b. bytes_eq g (if b then g else spaces n) ≡ b) [
  | true ↦ same_self_bytes g
  | false ↦ h
]

-- ---- the length of the text

pub length_end : (ns : List ℕ) (ps : List Pair) (i : ℕ) → length ns ≡ length ps → length ps ≤ i → length (whole_text (drop i (with_gaps ns ps)) []) ≡ 0
length_end ns ps i size h = ap (λ qs. length (whole_text qs [])) (drop_all i (with_gaps ns ps) (omega (arith, gaps_length ns ps size)))

-- ---- the text

pub text_step : (ns : List ℕ) (ps : List Pair) (i : ℕ) (g s : List ℕ) → length ns ≡ length ps → i < length ps → Some g ≡ gap_of ps i → Some s ≡ spelling_of ps i
    → whole_text (drop i (with_gaps ns ps)) [] ≡ resolved_gap (get_or ns i 0) g ++ (s ++ whole_text (drop (i + 1) (with_gaps ns ps)) [])
text_step ns ps i g s size inside g_is s_is =
    let t = token_here ps i (length ps) inside (omega arith) in
    let all = gaps_length ns ps size in
    let u = token_here (with_gaps ns ps) i (length (with_gaps ns ps)) (omega (arith, all)) (omega arith) in
    let same : u.pair ≡ record t.pair { gap = resolved_gap (get_or ns i 0) t.pair.gap } = let e = sym u.at ∙ gapped ns ps i t.pair size t.at in cc in
    let gap : u.pair.gap ≡ resolved_gap (get_or ns i 0) g = ap (λ (p : Pair). p.gap) same ∙ ap (resolved_gap (get_or ns i 0)) (sym (gap_is ps i (length ps) g t g_is)) in
    let word : u.pair.spelling ≡ s = ap (λ (p : Pair). p.spelling) same ∙ sym (spelling_is ps i (length ps) s t s_is) in
    ap (λ (qs : List Pair). whole_text qs []) u.rest
    ∙ ap₂ (λ (x y : List ℕ). x ++ (y ++ whole_text (drop (i + 1) (with_gaps ns ps)) [])) gap word

-- ---- edits

joining_more : (ps : List Pair) (p : Pair) → length (whole_text (ps ++ p ∷ []) []) ≡ length (whole_text ps []) + length p.gap + length p.spelling
joining_more [] p = omega (arith, length-append p.gap (p.spelling ++ []), length-append p.spelling [])
joining_more (q ∷ ps) p =
    omega (
      arith,
      length-append q.gap (q.spelling ++ whole_text (ps ++ p ∷ []) []),
      length-append q.spelling (whole_text (ps ++ p ∷ []) []),
      length-append q.gap (q.spelling ++ whole_text ps []),
      length-append q.spelling (whole_text ps []),
      joining_more ps p,
    )

gap_first : (at : ℕ) (old new : List ℕ) (rest : List Piece) → changed_entries at (gap_piece old new ∷ rest) ≡ changed_entries at (gap_piece old new ∷ []) ++ changed_entries (at + length old) rest
gap_first at old new rest = elim (bytes_eq old new) as (λ b. changed_entries at ((if b then Kept old else Changed old new) ∷ rest) ≡ changed_entries at ((if b then Kept old else Changed old new) ∷ []) ++ changed_entries (at + length old) rest) [ true ↦ refl | false ↦ refl ]

-- what is to come of the edits from token i on
pub remaining_edits : List Pair → List Pair → List ℕ → ℕ → List EditEntry
remaining_edits ps qs last i = changed_entries (length (whole_text (take i ps) [])) (pieces (drop i ps) (drop i qs) last)

pub remaining_first : (ps qs : List Pair) (last : List ℕ) → remaining_edits ps qs last 0 ≡ changed_entries 0 (pieces ps qs last)
unfolding remaining_edits
remaining_first ps qs last = refl

-- the tokens up to token i and with it
pub taken_more : (ps : List Pair) (i : ℕ) (t : TokenHere ps i (length ps)) → i < length ps → take (i + 1) ps ≡ take i ps ++ t.pair ∷ []
taken_more ps i t inside = take_more ps i t.pair inside ∙ ap (λ p. take i ps ++ p ∷ []) (read ps i t.pair t.at)
  where
    read : (xs : List Pair) (k : ℕ) (x : Pair) → slice_get xs k ≡ Some x → get_or xs k x ≡ x
    read [] k x h = absurd (cc)
    read (y ∷ xs) zero x h = cc
    read (y ∷ xs) (suc k) x h = read xs k x h

-- the edit of a gap, if it changes
abbrev pub gap_edit : List Pair → List ℕ → ℕ → Pair → List EditEntry
gap_edit ps ns i p = changed_entries (length (whole_text (take i ps) [])) (gap_piece p.gap (resolved_gap (get_or ns i 0) p.gap) ∷ [])

pub remaining_step : (ps : List Pair) (ns : List ℕ) (last : List ℕ) (i : ℕ) (t : TokenHere ps i (length ps)) → length ns ≡ length ps → i < length ps
    → remaining_edits ps (with_gaps ns ps) last i ≡ gap_edit ps ns i t.pair ++ remaining_edits ps (with_gaps ns ps) last (i + 1)
unfolding remaining_edits
remaining_step ps ns last i t size inside =
    let all = gaps_length ns ps size in
    let u = token_here (with_gaps ns ps) i (length (with_gaps ns ps)) (omega (arith, all)) (omega arith) in
    let same : u.pair ≡ record t.pair { gap = resolved_gap (get_or ns i 0) t.pair.gap } = let e = sym u.at ∙ gapped ns ps i t.pair size t.at in cc in
    let new : u.pair.gap ≡ resolved_gap (get_or ns i 0) t.pair.gap = ap (λ (p : Pair). p.gap) same in
    let at : ℕ = length (whole_text (take i ps) []) in
    let extended : take (i + 1) ps ≡ take i ps ++ t.pair ∷ [] = taken_more ps i t inside in
    let next : at + length t.pair.gap + length t.pair.spelling ≡ length (whole_text (take (i + 1) ps) []) = sym (ap (λ qs. length (whole_text qs [])) extended ∙ joining_more (take i ps) t.pair) in
    ap₂ (λ (xs ys : List Pair). changed_entries at (pieces xs ys last)) t.rest u.rest
    ∙ gap_first at t.pair.gap u.pair.gap (Kept t.pair.spelling ∷ pieces (drop (i + 1) ps) (drop (i + 1) (with_gaps ns ps)) last)
    ∙ ap₂ (λ (g : List ℕ) n. changed_entries at (gap_piece t.pair.gap g ∷ []) ++ changed_entries n (pieces (drop (i + 1) ps) (drop (i + 1) (with_gaps ns ps)) last)) new next

pub remaining_last : (ps : List Pair) (ns last : List ℕ) (i : ℕ) → length ns ≡ length ps → length ps ≤ i → remaining_edits ps (with_gaps ns ps) last i ≡ changed_entries (length (whole_text ps [])) (gap_piece last [] ∷ [])
unfolding remaining_edits
remaining_last ps ns last i size h =
    let none = drop_all i ps h in
    let none_remain = drop_all i (with_gaps ns ps) (omega (arith, gaps_length ns ps size)) in
    ap₂ (λ (xs ys : List Pair). changed_entries (length (whole_text (take i ps) [])) (pieces xs ys last)) none none_remain
    ∙ ap (λ (xs : List Pair). changed_entries (length (whole_text xs [])) (gap_piece last [] ∷ [])) (take_all i ps h)

-- ---- the vector of edits

meant_if : (g : List ℕ) (n : ℕ) (b : Bool) → (n == KEEP_GAP) ≡ b → bytes_eq g (resolved_gap n g) ≡ false → resolved_gap n g ≡ spaces n
meant_if g n true e h = let kept : resolved_gap n g ≡ g = rw e refl in let all = sym h ∙ ap (bytes_eq g) kept ∙ same_self_bytes g in absurd (cc)
meant_if g n false e h = rw e refl

one_change : (at : ℕ) (g new : List ℕ) → bytes_eq g new ≡ false → changed_entries at (gap_piece g new ∷ []) ≡ record { at = at; removed = g; added = new } ∷ []
one_change at g new h = rw h refl

no_change : (at : ℕ) (g new : List ℕ) → bytes_eq g new ≡ true → changed_entries at (gap_piece g new ∷ []) ≡ []
no_change at g new h = rw h refl

pub pushed : (old new : List EditEntry) (at : ℕ) (g : List ℕ) (n : ℕ) → new ≡ old ++ record { at = at; removed = g; added = spaces n } ∷ []
    → bytes_eq g (resolved_gap n g) ≡ false → new ≡ old ++ changed_entries at (gap_piece g (resolved_gap n g) ∷ [])
pushed old new at g n new_is h =
    let meaning = meant_if g n (n == KEEP_GAP) refl h in
    new_is ∙ ap (λ (x : List ℕ). old ++ record { at = at; removed = g; added = x } ∷ []) (sym meaning)
    ∙ ap (λ (es : List EditEntry). old ++ es) (sym (one_change at g (resolved_gap n g) h))

pub gap_unchanged : (old : List EditEntry) (at : ℕ) (g : List ℕ) (n : ℕ) → bytes_eq g (resolved_gap n g) ≡ true → old ≡ old ++ changed_entries at (gap_piece g (resolved_gap n g) ∷ [])
gap_unchanged old at g n h = sym (ap (λ (es : List EditEntry). old ++ es) (no_change at g (resolved_gap n g) h) ∙ append-nil old)

pub remaining_push : (ps : List Pair) (ns last : List ℕ) (i : ℕ) (old new : List EditEntry) (item : Item) (g : List ℕ) → length ns ≡ length ps → i < length ps → Some item ≡ item_of ps i → Some g ≡ gap_of ps i
    → new ≡ old ++ changed_entries item.gap_at (gap_piece g (resolved_gap (get_or ns i 0) g) ∷ [])
    → new ++ remaining_edits ps (with_gaps ns ps) last (i + 1) ≡ old ++ remaining_edits ps (with_gaps ns ps) last i
remaining_push ps ns last i old new item g size inside item_is g_is is =
    let t = token_here ps i (length ps) inside (omega arith) in
    let at : item.gap_at ≡ length (whole_text (take i ps) []) = let e = item_is ∙ ap (option_map (λ (p : Pair). item_after (take i ps) p)) t.at in let f : item ≡ item_after (take i ps) t.pair = cc in ap (λ (x : Item). x.gap_at) f in
    let same = gap_is ps i (length ps) g t g_is in
    let edit : changed_entries item.gap_at (gap_piece g (resolved_gap (get_or ns i 0) g) ∷ []) ≡ gap_edit ps ns i t.pair =
    ap₂ (λ n (x : List ℕ). changed_entries n (gap_piece x (resolved_gap (get_or ns i 0) x) ∷ [])) at same in
    ap (λ (es : List EditEntry). es ++ remaining_edits ps (with_gaps ns ps) last (i + 1)) (is ∙ ap (λ (es : List EditEntry). old ++ es) edit)
    ∙ append_assoc old (gap_edit ps ns i t.pair) (remaining_edits ps (with_gaps ns ps) last (i + 1))
    ∙ ap (λ (es : List EditEntry). old ++ es) (sym (remaining_step ps ns last i t size inside))

-- after a gap that stays, the remaining edits are those from before it
pub remaining_unchanged : (ps : List Pair) (ns last : List ℕ) (i : ℕ) (es : List EditEntry) (g : List ℕ) → length ns ≡ length ps → i < length ps → Some g ≡ gap_of ps i
    → bytes_eq g (resolved_gap (get_or ns i 0) g) ≡ true → es ++ remaining_edits ps (with_gaps ns ps) last (i + 1) ≡ es ++ remaining_edits ps (with_gaps ns ps) last i
remaining_unchanged ps ns last i es g size inside g_is same =
    let t = token_here ps i (length ps) inside (omega arith) in
    let at : ℕ = length (whole_text (take i ps) []) in
    let none : gap_edit ps ns i t.pair ≡ [] =
    ap (λ (x : List ℕ). changed_entries at (gap_piece x (resolved_gap (get_or ns i 0) x) ∷ [])) (sym (gap_is ps i (length ps) g t g_is))
    ∙ no_change at g (resolved_gap (get_or ns i 0) g) same in
    let step : remaining_edits ps (with_gaps ns ps) last i ≡ remaining_edits ps (with_gaps ns ps) last (i + 1) =
    remaining_step ps ns last i t size inside ∙ ap (λ (xs : List EditEntry). xs ++ remaining_edits ps (with_gaps ns ps) last (i + 1)) none in
    ap (λ (xs : List EditEntry). es ++ xs) (sym step)

-- after gaps that stay, the remaining edits are those from before them
pub remaining_unchanged_to : (ps : List Pair) (ns last : List ℕ) (es : List EditEntry) → length ns ≡ length ps → (n from to : ℕ) → to ≡ from + n → to ≤ length ps → AreUnchanged ps ns from to
    → es ++ remaining_edits ps (with_gaps ns ps) last to ≡ es ++ remaining_edits ps (with_gaps ns ps) last from
remaining_unchanged_to ps ns last es size zero from to e within stay = ap (λ i. es ++ remaining_edits ps (with_gaps ns ps) last i) (omega arith)
remaining_unchanged_to ps ns last es size (suc n) from to e within stay =
    let inside : from < length ps = omega arith in
    let t = token_here ps from (length ps) inside (omega arith) in
    let there : Some t.pair.gap ≡ gap_of ps from = sym (ap (option_map (λ (p : Pair). p.gap)) t.at) in
    remaining_unchanged_to ps ns last es size n (from + 1) to (omega arith) within (λ k g later before g_is. stay k g (omega arith) before g_is)
    ∙ remaining_unchanged ps ns last from es t.pair.gap size inside there (stay from t.pair.gap (omega arith) (omega arith) there)

pub last_at : (ps : List Pair) (last text : List ℕ) → text ≡ whole_text ps last → length text - length last ≡ length (whole_text ps [])
last_at ps last text is = omega (arith, ap length is, bytes_joining ps last, bytes_joining ps [])

pub last_fits : (ps : List Pair) (last text : List ℕ) → text ≡ whole_text ps last → length last ≤ length text
last_fits ps last text is = omega (arith, ap length is, bytes_joining ps last)

-- ---- nothing changes

pub still_so : List Pair → List Pair → List ℕ → ℕ → Bool
still_so ps qs last i = unchanged (drop i ps) (drop i qs) last

pub still_first : (ps qs : List Pair) (last : List ℕ) → still_so ps qs last 0 ≡ unchanged ps qs last
unfolding still_so
still_first ps qs last = refl

pub still_step : (ps : List Pair) (ns last : List ℕ) (i : ℕ) (g : List ℕ) → length ns ≡ length ps → i < length ps → Some g ≡ gap_of ps i
    → still_so ps (with_gaps ns ps) last i ≡ (bytes_eq g (resolved_gap (get_or ns i 0) g) && still_so ps (with_gaps ns ps) last (i + 1))
unfolding still_so
still_step ps ns last i g size inside g_is =
    let t = token_here ps i (length ps) inside (omega arith) in
    let all = gaps_length ns ps size in
    let u = token_here (with_gaps ns ps) i (length (with_gaps ns ps)) (omega (arith, all)) (omega arith) in
    let same : u.pair ≡ record t.pair { gap = resolved_gap (get_or ns i 0) t.pair.gap } = let e = sym u.at ∙ gapped ns ps i t.pair size t.at in cc in
    let old = gap_is ps i (length ps) g t g_is in
    let new : u.pair.gap ≡ resolved_gap (get_or ns i 0) g = ap (λ (p : Pair). p.gap) same ∙ ap (resolved_gap (get_or ns i 0)) (sym old) in
    ap₂ (λ (xs ys : List Pair). unchanged xs ys last) t.rest u.rest
    ∙ ap₂ (λ (x y : List ℕ). bytes_eq x y && unchanged (drop (i + 1) ps) (drop (i + 1) (with_gaps ns ps)) last) (sym old) new

pub still_stays : (ps : List Pair) (ns last : List ℕ) (i : ℕ) (g : List ℕ) → length ns ≡ length ps → i < length ps → Some g ≡ gap_of ps i → bytes_eq g (resolved_gap (get_or ns i 0) g) ≡ true
    → still_so ps (with_gaps ns ps) last i ≡ still_so ps (with_gaps ns ps) last (i + 1)
still_stays ps ns last i g size inside g_is h = still_step ps ns last i g size inside g_is ∙ ap (λ b. b && still_so ps (with_gaps ns ps) last (i + 1)) h

pub still_not : (ps : List Pair) (ns last : List ℕ) (i : ℕ) (g : List ℕ) → length ns ≡ length ps → i < length ps → Some g ≡ gap_of ps i → bytes_eq g (resolved_gap (get_or ns i 0) g) ≡ false
    → still_so ps (with_gaps ns ps) last i ≡ false
still_not ps ns last i g size inside g_is h = still_step ps ns last i g size inside g_is ∙ ap (λ b. b && still_so ps (with_gaps ns ps) last (i + 1)) h

pub no_bytes : (last : List ℕ) → (length last == 0) ≡ bytes_eq last []
no_bytes [] = refl
no_bytes (b ∷ last) = let test : (suc (length last) == 0) ≡ false = grind (arith, nat_tests) in test

-- whether all is unchanged is the same from before gaps that stay and from after them
pub still_to : (ps : List Pair) (ns last : List ℕ) → length ns ≡ length ps → (n from to : ℕ) → to ≡ from + n → to ≤ length ps → AreUnchanged ps ns from to
    → still_so ps (with_gaps ns ps) last from ≡ still_so ps (with_gaps ns ps) last to
still_to ps ns last size zero from to e within stay = ap (still_so ps (with_gaps ns ps) last) (omega arith)
still_to ps ns last size (suc n) from to e within stay =
    let inside : from < length ps = omega arith in
    let t = token_here ps from (length ps) inside (omega arith) in
    let there : Some t.pair.gap ≡ gap_of ps from = sym (ap (option_map (λ (p : Pair). p.gap)) t.at) in
    still_stays ps ns last from t.pair.gap size inside there (stay from t.pair.gap (omega arith) (omega arith) there)
    ∙ still_to ps ns last size n (from + 1) to (omega arith) within (λ k g later before g_is. stay k g (omega arith) before g_is)

-- a gap that changes
pub still_changed : (ps : List Pair) (ns last : List ℕ) (i : ℕ) → length ns ≡ length ps → i < length ps → IsChanged ps ns i → still_so ps (with_gaps ns ps) last i ≡ false
still_changed ps ns last i size inside changed =
    let t = token_here ps i (length ps) inside (omega arith) in
    let there : Some t.pair.gap ≡ gap_of ps i = sym (ap (option_map (λ (p : Pair). p.gap)) t.at) in
    still_not ps ns last i t.pair.gap size inside there (changed t.pair.gap there)

pub still_end : (ps : List Pair) (ns last : List ℕ) (i : ℕ) → length ns ≡ length ps → length ps ≤ i → still_so ps (with_gaps ns ps) last i ≡ (length last == 0)
unfolding still_so
still_end ps ns last i size h =
    ap₂ (λ (xs ys : List Pair). unchanged xs ys last) (drop_all i ps h) (drop_all i (with_gaps ns ps) (omega (arith, gaps_length ns ps size))) ∙ sym (no_bytes last)
