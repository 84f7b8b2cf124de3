-- How many grapheme clusters a text has: as many as bytes where it is ASCII without CR, and never more.
use Rattle.std.proofs.Common.{◌≡◌, ℕ, zero, suc, ◌<◌, Bool, true, false, not, ◌&&◌, ◌||◌, ◌==◌, nat_lt, ◌⊎◌, List, [], ◌∷◌, ◌++◌, length, ◌≤◌, ◌+◌, IsUtf8, length-append, Some, None, refl, ap, ◌∙◌, inl, inr, arith, encode_utf8_all}
use Rattle.std.proofs.lemmas.Bool.{and_parts, and_right, ltb-true, not-true, or_from}
use Rattle.std.proofs.lemmas.List.{length-map, get_or_past}
use Rattle.std.proofs.lemmas.Str.{chars-IsAscii}
use Rattle.std.specs.Option.{unwrap_or}
use Rattle.std.specs.Str.{chars, IsAscii}
use Rattle.std.proofs.lemmas.List.Folds.{list_all-append}
use Rattle.ucd_table.proofs.Facts.{Stepped-below}
use Rattle.ucd_breaks.specs.GraphemeClusterBreak.{grapheme_cluster_break}
use Rattle.ucd_breaks.specs.declared.GraphemeClusterBreak.{GraphemeClusterBreak}
use Rattle.ucd_breaks.specs.declared.GraphemeClusterBreak.TheVariants.{Control, Lf, Other}
use Rattle.ucd_breaks.proofs.Computing.{ucd_breaks}
use Rattle.ucd_breaks.proofs.GraphemeClusterBreakLemmas.{grapheme_cluster_break_stepped}
use Rattle.ucd_derived.specs.IndicConjunctBreak.{indic_conjunct_break}
use Rattle.ucd_derived.proofs.Computing.{ucd_derived}
use Rattle.ucd_derived.proofs.IndicConjunctBreakLemmas.{indic_conjunct_break_stepped}
use Rattle.unicode_segmentation.specs.Grapheme.{break_by_pair, joins_conjunct, joins_emoji, joins_flag, is_consonant, is_zwj, is_regional, is_grapheme_break}
use Rattle.unicode_segmentation.specs.Segments.{cut, segments}
use Rattle.unicode_segmentation.proofs.SegmentsLemmas.{length-segments}
use Rattle.hcl_token.specs.Place.{clusters}
use Rattle.hcl_token.specs.Inner.AsciiText.{is_ascii_without_cr}

abbrev is_simple : GraphemeClusterBreak → Bool
is_simple Control = true
is_simple Lf = true
is_simple Other = true
is_simple _ = false

ascii_simple : (c : ℕ) → c < 128 → (c == 13) ≡ false → is_simple (grapheme_cluster_break c) ≡ true
unfolding ucd_breaks
ascii_simple c below h =
    let test = Stepped-below grapheme_cluster_break grapheme_cluster_break_stepped (λ x v. (x == 13) || is_simple v) 128 refl c below in
    rw h at test

ascii_consonant : (c : ℕ) → c < 128 → is_consonant (indic_conjunct_break c) ≡ false
unfolding ucd_derived
ascii_consonant c below = not-true _ (Stepped-below indic_conjunct_break indic_conjunct_break_stepped (λ x v. not (is_consonant v)) 128 refl c below)

by_pair : (x y : GraphemeClusterBreak) → is_simple x ≡ true → is_simple y ≡ true → (break_by_pair true x y ≡ Some true) ⊎ (break_by_pair true x y ≡ None)
by_pair Control y h k = inl refl
by_pair Lf y h k = inl refl
by_pair Other Control h k = inl refl
by_pair Other Lf h k = inl refl
by_pair Other Other h k = inr refl
by_pair Other y h k = absurd (cc)
by_pair x y h k = absurd (cc)

simple_zwj : (x : GraphemeClusterBreak) → is_simple x ≡ true → (is_zwj x ≡ false) × (is_regional x ≡ false)
simple_zwj Control h = (refl, refl)
simple_zwj Lf h = (refl, refl)
simple_zwj Other h = (refl, refl)
simple_zwj x h = absurd (cc)

breaks : (c d : ℕ) (before after : List ℕ) → c < 128 → (c == 13) ≡ false → d < 128 → (d == 13) ≡ false → is_grapheme_break true (c ∷ before) (d ∷ after) ≡ true
unfolding is_grapheme_break
breaks c d before after hc nc hd nd =
    let x = grapheme_cluster_break c in
    let y = grapheme_cluster_break d in
    let sx = ascii_simple c hc nc in
    let sy = ascii_simple d hd nd in
    let joins = (joins_conjunct (c ∷ before) d || joins_emoji (c ∷ before) d || joins_flag (c ∷ before) d) in
    let conjunct : joins_conjunct (c ∷ before) d ≡ false = and_right _ _ (ascii_consonant d hd) in
    let emoji : joins_emoji (c ∷ before) d ≡ false = rw (simple_zwj x sx).0 refl in
    let flag : joins_flag (c ∷ before) d ≡ false = and_right _ _ (simple_zwj y sy).1 in
    elim (by_pair x y sx sy) [
      | inl some ↦ ap (λ o. unwrap_or o (not joins)) some
      | inr none ↦ ap (λ o. unwrap_or o (not joins)) none ∙ ap not (or_from _ _ (or_from _ _ conjunct emoji) flag)
    ]

length-cut : (before cs : List ℕ) → is_ascii_without_cr cs ≡ true → length (cut (is_grapheme_break true) before cs []) ≡ length cs
unfolding cut is_grapheme_break
length-cut before [] plain = refl
length-cut before (c ∷ []) plain = refl
length-cut before (c ∷ d ∷ cs) plain =
    let first = and_parts (nat_lt c 128 && not (c == 13)) (is_ascii_without_cr (d ∷ cs)) plain in
    let second = and_parts (nat_lt d 128 && not (d == 13)) (is_ascii_without_cr cs) first.1 in
    let at_c = and_parts (nat_lt c 128) (not (c == 13)) first.0 in
    let at_d = and_parts (nat_lt d 128) (not (d == 13)) second.0 in
    let rule = breaks c d before (cs ++ []) (ltb-true c 128 at_c.0) (not-true _ at_c.1) (ltb-true d 128 at_d.0) (not-true _ at_d.1) in
    rw rule (ap suc (length-cut (c ∷ before) (d ∷ cs) first.1))

pub is_ascii_text : (t : List ℕ) → is_ascii_without_cr t ≡ true → IsAscii t
is_ascii_text [] plain i = omega (arith, get_or_past {X = ℕ} [] i 0 (omega arith))
is_ascii_text (b ∷ t) plain zero = ltb-true b 128 (and_parts (nat_lt b 128) (not (b == 13)) (and_parts (nat_lt b 128 && not (b == 13)) (is_ascii_without_cr t) plain).0).0
is_ascii_text (b ∷ t) plain (suc i) = is_ascii_text t (and_parts (nat_lt b 128 && not (b == 13)) (is_ascii_without_cr t) plain).1 i

pub clusters-ascii : (t : List ℕ) → is_ascii_without_cr t ≡ true → clusters t ≡ length t
unfolding segments
clusters-ascii t plain =
    length-map (cut (is_grapheme_break true) [] (chars t) []) encode_utf8_all
    ∙ ap (λ cs. length (cut (is_grapheme_break true) [] cs [])) (chars-IsAscii t (is_ascii_text t plain))
    ∙ length-cut [] t plain

pub clusters-le : (t : List ℕ) → IsUtf8 t → clusters t ≤ length t
clusters-le t u = length-segments (is_grapheme_break true) t u

pub ascii-append : (s t : List ℕ) → is_ascii_without_cr (s ++ t) ≡ (is_ascii_without_cr s && is_ascii_without_cr t)
ascii-append s t = list_all-append (λ b. nat_lt b 128 && not (b == 13)) s t

pub clusters-append : (s t : List ℕ) → is_ascii_without_cr s ≡ true → is_ascii_without_cr t ≡ true → clusters (s ++ t) ≡ clusters s + clusters t
clusters-append s t hs ht =
    let both : is_ascii_without_cr (s ++ t) ≡ true = rw (ascii-append s t, hs) ht in
    omega (arith, clusters-ascii (s ++ t) both, clusters-ascii s hs, clusters-ascii t ht, length-append s t)
