-- The same tokens with other gaps follow the modes.
use Rattle.std.proofs.Common.{◌≡◌, ℕ, Bool, true, false, not, ◌||◌, ◌==◌, List, [], ◌∷◌, ◌++◌, slice_index, IsUtf8, refl, sym, ap, ap₂, subst, ◌∙◌, ◌⊎◌, inl, inr, arith}
use Rattle.std.proofs.lemmas.Bool.{or_right, and_parts, or_cases, both_ways, false≢true, not-true}
use Rattle.std.proofs.lemmas.Bool.Decides.{nat_tests}
use Rattle.std.specs.List.{list_all}
use Rattle.hcl_token.specs.declared.kind.Kind.{Kind}
use Rattle.hcl_token.specs.declared.kind.Kind.TheVariants.{Mark, LineComment, InlineComment, Identifier, Number, Star, Slash, CloseBrace, SeqClose, QuoteClose, InterpOpen, DirectiveOpen, QuoteLit, HereClose, HereLit}
use Rattle.hcl_token.specs.Tokens.{Pair}
use Rattle.hcl_token.specs.Joins.{starts_with, joins_with}
use Rattle.hcl_scan.specs.Characters.{is_whitespace}
use Rattle.hcl_scan.specs.Modes.{Mode, mode_of, is_literal, can_close_sequence, is_at_line_start, modes_after}
use Rattle.hcl_scan.specs.Modes.Mode.{Sequence, Quoted, Heredoc}
use Rattle.hcl_scan.specs.Closing.{is_at_line_end_or_eof}
use Rattle.hcl_scan.specs.Lexeme.{is_quoted, is_heredoc, is_allowed_in, Spells, IsLexeme}
use Rattle.hcl_scan.specs.Tokenization.{IsGap}
use Rattle.hcl_scan.specs.Inner.LexemeStarts.{is_word_start}
use Rattle.hcl_scan.specs.Follows.{following_text, LineEndsHere, NextIsNot, AllowsNext, FollowsFrom, Follows, mark, IsApart, AreApart, tokens_of, has_no_gap_before, has_no_gap_after, AreAllowedGaps}
use Rattle.hcl_scan.proofs.Heads.{heads, HeadIs, begins_so, one_passes}
use Rattle.hcl_scan.proofs.Unique.{same_pair}
use Rattle.hcl_scan.proofs.RunFollowingText.{inline_same}
use Rattle.hcl_scan.proofs.TokenizationFollows.{whitespace_no_line, line_byte}

-- ---- the same tokens

record SameHead (q p : Pair) (qs ps : List Pair) : Type 0 where
  kinds : q.kind ≡ p.kind
  spellings : q.spelling ≡ p.spelling
  tails : tokens_of qs ≡ tokens_of ps

same_head : (q p : Pair) (qs ps : List Pair) → tokens_of (q ∷ qs) ≡ tokens_of (p ∷ ps) → SameHead q p qs ps
same_head q p qs ps e =
    let heads_same : ◌≡◌ {A = Kind × List ℕ} (q.kind, q.spelling) (p.kind, p.spelling) = cc in
    record { kinds = ap (λ (x : Kind × List ℕ). x.0) heads_same; spellings = ap (λ (x : Kind × List ℕ). x.1) heads_same; tails = cc }

-- the next tokens of two lists are the same
abbrev NextSame : List Pair → List Pair → Type 0
NextSame [] [] = Unit {0}
NextSame [] (p ∷ ps) = ⊥
NextSame (q ∷ qs) [] = ⊥
NextSame (q ∷ qs) (p ∷ ps) = (q.kind ≡ p.kind) × (q.spelling ≡ p.spelling)

next_same : (qs ps : List Pair) → tokens_of qs ≡ tokens_of ps → NextSame qs ps
next_same [] [] e = tt
next_same [] (p ∷ ps) e = absurd (cc)
next_same (q ∷ qs) [] e = absurd (cc)
next_same (q ∷ qs) (p ∷ ps) e = let h = same_head q p qs ps e in (h.kinds, h.spellings)

-- ---- gaps

-- a token that is in literal text has no gap before it
literal_no_gap : (mode : Mode) (kind : Kind) → is_allowed_in mode kind ≡ true → is_literal mode ≡ true → has_no_gap_before kind ≡ true
literal_no_gap mode Mark st h = refl
literal_no_gap mode QuoteClose st h = refl
literal_no_gap mode QuoteLit st h = refl
literal_no_gap mode InterpOpen st h = refl
literal_no_gap mode DirectiveOpen st h = refl
literal_no_gap mode HereClose st h = refl
literal_no_gap mode HereLit st h = refl
literal_no_gap mode CloseBrace st h = absurd (both_ways _ (not-true (is_literal mode) (and_parts (not (can_close_sequence mode)) (not (is_literal mode)) st).1) h)
literal_no_gap Sequence SeqClose st h = absurd (false≢true h)
literal_no_gap mode SeqClose st h = absurd (false≢true st)
literal_no_gap mode kind st h = absurd (both_ways _ (not-true (is_literal mode) st) h)

-- there is no gap before the next token, or at the end
abbrev NoGap : List Pair → List ℕ → Type 0
NoGap [] last = last ≡ []
NoGap (p ∷ ps) last = p.gap ≡ []

same_following_text : (qs ps : List Pair) (other last : List ℕ) → NextSame qs ps → NoGap qs other → NoGap ps last → following_text ps last ≡ following_text qs other
same_following_text [] [] other last same none none' = none' ∙ sym none
same_following_text [] (p ∷ ps) other last same none none' = absurd same
same_following_text (q ∷ qs) [] other last same none none' = absurd same
same_following_text (q ∷ qs) (p ∷ ps) other last same none none' = ap₂ (λ (x y : List ℕ). x ++ y) (none' ∙ sym none) (sym same.1)

shut_none : (qs : List Pair) (other : List ℕ) → AreAllowedGaps true qs other → NoGap qs other
shut_none [] other gaps = gaps.1 refl
shut_none (q ∷ qs) other gaps = gaps.1 refl

line_none : (ps : List Pair) (last : List ℕ) → LineEndsHere ps last → NoGap ps last
line_none [] last h = h
line_none (p ∷ ps) last h = h.0

-- the first token, or the last gap
abbrev FirstOf : Mode → List Pair → List ℕ → Type 0
FirstOf mode [] last = (list_all is_whitespace last ≡ true) × (is_literal mode ≡ false)
FirstOf mode (p ∷ ps) last = IsGap mode p.gap × IsLexeme mode p.kind p.spelling (following_text ps last)

first_of_list : (modes : List Mode) (ps : List Pair) (last : List ℕ) → list_all is_whitespace last ≡ true → FollowsFrom modes ps last [] → FirstOf (mode_of modes) ps last
first_of_list modes [] last is_white f = (is_white, rw f refl)
first_of_list modes (p ∷ ps) last is_white f = (f.0, f.2)

no_line : (b : ℕ) (t : List ℕ) → is_whitespace b ≡ true → is_at_line_end_or_eof (b ∷ t) ≡ true → ⊥
no_line b t is_white h = both_ways _ (whitespace_no_line b is_white) (line_byte b t h)

-- after a closing line there is no gap
close_none : (mode : Mode) (ps : List Pair) (last : List ℕ) → FirstOf mode ps last → is_at_line_end_or_eof (following_text ps last) ≡ true → NoGap ps last
close_none mode [] last first h = empty last first.0 h
  where
    empty : (t : List ℕ) → list_all is_whitespace t ≡ true → is_at_line_end_or_eof t ≡ true → t ≡ []
    empty [] all k = refl
    empty (b ∷ t) all k = absurd (no_line b t (and_parts (is_whitespace b) (list_all is_whitespace t) all).0 k)
close_none mode (p ∷ ps) last first h = empty p.gap first.0.0 h
  where
    empty : (gap : List ℕ) → list_all is_whitespace gap ≡ true → is_at_line_end_or_eof (gap ++ p.spelling) ≡ true → gap ≡ []
    empty [] all k = refl
    empty (b ∷ gap) all k = absurd (no_line b (gap ++ p.spelling) (and_parts (is_whitespace b) (list_all is_whitespace gap) all).0 k)

-- in literal text there is no gap, in the one list and in the other
literal_none : (mode : Mode) → is_literal mode ≡ true → (ps : List Pair) (last : List ℕ) → FirstOf mode ps last → NoGap ps last
literal_none mode literal [] last first = absurd (both_ways _ first.1 literal)
literal_none mode literal (p ∷ ps) last first = first.0.1 literal

literal_shut : (mode : Mode) → is_literal mode ≡ true → (must_be_empty : Bool) (qs ps : List Pair) (other last : List ℕ) → NextSame qs ps → FirstOf mode ps last → AreAllowedGaps must_be_empty qs other → NoGap qs other
literal_shut mode literal must_be_empty [] [] other last same first gaps = absurd (both_ways _ first.1 literal)
literal_shut mode literal must_be_empty [] (p ∷ ps) other last same first gaps = absurd same
literal_shut mode literal must_be_empty (q ∷ qs) [] other last same first gaps = absurd same
literal_shut mode literal must_be_empty (q ∷ qs) (p ∷ ps) other last same first gaps =
    gaps.1 (or_right must_be_empty (has_no_gap_before q.kind) (ap has_no_gap_before same.0 ∙ literal_no_gap mode p.kind first.1.0 literal))

-- ---- `/`

abbrev no_comment : ℕ → Bool
no_comment b = not (b == 42 || b == 47)

whitespace_no_comment : (b : ℕ) → is_whitespace b ≡ true → no_comment b ≡ true
whitespace_no_comment b h = grind (arith, nat_tests)

word_no_comment : (b : ℕ) → is_word_start b ≡ true → no_comment b ≡ true
word_no_comment b h = grind (arith, nat_tests)

digit_no_comment : (b : ℕ) → HeadIs Number b → no_comment b ≡ true
digit_no_comment b h = grind (arith, nat_tests)

other_no_comment : (t : List ℕ) → starts_with 47 t ≡ false → not (slice_index t 0 == 42) ≡ true → no_comment (slice_index t 0) ≡ true
other_no_comment [] h k = refl
other_no_comment (b ∷ t) h k = grind (arith, nat_tests)

slash_next : (s : List ℕ) (kind : Kind) (t : List ℕ) → joins_with Slash s kind t ≡ false → HeadIs kind (slice_index t 0) → no_comment (slice_index t 0) ≡ true
slash_next s Star t j h = absurd (false≢true (sym j))
slash_next s Identifier t j h = word_no_comment (slice_index t 0) h
slash_next s Number t j h = digit_no_comment (slice_index t 0) h
slash_next s kind t j h = other_no_comment t j (one_passes (λ b. not (b == 42)) (slice_index t 0) (heads kind) h refl)

slash_after : (mode : Mode) → is_literal mode ≡ false → (s : List ℕ) (must_be_empty : Bool) (qs ps : List Pair) (other last : List ℕ) → NextSame qs ps → FirstOf mode ps last → AreAllowedGaps must_be_empty qs other → IsApart Slash s qs
    → no_comment (slice_index (following_text qs other) 0) ≡ true
slash_after mode plain s must_be_empty [] ps other last same first gaps apart = whitespace_found other gaps.0
  where
    whitespace_found : (t : List ℕ) → list_all is_whitespace t ≡ true → no_comment (slice_index t 0) ≡ true
    whitespace_found [] all = refl
    whitespace_found (b ∷ t) all = whitespace_no_comment b (and_parts (is_whitespace b) (list_all is_whitespace t) all).0
slash_after mode plain s must_be_empty (q ∷ qs) [] other last same first gaps apart = absurd same
slash_after mode plain s must_be_empty (q ∷ qs) (p ∷ ps) other last same first gaps apart = at_gap q.gap gaps.0 apart
  where
    at_gap : (gap : List ℕ) → list_all is_whitespace gap ≡ true → (gap ≡ [] → joins_with Slash s q.kind q.spelling ≡ false) → no_comment (slice_index (gap ++ q.spelling) 0) ≡ true
    at_gap [] all j =
        let head = begins_so mode p.kind p.spelling (following_text ps last) plain first.1.0 first.1.1 in
        let parted : joins_with Slash s p.kind p.spelling ≡ false = ap₂ (joins_with Slash s) (sym same.0) (sym same.1) ∙ j refl in
        ap (λ (x : List ℕ). no_comment (slice_index x 0)) same.1 ∙ slash_next s p.kind p.spelling parted head.1
    at_gap (b ∷ gap) all j = whitespace_no_comment b (and_parts (is_whitespace b) (list_all is_whitespace gap) all).0

-- ---- a token with another neighbour

respelt : (modes : List Mode) (kind : Kind) (s : List ℕ) (qs ps : List Pair) (other last : List ℕ) → is_allowed_in (mode_of modes) kind ≡ true → AllowsNext kind ps last → FirstOf (mode_of (modes_after kind s modes)) ps last
    → NextSame qs ps → AreAllowedGaps (has_no_gap_after kind) qs other → IsApart kind s qs → Spells (mode_of modes) kind s (following_text ps last) → Spells (mode_of modes) kind s (following_text qs other)
respelt modes LineComment s qs ps other last st following first same gaps apart h =
    subst (Spells (mode_of modes) LineComment s) (same_following_text qs ps other last same (shut_none qs other gaps) (line_none ps last following)) h
respelt modes InlineComment s qs ps other last st following first same gaps apart (body, e, run) = (body, e, inline_same (following_text ps last) (following_text qs other) body run)
respelt modes Slash s qs ps other last st following first same gaps apart (e, h) =
    (e, not-true _ (slash_after (mode_of modes) (not-true (is_literal (mode_of modes)) st) s false qs ps other last same first gaps apart))
respelt (Quoted ∷ ms) QuoteLit s qs ps other last st following first same gaps apart h =
    subst (Spells Quoted QuoteLit s) (same_following_text qs ps other last same (literal_shut Quoted refl false qs ps other last same first gaps) (literal_none Quoted refl ps last first)) h
respelt modes QuoteLit s qs ps other last st following first same gaps apart h = absurd (false≢true st)
respelt (Heredoc name at_line_start ∷ ms) HereLit s qs ps other last st following first same gaps apart h =
    let mode : Mode = mode_of (modes_after HereLit s (Heredoc name at_line_start ∷ ms)) in
    subst (Spells (Heredoc name at_line_start) HereLit s) (same_following_text qs ps other last same (literal_shut mode refl false qs ps other last same first gaps) (literal_none mode refl ps last first)) h
respelt modes HereLit s qs ps other last st following first same gaps apart h = absurd (false≢true st)
respelt modes HereClose s qs ps other last st following first same gaps apart h =
    subst (Spells (mode_of modes) HereClose s) (same_following_text qs ps other last same (shut_none qs other gaps) (close_none (mode_of (modes_after HereClose s modes)) ps last first h.5)) h
respelt modes kind s qs ps other last st following first same gaps apart h = h

line_start_after_same : (qs ps : List Pair) (other last : List ℕ) → NextSame qs ps → AreAllowedGaps true qs other → LineEndsHere ps last → LineEndsHere qs other
line_start_after_same [] ps other last same gaps h = gaps.1 refl
line_start_after_same (q ∷ qs) [] other last same gaps h = absurd same
line_start_after_same (q ∷ qs) (p ∷ ps) other last same gaps h = (gaps.1 refl, same.0 ∙ h.1)

other_same : (kind : Kind) (qs ps : List Pair) → NextSame qs ps → NextIsNot kind ps → NextIsNot kind qs
other_same kind [] ps same h = tt
other_same kind (q ∷ qs) [] same h = absurd same
other_same kind (q ∷ qs) (p ∷ ps) same h = λ e. h (sym same.0 ∙ e)

allows_next_same : (kind : Kind) (qs ps : List Pair) (other last : List ℕ) → NextSame qs ps → AreAllowedGaps (has_no_gap_after kind) qs other → AllowsNext kind ps last → AllowsNext kind qs other
allows_next_same LineComment qs ps other last same gaps h = line_start_after_same qs ps other last same gaps h
allows_next_same QuoteLit qs ps other last same gaps h = other_same QuoteLit qs ps same h
allows_next_same HereLit qs ps other last same gaps h = other_same HereLit qs ps same h
allows_next_same kind qs ps other last same gaps h = tt

-- ---- the tokens

-- what has to hold of a token, given by its parts
abbrev Step : List Mode → List ℕ → Kind → List ℕ → List Pair → List ℕ → Type 0
Step modes gap kind s qs other =
    IsGap (mode_of modes) gap × IsUtf8 s × IsLexeme (mode_of modes) kind s (following_text qs other) × AllowsNext kind qs other × FollowsFrom (modes_after kind s modes) qs other []

regap : (ps qs : List Pair) (modes : List Mode) (last other : List ℕ) (must_be_empty : Bool) → tokens_of qs ≡ tokens_of ps → list_all is_whitespace last ≡ true → FollowsFrom modes ps last [] → AreAllowedGaps must_be_empty qs other → AreApart qs → FollowsFrom modes qs other []
regap [] [] modes last other must_be_empty e is_white f gaps apart = f
regap [] (q ∷ qs) modes last other must_be_empty e is_white f gaps apart = absurd (cc)
regap (p ∷ ps) [] modes last other must_be_empty e is_white f gaps apart = absurd (cc)
regap (p ∷ ps) (q ∷ qs) modes last other must_be_empty e is_white f gaps apart =
    let same = same_head q p qs ps e in
    let mode : Mode = mode_of modes in
    let following : List Mode = modes_after p.kind p.spelling modes in
    let first : FirstOf (mode_of following) ps last = first_of_list following ps last is_white f.4 in
    let next : NextSame qs ps = next_same qs ps same.tails in
    let more : AreAllowedGaps (has_no_gap_after p.kind) qs other = subst (λ k. AreAllowedGaps (has_no_gap_after k) qs other) same.kinds gaps.2 in
    let parted : IsApart p.kind p.spelling qs = subst (λ k. IsApart k p.spelling qs) same.kinds (subst (λ (x : List ℕ). IsApart q.kind x qs) same.spellings apart.0) in
    let gap : IsGap mode q.gap = (gaps.0, λ literal. gaps.1 (or_right must_be_empty (has_no_gap_before q.kind) (ap has_no_gap_before same.kinds ∙ literal_no_gap mode p.kind f.2.0 literal))) in
    let lexeme : IsLexeme mode p.kind p.spelling (following_text qs other) = (f.2.0, respelt modes p.kind p.spelling qs ps other last f.2.0 f.3 first next more parted f.2.1) in
    let step : Step modes q.gap p.kind p.spelling qs other =
    (gap, f.1, lexeme, allows_next_same p.kind qs ps other last next more f.3, regap ps qs following last other (has_no_gap_after p.kind) same.tails is_white f.4 more apart.1) in
    subst (λ k. Step modes q.gap k q.spelling qs other) (sym same.kinds) (subst (λ (x : List ℕ). Step modes q.gap p.kind x qs other) (sym same.spellings) step)

last_whitespace : (must_be_empty : Bool) (qs : List Pair) (other : List ℕ) → AreAllowedGaps must_be_empty qs other → list_all is_whitespace other ≡ true
last_whitespace must_be_empty [] other gaps = gaps.0
last_whitespace must_be_empty (q ∷ qs) other gaps = last_whitespace (has_no_gap_after q.kind) qs other gaps.2

pub other_gaps : (pairs others : List Pair) (last other : List ℕ) → Follows pairs last [] → tokens_of others ≡ tokens_of pairs → AreAllowedGaps false others other → AreApart others → Follows others other []
other_gaps pairs others last other f e gaps apart = at_text_start others f.prefix e gaps apart
  where
    at_text_start : (qs : List Pair) → (pairs ≡ f.body) ⊎ (pairs ≡ mark ∷ f.body) → tokens_of qs ≡ tokens_of pairs → AreAllowedGaps false qs other → AreApart qs → Follows qs other []
    at_text_start qs (inl k) same g a = record {
      body = qs;
      prefix = inl refl;
      follows = regap f.body qs [] last other false (same ∙ ap tokens_of k) f.whitespace f.follows g a;
      whitespace = last_whitespace false qs other g;
    }
    at_text_start [] (inr k) same g a = let none : tokens_of [] ≡ tokens_of (mark ∷ f.body) = same ∙ ap tokens_of k in absurd (cc)
    at_text_start (q ∷ qs) (inr k) same g a =
        let head = same_head q mark qs f.body (same ∙ ap tokens_of k) in
        record {
          body = qs;
          prefix = inr (ap (λ x. x ∷ qs) (same_pair q mark (g.1 (ap has_no_gap_before head.kinds)) head.kinds head.spellings));
          follows = regap f.body qs [] last other (has_no_gap_after q.kind) head.tails f.whitespace f.follows g.2 a.1;
          whitespace = last_whitespace false (q ∷ qs) other g;
        }

-- ---- the gaps of tokens that follow the modes

quoted_literal : (mode : Mode) → is_quoted mode ≡ true → is_literal mode ≡ true
quoted_literal Quoted h = refl
quoted_literal mode h = absurd (false≢true h)

heredoc_literal : (mode : Mode) → is_heredoc mode ≡ true → is_literal mode ≡ true
heredoc_literal (Heredoc name at_line_start) h = refl
heredoc_literal mode h = absurd (false≢true h)

no_gap_literal : (mode : Mode) (kind : Kind) → is_allowed_in mode kind ≡ true → has_no_gap_before kind ≡ true → is_literal mode ≡ true
no_gap_literal mode Mark st h = absurd (false≢true st)
no_gap_literal mode QuoteClose st h = quoted_literal mode st
no_gap_literal mode QuoteLit st h = quoted_literal mode st
no_gap_literal mode InterpOpen st h = st
no_gap_literal mode DirectiveOpen st h = st
no_gap_literal mode HereClose st h = heredoc_literal mode (and_parts (is_heredoc mode) (is_at_line_start mode) st).0
no_gap_literal mode HereLit st h = heredoc_literal mode st
no_gap_literal mode kind st h = absurd (false≢true h)

-- after a token that allows no gap after it there is none
shuts_none : (modes : List Mode) (kind : Kind) (s : List ℕ) (ps : List Pair) (last : List ℕ) → Spells (mode_of modes) kind s (following_text ps last) → AllowsNext kind ps last → FirstOf (mode_of (modes_after kind s modes)) ps last → has_no_gap_after kind ≡ true → NoGap ps last
shuts_none modes LineComment s ps last spells following first h = line_none ps last following
shuts_none modes HereClose s ps last spells following first h = close_none (mode_of (modes_after HereClose s modes)) ps last first spells.5
shuts_none modes kind s ps last spells following first h = absurd (false≢true h)

gaps_from : (ps : List Pair) (modes : List Mode) (last : List ℕ) (must_be_empty : Bool) → list_all is_whitespace last ≡ true → FollowsFrom modes ps last [] → (must_be_empty ≡ true → NoGap ps last) → AreAllowedGaps must_be_empty ps last
gaps_from [] modes last must_be_empty is_white f none = (is_white, none)
gaps_from (p ∷ ps) modes last must_be_empty is_white f none =
    let following : List Mode = modes_after p.kind p.spelling modes in
    let first : FirstOf (mode_of following) ps last = first_of_list following ps last is_white f.4 in (
      f.0.0,
      λ h. elim (or_cases must_be_empty (has_no_gap_before p.kind) h) [
        | inl k ↦ none k
        | inr k ↦ f.0.1 (no_gap_literal (mode_of modes) p.kind f.2.0 k)
      ],
      gaps_from ps following last (has_no_gap_after p.kind) is_white f.4 (shuts_none modes p.kind p.spelling ps last f.2.1 f.3 first),
    )

pub gaps_of : (pairs : List Pair) (last : List ℕ) → Follows pairs last [] → AreAllowedGaps false pairs last
gaps_of pairs last f = at_text_start f.prefix
  where
    at_text_start : (pairs ≡ f.body) ⊎ (pairs ≡ mark ∷ f.body) → AreAllowedGaps false pairs last
    at_text_start (inl e) = subst (λ (x : List Pair). AreAllowedGaps false x last) (sym e) (gaps_from f.body [] last false f.whitespace f.follows (λ h. absurd (false≢true h)))
    at_text_start (inr e) = subst (λ (x : List Pair). AreAllowedGaps false x last) (sym e) (refl, λ _. refl, gaps_from f.body [] last false f.whitespace f.follows (λ h. absurd (false≢true h)))
