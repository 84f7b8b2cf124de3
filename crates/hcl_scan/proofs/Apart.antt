-- What follows a token does not go on with it, if the two do not join.
use Rattle.std.proofs.Common.{◌≡◌, ℕ, ◌<◌, Bool, true, false, not, nat_lt, ◌&&◌, ◌||◌, ◌==◌, List, [], ◌∷◌, ◌++◌, length, slice_index, codes, None, refl, sym, ap, subst, ◌∙◌, ◌⊎◌, inl, inr, arith}
use Rattle.std.proofs.lemmas.Bool.{cond_both, and_parts, or_parts, or_cases, eqb-true, not-true, both_ways, false≢true, ltb-true}
use Rattle.std.proofs.lemmas.Bool.Decides.{nat_tests}
use Rattle.std.proofs.lemmas.Str.{chars-nil}
use Rattle.std.specs.Char.{is_ascii_digit, is_ascii_alphanumeric}
use Rattle.std.specs.Cmp.Derive.{both_true}
use Rattle.std.specs.List.{list_all}
use Rattle.std.specs.Str.{chars}
use Rattle.unicode_ident.proofs.IdentLemmas.{is_xid_start-ascii, is_xid_continue-ascii}
use Rattle.hcl_token.specs.declared.kind.Kind.{Kind}
use Rattle.hcl_token.specs.declared.kind.Kind.TheVariants.{LineEnd, LineComment, Identifier, Number, DotIndex, Minus, Less, LessEqual, Greater, Bang, Equal, Colon, Dot, Ellipsis, HereOpen, SeqClose, QuoteClose, InterpOpen, DirectiveOpen, QuoteLit, HereClose, HereLit}
use Rattle.hcl_token.specs.Tokens.{Pair, whole_text}
use Rattle.hcl_token.specs.Joins.{starts_with, is_digits, joins_after_identifier, joins_after_dot_index, joins_after_dot, joins_with}
use Rattle.hcl_scan.specs.Characters.{is_whitespace, is_sigil, sigil_length, is_id_start}
use Rattle.hcl_scan.specs.Modes.{Mode, mode_of, is_literal, modes_after}
use Rattle.hcl_scan.specs.Modes.Mode.{Expression, Sequence, Braces, Quoted, Heredoc}
use Rattle.hcl_scan.proofs.OpenMarkers.{HaveMarkers}
use Rattle.hcl_scan.specs.Runs.{is_line_start_after}
use Rattle.hcl_scan.specs.Closing.{is_closing_line, heredoc_unit}
use Rattle.hcl_scan.specs.Lexeme.{is_allowed_in, comment_unit, quote_unit, IsIdentifier, Spells, IsLexeme}
use Rattle.hcl_scan.specs.Tokenization.{IsGap}
use Rattle.hcl_scan.specs.Inner.HeredocToken.{here_open}
use Rattle.hcl_scan.specs.Inner.NextToken.{is_word_start, id_continue_length, fraction_length, is_exponent_letter}
use Rattle.hcl_scan.specs.Follows.{AllowsNext, LineEndsHere, IsApart}
use Rattle.hcl_scan.proofs.BeatsNumbers.{head_of}
use Rattle.hcl_scan.proofs.BeatsPlain.{spelt, not_quoted, not_heredoc}
use Rattle.hcl_scan.proofs.HeredocLemmas.{close_found}
use Rattle.hcl_scan.proofs.HeredocBeats.{chars_first, no_continue}
use Rattle.hcl_scan.proofs.Heads.{heads, HeadIs, begins_so, one_passes, Passes, head_passes}
use Rattle.hcl_scan.proofs.Ends.{IsNot, Ends}

-- ---- what follows a token

-- tokens of this mode and those after them, as far as the first token shows
abbrev pub Rest : Mode → List Pair → List ℕ → Type 0
Rest mode [] last = (list_all is_whitespace last ≡ true) × (is_literal mode ≡ false)
Rest mode (q ∷ qs) last = IsGap mode q.gap × IsLexeme mode q.kind q.spelling (whole_text qs last)

-- what follows the first token does not go on with it
abbrev pub NextEnds : Mode → List Pair → List ℕ → Type 0
NextEnds mode [] last = Unit {0}
NextEnds mode (q ∷ qs) last = Ends mode q.kind q.spelling (whole_text qs last)

-- of the first token, where it has no gap before it
abbrev NextToken : (Kind → List ℕ → Type 0) → List Pair → Type 0
NextToken Holds [] = Unit {0}
NextToken Holds (q ∷ qs) = q.gap ≡ [] → Holds q.kind q.spelling

-- 0 represents the end of a text
abbrev SkipsWhitespace : (ℕ → Bool) → Type 0
SkipsWhitespace p = (p 0 ≡ true) × (p 32 ≡ true) × (p 9 ≡ true)

whitespace_passes : (p : ℕ → Bool) → SkipsWhitespace p → (b : ℕ) → is_whitespace b ≡ true → p b ≡ true
whitespace_passes p h b is_white = elim (or_cases (b == 32) (b == 9) is_white) [ inl e ↦ ap p (eqb-true b 32 e) ∙ h.1 | inr e ↦ ap p (eqb-true b 9 e) ∙ h.2 ]

whitespace_pass : (p : ℕ → Bool) → SkipsWhitespace p → (t : List ℕ) → list_all is_whitespace t ≡ true → p (slice_index t 0) ≡ true
whitespace_pass p h [] all = h.0
whitespace_pass p h (b ∷ t) all = whitespace_passes p h b (and_parts (is_whitespace b) (list_all is_whitespace t) all).0

gap_passes : (p : ℕ → Bool) → SkipsWhitespace p → (gap t : List ℕ) → list_all is_whitespace gap ≡ true → (gap ≡ [] → p (slice_index t 0) ≡ true) → p (slice_index (gap ++ t) 0) ≡ true
gap_passes p h [] t all none = none refl
gap_passes p h (b ∷ gap) t all none = whitespace_passes p h b (and_parts (is_whitespace b) (list_all is_whitespace gap) all).0

-- the byte after a token: a blank, the end of the text, or the first byte of the next token
byte_after : (p : ℕ → Bool) (mode : Mode) → is_literal mode ≡ false → SkipsWhitespace p → (ps : List Pair) (last : List ℕ) → Rest mode ps last
    → NextToken (λ kind s. HeadIs kind (slice_index s 0) → p (slice_index s 0) ≡ true) ps → p (slice_index (whole_text ps last) 0) ≡ true
byte_after p mode plain h [] last rest next = whitespace_pass p h last rest.0
byte_after p mode plain h (q ∷ qs) last rest next =
    let begins = begins_so mode q.kind q.spelling (whole_text qs last) plain rest.1.0 rest.1.1 in
    gap_passes p h q.gap (q.spelling ++ whole_text qs last) rest.0.0
    (λ e. ap p (head_of q.spelling (whole_text qs last) begins.0) ∙ next e begins.1)

-- ---- a byte that the next token does not begin with

abbrev is_not : ℕ → ℕ → Bool
is_not x b = not (b == x)

not_at : (x : ℕ) (t : List ℕ) → is_not x (slice_index t 0) ≡ true → IsNot x t
not_at x t h = not-true (slice_index t 0 == x) h

begins_other : (x : ℕ) (s : List ℕ) → is_not x 0 ≡ true → starts_with x s ≡ false → is_not x (slice_index s 0) ≡ true
begins_other x [] none h = none
begins_other x (b ∷ s) none h = ap not h

next_of : (Holds : Kind → List ℕ → Type 0) (kind : Kind) (s : List ℕ) (ps : List Pair) → IsApart kind s ps → ((k : Kind) (t : List ℕ) → joins_with kind s k t ≡ false → Holds k t) → NextToken Holds ps
next_of Holds kind s [] apart each = tt
next_of Holds kind s (q ∷ qs) apart each = λ e. each q.kind q.spelling (apart e)

module _ (mode : Mode) (plain : is_literal mode ≡ false) (kind : Kind) (s : List ℕ) (ps : List Pair) (last : List ℕ) (apart : IsApart kind s ps) (rest : Rest mode ps last) where
  -- where tokens that begin with the byte join
  no_byte : (x : ℕ) → SkipsWhitespace (is_not x) → ((k : Kind) (t : List ℕ) → joins_with kind s k t ≡ false → starts_with x t ≡ false) → IsNot x (whole_text ps last)
  no_byte x h each =
      not_at x (whole_text ps last)
      (byte_after (is_not x) mode plain h ps last rest (next_of _ kind s ps apart (λ k t j _. begins_other x t h.0 (each k t j))))

  -- where tokens that begin with such a byte join
  no_such : (p : ℕ → Bool) → SkipsWhitespace p → ((k : Kind) (t : List ℕ) → joins_with kind s k t ≡ false → HeadIs k (slice_index t 0) → p (slice_index t 0) ≡ true) → p (slice_index (whole_text ps last) 0) ≡ true
  no_such p h each = byte_after p mode plain h ps last rest (next_of _ kind s ps apart each)

text_is : (P : Type 0) → true ≡ false → P
text_is P h = absurd (false≢true (sym h))

-- ---- identifiers

-- an ASCII byte that does not continue an identifier
abbrev stops_word : ℕ → Bool
stops_word b = nat_lt b 128 && not (is_ascii_alphanumeric b || b == 95 || b == 45)

no_word : (t : List ℕ) → stops_word (slice_index t 0) ≡ true → id_continue_length (chars t) ≡ 0
no_word [] h = ap id_continue_length chars-nil
no_word (b ∷ t) h =
    let both = and_parts (nat_lt b 128) (not (is_ascii_alphanumeric b || b == 95 || b == 45)) h in
    let ascii : b < 128 = ltb-true b 128 both.0 in
    no_continue b t ascii (rw (is_xid_continue-ascii b ascii) (not-true (is_ascii_alphanumeric b || b == 95 || b == 45) both.1))

word_next : (k : Kind) → joins_after_identifier k ≡ false → Passes stops_word k
word_next Identifier j = text_is _ j
word_next Number j = text_is _ j
word_next Minus j = text_is _ j
word_next k j = refl

-- ---- numbers and legacy indices

abbrev stops_number : ℕ → Bool
stops_number b = not (is_ascii_digit b) && not (is_exponent_letter b)

number_next : (s : List ℕ) (k : Kind) (t : List ℕ) → joins_with Number s k t ≡ false → HeadIs k (slice_index t 0) → stops_number (slice_index t 0) ≡ true
number_next s Number t j h = text_is _ j
number_next s Identifier [] j h = refl
number_next s Identifier (b ∷ t) j h =
    let both = or_parts (b == 101) (b == 69) j in
    grind (arith, nat_tests)
number_next s k t j h = one_passes stops_number (slice_index t 0) (heads k) h refl

no_fraction : (t : List ℕ) → IsNot 46 t → fraction_length t ≡ 0
no_fraction t h = rw h refl

word_no_point : (b : ℕ) → is_word_start b ≡ true → is_not 46 b ≡ true
word_no_point b h = grind (arith, nat_tests)

after_digits : (mode : Mode) (s : List ℕ) → is_digits s ≡ true → (k : Kind) (t more : List ℕ) → joins_with Number s k t ≡ false → 0 < length t → HeadIs k (slice_index t 0)
    → Spells mode k t more → Ends mode k t more → fraction_length (t ++ more) ≡ 0
after_digits mode s digits Number t more j some h spells ends = text_is _ j
after_digits mode s digits DotIndex t more j some h spells ends = absurd (both_ways _ j digits)
after_digits mode s digits Dot t more j some h e ends = subst (λ (x : List ℕ). fraction_length (x ++ more) ≡ 0) (sym (spelt _ t e)) (rw ends.0 refl)
after_digits mode s digits Ellipsis t more j some h e ends = subst (λ (x : List ℕ). fraction_length (x ++ more) ≡ 0) (sym (spelt _ t e)) refl
after_digits mode s digits Identifier t more j some h spells ends =
    no_fraction (t ++ more) (not_at 46 (t ++ more) (ap (is_not 46) (head_of t more some) ∙ word_no_point (slice_index t 0) h))
after_digits mode s digits k t more j some h spells ends =
    no_fraction (t ++ more) (not_at 46 (t ++ more) (ap (is_not 46) (head_of t more some) ∙ one_passes (is_not 46) (slice_index t 0) (heads k) h refl))

whitespace_no_point : (b : ℕ) → is_whitespace b ≡ true → (b == 46) ≡ false
whitespace_no_point b h = grind (arith, nat_tests)

fraction_after : (mode : Mode) → is_literal mode ≡ false → (s : List ℕ) (ps : List Pair) (last : List ℕ) → IsApart Number s ps → Rest mode ps last → NextEnds mode ps last → is_digits s ≡ true → fraction_length (whole_text ps last) ≡ 0
fraction_after mode plain s [] last apart rest ends digits =
    no_fraction last (not_at 46 last (whitespace_pass (is_not 46) (refl, refl, refl) last rest.0))
fraction_after mode plain s (q ∷ qs) last apart rest ends digits = at_gap q.gap rest.0.0 apart
  where
    at_gap : (gap : List ℕ) → list_all is_whitespace gap ≡ true → (gap ≡ [] → joins_with Number s q.kind q.spelling ≡ false) → fraction_length (gap ++ (q.spelling ++ whole_text qs last)) ≡ 0
    at_gap [] all j =
        let begins = begins_so mode q.kind q.spelling (whole_text qs last) plain rest.1.0 rest.1.1 in
        after_digits mode s digits q.kind q.spelling (whole_text qs last) (j refl) begins.0 begins.1 rest.1.1 ends
    at_gap (b ∷ gap) all j = no_fraction (b ∷ (gap ++ (q.spelling ++ whole_text qs last))) (whitespace_no_point b (and_parts (is_whitespace b) (list_all is_whitespace gap) all).0)

abbrev no_digit : ℕ → Bool
no_digit b = not (is_ascii_digit b)

word_no_digit : (b : ℕ) → is_word_start b ≡ true → no_digit b ≡ true
word_no_digit b h = grind (arith, nat_tests)

index_next : (k : Kind) → joins_after_dot_index k ≡ false → Passes no_digit k
index_next Identifier j = word_no_digit
index_next Number j = text_is _ j
index_next k j = refl

-- ---- `.`

abbrev stops_dot : ℕ → Bool
stops_dot b = not (is_ascii_digit b) && not (b == 46)

word_no_dot : (b : ℕ) → is_word_start b ≡ true → stops_dot b ≡ true
word_no_dot b h = grind (arith, nat_tests)

dot_next : (k : Kind) → joins_after_dot k ≡ false → Passes stops_dot k
dot_next Identifier j = word_no_dot
dot_next Number j = text_is _ j
dot_next Dot j = text_is _ j
dot_next Ellipsis j = text_is _ j
dot_next DotIndex j = text_is _ j
dot_next k j = refl

-- ---- `<`

less_equal : (s : List ℕ) (k : Kind) (t : List ℕ) → joins_with Less s k t ≡ false → starts_with 61 t ≡ false
less_equal s Less t j = text_is _ j
less_equal s k t j = j

no_intro : (t : List ℕ) → IsNot 60 t → here_open (60 ∷ t) ≡ None
no_intro t h = rw h refl

-- no marker begins so
no_name : (b : ℕ) (t : List ℕ) → b < 128 → is_id_start b ≡ false → (b == 45) ≡ false → here_open (60 ∷ 60 ∷ b ∷ t) ≡ None
no_name b t ascii none no_dash = rw (no_dash, chars_first b t ascii, none) refl

word_no_less : (b : ℕ) → is_word_start b ≡ true → is_not 60 b ≡ true
word_no_less b h = grind (arith, nat_tests)

digit_no_less : (b : ℕ) → is_ascii_digit b ≡ true → is_not 60 b ≡ true
digit_no_less b h = grind (arith, nat_tests)

less_next : (mode : Mode) (s : List ℕ) (k : Kind) (t more : List ℕ) → joins_with Less s k t ≡ false → 0 < length t → HeadIs k (slice_index t 0) → Spells mode k t more → here_open (60 ∷ (t ++ more)) ≡ None
less_next mode s Less t more j some h e = text_is _ j
less_next mode s LessEqual t more j some h e =
    subst (λ (x : List ℕ). here_open (60 ∷ (x ++ more)) ≡ None) (sym (spelt _ t e)) (no_name 61 more (omega arith) (rw (is_xid_start-ascii 61 (omega arith)) refl) refl)
less_next mode s HereOpen t more j some h (dash, name, end, e, is, ident, line) =
    subst (λ (x : List ℕ). here_open (60 ∷ (x ++ more)) ≡ None) (sym e) (no_name 60 _ (omega arith) (rw (is_xid_start-ascii 60 (omega arith)) refl) refl)
less_next mode s Identifier t more j some h e =
    no_intro (t ++ more) (not_at 60 (t ++ more) (ap (is_not 60) (head_of t more some) ∙ word_no_less (slice_index t 0) h))
less_next mode s Number t more j some h e =
    no_intro (t ++ more) (not_at 60 (t ++ more) (ap (is_not 60) (head_of t more some) ∙ digit_no_less (slice_index t 0) h))
less_next mode s k t more j some h e =
    no_intro (t ++ more) (not_at 60 (t ++ more) (ap (is_not 60) (head_of t more some) ∙ one_passes (is_not 60) (slice_index t 0) (heads k) h refl))

whitespace_no_less : (b : ℕ) → is_whitespace b ≡ true → (b == 60) ≡ false
whitespace_no_less b h = grind (arith, nat_tests)

less_after : (mode : Mode) → is_literal mode ≡ false → (s : List ℕ) (ps : List Pair) (last : List ℕ) → IsApart Less s ps → Rest mode ps last → here_open (60 ∷ whole_text ps last) ≡ None
less_after mode plain s [] last apart rest = no_intro last (not_at 60 last (whitespace_pass (is_not 60) (refl, refl, refl) last rest.0))
less_after mode plain s (q ∷ qs) last apart rest = at_gap q.gap rest.0.0 apart
  where
    at_gap : (gap : List ℕ) → list_all is_whitespace gap ≡ true → (gap ≡ [] → joins_with Less s q.kind q.spelling ≡ false) → here_open (60 ∷ (gap ++ (q.spelling ++ whole_text qs last))) ≡ None
    at_gap [] all j =
        let begins = begins_so mode q.kind q.spelling (whole_text qs last) plain rest.1.0 rest.1.1 in
        less_next mode s q.kind q.spelling (whole_text qs last) (j refl) begins.0 begins.1 rest.1.1
    at_gap (b ∷ gap) all j = no_intro (b ∷ (gap ++ (q.spelling ++ whole_text qs last))) (whitespace_no_less b (and_parts (is_whitespace b) (list_all is_whitespace gap) all).0)

-- ---- `${` and `%{`

word_no_tilde : (b : ℕ) → is_word_start b ≡ true → is_not 126 b ≡ true
word_no_tilde b h = grind (arith, nat_tests)

digit_no_tilde : (b : ℕ) → is_ascii_digit b ≡ true → is_not 126 b ≡ true
digit_no_tilde b h = grind (arith, nat_tests)

tilde_next : (k : Kind) (t : List ℕ) → (k ≡ SeqClose → starts_with 126 t ≡ false) → HeadIs k (slice_index t 0) → is_not 126 (slice_index t 0) ≡ true
tilde_next SeqClose t j h = begins_other 126 t refl (j refl)
tilde_next Identifier t j h = word_no_tilde (slice_index t 0) h
tilde_next Number t j h = digit_no_tilde (slice_index t 0) h
tilde_next k t j h = one_passes (is_not 126) (slice_index t 0) (heads k) h refl

interp_apart : (k : Kind) (t : List ℕ) → joins_with InterpOpen (codes "${") k t ≡ false → k ≡ SeqClose → starts_with 126 t ≡ false
interp_apart SeqClose t j e = j
interp_apart k t j e = absurd (cc)

directive_apart : (k : Kind) (t : List ℕ) → joins_with DirectiveOpen (codes "%{") k t ≡ false → k ≡ SeqClose → starts_with 126 t ≡ false
directive_apart SeqClose t j e = j
directive_apart k t j e = absurd (cc)

interp_short : (s : List ℕ) → (s ≡ codes "${") ⊎ (s ≡ codes "${~") → length s ≡ 2 → s ≡ codes "${"
interp_short s (inl e) two = e
interp_short s (inr e) two = absurd (omega (arith, ap length e))

directive_short : (s : List ℕ) → (s ≡ codes "%{") ⊎ (s ≡ codes "%{~") → length s ≡ 2 → s ≡ codes "%{"
directive_short s (inl e) two = e
directive_short s (inr e) two = absurd (omega (arith, ap length e))

interp_after : (s : List ℕ) (ps : List Pair) (last : List ℕ) → (s ≡ codes "${") ⊎ (s ≡ codes "${~") → IsApart InterpOpen s ps → Rest Sequence ps last → length s ≡ 2 → IsNot 126 (whole_text ps last)
interp_after s ps last is apart rest two =
    let short : IsApart InterpOpen (codes "${") ps = subst (λ (x : List ℕ). IsApart InterpOpen x ps) (interp_short s is two) apart in
    not_at 126 (whole_text ps last) (no_such Sequence refl InterpOpen (codes "${") ps last short rest (is_not 126) (refl, refl, refl) (λ k t j h. tilde_next k t (interp_apart k t j) h))

directive_after : (s : List ℕ) (ps : List Pair) (last : List ℕ) → (s ≡ codes "%{") ⊎ (s ≡ codes "%{~") → IsApart DirectiveOpen s ps → Rest Sequence ps last → length s ≡ 2 → IsNot 126 (whole_text ps last)
directive_after s ps last is apart rest two =
    let short : IsApart DirectiveOpen (codes "%{") ps = subst (λ (x : List ℕ). IsApart DirectiveOpen x ps) (directive_short s is two) apart in
    not_at 126 (whole_text ps last) (no_such Sequence refl DirectiveOpen (codes "%{") ps last short rest (is_not 126) (refl, refl, refl) (λ k t j h. tilde_next k t (directive_apart k t j) h))

-- ---- comments and literals

comment_after : (mode : Mode) (ps : List Pair) (last : List ℕ) → LineEndsHere ps last → Rest mode ps last → comment_unit false (whole_text ps last) ≡ 0
comment_after mode [] last e rest = rw e refl
comment_after mode (q ∷ qs) last (none, line) rest = rw none (at_kind q.kind q.spelling line rest.1.1)
  where
    at_kind : (k : Kind) (t : List ℕ) → k ≡ LineEnd → Spells mode k t (whole_text qs last) → comment_unit false (t ++ whole_text qs last) ≡ 0
    at_kind LineEnd t e (inl h) = rw h refl
    at_kind LineEnd t e (inr h) = rw h refl
    at_kind k t e h = absurd (cc)

quote_next : (k : Kind) (t more : List ℕ) → (k ≡ QuoteLit → ⊥) → is_allowed_in Quoted k ≡ true → Spells Quoted k t more → quote_unit false (t ++ more) ≡ 0
quote_next QuoteClose t more other st e = subst (λ (x : List ℕ). quote_unit false (x ++ more) ≡ 0) (sym (spelt _ t e)) refl
quote_next InterpOpen t more other st (inl e) = rw e refl
quote_next InterpOpen t more other st (inr e) = rw e refl
quote_next DirectiveOpen t more other st (inl e) = rw e refl
quote_next DirectiveOpen t more other st (inr e) = rw e refl
quote_next QuoteLit t more other st e = absurd (other refl)
quote_next k t more other st e = absurd (false≢true st)

heredoc_none : (name : List ℕ) (at_line_start : Bool) (t : List ℕ) → (at_line_start && is_closing_line name t) ≡ true → heredoc_unit name at_line_start t ≡ 0
heredoc_none name at_line_start [] h = refl
heredoc_none name at_line_start (b ∷ t) h = rw h refl

-- an opening is no unit
heredoc_opening : (name : List ℕ) (at_line_start : Bool) (b : ℕ) (t : List ℕ) → is_sigil b ≡ true → sigil_length b t ≡ 0 → heredoc_unit name at_line_start (b ∷ t) ≡ 0
heredoc_opening name at_line_start b t sigil none = cond_both (at_line_start && is_closing_line name (b ∷ t)) 0 _ (λ n. n ≡ 0) (λ _. refl) (λ _. rw sigil none)

heredoc_next : (name : List ℕ) (at_line_start : Bool) (k : Kind) (t more : List ℕ) → IsIdentifier name → (k ≡ HereLit → ⊥) → IsLexeme (Heredoc name at_line_start) k t more → heredoc_unit name at_line_start (t ++ more) ≡ 0
heredoc_next name at_line_start HereClose t more ident other (st, close) = heredoc_none name at_line_start (t ++ more) (both_true st (close_found name t more ident close).0)
heredoc_next name at_line_start InterpOpen t more ident other (st, inl e) = rw e (heredoc_opening name at_line_start 36 (123 ∷ more) refl refl)
heredoc_next name at_line_start InterpOpen t more ident other (st, inr e) = rw e (heredoc_opening name at_line_start 36 (123 ∷ 126 ∷ more) refl refl)
heredoc_next name at_line_start DirectiveOpen t more ident other (st, inl e) = rw e (heredoc_opening name at_line_start 37 (123 ∷ more) refl refl)
heredoc_next name at_line_start DirectiveOpen t more ident other (st, inr e) = rw e (heredoc_opening name at_line_start 37 (123 ∷ 126 ∷ more) refl refl)
heredoc_next name at_line_start HereLit t more ident other (st, e) = absurd (other refl)
heredoc_next name at_line_start k t more ident other (st, e) = absurd (false≢true st)

-- ---- all

split_number : (b : ℕ) → stops_number b ≡ true → (is_ascii_digit b ≡ false) × (is_exponent_letter b ≡ false)
split_number b h =
    let both = and_parts (not (is_ascii_digit b)) (not (is_exponent_letter b)) h in
    (not-true (is_ascii_digit b) both.0, not-true (is_exponent_letter b) both.1)

split_dot : (t : List ℕ) → stops_dot (slice_index t 0) ≡ true → (is_ascii_digit (slice_index t 0) ≡ false) × ((slice_index t 0 == 46 && slice_index t 1 == 46) ≡ false)
split_dot t h =
    let both = and_parts (not (is_ascii_digit (slice_index t 0))) (not (slice_index t 0 == 46)) h in
    let point : (slice_index t 0 == 46) ≡ false = not-true (slice_index t 0 == 46) both.1 in
    (not-true (is_ascii_digit (slice_index t 0)) both.0, rw point refl)

ordinary_ends : (mode : Mode) → is_literal mode ≡ false → (kind : Kind) (s : List ℕ) (ps : List Pair) (last : List ℕ)
    → AllowsNext kind ps last → IsApart kind s ps → Rest mode ps last → NextEnds mode ps last → is_allowed_in mode kind ≡ true → Ends mode kind s (whole_text ps last)
ordinary_ends mode plain LineComment s ps last following apart rest ends st = comment_after mode ps last following rest
ordinary_ends mode plain Identifier s ps last following apart rest ends st =
    no_word (whole_text ps last) (no_such mode plain Identifier s ps last apart rest stops_word (refl, refl, refl) (λ k t j h. head_passes stops_word k (slice_index t 0) h (word_next k j)))
ordinary_ends mode plain Number s ps last following apart rest ends st =
    let both = split_number (slice_index (whole_text ps last) 0) (no_such mode plain Number s ps last apart rest stops_number (refl, refl, refl) (number_next s)) in
    (both.0, both.1, fraction_after mode plain s ps last apart rest ends)
ordinary_ends mode plain DotIndex s ps last following apart rest ends st =
    not-true (is_ascii_digit (slice_index (whole_text ps last) 0)) (no_such mode plain DotIndex s ps last apart rest no_digit (refl, refl, refl) (λ k t j h. head_passes no_digit k (slice_index t 0) h (index_next k j)))
ordinary_ends mode plain Less s ps last following apart rest ends st =
    (no_byte mode plain Less s ps last apart rest 61 (refl, refl, refl) (less_equal s), less_after mode plain s ps last apart rest)
ordinary_ends mode plain Greater s ps last following apart rest ends st = no_byte mode plain Greater s ps last apart rest 61 (refl, refl, refl) (λ k t j. j)
ordinary_ends mode plain Bang s ps last following apart rest ends st = no_byte mode plain Bang s ps last apart rest 61 (refl, refl, refl) (λ k t j. j)
ordinary_ends mode plain Equal s ps last following apart rest ends st = (
  no_byte mode plain Equal s ps last apart rest 61 (refl, refl, refl) (λ k t j. (or_parts (starts_with 61 t) (starts_with 62 t) j).0),
  no_byte mode plain Equal s ps last apart rest 62 (refl, refl, refl) (λ k t j. (or_parts (starts_with 61 t) (starts_with 62 t) j).1),
)
ordinary_ends mode plain Colon s ps last following apart rest ends st = no_byte mode plain Colon s ps last apart rest 58 (refl, refl, refl) (λ k t j. j)
ordinary_ends mode plain Dot s ps last following apart rest ends st =
    split_dot (whole_text ps last) (no_such mode plain Dot s ps last apart rest stops_dot (refl, refl, refl) (λ k t j h. head_passes stops_dot k (slice_index t 0) h (dot_next k j)))
ordinary_ends mode plain InterpOpen s ps last following apart rest ends st = absurd (both_ways _ plain st)
ordinary_ends mode plain DirectiveOpen s ps last following apart rest ends st = absurd (both_ways _ plain st)
ordinary_ends mode plain QuoteLit s ps last following apart rest ends st = absurd (not_quoted mode plain st)
ordinary_ends mode plain HereLit s ps last following apart rest ends st = absurd (not_heredoc mode plain st)
ordinary_ends mode plain kind s ps last following apart rest ends st = tt

-- what follows a token, by the modes after it
abbrev EndsHere : List Mode → Kind → List ℕ → List Pair → List ℕ → Type 0
EndsHere modes kind s ps last =
    HaveMarkers modes → IsLexeme (mode_of modes) kind s (whole_text ps last) → AllowsNext kind ps last → IsApart kind s ps
    → Rest (mode_of (modes_after kind s modes)) ps last → NextEnds (mode_of (modes_after kind s modes)) ps last → Ends (mode_of modes) kind s (whole_text ps last)

quoted_after : (ps : List Pair) (last : List ℕ) → AllowsNext QuoteLit ps last → Rest Quoted ps last → quote_unit false (whole_text ps last) ≡ 0
quoted_after [] last following rest = absurd (false≢true (sym rest.1))
quoted_after (q ∷ qs) last following rest =
    let none : q.gap ≡ [] = rest.0.1 refl in
    rw none (quote_next q.kind q.spelling (whole_text qs last) following rest.1.0 rest.1.1)

quoted_ends : (ms : List Mode) (kind : Kind) (s : List ℕ) (ps : List Pair) (last : List ℕ) → EndsHere (Quoted ∷ ms) kind s ps last
quoted_ends ms InterpOpen s ps last m lexeme following apart rest ends = interp_after s ps last lexeme.1 apart rest
quoted_ends ms DirectiveOpen s ps last m lexeme following apart rest ends = directive_after s ps last lexeme.1 apart rest
quoted_ends ms QuoteLit s ps last m lexeme following apart rest ends = quoted_after ps last following rest
quoted_ends ms QuoteClose s ps last m lexeme following apart rest ends = tt
quoted_ends ms kind s ps last m lexeme following apart rest ends = absurd (false≢true lexeme.0)

heredoc_after : (name : List ℕ) (at_line_start : Bool) (ps : List Pair) (last : List ℕ) → IsIdentifier name → AllowsNext HereLit ps last → Rest (Heredoc name at_line_start) ps last → heredoc_unit name at_line_start (whole_text ps last) ≡ 0
heredoc_after name at_line_start [] last ident following rest = absurd (false≢true (sym rest.1))
heredoc_after name at_line_start (q ∷ qs) last ident following rest =
    let none : q.gap ≡ [] = rest.0.1 refl in
    rw none (heredoc_next name at_line_start q.kind q.spelling (whole_text qs last) ident following rest.1)

heredoc_ends : (name : List ℕ) (at_line_start : Bool) (ms : List Mode) (kind : Kind) (s : List ℕ) (ps : List Pair) (last : List ℕ) → EndsHere (Heredoc name at_line_start ∷ ms) kind s ps last
heredoc_ends name at_line_start ms InterpOpen s ps last m lexeme following apart rest ends = interp_after s ps last lexeme.1 apart rest
heredoc_ends name at_line_start ms DirectiveOpen s ps last m lexeme following apart rest ends = directive_after s ps last lexeme.1 apart rest
heredoc_ends name at_line_start ms HereLit s ps last m lexeme following apart rest ends = heredoc_after name (is_line_start_after at_line_start s) ps last m.0 following rest
heredoc_ends name at_line_start ms HereClose s ps last m lexeme following apart rest ends = tt
heredoc_ends name at_line_start ms kind s ps last m lexeme following apart rest ends = absurd (false≢true lexeme.0)

-- of the kinds that something can go on with, those outside of literal text leave the modes as they are
ordinary_heredoc : (modes : List Mode) → is_literal (mode_of modes) ≡ false → (kind : Kind) (s : List ℕ) (ps : List Pair) (last : List ℕ) → EndsHere modes kind s ps last
ordinary_heredoc modes plain LineComment s ps last m lexeme following apart rest ends = ordinary_ends (mode_of modes) plain LineComment s ps last following apart rest ends lexeme.0
ordinary_heredoc modes plain Identifier s ps last m lexeme following apart rest ends = ordinary_ends (mode_of modes) plain Identifier s ps last following apart rest ends lexeme.0
ordinary_heredoc modes plain Number s ps last m lexeme following apart rest ends = ordinary_ends (mode_of modes) plain Number s ps last following apart rest ends lexeme.0
ordinary_heredoc modes plain DotIndex s ps last m lexeme following apart rest ends = ordinary_ends (mode_of modes) plain DotIndex s ps last following apart rest ends lexeme.0
ordinary_heredoc modes plain Less s ps last m lexeme following apart rest ends = ordinary_ends (mode_of modes) plain Less s ps last following apart rest ends lexeme.0
ordinary_heredoc modes plain Greater s ps last m lexeme following apart rest ends = ordinary_ends (mode_of modes) plain Greater s ps last following apart rest ends lexeme.0
ordinary_heredoc modes plain Bang s ps last m lexeme following apart rest ends = ordinary_ends (mode_of modes) plain Bang s ps last following apart rest ends lexeme.0
ordinary_heredoc modes plain Equal s ps last m lexeme following apart rest ends = ordinary_ends (mode_of modes) plain Equal s ps last following apart rest ends lexeme.0
ordinary_heredoc modes plain Colon s ps last m lexeme following apart rest ends = ordinary_ends (mode_of modes) plain Colon s ps last following apart rest ends lexeme.0
ordinary_heredoc modes plain Dot s ps last m lexeme following apart rest ends = ordinary_ends (mode_of modes) plain Dot s ps last following apart rest ends lexeme.0
ordinary_heredoc modes plain InterpOpen s ps last m lexeme following apart rest ends = absurd (both_ways _ plain lexeme.0)
ordinary_heredoc modes plain DirectiveOpen s ps last m lexeme following apart rest ends = absurd (both_ways _ plain lexeme.0)
ordinary_heredoc modes plain QuoteLit s ps last m lexeme following apart rest ends = absurd (not_quoted (mode_of modes) plain lexeme.0)
ordinary_heredoc modes plain HereLit s ps last m lexeme following apart rest ends = absurd (not_heredoc (mode_of modes) plain lexeme.0)
ordinary_heredoc modes plain kind s ps last m lexeme following apart rest ends = tt

pub ends_here : (modes : List Mode) (kind : Kind) (s : List ℕ) (ps : List Pair) (last : List ℕ) → EndsHere modes kind s ps last
ends_here [] kind s ps last = ordinary_heredoc [] refl kind s ps last
ends_here (Expression ∷ ms) kind s ps last = ordinary_heredoc (Expression ∷ ms) refl kind s ps last
ends_here (Sequence ∷ ms) kind s ps last = ordinary_heredoc (Sequence ∷ ms) refl kind s ps last
ends_here (Braces ∷ ms) kind s ps last = ordinary_heredoc (Braces ∷ ms) refl kind s ps last
ends_here (Quoted ∷ ms) kind s ps last = quoted_ends ms kind s ps last
ends_here (Heredoc name at_line_start ∷ ms) kind s ps last = heredoc_ends name at_line_start ms kind s ps last
