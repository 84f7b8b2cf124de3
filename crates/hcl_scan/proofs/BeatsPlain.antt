-- Outside of literal text, each lexeme at the start of a text is what the scanner finds, or
-- shorter.
use Rattle.std.proofs.Common.{◌≡◌, ℕ, suc, ◌+◌, ◌<◌, ◌≤◌, Bool, true, false, not, nat_lt, ◌&&◌, ◌||◌, ◌==◌, List, [], ◌∷◌, ◌++◌, length, slice_index, if◌then◌else◌, IsUtf8, Some, refl, sym, ap, subst, ◌∙◌, inl, inr, arith, append_assoc, length-append, encode_utf8, encode_utf8_all}
use Rattle.std.proofs.lemmas.Bool.{cond_both, both_ways, or_parts, lt-ltb, and_parts, not-true, false≢true}
use Rattle.std.proofs.lemmas.Bool.Decides.{nat_tests}
use Rattle.std.proofs.lemmas.Str.{encodes-chars, chars-append, length-encode}
use Rattle.std.specs.Char.{is_ascii_digit, len_utf8}
use Rattle.std.specs.List.{list_all}
use Rattle.std.specs.Str.{chars}
use Rattle.hcl_token.specs.declared.kind.Kind.{Kind}
use Rattle.hcl_token.specs.declared.kind.Kind.TheVariants.{Mark, LineEnd, LineComment, InlineComment, Identifier, Number, DotIndex, Plus, Minus, Star, Slash, Percent, And, Or, Bang, DoubleEqual, NotEqual, Less, Greater, LessEqual, GreaterEqual, Question, Colon, DoubleColon, Equal, FatArrow, OpenBrace, CloseBrace, OpenBracket, CloseBracket, OpenParen, CloseParen, Comma, Dot, Ellipsis, QuoteOpen, HereOpen, SeqClose, QuoteClose, InterpOpen, DirectiveOpen, QuoteLit, HereClose, HereLit}
use Rattle.hcl_scan.specs.Characters.{is_id_start, is_id_continue}
use Rattle.hcl_scan.specs.Modes.{Mode, is_literal, can_close_sequence, is_at_line_start}
use Rattle.hcl_scan.specs.Modes.Mode.{Quoted, Heredoc}
use Rattle.hcl_scan.specs.Runs.{is_line_start_after, IsRun}
use Rattle.hcl_scan.specs.Inner.RunLength.{run_length}
use Rattle.hcl_scan.specs.Lexeme.{is_quoted, is_heredoc, is_allowed_in, is_identifier, is_decimal, IsFraction, IsExponent, comment_unit, inline_unit, Spells}
use Rattle.hcl_scan.specs.Inner.HeredocToken.{here_open}
use Rattle.hcl_scan.specs.Inner.NextToken.{LexedToken, id_continue_length, is_word_start, decimal_length, heredoc_or_less, expression_token}
use Rattle.hcl_scan.proofs.Found.{Beats, same_kind}
use Rattle.hcl_scan.proofs.Pieces.{decimal_some}
use Rattle.hcl_scan.proofs.RunLemmas.{run_length-none, IsRun-adds}
use Rattle.hcl_scan.proofs.HeredocLemmas.{starts_word}
use Rattle.hcl_scan.proofs.HeredocBeats.{heredoc_open_exact, less_beats as here_or_less_beats}
use Rattle.hcl_scan.proofs.BeatsNumbers.{digits_add, all_digits, head_digit, number_le}

abbrev Plain : Bool → Kind → List ℕ → List ℕ → Type 0
Plain c kind s rest = Beats (expression_token c (s ++ rest)) kind (length s)

-- a spelling that is written out, in place of its name
written : (c : Bool) (kind : Kind) (s rest x : List ℕ) → s ≡ x → Plain c kind x rest → Plain c kind s rest
written c kind s rest x e h = subst (λ (y : List ℕ). Plain c kind y rest) (sym e) h

-- the spelling of a kind that has only one
pub spelt : (x s : List ℕ) → Some x ≡ Some s → s ≡ x
spelt x s e = cc

fixed_is : (c : Bool) (kind : Kind) (s rest x : List ℕ) → Some x ≡ Some s → Plain c kind x rest → Plain c kind s rest
fixed_is c kind s rest x e h = written c kind s rest x (spelt x s e) h

-- ---- words and numbers

pub digit_no_word : (b : ℕ) → is_ascii_digit b ≡ true → is_word_start b ≡ false
digit_no_word b h = grind (arith, nat_tests)

continues_add : (cs rest : List ℕ) → list_all is_id_continue cs ≡ true → length (encode_utf8_all cs) ≤ id_continue_length (cs ++ rest)
continues_add [] rest all = omega arith
continues_add (c ∷ cs) rest all =
    let both = and_parts (is_id_continue c) (list_all is_id_continue cs) all in
    let rec : length (encode_utf8_all cs) ≤ id_continue_length (cs ++ rest) = continues_add cs rest both.1 in
    rw (both.0, length-append (encode_utf8 c) (encode_utf8_all cs), length-encode c) (omega arith)

identifier_beats : (c : Bool) (s rest cs : List ℕ) → IsUtf8 s → chars s ≡ cs → is_identifier cs ≡ true → Plain c Identifier s rest
identifier_beats c s rest [] u e h = absurd (cc)
identifier_beats c s rest (x ∷ cs) u e h =
    let both = and_parts (is_id_start x) (list_all is_id_continue cs) h in
    let bytes : s ≡ encode_utf8 x ++ encode_utf8_all cs = sym (ap encode_utf8_all (sym e) ∙ encodes-chars s u) in
    let t : s ++ rest ≡ encode_utf8 x ++ (encode_utf8_all cs ++ rest) = ap (λ (y : List ℕ). y ++ rest) bytes ∙ append_assoc (encode_utf8 x) (encode_utf8_all cs) rest in
    let word : is_word_start (slice_index (s ++ rest) 0) ≡ true = ap (λ (y : List ℕ). is_word_start (slice_index y 0)) t ∙ starts_word x (encode_utf8_all cs ++ rest) both.0 in
    let all : chars (s ++ rest) ≡ x ∷ (cs ++ chars rest) = chars-append s rest u ∙ ap (λ (y : List ℕ). y ++ chars rest) e in
    let size : length s ≡ len_utf8 x + length (encode_utf8_all cs) = ap length bytes ∙ length-append (encode_utf8 x) (encode_utf8_all cs) ∙ ap (λ n. n + length (encode_utf8_all cs)) (length-encode x) in
    let le : length s ≤ len_utf8 x + id_continue_length (cs ++ chars rest) = omega (arith, continues_add cs (chars rest) both.1) in
    rw (word, all, both.0) (same_kind Identifier _ _ le)

number_beats : (c : Bool) (whole fraction exponent rest : List ℕ) → is_decimal whole ≡ true → IsFraction fraction → IsExponent exponent → Plain c Number (whole ++ (fraction ++ exponent)) rest
number_beats c whole fraction exponent rest decimal f x =
    let tail : List ℕ = fraction ++ exponent in
    let t : List ℕ = (whole ++ tail) ++ rest in
    let digit : is_ascii_digit (slice_index t 0) ≡ true = ap (λ (y : List ℕ). is_ascii_digit (slice_index y 0)) (append_assoc whole tail rest) ∙ head_digit whole (tail ++ rest) decimal in
    rw (digit_no_word (slice_index t 0) digit, digit) (same_kind Number _ _ (number_le whole fraction exponent rest decimal f x))

-- ---- comments and legacy indices

index_beats : (c : Bool) (digits rest : List ℕ) → is_decimal digits ≡ true → Plain c DotIndex (46 ∷ digits) rest
index_beats c digits rest decimal =
    let le : suc (length digits) ≤ 1 + decimal_length (digits ++ rest) = omega (arith, digits_add digits rest (all_digits digits decimal)) in
    rw (head_digit digits rest decimal) (same_kind DotIndex _ _ le)

inline_beats : (c : Bool) (body rest : List ℕ) → IsRun inline_unit false body (42 ∷ 47 ∷ rest) → Plain c InlineComment (47 ∷ 42 ∷ (body ++ 42 ∷ 47 ∷ [])) rest
inline_beats c body rest run =
    let tail : List ℕ = 42 ∷ 47 ∷ rest in
    let assoc : (body ++ 42 ∷ 47 ∷ []) ++ rest ≡ body ++ tail = append_assoc body (42 ∷ 47 ∷ []) rest in
    let none : run_length inline_unit (is_line_start_after false body) tail ≡ 0 = run_length-none inline_unit (is_line_start_after false body) tail refl in
    let count : run_length inline_unit false (body ++ tail) ≡ length body = IsRun-adds inline_unit false body tail run ∙ omega (arith, none) in
    let more : length body < length (body ++ tail) = omega (arith, length-append body tail) in
    let within : nat_lt (length body) (length (body ++ tail)) ≡ true = lt-ltb _ _ more in
    let size : suc (suc (length (body ++ 42 ∷ 47 ∷ []))) ≡ length body + 4 = omega (arith, length-append body (42 ∷ 47 ∷ [])) in
    rw (assoc, count, within) (inr (size, refl))

comment_beats : (c : Bool) (n : ℕ) (body rest : List ℕ) → IsRun comment_unit false body rest → Beats (Some (LineComment, n + run_length comment_unit false (body ++ rest))) LineComment (n + length body)
comment_beats c n body rest run = same_kind LineComment _ _ (omega (arith, IsRun-adds comment_unit false body rest run))

-- ---- operators of which another lexeme begins with the same byte
dot_beats : (c : Bool) (rest : List ℕ) → Plain c Dot (46 ∷ []) rest
dot_beats c rest =
    cond_both (is_ascii_digit (slice_index rest 0)) _ _ (λ f. Beats f Dot 1)
    (λ h. inl (omega (arith, decimal_some rest h)))
    (λ _. cond_both (slice_index rest 0 == 46 && slice_index rest 1 == 46) _ _ (λ f. Beats f Dot 1) (λ _. inl (omega arith)) (λ _. inr (refl, refl)))

slash_beats : (c : Bool) (rest : List ℕ) → (slice_index rest 0 == 42 || slice_index rest 0 == 47) ≡ false → Plain c Slash (47 ∷ []) rest
slash_beats c rest h =
    let both = or_parts (slice_index rest 0 == 42) (slice_index rest 0 == 47) h in
    rw (both.1, both.0) (inr (refl, refl))

less_beats : (c : Bool) (rest : List ℕ) → Plain c Less (60 ∷ []) rest
less_beats c rest =
    cond_both (slice_index rest 0 == 60) _ _ (λ f. Beats f Less 1)
    (λ _. here_or_less_beats (60 ∷ rest))
    (λ _. cond_both (slice_index rest 0 == 61) _ _ (λ f. Beats f Less 1) (λ _. inl (omega arith)) (λ _. inr (refl, refl)))

heredoc_beats : (c : Bool) (s rest more : List ℕ) → s ≡ 60 ∷ 60 ∷ more → here_open (s ++ rest) ≡ Some (HereOpen, length s) → Plain c HereOpen s rest
heredoc_beats c s rest more e found =
    let opens : expression_token c (s ++ rest) ≡ heredoc_or_less (here_open (s ++ rest)) =
    subst (λ (x : List ℕ). expression_token c (x ++ rest) ≡ heredoc_or_less (here_open (x ++ rest))) (sym e) refl in
    subst (λ (f : LexedToken). Beats f HereOpen (length s)) (sym (opens ∙ ap heredoc_or_less found)) (inr (refl, refl))

-- an operator of two bytes begins with the same byte
longer_1 : (c : Bool) (rest : List ℕ) (kind long : Kind) (x : ℕ) → Beats (if slice_index rest 0 == x then Some (long, 2) else Some (kind, 1)) kind 1
longer_1 c rest kind long x = cond_both (slice_index rest 0 == x) _ _ (λ f. Beats f kind 1) (λ _. inl (omega arith)) (λ _. inr (refl, refl))

-- ---- all

pub not_quoted : (mode : Mode) → is_literal mode ≡ false → is_quoted mode ≡ true → ⊥
not_quoted Quoted plain h = false≢true (sym plain)
not_quoted mode plain h = false≢true h

pub not_heredoc : (mode : Mode) → is_literal mode ≡ false → is_heredoc mode ≡ true → ⊥
not_heredoc (Heredoc name at_line_start) plain h = false≢true (sym plain)
not_heredoc mode plain h = false≢true h

pub ordinary_beats : (mode : Mode) → is_literal mode ≡ false → (kind : Kind) (s rest : List ℕ) → is_allowed_in mode kind ≡ true → Spells mode kind s rest → Plain (can_close_sequence mode) kind s rest
ordinary_beats mode plain LineEnd s rest st (inl e) = written (can_close_sequence mode) LineEnd s rest _ e (inr (refl, refl))
ordinary_beats mode plain LineEnd s rest st (inr e) = written (can_close_sequence mode) LineEnd s rest _ e (inr (refl, refl))
ordinary_beats mode plain LineComment s rest st (inl (body, e, run)) = written (can_close_sequence mode) LineComment s rest (35 ∷ body) e (subst (λ n. Beats (Some (LineComment, 1 + run_length comment_unit false (body ++ rest))) LineComment n) (omega arith) (comment_beats (can_close_sequence mode) 1 body rest run))
ordinary_beats mode plain LineComment s rest st (inr (body, e, run)) = written (can_close_sequence mode) LineComment s rest (47 ∷ 47 ∷ body) e (subst (λ n. Beats (Some (LineComment, 2 + run_length comment_unit false (body ++ rest))) LineComment n) (omega arith) (comment_beats (can_close_sequence mode) 2 body rest run))
ordinary_beats mode plain InlineComment s rest st (body, e, run) = written (can_close_sequence mode) InlineComment s rest _ e (inline_beats (can_close_sequence mode) body rest run)
ordinary_beats mode plain Identifier s rest st (u, h) = identifier_beats (can_close_sequence mode) s rest (chars s) u refl h
ordinary_beats mode plain Number s rest st (whole, fraction, exponent, e, decimal, f, x) = written (can_close_sequence mode) Number s rest _ e (number_beats (can_close_sequence mode) whole fraction exponent rest decimal f x)
ordinary_beats mode plain DotIndex s rest st (digits, e, decimal) = written (can_close_sequence mode) DotIndex s rest _ e (index_beats (can_close_sequence mode) digits rest decimal)
ordinary_beats mode plain Slash s rest st (e, h) = fixed_is (can_close_sequence mode) Slash s rest _ e (slash_beats (can_close_sequence mode) rest h)
ordinary_beats mode plain Plus s rest st e = fixed_is (can_close_sequence mode) Plus s rest _ e (inr (refl, refl))
ordinary_beats mode plain Minus s rest st e = fixed_is (can_close_sequence mode) Minus s rest _ e (inr (refl, refl))
ordinary_beats mode plain Star s rest st e = fixed_is (can_close_sequence mode) Star s rest _ e (inr (refl, refl))
ordinary_beats mode plain Percent s rest st e = fixed_is (can_close_sequence mode) Percent s rest _ e (inr (refl, refl))
ordinary_beats mode plain And s rest st e = fixed_is (can_close_sequence mode) And s rest _ e (inr (refl, refl))
ordinary_beats mode plain Or s rest st e = fixed_is (can_close_sequence mode) Or s rest _ e (inr (refl, refl))
ordinary_beats mode plain DoubleEqual s rest st e = fixed_is (can_close_sequence mode) DoubleEqual s rest _ e (inr (refl, refl))
ordinary_beats mode plain NotEqual s rest st e = fixed_is (can_close_sequence mode) NotEqual s rest _ e (inr (refl, refl))
ordinary_beats mode plain LessEqual s rest st e = fixed_is (can_close_sequence mode) LessEqual s rest _ e (inr (refl, refl))
ordinary_beats mode plain GreaterEqual s rest st e = fixed_is (can_close_sequence mode) GreaterEqual s rest _ e (inr (refl, refl))
ordinary_beats mode plain Question s rest st e = fixed_is (can_close_sequence mode) Question s rest _ e (inr (refl, refl))
ordinary_beats mode plain DoubleColon s rest st e = fixed_is (can_close_sequence mode) DoubleColon s rest _ e (inr (refl, refl))
ordinary_beats mode plain FatArrow s rest st e = fixed_is (can_close_sequence mode) FatArrow s rest _ e (inr (refl, refl))
ordinary_beats mode plain OpenBrace s rest st e = fixed_is (can_close_sequence mode) OpenBrace s rest _ e (inr (refl, refl))
ordinary_beats mode plain OpenBracket s rest st e = fixed_is (can_close_sequence mode) OpenBracket s rest _ e (inr (refl, refl))
ordinary_beats mode plain CloseBracket s rest st e = fixed_is (can_close_sequence mode) CloseBracket s rest _ e (inr (refl, refl))
ordinary_beats mode plain OpenParen s rest st e = fixed_is (can_close_sequence mode) OpenParen s rest _ e (inr (refl, refl))
ordinary_beats mode plain CloseParen s rest st e = fixed_is (can_close_sequence mode) CloseParen s rest _ e (inr (refl, refl))
ordinary_beats mode plain Comma s rest st e = fixed_is (can_close_sequence mode) Comma s rest _ e (inr (refl, refl))
ordinary_beats mode plain Ellipsis s rest st e = fixed_is (can_close_sequence mode) Ellipsis s rest _ e (inr (refl, refl))
ordinary_beats mode plain QuoteOpen s rest st e = fixed_is (can_close_sequence mode) QuoteOpen s rest _ e (inr (refl, refl))
ordinary_beats mode plain Bang s rest st e = fixed_is (can_close_sequence mode) Bang s rest _ e (longer_1 (can_close_sequence mode) rest Bang NotEqual 61)
ordinary_beats mode plain Greater s rest st e = fixed_is (can_close_sequence mode) Greater s rest _ e (longer_1 (can_close_sequence mode) rest Greater GreaterEqual 61)
ordinary_beats mode plain Colon s rest st e = fixed_is (can_close_sequence mode) Colon s rest _ e (longer_1 (can_close_sequence mode) rest Colon DoubleColon 58)
ordinary_beats mode plain Less s rest st e = fixed_is (can_close_sequence mode) Less s rest _ e (less_beats (can_close_sequence mode) rest)
ordinary_beats mode plain Equal s rest st e = fixed_is (can_close_sequence mode) Equal s rest _ e
    (cond_both (slice_index rest 0 == 61) _ _ (λ f. Beats f Equal 1) (λ _. inl (omega arith)) (λ _. longer_1 (can_close_sequence mode) rest Equal FatArrow 62))
ordinary_beats mode plain Dot s rest st e = fixed_is (can_close_sequence mode) Dot s rest _ e (dot_beats (can_close_sequence mode) rest)
ordinary_beats mode plain CloseBrace s rest st e = fixed_is (can_close_sequence mode) CloseBrace s rest _ e
    (rw (not-true (can_close_sequence mode) (and_parts (not (can_close_sequence mode)) (not (is_literal mode)) st).0) (inr (refl, refl)))
ordinary_beats mode plain HereOpen s rest st (dash, name, end, e, either, ident, ends) =
    heredoc_beats (can_close_sequence mode) s rest (dash ++ (name ++ end)) e (heredoc_open_exact mode s rest (dash, name, end, e, either, ident, ends))
ordinary_beats mode plain SeqClose s rest st (inl e) = written (can_close_sequence mode) SeqClose s rest _ e (rw st (inr (refl, refl)))
ordinary_beats mode plain SeqClose s rest st (inr e) = written (can_close_sequence mode) SeqClose s rest _ e (rw st (inr (refl, refl)))
ordinary_beats mode plain Mark s rest st e = absurd (false≢true st)
ordinary_beats mode plain InterpOpen s rest st e = absurd (both_ways _ plain st)
ordinary_beats mode plain DirectiveOpen s rest st e = absurd (both_ways _ plain st)
ordinary_beats mode plain QuoteClose s rest st e = absurd (not_quoted mode plain st)
ordinary_beats mode plain QuoteLit s rest st e = absurd (not_quoted mode plain st)
ordinary_beats mode plain HereLit s rest st e = absurd (not_heredoc mode plain st)
ordinary_beats mode plain HereClose s rest st e = absurd (not_heredoc mode plain (and_parts (is_heredoc mode) (is_at_line_start mode) st).0)
