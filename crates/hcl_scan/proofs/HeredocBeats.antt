-- Each lexeme in the text of a heredoc, and each opening of one, is what is found there, or
-- shorter.
use Rattle.std.proofs.Common.{◌≡◌, ◌≢◌, ℕ, ◌+◌, ◌<◌, Bool, true, false, ◌&&◌, ◌==◌, if◌then◌else◌, List, [], ◌∷◌, ◌++◌, length, drop, slice_index, IsUtf8, Some, None, refl, sym, ap, subst, ◌∙◌, ◌⊎◌, inl, inr, arith, append_assoc, length-append, drop_at, encode_utf8, encode_utf8_all, codes}
use Rattle.std.proofs.lemmas.Bool.{cond_both, and_parts, ne_eqb, false_from_ne_true, false≢true, lt-ltb}
use Rattle.std.proofs.lemmas.Bool.Decides.{nat_tests}
use Rattle.std.proofs.lemmas.Str.{encodes-chars, chars-append, length-encode}
use Rattle.std.specs.Char.{len_utf8}
use Rattle.std.specs.Cmp.Derive.{both_true}
use Rattle.std.specs.List.{list_all, concat}
use Rattle.std.specs.Str.{chars}
use Rattle.unicode_ident.proofs.IdentLemmas.{is_xid_continue-ascii}
use Rattle.hcl_token.specs.declared.kind.Kind.{Kind}
use Rattle.hcl_token.specs.declared.kind.Kind.TheVariants.{Identifier, Less, HereOpen, HereClose, HereLit, InterpOpen, DirectiveOpen}
use Rattle.hcl_scan.specs.Runs.{is_line_start_after, AreUnitsOf}
use Rattle.hcl_scan.specs.Inner.RunLength.{run_length}
use Rattle.hcl_scan.specs.Characters.{is_id_start, is_id_continue, is_sigil}
use Rattle.hcl_scan.specs.Modes.{Mode}
use Rattle.hcl_scan.specs.Modes.Mode.{Heredoc}
use Rattle.hcl_scan.specs.Closing.{is_closing_line, heredoc_unit}
use Rattle.hcl_scan.specs.Lexeme.{is_identifier, IsIdentifier, IsLineEnd, Spells, IsLexeme}
use Rattle.hcl_scan.specs.Inner.LexemeStarts.{LexedToken, is_word_start, id_continue_length, identifier, is_at_opening, opening}
use Rattle.hcl_scan.specs.Inner.HeredocToken.{line_end_length, open_with_marker, here_open, heredoc_token}
use Rattle.hcl_scan.specs.Inner.NextToken.{heredoc_or_less}
use Rattle.hcl_scan.proofs.Found.{Beats, same_kind}
use Rattle.hcl_scan.proofs.RunLemmas.{IsRun-adds}
use Rattle.hcl_scan.proofs.HeredocLemmas.{identifier_some, close_found, closing_no_opening, unit_begins}

-- ---- the opening of a template sequence in literal text

-- what is found at an opening is that opening, with its `~` if it has one
abbrev pub OpeningBeats : Kind → List ℕ → List ℕ → Type 0
OpeningBeats kind s rest = (is_at_opening (s ++ rest) ≡ true) × Beats (Some (opening (s ++ rest))) kind (length s)

tilde_beats : (kind : Kind) (b : ℕ) → Beats (Some (kind, if b == 126 then 3 else 2)) kind 2
tilde_beats kind b = cond_both (b == 126) 3 2 (λ n. Beats (Some (kind, n)) kind 2) (λ _. inl (omega arith)) (λ _. inr (refl, refl))

pub interp_beats : (mode : Mode) (s rest : List ℕ) → Spells mode InterpOpen s rest → OpeningBeats InterpOpen s rest
interp_beats mode s rest (inl e) = subst (λ (x : List ℕ). OpeningBeats InterpOpen x rest) (sym e) (refl, tilde_beats InterpOpen (slice_index rest 0))
interp_beats mode s rest (inr e) = subst (λ (x : List ℕ). OpeningBeats InterpOpen x rest) (sym e) (refl, inr (refl, refl))

pub directive_beats : (mode : Mode) (s rest : List ℕ) → Spells mode DirectiveOpen s rest → OpeningBeats DirectiveOpen s rest
directive_beats mode s rest (inl e) = subst (λ (x : List ℕ). OpeningBeats DirectiveOpen x rest) (sym e) (refl, tilde_beats DirectiveOpen (slice_index rest 0))
directive_beats mode s rest (inr e) = subst (λ (x : List ℕ). OpeningBeats DirectiveOpen x rest) (sym e) (refl, inr (refl, refl))

-- ---- the text of a heredoc

-- no closing line begins with an opening
pub opening_no_closing : (name : List ℕ) (at_line_start : Bool) (t : List ℕ) → IsIdentifier name → is_at_opening t ≡ true → (at_line_start && is_closing_line name t) ≡ false
opening_no_closing name at_line_start t ident h =
    let sigil : is_sigil (slice_index t 0) ≡ true = (and_parts (is_sigil (slice_index t 0)) (slice_index t 1 == 123) h).0 in
    false_from_ne_true _ (λ e. false≢true (sym (closing_no_opening name t ident (and_parts at_line_start (is_closing_line name t) e).1) ∙ sigil))

opening_found : (name : List ℕ) (at_line_start : Bool) (kind : Kind) (s rest : List ℕ) → IsIdentifier name → OpeningBeats kind s rest
    → Beats (heredoc_token name at_line_start (s ++ rest)) kind (length s)
opening_found name at_line_start kind s rest ident (begins, beats) = rw (opening_no_closing name at_line_start (s ++ rest) ident begins, begins) beats

-- a literal is not longer than the run that is found
lit_beats : (name : List ℕ) (at_line_start : Bool) (us : List (List ℕ)) (s rest : List ℕ) → s ≡ concat us → s ≢ [] → AreUnitsOf (heredoc_unit name) at_line_start us rest
    → Beats (heredoc_token name at_line_start (s ++ rest)) HereLit (length s)
lit_beats name at_line_start [] s rest e filled are = absurd (filled e)
lit_beats name at_line_start (v ∷ vs) s rest e filled are =
    let t : List ℕ = s ++ rest in
    let more : List ℕ = concat vs ++ rest in
    let split : t ≡ v ++ more = ap (λ (x : List ℕ). x ++ rest) e ∙ append_assoc v (concat vs) rest in
    let unit : 0 < heredoc_unit name at_line_start t = rw (split, are.1) are.0 in
    let begins = unit_begins name at_line_start t unit in
    let count : run_length (heredoc_unit name) at_line_start t ≡ length s + run_length (heredoc_unit name) (is_line_start_after at_line_start s) rest = IsRun-adds (heredoc_unit name) at_line_start s rest (v ∷ vs, e, are) in
    let size : length s ≡ length v + length (concat vs) = ap length e ∙ length-append v (concat vs) in
    let some : (run_length (heredoc_unit name) at_line_start t == 0) ≡ false = ne_eqb (run_length (heredoc_unit name) at_line_start t) 0 (λ z. absurd (omega (arith, are.0))) in
    rw (begins.0, begins.1, some) (same_kind HereLit _ _ (omega arith))

pub heredoc_token_beats : (name : List ℕ) (at_line_start : Bool) (kind : Kind) (s rest : List ℕ) → IsIdentifier name → IsLexeme (Heredoc name at_line_start) kind s rest
    → Beats (heredoc_token name at_line_start (s ++ rest)) kind (length s)
heredoc_token_beats name at_line_start HereClose s rest ident (st, close) =
    let found = close_found name s rest ident close in
    let closing : (at_line_start && is_closing_line name (s ++ rest)) ≡ true = both_true st found.0 in
    rw closing (inr (sym found.1, refl))
heredoc_token_beats name at_line_start HereLit s rest ident (st, (filled, (us, e, are))) = lit_beats name at_line_start us s rest e filled are
heredoc_token_beats name at_line_start InterpOpen s rest ident (st, spells) = opening_found name at_line_start InterpOpen s rest ident (interp_beats (Heredoc name at_line_start) s rest spells)
heredoc_token_beats name at_line_start DirectiveOpen s rest ident (st, spells) = opening_found name at_line_start DirectiveOpen s rest ident (directive_beats (Heredoc name at_line_start) s rest spells)
heredoc_token_beats name at_line_start kind s rest ident (st, spells) = absurd (false≢true st)

-- ---- where a heredoc opens

-- an ASCII byte is a character
pub chars_first : (b : ℕ) (t : List ℕ) → b < 128 → chars (b ∷ t) ≡ b ∷ chars t
unfolding chars
chars_first b [] h = rw (lt-ltb b 128 h) refl
chars_first b (c ∷ t) h = rw (lt-ltb b 128 h) refl

-- nothing goes on at an ASCII byte that does not continue an identifier
pub no_continue : (b : ℕ) (t : List ℕ) → b < 128 → is_id_continue b ≡ false → id_continue_length (chars (b ∷ t)) ≡ 0
no_continue b t h none = rw (chars_first b t h, none) refl

line_end_no_word : (end rest : List ℕ) → IsLineEnd end → id_continue_length (chars (end ++ rest)) ≡ 0
line_end_no_word end rest (inl e) = rw e (no_continue 10 rest (omega arith) (rw (is_xid_continue-ascii 10 (omega arith)) refl))
line_end_no_word end rest (inr e) = rw e (no_continue 13 (10 ∷ rest) (omega arith) (rw (is_xid_continue-ascii 13 (omega arith)) refl))

line_end_found : (end rest : List ℕ) → IsLineEnd end → line_end_length (end ++ rest) ≡ length end
line_end_found end rest (inl e) = rw e refl
line_end_found end rest (inr e) = rw e refl

-- the sum of the bytes of leading characters
continues_sum : (cs rest : List ℕ) → list_all is_id_continue cs ≡ true → id_continue_length (cs ++ rest) ≡ length (encode_utf8_all cs) + id_continue_length rest
continues_sum [] rest all = omega arith
continues_sum (c ∷ cs) rest all =
    let both = and_parts (is_id_continue c) (list_all is_id_continue cs) all in
    let rec : id_continue_length (cs ++ rest) ≡ length (encode_utf8_all cs) + id_continue_length rest = continues_sum cs rest both.1 in
    rw (both.0, length-append (encode_utf8 c) (encode_utf8_all cs), length-encode c) (omega arith)

identifier_at : (s rest cs : List ℕ) → IsUtf8 s → chars s ≡ cs → is_identifier cs ≡ true → id_continue_length (chars rest) ≡ 0 → identifier (s ++ rest) ≡ Some (Identifier, length s)
identifier_at s rest [] u e h none = absurd (cc)
identifier_at s rest (x ∷ cs) u e h none =
    let both = and_parts (is_id_start x) (list_all is_id_continue cs) h in
    let bytes : s ≡ encode_utf8 x ++ encode_utf8_all cs = sym (ap encode_utf8_all (sym e) ∙ encodes-chars s u) in
    let all : chars (s ++ rest) ≡ x ∷ (cs ++ chars rest) = chars-append s rest u ∙ ap (λ (y : List ℕ). y ++ chars rest) e in
    let size : length s ≡ len_utf8 x + length (encode_utf8_all cs) = ap length bytes ∙ length-append (encode_utf8 x) (encode_utf8_all cs) ∙ ap (λ n. n + length (encode_utf8_all cs)) (length-encode x) in
    let sum : len_utf8 x + id_continue_length (cs ++ chars rest) ≡ length s = omega (arith, continues_sum cs (chars rest) both.1) in
    rw (all, both.0, sum) refl

-- an identifier that what follows does not go on
pub identifier_exact : (name rest : List ℕ) → IsIdentifier name → id_continue_length (chars rest) ≡ 0 → identifier (name ++ rest) ≡ Some (Identifier, length name)
identifier_exact name rest (u, h) none = identifier_at name rest (chars name) u refl h none

-- the name and the line end after `<<` or `<<-`
named_exact : (before : ℕ) (name end rest : List ℕ) → IsIdentifier name → IsLineEnd end
    → open_with_marker before (name ++ (end ++ rest)) (identifier (name ++ (end ++ rest))) ≡ Some (HereOpen, before + length name + length end)
named_exact before name end rest ident line =
    let found = identifier_exact name (end ++ rest) ident (line_end_no_word end rest line) in
    let following : drop (length name) (name ++ (end ++ rest)) ≡ end ++ rest = drop_at name (end ++ rest) (length name) refl in
    rw (found, following, line_end_found end rest line, line_end_some end line) refl
  where
    line_end_some : (end : List ℕ) → IsLineEnd end → (length end == 0) ≡ false
    line_end_some end (inl e) = rw e refl
    line_end_some end (inr e) = rw e refl

-- the opening of a heredoc is found
pub heredoc_open_exact : (mode : Mode) (s rest : List ℕ) → Spells mode HereOpen s rest → here_open (s ++ rest) ≡ Some (HereOpen, length s)
heredoc_open_exact mode s rest (dash, name, end, e, is, ident, line) =
    let tail : List ℕ = name ++ (end ++ rest) in
    let whole : s ++ rest ≡ 60 ∷ 60 ∷ (dash ++ tail) =
    ap (λ (x : List ℕ). x ++ rest) e ∙ ap (λ (x : List ℕ). 60 ∷ 60 ∷ x) (append_assoc dash (name ++ end) rest ∙ ap (λ (x : List ℕ). dash ++ x) (append_assoc name end rest)) in
    let size : length s ≡ 2 + length dash + length name + length end = ap length e ∙ omega (arith, length-append dash (name ++ end), length-append name end) in
    rw (whole, size) (at_dash dash is)
  where
    first : (name more : List ℕ) → IsIdentifier name → (slice_index (name ++ more) 0 == 45) ≡ false
    first [] more ident = absurd (omega (arith, (identifier_some [] ident).0))
    first (b ∷ bs) more ident = let word : is_word_start b ≡ true = (identifier_some (b ∷ bs) ident).1 in grind (arith, nat_tests)

    at_dash : (dash : List ℕ) → (dash ≡ []) ⊎ (dash ≡ codes "-") → here_open (60 ∷ 60 ∷ (dash ++ (name ++ (end ++ rest)))) ≡ Some (HereOpen, 2 + length dash + length name + length end)
    at_dash d (inl k) = rw (k, first name (end ++ rest) ident) (named_exact 2 name end rest ident line)
    at_dash d (inr k) = rw k (named_exact 3 name end rest ident line)

-- what is found where one opens has more than one byte
abbrev IsLong : LexedToken → Type 0
IsLong None = Unit {0}
IsLong (Some found) = 1 < found.1

named_long : (n : ℕ) → 1 < n → (t : List ℕ) (word : LexedToken) → IsLong (open_with_marker n t word)
named_long n h t None = tt
named_long n h t (Some word) = cond_both (line_end_length (drop word.1 t) == 0) None _ IsLong (λ _. tt) (λ _. omega arith)

heredoc_open_long : (t : List ℕ) → IsLong (here_open t)
heredoc_open_long t =
    cond_both (slice_index t 0 == 60 && slice_index t 1 == 60) _ None IsLong
    (λ _. cond_both (slice_index t 2 == 45) 3 2 (λ n. IsLong (open_with_marker n (drop n t) (identifier (drop n t))))
    (λ _. named_long 3 (omega arith) (drop 3 t) (identifier (drop 3 t)))
    (λ _. named_long 2 (omega arith) (drop 2 t) (identifier (drop 2 t))))
    (λ _. tt)

less_at : (found : LexedToken) → IsLong found → Beats (heredoc_or_less found) Less 1
less_at None long = inr (refl, refl)
less_at (Some found) long = inl long

-- `<` is what is found at `<<`, or shorter
pub less_beats : (t : List ℕ) → Beats (heredoc_or_less (here_open t)) Less 1
less_beats t = less_at (here_open t) (heredoc_open_long t)
