-- What is found where a heredoc opens, and in its text, is a lexeme; and what follows it is UTF-8.
use Rattle.std.proofs.Common.{◌≡◌, ◌≢◌, ℕ, ◌+◌, ◌<◌, Bool, true, false, not, ◌&&◌, ◌==◌, if◌then◌else◌, List, [], ◌∷◌, ◌++◌, length, drop, slice_index, IsUtf8, Some, None, refl, sym, ap, ap₂, subst, ◌∙◌, ◌⊎◌, inl, inr, arith, append_assoc, length-append, get_or-drop, drop_at, drop-drop, encode_utf8, encode_utf8_all, codes}
use Rattle.std.proofs.lemmas.Bool.{cond_both, and_parts, eqb-true}
use Rattle.std.proofs.lemmas.Bool.Decides.{nat_tests}
use Rattle.std.proofs.lemmas.Str.{encodes-chars, scalars-chars, chars-encodes, encodes-append, length-encode}
use Rattle.std.specs.Cmp.Derive.{both_true}
use Rattle.std.specs.Str.{chars, all_scalars}
use Rattle.hcl_token.specs.declared.kind.Kind.{Kind}
use Rattle.hcl_token.specs.declared.kind.Kind.TheVariants.{Identifier, InterpOpen, DirectiveOpen}
use Rattle.hcl_scan.specs.Runs.{is_line_start_after}
use Rattle.hcl_scan.specs.Inner.RunLength.{run_length}
use Rattle.hcl_scan.specs.Characters.{is_id_start, is_sigil}
use Rattle.hcl_scan.specs.Modes.{Mode, is_literal}
use Rattle.hcl_scan.specs.Modes.Mode.{Heredoc}
use Rattle.hcl_scan.specs.Closing.{is_closing_line, heredoc_unit}
use Rattle.hcl_scan.specs.Lexeme.{is_identifier, IsIdentifier, IsLineEnd, IsLexeme}
use Rattle.hcl_scan.specs.Inner.LexemeStarts.{LexedToken, identifier_of, identifier, is_at_opening, opening}
use Rattle.hcl_scan.specs.Inner.HeredocToken.{line_end_length, open_with_marker, here_open, closing_line_length, heredoc_token}
use Rattle.hcl_scan.proofs.Found.{IsFound, Sound}
use Rattle.hcl_scan.proofs.Pieces.{ContinueSplit, continue_split, scalars_parts}
use Rattle.hcl_scan.proofs.TextLemmas.{first_1, first_2, utf8_tail, utf8_rest}
use Rattle.hcl_scan.proofs.RunLemmas.{RunSplit, run-split}
use Rattle.hcl_scan.proofs.UnitLemmas.{heredoc_unit_fits}
use Rattle.hcl_scan.proofs.HeredocLemmas.{CloseSplit, close_split, identifier_some, heredoc_stops, utf8_closing, ends_ascii}

-- ---- the opening of a template sequence in literal text

module _ (mode : Mode) (literal : is_literal mode ≡ true) (t : List ℕ) (u : IsUtf8 t) where
  template_opening : (kind : Kind) (a : ℕ) → t ≡ a ∷ 123 ∷ drop 2 t → a < 128
      → ((s : List ℕ) → (s ≡ a ∷ 123 ∷ []) ⊎ (s ≡ a ∷ 123 ∷ 126 ∷ []) → IsLexeme mode kind s (drop (length s) t))
      → IsFound mode t kind (if slice_index t 2 == 126 then 3 else 2)
  template_opening kind a e ascii lexeme =
      cond_both (slice_index t 2 == 126) 3 2 (λ n. IsFound mode t kind n)
      (λ h.
      let third : slice_index (drop 2 t) 0 ≡ 126 = get_or-drop 2 t 0 0 ∙ eqb-true (slice_index t 2) 126 h in
      let more : drop 2 t ≡ 126 ∷ drop 3 t = first_1 (drop 2 t) 126 third (omega arith) ∙ ap (λ (x : List ℕ). 126 ∷ x) (drop-drop 1 2 t) in
      let whole : t ≡ a ∷ 123 ∷ 126 ∷ drop 3 t = e ∙ ap (λ (x : List ℕ). a ∷ 123 ∷ x) more in
      record {
        spelling = a ∷ 123 ∷ 126 ∷ [];
        rest = drop 3 t;
        text_is = whole;
        len = refl;
        lexeme = lexeme (a ∷ 123 ∷ 126 ∷ []) (inr refl);
        some = omega arith;
        utf8 = utf8_tail 126 (drop 3 t) (omega arith) (utf8_tail 123 (126 ∷ drop 3 t) (omega arith) (utf8_tail a (123 ∷ 126 ∷ drop 3 t) ascii (subst IsUtf8 whole u)));
      })
      (λ _. record {
        spelling = a ∷ 123 ∷ [];
        rest = drop 2 t;
        text_is = e;
        len = refl;
        lexeme = lexeme (a ∷ 123 ∷ []) (inl refl);
        some = omega arith;
        utf8 = utf8_tail 123 (drop 2 t) (omega arith) (utf8_tail a (123 ∷ drop 2 t) ascii (subst IsUtf8 e u));
      })

  pub opening_sound : is_at_opening t ≡ true → IsFound mode t (opening t).0 (opening t).1
  opening_sound h =
      let both = and_parts (is_sigil (slice_index t 0)) (slice_index t 1 == 123) h in
      let second : slice_index t 1 ≡ 123 = eqb-true (slice_index t 1) 123 both.1 in
      cond_both (slice_index t 0 == 36) InterpOpen DirectiveOpen (λ k. IsFound mode t k (opening t).1)
      (λ k. template_opening InterpOpen 36 (first_2 t 36 123 (eqb-true (slice_index t 0) 36 k) second (omega arith) (omega arith)) (omega arith)
      (λ s e. (literal, e)))
      (λ k. let first : slice_index t 0 ≡ 37 = grind (arith, nat_tests) in
      template_opening DirectiveOpen 37 (first_2 t 37 123 first second (omega arith) (omega arith)) (omega arith) (λ s e. (literal, e)))

-- ---- the text of a heredoc

pub heredoc_token_sound : (name : List ℕ) (at_line_start : Bool) (t : List ℕ) → IsIdentifier name → IsUtf8 t → Sound (Heredoc name at_line_start) t (heredoc_token name at_line_start t)
heredoc_token_sound name at_line_start t ident u =
    let P : LexedToken → Type 0 = λ f. Sound (Heredoc name at_line_start) t f in
    cond_both (at_line_start && is_closing_line name t) _ _ P
    (λ h.
    let both = and_parts at_line_start (is_closing_line name t) h in
    let s : CloseSplit name t = close_split name t both.1 in
    let some : 0 < closing_line_length name t = omega (arith, (identifier_some name ident).0) in
    record {
      spelling = s.spelling;
      rest = s.rest;
      text_is = s.text_is;
      len = s.len;
      lexeme = (both.0, s.close);
      some = some;
      utf8 = utf8_rest s.spelling s.rest (subst IsUtf8 s.text_is u) (ends_ascii s.rest s.ends);
    })
    (λ _. cond_both (is_at_opening t) _ _ P
    (λ h. opening_sound (Heredoc name at_line_start) refl t u h)
    (λ _. cond_both (run_length (heredoc_unit name) at_line_start t == 0) None _ P
    (λ _. tt)
    (λ h.
    let s : RunSplit (heredoc_unit name) at_line_start t = run-split (heredoc_unit name) (heredoc_unit_fits name) at_line_start t in
    let some : 0 < run_length (heredoc_unit name) at_line_start t = grind (arith, nat_tests) in
    let filled : s.prefix ≢ [] = λ e. absurd (omega (arith, s.len, ap length e)) in
    let before : IsUtf8 (s.prefix ++ s.rest) = subst IsUtf8 s.text_is u in
    record {
      spelling = s.prefix;
      rest = s.rest;
      text_is = s.text_is;
      len = s.len;
      lexeme = (refl, (filled, s.run));
      some = some;
      utf8 = elim (heredoc_stops name (is_line_start_after at_line_start s.prefix) s.rest s.stops) [
        | inl closing ↦ utf8_closing name s.prefix s.rest ident before (and_parts (is_line_start_after at_line_start s.prefix) (is_closing_line name s.rest) closing).1
        | inr ascii ↦ utf8_rest s.prefix s.rest before ascii
      ];
    })))

-- ---- where a heredoc opens

-- the text begins with a line end of n bytes
record LineEndSplit (t : List ℕ) (n : ℕ) : Type 0 where
  pub end : List ℕ
  pub rest : List ℕ
  pub text_is : t ≡ end ++ rest
  pub len : length end ≡ n
  pub is : IsLineEnd end
  pub utf8 : IsUtf8 t → IsUtf8 rest

line_end_split : (t : List ℕ) → (line_end_length t == 0) ≡ false → LineEndSplit t (line_end_length t)
line_end_split t =
    cond_both (slice_index t 0 == 10) 1 _ (λ n. (n == 0) ≡ false → LineEndSplit t n)
    (λ h _. let e : t ≡ 10 ∷ drop 1 t = first_1 t 10 (eqb-true (slice_index t 0) 10 h) (omega arith) in
    record {
      end = 10 ∷ [];
      rest = drop 1 t;
      text_is = e;
      len = refl;
      is = inl refl;
      utf8 = λ u. utf8_tail 10 (drop 1 t) (omega arith) (subst IsUtf8 e u);
    })
    (λ h. cond_both (slice_index t 0 == 13 && slice_index t 1 == 10) 2 0 (λ n. (n == 0) ≡ false → LineEndSplit t n)
    (λ k _. let both = and_parts (slice_index t 0 == 13) (slice_index t 1 == 10) k in
    let e : t ≡ 13 ∷ 10 ∷ drop 2 t = first_2 t 13 10 (eqb-true (slice_index t 0) 13 both.0) (eqb-true (slice_index t 1) 10 both.1) (omega arith) (omega arith) in
    record {
      end = 13 ∷ 10 ∷ [];
      rest = drop 2 t;
      text_is = e;
      len = refl;
      is = inr refl;
      utf8 = λ u. utf8_tail 10 (drop 2 t) (omega arith) (utf8_tail 13 (10 ∷ drop 2 t) (omega arith) (subst IsUtf8 e u));
    })
    (λ _ z. absurd (cc)))

-- the text begins with an identifier of n bytes
pub record WordSplit (t : List ℕ) (n : ℕ) : Type 0 where
  pub name : List ℕ
  pub rest : List ℕ
  pub text_is : t ≡ name ++ rest
  pub len : length name ≡ n
  pub is : IsIdentifier name
  pub utf8 : IsUtf8 rest

abbrev pub Words : List ℕ → LexedToken → Type 0
Words t None = Unit {0}
Words t (Some f) = WordSplit t f.1 × (f.0 ≡ Identifier)

words_at : (t cs : List ℕ) → encode_utf8_all cs ≡ t → all_scalars cs ≡ true → Words t (identifier_of cs)
words_at t [] e scalars = tt
words_at t (c ∷ cs) e scalars =
    cond_both (is_id_start c) _ None (λ f. Words t f)
    (λ h.
    let s : ContinueSplit cs = continue_split cs in
    let parts = scalars_parts (c ∷ s.prefix) s.rest (subst (λ (x : List ℕ). all_scalars (c ∷ x) ≡ true) s.text_is scalars) in (
      record {
        name = encode_utf8_all (c ∷ s.prefix);
        rest = encode_utf8_all s.rest;
        text_is = sym e ∙ ap (λ (x : List ℕ). encode_utf8_all (c ∷ x)) s.text_is ∙ encodes-append (c ∷ s.prefix) s.rest;
        len = length-append (encode_utf8 c) (encode_utf8_all s.prefix) ∙ omega (arith, length-encode c, s.len);
        is = ((c ∷ s.prefix, (parts.0, refl)), ap is_identifier (chars-encodes (c ∷ s.prefix) parts.0) ∙ both_true h s.all);
        utf8 = (s.rest, (parts.1, refl));
      },
      refl,
    ))
    (λ _. tt)

-- what is found as an identifier is one, and it has a byte at least
pub words : (t : List ℕ) → IsUtf8 t → Words t (identifier t)
words t u = words_at t (chars t) (encodes-chars t u) (scalars-chars t u)

module _ (mode : Mode) (plain : is_literal mode ≡ false) (t : List ℕ) (u : IsUtf8 t) where
  -- after `<<` or `<<-`
  named_sound : (dash : List ℕ) (more : List ℕ) (found : LexedToken) → (dash ≡ []) ⊎ (dash ≡ codes "-") → t ≡ codes "<<" ++ (dash ++ more)
      → Words more found → Sound mode t (open_with_marker (2 + length dash) more found)
  named_sound dash more None is e words = tt
  named_sound dash more (Some f) is e words =
      let w : WordSplit more f.1 = words.0 in
      let following : drop f.1 more ≡ w.rest = ap₂ drop (sym w.len) w.text_is ∙ drop_at w.name w.rest (length w.name) refl in
      let before : ℕ = 2 + length dash + f.1 in
      cond_both (line_end_length (drop f.1 more) == 0) None _ (λ g. Sound mode t g)
      (λ _. tt)
      (λ h.
      let l : LineEndSplit (drop f.1 more) (line_end_length (drop f.1 more)) = line_end_split (drop f.1 more) h in
      let s : List ℕ = codes "<<" ++ (dash ++ (w.name ++ l.end)) in
      let inner : more ≡ (w.name ++ l.end) ++ l.rest = w.text_is ∙ ap (λ (x : List ℕ). w.name ++ x) (sym following ∙ l.text_is) ∙ sym (append_assoc w.name l.end l.rest) in
      record {
        spelling = s;
        rest = l.rest;
        text_is = e ∙ ap (λ (x : List ℕ). 60 ∷ 60 ∷ x) (ap (λ (x : List ℕ). dash ++ x) inner ∙ sym (append_assoc dash (w.name ++ l.end) l.rest));
        len = omega (arith, length-append dash (w.name ++ l.end), length-append w.name l.end, w.len, l.len);
        lexeme = (ap not plain, (dash, w.name, l.end, refl, is, w.is, l.is));
        some = omega arith;
        utf8 = l.utf8 (subst IsUtf8 (sym following) w.utf8);
      })

  pub here_open_sound : Sound mode t (here_open t)
  here_open_sound =
      cond_both (slice_index t 0 == 60 && slice_index t 1 == 60) _ None (λ f. Sound mode t f)
      (λ h.
      let both = and_parts (slice_index t 0 == 60) (slice_index t 1 == 60) h in
      let e : t ≡ 60 ∷ 60 ∷ drop 2 t = first_2 t 60 60 (eqb-true (slice_index t 0) 60 both.0) (eqb-true (slice_index t 1) 60 both.1) (omega arith) (omega arith) in
      let u2 : IsUtf8 (drop 2 t) = utf8_tail 60 (drop 2 t) (omega arith) (utf8_tail 60 (60 ∷ drop 2 t) (omega arith) (subst IsUtf8 e u)) in
      cond_both (slice_index t 2 == 45) 3 2 (λ n. Sound mode t (open_with_marker n (drop n t) (identifier (drop n t))))
      (λ k.
      let third : slice_index (drop 2 t) 0 ≡ 45 = get_or-drop 2 t 0 0 ∙ eqb-true (slice_index t 2) 45 k in
      let more : drop 2 t ≡ 45 ∷ drop 3 t = first_1 (drop 2 t) 45 third (omega arith) ∙ ap (λ (x : List ℕ). 45 ∷ x) (drop-drop 1 2 t) in
      let u3 : IsUtf8 (drop 3 t) = utf8_tail 45 (drop 3 t) (omega arith) (subst IsUtf8 more u2) in
      named_sound (45 ∷ []) (drop 3 t) (identifier (drop 3 t)) (inr refl) (e ∙ ap (λ (x : List ℕ). 60 ∷ 60 ∷ x) more) (words (drop 3 t) u3))
      (λ _. named_sound [] (drop 2 t) (identifier (drop 2 t)) (inl refl) e (words (drop 2 t) u2)))
      (λ _. tt)
