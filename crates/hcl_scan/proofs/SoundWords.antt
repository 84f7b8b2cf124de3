-- The words, the numbers and the comments that the scanner finds are lexemes.
use Rattle.std.proofs.Common.{◌≡◌, ℕ, ◌+◌, ◌<◌, true, false, not, nat_lt, List, [], ◌∷◌, ◌++◌, length, drop, slice_index, IsUtf8, IsTrue, None, refl, sym, ap, subst, ◌∙◌, arith, append_assoc, length-append, get_or-drop, encode_utf8, encode_utf8_all}
use Rattle.std.proofs.lemmas.Bool.{cond_both, ltb-true}
use Rattle.std.proofs.lemmas.Str.{encodes-chars, scalars-chars, chars-encodes, encodes-append, length-encode, len_utf8_bounds}
use Rattle.std.specs.Char.{is_ascii_digit}
use Rattle.std.specs.Cmp.Derive.{both_true}
use Rattle.std.specs.Str.{chars, all_scalars}
use Rattle.hcl_token.specs.declared.kind.Kind.TheVariants.{LineComment, Number, DotIndex}
use Rattle.hcl_scan.specs.Characters.{is_id_start}
use Rattle.hcl_scan.specs.Modes.{Mode, is_literal}
use Rattle.hcl_scan.specs.Runs.{is_line_start_after, IsRun}
use Rattle.hcl_scan.specs.Inner.RunLength.{run_length}
use Rattle.hcl_scan.specs.Lexeme.{is_identifier, is_decimal, IsFraction, IsExponent, comment_unit, inline_unit, Spells}
use Rattle.hcl_scan.specs.Inner.NextToken.{identifier_of, identifier, decimal_length, fraction_length, exponent_length, number_length, inline_comment}
use Rattle.hcl_scan.proofs.Found.{IsFound, Sound}
use Rattle.hcl_scan.proofs.Pieces.{Split, decimal_split, fraction_split, exponent_split, decimal_some, ContinueSplit, continue_split, scalars_parts}
use Rattle.hcl_scan.proofs.RunLemmas.{RunSplit, run-split}
use Rattle.hcl_scan.proofs.TextLemmas.{first_2, utf8_tail, utf8_rest}
use Rattle.hcl_scan.proofs.UnitLemmas.{byte_unit_fits, comment_stops, inline_stops}

module _ (mode : Mode) (t : List ℕ) (u : IsUtf8 t) (plain : is_literal mode ≡ false) where
  outside : not (is_literal mode) ≡ true
  outside = ap not plain

  pub comment_of : (n : ℕ) (intro : List ℕ) → t ≡ intro ++ drop n t → length intro ≡ n → 0 < n
      → ((body rest : List ℕ) → IsRun comment_unit false body rest → Spells mode LineComment (intro ++ body) rest)
      → IsFound mode t LineComment (n + run_length comment_unit false (drop n t))
  comment_of n intro e size some spells =
      let s : RunSplit comment_unit false (drop n t) = run-split comment_unit (byte_unit_fits _) false (drop n t) in
      let whole : t ≡ (intro ++ s.prefix) ++ s.rest = e ∙ ap (λ (x : List ℕ). intro ++ x) s.text_is ∙ sym (append_assoc intro s.prefix s.rest) in
      record {
        spelling = intro ++ s.prefix;
        rest = s.rest;
        text_is = whole;
        len = length-append intro s.prefix ∙ omega (arith, s.len);
        lexeme = (outside, spells s.prefix s.rest s.run);
        some = omega arith;
        utf8 = utf8_rest (intro ++ s.prefix) s.rest (subst IsUtf8 whole u) (comment_stops (is_line_start_after false s.prefix) s.rest s.stops);
      }

  pub inline_sound : t ≡ 47 ∷ 42 ∷ drop 2 t → Sound mode t (inline_comment (drop 2 t))
  inline_sound e =
      let body : List ℕ = drop 2 t in
      let s : RunSplit inline_unit false body = run-split inline_unit (byte_unit_fits _) false body in
      cond_both (nat_lt (run_length inline_unit false body) (length body)) _ None (λ f. Sound mode t f)
      (λ h.
      let shorter : run_length inline_unit false body < length body = ltb-true _ _ h in
      let size : length body ≡ length s.prefix + length s.rest = ap length s.text_is ∙ length-append s.prefix s.rest in
      let stop : (slice_index s.rest 0 ≡ 42) × (slice_index s.rest 1 ≡ 47) = inline_stops (is_line_start_after false s.prefix) s.rest s.stops (omega (arith, s.len)) in
      let rest : List ℕ = drop 2 s.rest in
      let closing : s.rest ≡ 42 ∷ 47 ∷ rest = first_2 s.rest 42 47 stop.0 stop.1 (omega arith) (omega arith) in
      let inner : body ≡ s.prefix ++ (42 ∷ 47 ∷ rest) = s.text_is ∙ ap (λ (x : List ℕ). s.prefix ++ x) closing in
      let assoc : s.prefix ++ (42 ∷ 47 ∷ rest) ≡ (s.prefix ++ (42 ∷ 47 ∷ [])) ++ rest = sym (append_assoc s.prefix (42 ∷ 47 ∷ []) rest) in
      let u_body : IsUtf8 body = utf8_tail 42 body (omega arith) (utf8_tail 47 (42 ∷ body) (omega arith) (subst IsUtf8 e u)) in
      let u_rest : IsUtf8 (42 ∷ 47 ∷ rest) = subst IsUtf8 closing (utf8_rest s.prefix s.rest (subst IsUtf8 s.text_is u_body) (omega (arith, stop.0))) in
      record {
        spelling = 47 ∷ 42 ∷ (s.prefix ++ (42 ∷ 47 ∷ []));
        rest = rest;
        text_is = e ∙ ap (λ (x : List ℕ). 47 ∷ 42 ∷ x) (inner ∙ assoc);
        len = omega (arith, length-append s.prefix (42 ∷ 47 ∷ []), s.len);
        lexeme = (outside, (s.prefix, refl, subst (λ (x : List ℕ). IsRun inline_unit false s.prefix x) closing s.run));
        some = omega arith;
        utf8 = utf8_tail 47 rest (omega arith) (utf8_tail 42 (47 ∷ rest) (omega arith) u_rest);
      })
      (λ _. tt)

  pub number_sound : is_ascii_digit (slice_index t 0) ≡ true → IsFound mode t Number (number_length t)
  number_sound digit =
      let whole : Split (λ s. IsTrue (is_decimal s)) (decimal_length t) t = decimal_split t digit in
      let r : List ℕ = drop (decimal_length t) t in
      let f : Split IsFraction (fraction_length r) r = fraction_split r in
      let q : List ℕ = drop (fraction_length r) r in
      let e : Split IsExponent (exponent_length q) q = exponent_split q in
      let tail : r ≡ (f.prefix ++ e.prefix) ++ e.rest =
      f.text_is ∙ ap (λ (x : List ℕ). f.prefix ++ x) (f.following ∙ e.text_is) ∙ sym (append_assoc f.prefix e.prefix e.rest) in
      let inner : t ≡ (whole.prefix ++ (f.prefix ++ e.prefix)) ++ e.rest =
      whole.text_is ∙ ap (λ (x : List ℕ). whole.prefix ++ x) (whole.following ∙ tail) ∙ sym (append_assoc whole.prefix (f.prefix ++ e.prefix) e.rest) in
      record {
        spelling = whole.prefix ++ (f.prefix ++ e.prefix);
        rest = e.rest;
        text_is = inner;
        len = length-append whole.prefix (f.prefix ++ e.prefix) ∙ omega (arith, length-append f.prefix e.prefix, whole.len, f.len, e.len);
        lexeme = (outside, (whole.prefix, f.prefix, e.prefix, refl, whole.is, f.is, e.is));
        some = omega (arith, decimal_some t digit);
        utf8 = e.utf8 (subst IsUtf8 f.following (f.utf8 (subst IsUtf8 whole.following (whole.utf8 u))));
      }

  pub index_sound : t ≡ 46 ∷ drop 1 t → is_ascii_digit (slice_index t 1) ≡ true → IsFound mode t DotIndex (1 + decimal_length (drop 1 t))
  index_sound e digit =
      let s : Split (λ x. IsTrue (is_decimal x)) (decimal_length (drop 1 t)) (drop 1 t) = decimal_split (drop 1 t) (ap is_ascii_digit (get_or-drop 1 t 0 0) ∙ digit) in
      record {
        spelling = 46 ∷ s.prefix;
        rest = s.rest;
        text_is = e ∙ ap (λ (x : List ℕ). 46 ∷ x) s.text_is;
        len = omega (arith, s.len);
        lexeme = (outside, (s.prefix, refl, s.is));
        some = omega arith;
        utf8 = s.utf8 (utf8_tail 46 (drop 1 t) (omega arith) (subst IsUtf8 e u));
      }

  identifier_sound_at : (cs : List ℕ) → encode_utf8_all cs ≡ t → all_scalars cs ≡ true → Sound mode t (identifier_of cs)
  identifier_sound_at [] e scalars = tt
  identifier_sound_at (c ∷ cs) e scalars =
      cond_both (is_id_start c) _ None (λ f. Sound mode t f)
      (λ h.
      let s : ContinueSplit cs = continue_split cs in
      let parts = scalars_parts (c ∷ s.prefix) s.rest (subst (λ (x : List ℕ). all_scalars (c ∷ x) ≡ true) s.text_is scalars) in
      let word : List ℕ = encode_utf8_all (c ∷ s.prefix) in
      record {
        spelling = word;
        rest = encode_utf8_all s.rest;
        text_is = sym e ∙ ap (λ (x : List ℕ). encode_utf8_all (c ∷ x)) s.text_is ∙ encodes-append (c ∷ s.prefix) s.rest;
        len = length-append (encode_utf8 c) (encode_utf8_all s.prefix) ∙ omega (arith, length-encode c, s.len);
        lexeme = (outside, ((c ∷ s.prefix, (parts.0, refl)), ap is_identifier (chars-encodes (c ∷ s.prefix) parts.0) ∙ both_true h s.all));
        some = omega (arith, (len_utf8_bounds c).0);
        utf8 = (s.rest, (parts.1, refl));
      })
      (λ _. tt)

  pub identifier_sound : Sound mode t (identifier t)
  identifier_sound = identifier_sound_at (chars t) (encodes-chars t u) (scalars-chars t u)
