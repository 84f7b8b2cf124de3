-- The table of tokens that join, row by row: which of them tokenization keeps apart by itself.
use Rattle.std.proofs.Common.{◌≡◌, ℕ, zero, suc, ◌<◌, ◌≤◌, true, false, not, ◌&&◌, ◌||◌, ◌==◌, List, [], ◌∷◌, ◌++◌, length, slice_index, codes, refl, sym, ap, subst, ◌∙◌, inl, inr, arith}
use Rattle.std.proofs.lemmas.Bool.{and_parts, or_cases}
use Rattle.std.proofs.lemmas.Bool.Decides.{nat_tests}
use Rattle.std.proofs.lemmas.Str.{chars-IsAscii, IsUtf8-from_ascii}
use Rattle.std.specs.Char.{is_ascii_digit}
use Rattle.std.specs.List.{list_all}
use Rattle.std.specs.Str.{IsAscii, chars}
use Rattle.std.specs.Cmp.Derive.{both_true}
use Rattle.unicode_ident.proofs.IdentLemmas.{is_xid_continue-ascii}
use Rattle.hcl_token.specs.declared.kind.Kind.{Kind}
use Rattle.hcl_token.specs.declared.kind.Kind.TheVariants as k
use Rattle.hcl_token.specs.Joins.{starts_with, ends_with, joins_with}
use Rattle.hcl_scan.specs.Characters.{is_id_continue}
use Rattle.hcl_scan.specs.Modes.{Mode}
use Rattle.hcl_scan.specs.Lexeme.{Spells, IsLongest}
use Rattle.hcl_grammar_laws.specs.Glue.{glues}
use Rattle.hcl_text_laws.proofs.Longer.{longer, longer_1, mark_prefix, spelt, by_prefix, digit_of, number_more, number_dot, dot_more, word_more, word_continues, word_some}

ascii_one : (d : ℕ) → d < 128 → IsAscii (d ∷ [])
ascii_one d h zero = h
ascii_one d h (suc i) = omega arith

-- one ASCII character more
word_one : (mode : Mode) (s n r : List ℕ) (d : ℕ) (tail : List ℕ) → n ≡ d ∷ tail → d < 128 → is_id_continue d ≡ true → IsLongest mode k.Identifier s (n ++ r) → ⊥
word_one mode s n r d tail e h c g =
    let ascii = ascii_one d h in
    let all : list_all is_id_continue (chars (d ∷ [])) ≡ true = subst (λ cs. list_all is_id_continue cs ≡ true) (sym (chars-IsAscii (d ∷ []) ascii)) (both_true c refl) in
    longer_1 mode k.Identifier k.Identifier s d (tail ++ r) (subst (λ n. IsLongest mode k.Identifier s (n ++ r)) e g) (g.0.0, word_more s (d ∷ []) g.0.1 (IsUtf8-from_ascii (d ∷ []) ascii) all)

digit_continues : (d : ℕ) → is_ascii_digit d ≡ true → is_id_continue d ≡ true
digit_continues d h = let ascii : d < 128 = grind (arith, nat_tests) in rw (is_xid_continue-ascii d ascii) (grind (arith, nat_tests))

digit_byte : (d : ℕ) → is_ascii_digit d ≡ true → d < 128
digit_byte d h = grind (arith, nat_tests)

dash_continues : is_id_continue 45 ≡ true
dash_continues = rw (is_xid_continue-ascii 45 (omega arith)) refl

-- `.` and a digit
dot_digit : (mode : Mode) (d : ℕ) (r : List ℕ) → is_ascii_digit d ≡ true → Spells mode k.DotIndex (codes "." ++ d ∷ []) r
dot_digit mode d r h = (d ∷ [], refl, both_true h refl)

head_of : (n r : List ℕ) (b : ℕ) → starts_with b n ≡ true → slice_index (n ++ r) 0 ≡ b
head_of n r b h = let f = mark_prefix b n h in ap (λ n. slice_index (n ++ r) 0) f.is

-- a `/` has no `*` and no `/` after it
no_slash : (b : ℕ) (n r : List ℕ) → (b == 42 || b == 47) ≡ true → starts_with b n ≡ true → (slice_index (n ++ r) 0 == 42 || slice_index (n ++ r) 0 == 47) ≡ false → ⊥
no_slash b n r c h g = let clash : true ≡ false = sym c ∙ ap (λ b. b == 42 || b == 47) (sym (head_of n r b h)) ∙ g in absurd (cc)

open_with : (s n : List ℕ) → (not (ends_with 126 s) && starts_with 126 n) ≡ true → starts_with 126 n ≡ true
open_with s n h = (and_parts (not (ends_with 126 s)) (starts_with 126 n) h).1

open_no : (s n : List ℕ) → (not (ends_with 126 s) && starts_with 126 n) ≡ true → ends_with 126 s ≡ true → ⊥
open_no s n h e = let clash : true ≡ false = sym (and_parts (not (ends_with 126 s)) (starts_with 126 n) h).0 ∙ ap not e in absurd (cc)

tilde_interp : (mode : Mode) (s n r : List ℕ) → Spells mode k.InterpOpen s (n ++ r) → IsLongest mode k.InterpOpen s (n ++ r) → (not (ends_with 126 s) && starts_with 126 n) ≡ true → ⊥
tilde_interp mode s n r (inl e) g h = by_prefix mode k.InterpOpen k.InterpOpen s (codes "${") 126 n r e refl (λ r. inr refl) (open_with s n h) g
tilde_interp mode s n r (inr e) g h = open_no s n h (ap (ends_with 126) e)

tilde_directive : (mode : Mode) (s n r : List ℕ) → Spells mode k.DirectiveOpen s (n ++ r) → IsLongest mode k.DirectiveOpen s (n ++ r) → (not (ends_with 126 s) && starts_with 126 n) ≡ true → ⊥
tilde_directive mode s n r (inl e) g h = by_prefix mode k.DirectiveOpen k.DirectiveOpen s (codes "%{") 126 n r e refl (λ r. inr refl) (open_with s n h) g
tilde_directive mode s n r (inr e) g h = open_no s n h (ap (ends_with 126) e)

module _ (mode other : Mode) (s n r : List ℕ) where
  word_row : (b : Kind) → IsLongest mode k.Identifier s (n ++ r) → Spells other b n r → joins_with k.Identifier s b n ≡ true → ⊥
  word_row k.Identifier g w h = longer mode k.Identifier k.Identifier s n r (word_some n w) g (g.0.0, word_more s n g.0.1 w.0 (word_continues (chars n) w.1))
  word_row k.Number g w h = let d = digit_of other n r w in word_one mode s n r d.digit d.tail d.is (digit_byte d.digit d.ok) (digit_continues d.digit d.ok) g
  word_row k.Minus g w h = word_one mode s n r 45 [] (spelt (codes "-") n w) (omega arith) dash_continues g
  word_row _ g w h = absurd (cc)

  number_row : (b : Kind) → IsLongest mode k.Number s (n ++ r) → Spells other b n r → joins_with k.Number s b n ≡ true → glues k.Number b n ≡ true
  number_row k.Number g w h =
      let d = digit_of other n r w in
      absurd (longer_1 mode k.Number k.Number s d.digit (d.tail ++ r) (subst (λ n. IsLongest mode k.Number s (n ++ r)) d.is g) (g.0.0, number_more mode s (n ++ r) (d.tail ++ r) d.digit d.ok g.0.1))
  number_row k.DotIndex g w h = absurd (longer mode k.Number k.Number s n r (dot_some w) g (g.0.0, number_dot mode s n r r (digit_of mode s (n ++ r) g.0.1) h w))
    where
      dot_some : Spells other k.DotIndex n r → 0 < length n
      dot_some (digits, e, ds) = subst (λ n. 0 < length n) (sym e) (omega arith)
  number_row k.Identifier g w h = h
  number_row _ g w h = absurd (cc)

  dot_index_row : (b : Kind) → IsLongest mode k.DotIndex s (n ++ r) → Spells other b n r → joins_with k.DotIndex s b n ≡ true → ⊥
  dot_index_row k.Number g w h =
      let d = digit_of other n r w in
      longer_1 mode k.DotIndex k.DotIndex s d.digit (d.tail ++ r) (subst (λ n. IsLongest mode k.DotIndex s (n ++ r)) d.is g) (g.0.0, dot_more mode s (n ++ r) (d.tail ++ r) d.digit d.ok g.0.1)
  dot_index_row _ g w h = absurd (cc)

  less_row : (b : Kind) → IsLongest mode k.Less s (n ++ r) → joins_with k.Less s b n ≡ true → glues k.Less b n ≡ true
  less_row k.Less g h = refl
  less_row _ g h = absurd (by_prefix mode k.Less k.LessEqual s (codes "<") 61 n r (spelt (codes "<") s g.0.1) refl (λ r. refl) h g)

  equal_row : (b : Kind) → IsLongest mode k.Equal s (n ++ r) → joins_with k.Equal s b n ≡ true → ⊥
  equal_row b g h = elim (or_cases (starts_with 61 n) (starts_with 62 n) h) [
    | inl e ↦ by_prefix mode k.Equal k.DoubleEqual s (codes "=") 61 n r (spelt (codes "=") s g.0.1) refl (λ r. refl) e g
    | inr e ↦ by_prefix mode k.Equal k.FatArrow s (codes "=") 62 n r (spelt (codes "=") s g.0.1) refl (λ r. refl) e g
  ]

  dot_row : (b : Kind) → IsLongest mode k.Dot s (n ++ r) → Spells other b n r → joins_with k.Dot s b n ≡ true → glues k.Dot b n ≡ true
  dot_row k.Number g w h =
      let d = digit_of other n r w in
      let e = spelt (codes ".") s g.0.1 in
      absurd (longer_1 mode k.Dot k.DotIndex s d.digit (d.tail ++ r) (subst (λ n. IsLongest mode k.Dot s (n ++ r)) d.is g)
      (g.0.0, subst (λ y. Spells mode k.DotIndex (y ++ d.digit ∷ []) (d.tail ++ r)) (sym e) (dot_digit mode d.digit (d.tail ++ r) d.ok)))
  dot_row k.Dot g w h = refl
  dot_row k.DotIndex g w h = refl
  dot_row k.Ellipsis g w h =
      let e = spelt (codes ".") s g.0.1 in
      let f = spelt (codes "...") n w in
      let text : codes "..." ++ (46 ∷ r) ≡ s ++ (n ++ r) = sym (ap (λ y. y ++ (n ++ r)) e ∙ ap (λ y. codes "." ++ (y ++ r)) f) in
      let le : length (codes "...") ≤ length s = g.1 k.Ellipsis (codes "...") (46 ∷ r) (g.0.0, refl) text in
      absurd (let size : length s ≡ 1 = ap length e in omega (arith, le, size))
  dot_row _ g w h = absurd (cc)

  slash_row : (b : Kind) → IsLongest mode k.Slash s (n ++ r) → Spells other b n r → joins_with k.Slash s b n ≡ true → ⊥
  slash_row k.Star g w h = no_slash 42 n r refl (ap (starts_with 42) (spelt (codes "*") n w)) g.0.1.1
  slash_row _ g w h = no_slash 47 n r refl h g.0.1.1

  interp_row : (b : Kind) → IsLongest mode k.InterpOpen s (n ++ r) → joins_with k.InterpOpen s b n ≡ true → ⊥
  interp_row k.SeqClose g h = tilde_interp mode s n r g.0.1 g h
  interp_row _ g h = absurd (cc)

  directive_row : (b : Kind) → IsLongest mode k.DirectiveOpen s (n ++ r) → joins_with k.DirectiveOpen s b n ≡ true → ⊥
  directive_row k.SeqClose g h = tilde_directive mode s n r g.0.1 g h
  directive_row _ g h = absurd (cc)

  -- two tokens that join, tokenized with no gap between them: the grammar has to keep them apart
  pub rows : (a b : Kind) → IsLongest mode a s (n ++ r) → Spells other b n r → joins_with a s b n ≡ true → glues a b n ≡ true
  rows k.Identifier b g w h = absurd (word_row b g w h)
  rows k.Number b g w h = number_row b g w h
  rows k.DotIndex b g w h = absurd (dot_index_row b g w h)
  rows k.Less b g w h = less_row b g h
  rows k.Greater b g w h = absurd (by_prefix mode k.Greater k.GreaterEqual s (codes ">") 61 n r (spelt (codes ">") s g.0.1) refl (λ r. refl) h g)
  rows k.Equal b g w h = absurd (equal_row b g h)
  rows k.Bang b g w h = absurd (by_prefix mode k.Bang k.NotEqual s (codes "!") 61 n r (spelt (codes "!") s g.0.1) refl (λ r. refl) h g)
  rows k.Colon b g w h = absurd (by_prefix mode k.Colon k.DoubleColon s (codes ":") 58 n r (spelt (codes ":") s g.0.1) refl (λ r. refl) h g)
  rows k.Dot b g w h = dot_row b g w h
  rows k.Slash b g w h = absurd (slash_row b g w h)
  rows k.InterpOpen b g w h = absurd (interp_row b g h)
  rows k.DirectiveOpen b g w h = absurd (directive_row b g h)
  rows _ b g w h = absurd (cc)
