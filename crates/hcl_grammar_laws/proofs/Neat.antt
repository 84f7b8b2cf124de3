-- Which tokens are not next to each other in a derivation.
use Rattle.std.proofs.Common.{◌≡◌, ℕ, zero, suc, ◌+◌, ◌<◌, ◌≤◌, nat_lt, ◌||◌, Bool, true, false, cond, List, [], ◌∷◌, length, drop, slice_get, Option, Some, None, refl, sym, ap, ◌∙◌, subst, arith}
use Rattle.std.proofs.lemmas.Bool.{ltb-true, ltb-false}
use Rattle.std.specs.List.{prefix_len}
use Rattle.std.specs.Option.{option_map}
use Rattle.hcl_token.specs.declared.kind.Kind.{Kind}
use Rattle.hcl_token.specs.declared.kind.Kind.TheVariants as k
use Rattle.hcl_token.specs.Joins.{starts_with}
use Rattle.hcl_grammar.specs.declared.tree.Attribute.{Attribute}
use Rattle.hcl_grammar.specs.declared.tree.Elem.{Elem}
use Rattle.hcl_grammar.specs.declared.tree.Expr.{Expr}
use Rattle.hcl_grammar.specs.declared.tree.Intro.{Intro}
use Rattle.hcl_grammar.specs.declared.tree.Label.{Label}
use Rattle.hcl_grammar.specs.declared.tree.Operation.{Operation}
use Rattle.hcl_grammar.specs.declared.tree.Member.{Member}
use Rattle.hcl_grammar.specs.declared.tree.BinaryOperator.{BinaryOperator}
use Rattle.hcl_grammar.specs.declared.tree.Part.{Part}
use Rattle.hcl_grammar.specs.declared.tree.UnaryOperator.{UnaryOperator}
use Rattle.hcl_grammar.specs.declared.tree.Tail.{Tail}
use Rattle.hcl_grammar.specs.declared.tree.Template.{Template}
use Rattle.hcl_grammar.specs.declared.tree.Term.{Term}
use Rattle.hcl_grammar.specs.declared.tree.Tree.{Tree}
use Rattle.hcl_grammar.specs.Bodies.{IsLabels, no_labels, word_label, text_label, empty_label, IsOneLineBody, nothing, one, IsMembers, no_members, blank, attribute, block, line_block, IsOptionalMark, no_mark, mark, IsFileEnd, at_end, at_comment, IsFile, file}
use Rattle.hcl_grammar.specs.Grammar.{IsExpr, plain, conditional, IsLevel, lowest, level, IsOperations, no_operations, operation, IsUnary, with_operator, post, IsTails, no_tails, tails, IsTail, by_name, legacy, attribute_splat, full_splat, index, IsTerm, number, identifier, call, tuple, object, for_tuple, for_object, quoted, heredoc, parens, IsArguments, no_arguments, last_argument, spread_argument, argument, IsItems, no_items, last_item, item, IsElems, no_elems, last_elem, elems, IsElem, by_equals, by_colon, IsIntro, intro, IsFilter, no_filter, filter, IsParts, no_parts, parts, IsPart, quote_text, here_text, interp, if_directive, for_directive, IsElse, no_else, has_else}
use Rattle.hcl_grammar.specs.Lookahead.{NextIs, NextIsWord, IsNewline, line_end, comment, IsNewlines, no_lines, line, IsSep, comma, lines, IsEol, eol_line, eol_end, eol_comment, IsNameTail, no_names, name, IsSecondName, no_second, second, IsEllipsis, no_ellipsis, ellipsis, IsKeyword, keyword}
use Rattle.hcl_grammar.specs.Operators.{unary_operator, binary_operator}
use Rattle.hcl_grammar.specs.Tokens.{Token, is_skipped, next_index, next_token, next_kind, after_next, if_word}
use Rattle.hcl_grammar_laws.proofs.Ahead.{begins, Begins}
use Rattle.hcl_grammar_laws.proofs.Firsts.{begin_level}
use Rattle.hcl_grammar_laws.proofs.Steps.{word_at}
use Rattle.hcl_grammar_laws.specs.Glue.{glues}

-- ---- one token and the next

-- kinds that join with nothing that the grammar would have to keep away
abbrev pub harmless : Kind → Bool
harmless k.Less = false
harmless k.Dot = false
harmless k.Number = false
harmless _ = true

abbrev pub is_name : Kind → Bool
is_name k.Identifier = true
is_name _ = false

glues-harmless : (s t : Kind) (w : List ℕ) → harmless s ≡ true → glues s t w ≡ false
glues-harmless k.Less t w h = absurd (cc)
glues-harmless k.Dot t w h = absurd (cc)
glues-harmless k.Number t w h = absurd (cc)
glues-harmless _ t w h = refl

glues-less : (t : Kind) (w : List ℕ) → (t ≡ k.Less → ⊥) → glues k.Less t w ≡ false
glues-less k.Less w h = absurd (h refl)
glues-less _ w h = refl

glues-dot : (t : Kind) (w : List ℕ) → (t ≡ k.Dot → ⊥) → (t ≡ k.DotIndex → ⊥) → glues k.Dot t w ≡ false
glues-dot k.Dot w h g = absurd (h refl)
glues-dot k.DotIndex w h g = absurd (g refl)
glues-dot _ w h g = refl

glues-number : (t : Kind) (w : List ℕ) → (t ≡ k.Identifier → w ≡ if_word) → glues k.Number t w ≡ false
glues-number k.Identifier w h = ap (λ w. starts_with 101 w || starts_with 69 w) (h refl)
glues-number _ w h = refl

glues-operator : (s t : Kind) (w : List ℕ) (q : ℕ × BinaryOperator) → binary_operator s ≡ Some q → (t ≡ k.Less → ⊥) → glues s t w ≡ false
glues-operator k.Less t w q o h = glues-less t w h
glues-operator k.Dot t w q o h = absurd (cc)
glues-operator k.Number t w q o h = absurd (cc)
glues-operator _ t w q o h = refl

no-operator-name : (s : Kind) (q : ℕ × BinaryOperator) → binary_operator s ≡ Some q → is_name s ≡ false
no-operator-name k.Identifier q o = absurd (cc)
no-operator-name _ q o = refl

harmless-prefix : (s : Kind) (op : UnaryOperator) → unary_operator s ≡ Some op → harmless s ≡ true
harmless-prefix k.Minus op o = refl
harmless-prefix k.Bang op o = refl
harmless-prefix _ op o = absurd (cc)

harmless-dropped : (m : Bool) (s : Kind) → is_skipped m s ≡ true → harmless s ≡ true
harmless-dropped m k.Less h = absurd (cc)
harmless-dropped m k.Dot h = absurd (cc)
harmless-dropped m k.Number h = absurd (cc)
harmless-dropped m _ h = refl

-- ---- places

some_or : Token → Option Token → Token
some_or d None = d
some_or d (Some t) = t

pub same_token : {a b : Token} → Some a ≡ Some b → a ≡ b
unfolding some_or
same_token {a} h = ap (some_or a) h

less : (b : Bool) (n m : ℕ) → suc n < 0 + cond b (1 + m) 0 → n < 0 + m
less true n m h = omega arith
less false n m h = absurd (omega arith)

-- what is before the next token is dropped
dropped_at : (p : Token → Bool) (ts : List Token) (i n : ℕ) (a : Token) → i ≤ n → n < i + prefix_len p (drop i ts) → slice_get ts n ≡ Some a → p a ≡ true
dropped_at p [] i n a l h e = absurd (cc)
dropped_at p (t ∷ ts) zero zero a l h e = go (p t) refl h
  where
    go : (b : Bool) → p t ≡ b → 0 < 0 + cond b (1 + prefix_len p ts) 0 → p a ≡ true
    go true q g = ap p (sym (same_token e)) ∙ q
    go false q g = absurd (omega arith)
dropped_at p (t ∷ ts) zero (suc n) a l h e = dropped_at p ts zero n a (omega arith) (less (p t) n (prefix_len p ts) h) e
dropped_at p (t ∷ ts) (suc i) zero a l h e = absurd (omega arith)
dropped_at p (t ∷ ts) (suc i) (suc n) a l h e = dropped_at p ts i n a (omega arith) (omega arith) e

pub kept_at : (p : Token → Bool) (ts : List Token) (i : ℕ) (b : Token) → slice_get ts i ≡ Some b → p b ≡ false → prefix_len p (drop i ts) ≡ 0
kept_at p [] i b e h = absurd (cc)
kept_at p (t ∷ ts) zero b e h = ap (λ c. cond c (1 + prefix_len p ts) 0) (ap p (same_token e) ∙ h)
kept_at p (t ∷ ts) (suc i) b e h = kept_at p ts i b e h

within : (ts : List Token) (i : ℕ) (t : Token) → slice_get ts i ≡ Some t → i < length ts
within [] i t h = absurd (cc)
within (s ∷ ts) zero t h = omega arith
within (s ∷ ts) (suc i) t h = omega (arith, within ts i t h)

beyond : (ts : List Token) (i : ℕ) → slice_get ts i ≡ None → length ts ≤ i
beyond [] i h = omega arith
beyond (s ∷ ts) zero h = absurd (cc)
beyond (s ∷ ts) (suc i) h = omega (arith, beyond ts i h)

pub record Fine (ts : List Token) (n : ℕ) : Type 0 where
  pub each : (a b : Token) → slice_get ts n ≡ Some a → slice_get ts (suc n) ≡ Some b → glues a.0 b.0 b.1 ≡ false

-- no two tokens that the grammar has to keep apart are next to each other from i on, up to the
-- token before j and its neighbor
pub record Neat (ts : List Token) (i j : ℕ) : Type 0 where
  pub at : (n : ℕ) → i ≤ n → n < j → Fine ts n

-- the token at j, if it is an Identifier, is `if`
pub record Safe (ts : List Token) (j : ℕ) : Type 0 where
  pub only : (b : Token) → slice_get ts j ≡ Some b → b.0 ≡ k.Identifier → b.1 ≡ if_word

module _ (ts : List Token) where
  -- a token that is not dropped is the next one
  raw-token : (m : Bool) (j : ℕ) (b : Token) → slice_get ts j ≡ Some b → is_skipped m b.0 ≡ false → next_token ts m j ≡ Some b
  unfolding next_token next_index
  raw-token m j b e h = let z = kept_at (λ (t : Token). is_skipped m t.0) ts j b e h in let s : j + prefix_len (λ (t : Token). is_skipped m t.0) (drop j ts) ≡ j = omega (arith, z) in ap (slice_get ts) s ∙ e

  raw-kind : (m : Bool) (j : ℕ) (b : Token) (o : Option Kind) → next_kind ts m j ≡ o → slice_get ts j ≡ Some b → is_skipped m b.0 ≡ false → o ≡ Some b.0
  unfolding next_kind
  raw-kind m j b o h e d = sym h ∙ ap (λ o. option_map (λ (t : Token). t.0) o) (raw-token m j b e d)

  kept : (m : Bool) (t : Kind) (s : Kind) → t ≡ s → is_skipped m s ≡ false → is_skipped m t ≡ false
  kept m t s e h = ap (is_skipped m) e ∙ h

  name_of : (o : Option Kind) → Bool
  name_of None = false
  name_of (Some t) = is_name t

  safe_next : (m : Bool) (j : ℕ) (o : Option Kind) → next_kind ts m j ≡ o → name_of o ≡ false → Safe ts j
  unfolding name_of
  safe_next m j o h g = record { only = λ b e n. let seen = raw-kind m j b o h e (kept m b.0 k.Identifier n refl) in let clash : false ≡ true = sym g ∙ ap name_of seen ∙ ap is_name n in absurd (cc) }

  safe : (m : Bool) (j : ℕ) (t : Kind) → NextIs ts m t j → is_name t ≡ false → Safe ts j
  unfolding name_of
  safe m j t h g = safe_next m j (Some t) h g

  safe_end : (j : ℕ) → next_kind ts false j ≡ None → Safe ts j
  unfolding name_of
  safe_end j h = safe_next false j None h refl

  safe_word : (m : Bool) (j : ℕ) → NextIsWord ts m if_word j → Safe ts j
  safe_word m j h = record { only = λ b e n. let seen = raw-token m j b e (kept m b.0 k.Identifier n refl) in ap (λ (t : Token). t.1) (same_token (sym seen ∙ h)) }

  -- a token of another kind is not at j
  unseen : (m : Bool) (j : ℕ) (t : Kind) → NextIs ts m t j → (s : Kind) → is_skipped m s ≡ false → (Some t ≡ Some s → ⊥) → (b : Token) → slice_get ts j ≡ Some b → b.0 ≡ s → ⊥
  unseen m j t h s d other b e n = other (raw-kind m j b (Some t) h e (kept m b.0 s n d) ∙ ap Some n)

  -- ---- steps

  split : (n j : ℕ) (A : Type 0) → (n < j → A) → (j ≤ n → A) → A
  split n j A f g = go (nat_lt n j) refl
    where
      go : (b : Bool) → nat_lt n j ≡ b → A
      go true e = f (ltb-true n j e)
      go false e = g (omega (arith, ltb-false n j e))

  pub still : (i : ℕ) → Neat ts i i
  still i = record { at = λ n l h. absurd (omega arith) }

  pub both : {i j l : ℕ} → Neat ts i j → Neat ts j l → Neat ts i l
  both {j} p q = record { at = λ n l h. split n j _ (λ x. p.at n l x) (λ x. q.at n x h) }

  before : (m : Bool) (i n : ℕ) → i ≤ n → n < next_index ts m i → Fine ts n
  unfolding next_index
  before m i n l h = record { each = λ a b p q. glues-harmless a.0 b.0 b.1 (harmless-dropped m a.0 (dropped_at (λ (t : Token). is_skipped m t.0) ts i n a l h p)) }

  -- the next token, fine itself, and what is dropped before it
  pass_fine : (m : Bool) (i : ℕ) → Fine ts (next_index ts m i) → Neat ts i (after_next ts m i)
  unfolding after_next
  pass_fine m i f = record { at = λ n l h. split n (next_index ts m i) _ (λ x. before m i n l x) (λ x. subst (λ n. Fine ts n) (same n x h) f) }
    where
      same : (n : ℕ) → next_index ts m i ≤ n → n < suc (next_index ts m i) → next_index ts m i ≡ n
      same n l h = omega arith

  kind_at : (m : Bool) (t : Kind) (i : ℕ) → NextIs ts m t i → (a : Token) → slice_get ts (next_index ts m i) ≡ Some a → a.0 ≡ t
  unfolding next_kind next_token
  kind_at m t i h a e = let seen : Some a.0 ≡ Some t = sym (ap (λ o. option_map (λ (t : Token). t.0) o) e) ∙ h in cc

  fine_by : (m : Bool) (t : Kind) (i : ℕ) → NextIs ts m t i → ((b : Token) → slice_get ts (after_next ts m i) ≡ Some b → glues t b.0 b.1 ≡ false) → Fine ts (next_index ts m i)
  unfolding after_next
  fine_by m t i h f = record { each = λ a b p q. ap (λ s. glues s b.0 b.1) (kind_at m t i h a p) ∙ f b q }

  pub pass : (m : Bool) (i : ℕ) (t : Kind) → NextIs ts m t i → harmless t ≡ true → Neat ts i (after_next ts m i)
  pass m i t h g = pass_fine m i (fine_by m t i h (λ b q. glues-harmless t b.0 b.1 g))

  via : {j : ℕ} (m : Bool) (i : ℕ) (t : Kind) → NextIs ts m t i → harmless t ≡ true → Neat ts (after_next ts m i) j → Neat ts i j
  via m i t h g r = both (pass m i t h g) r

  via_word : {j : ℕ} (m : Bool) (w : List ℕ) (i : ℕ) → NextIsWord ts m w i → Neat ts (after_next ts m i) j → Neat ts i j
  via_word m w i h r = both (pass m i k.Identifier (word_at ts m w i h) refl) r

  pass_number : (m : Bool) (i : ℕ) → NextIs ts m k.Number i → Safe ts (after_next ts m i) → Neat ts i (after_next ts m i)
  pass_number m i h s = pass_fine m i (fine_by m k.Number i h (λ b q. glues-number b.0 b.1 (s.only b q)))

  pass_dot : (m : Bool) (i : ℕ) (t : Kind) → NextIs ts m k.Dot i → NextIs ts m t (after_next ts m i) → (Some t ≡ Some k.Dot → ⊥) → (Some t ≡ Some k.DotIndex → ⊥) → Neat ts i (after_next ts m i)
  pass_dot m i t h g x y = pass_fine m i (fine_by m k.Dot i h (λ b q. glues-dot b.0 b.1 (unseen m (after_next ts m i) t g k.Dot refl x b q) (unseen m (after_next ts m i) t g k.DotIndex refl y b q)))

  pass_operator : (m : Bool) (i : ℕ) (t : Kind) (q : ℕ × BinaryOperator) → NextIs ts m t i → binary_operator t ≡ Some q → Begins ts m (after_next ts m i) → Neat ts i (after_next ts m i)
  pass_operator m i t q h o b =
      pass_fine m i (fine_by m t i h (λ x e. glues-operator t x.0 x.1 q o (unseen m (after_next ts m i) b.token b.is k.Less refl (λ s. let clash : true ≡ false = sym b.fits ∙ begin_of s in cc) x e)))
    where
      some_kind : Option Kind → Bool
      some_kind None = false
      some_kind (Some t) = begins t

      begin_of : {t : Kind} → Some t ≡ Some k.Less → begins t ≡ false
      begin_of s = ap some_kind s

  -- ---- lines and lists of tokens

  neat_line : {i j : ℕ} → IsNewline ts i j → Neat ts i j
  neat_line (line_end p) = pass _ _ k.LineEnd p refl
  neat_line (comment p q) = via _ _ k.LineComment p refl (pass _ _ k.LineEnd q refl)

  neat_lines : {i j : ℕ} → IsNewlines ts i j → Neat ts i j
  neat_lines (no_lines {i}) = still i
  neat_lines (line p q) = both (neat_line p) (neat_lines q)

  neat_eol : {i j : ℕ} → IsEol ts i j → Neat ts i j
  neat_eol (eol_line q) = neat_line q
  neat_eol (eol_end {i} h) = still i
  neat_eol (eol_comment q h) = pass _ _ k.LineComment q refl

  safe_line : {i j : ℕ} → IsNewline ts i j → Safe ts i
  safe_line (line_end p) = safe _ _ k.LineEnd p refl
  safe_line (comment p q) = safe _ _ k.LineComment p refl

  safe_eol : {i j : ℕ} → IsEol ts i j → Safe ts i
  safe_eol (eol_line q) = safe_line q
  safe_eol (eol_end {i} h) = safe_end i h
  safe_eol (eol_comment q h) = safe _ _ k.LineComment q refl

  neat_sep : {i j : ℕ} → IsSep ts i j → Neat ts i j
  neat_sep (comma p q) = via _ _ k.Comma p refl (neat_lines q)
  neat_sep (lines p q) = both (neat_line p) (neat_lines q)

  safe_sep : {i j : ℕ} → IsSep ts i j → Safe ts i
  safe_sep (comma p q) = safe _ _ k.Comma p refl
  safe_sep (lines p q) = safe_line p

  neat_names : {m : Bool} {ns : List ℕ} {i j : ℕ} → IsNameTail ts m ns i j → Neat ts i j
  neat_names (no_names {i}) = still i
  neat_names (name p q ns) = via _ _ k.DoubleColon p refl (via _ _ k.Identifier q refl (neat_names ns))

  neat_second : {o : Option ℕ} {i j : ℕ} → IsSecondName ts o i j → Neat ts i j
  neat_second (no_second {i}) = still i
  neat_second (second p q) = via _ _ k.Comma p refl (pass _ _ k.Identifier q refl)

  neat_dots : {b : Bool} {i j : ℕ} → IsEllipsis ts b i j → Neat ts i j
  neat_dots (no_ellipsis {i}) = still i
  neat_dots (ellipsis p) = pass _ _ k.Ellipsis p refl

  safe_dots : {b : Bool} {i j : ℕ} → IsEllipsis ts b i j → Safe ts j → Safe ts i
  safe_dots no_ellipsis f = f
  safe_dots (ellipsis p) f = safe _ _ k.Ellipsis p refl

  neat_keyword : {m : Bool} {w : List ℕ} {i j : ℕ} → IsKeyword ts m w i j → Neat ts i j
  neat_keyword (keyword p w q) = via _ _ k.DirectiveOpen p refl (via_word _ _ _ w (pass _ _ k.SeqClose q refl))

  -- ---- expressions

  safe_links : {d : ℕ} {m : Bool} {n : ℕ} {xs : List Operation} {i j : ℕ} → IsOperations ts d m n xs i j → Safe ts j → Safe ts i
  safe_links no_operations f = f
  safe_links (operation {n} {t} {op} p o x xs) f = safe _ _ t p (no-operator-name t (n, op) o)

  safe_tails : {d : ℕ} {m : Bool} {xs : List Tail} {i j : ℕ} → IsTails ts d m xs i j → Safe ts j → Safe ts i
  safe_tails no_tails f = f
  safe_tails (tails (by_name p q) xs) f = safe _ _ k.Dot p refl
  safe_tails (tails (legacy p) xs) f = safe _ _ k.DotIndex p refl
  safe_tails (tails (attribute_splat p q) xs) f = safe _ _ k.Dot p refl
  safe_tails (tails (full_splat p q c) xs) f = safe _ _ k.OpenBracket p refl
  safe_tails (tails (index p e q) xs) f = safe _ _ k.OpenBracket p refl

  abbrev Closer : Kind → Type 0
  Closer close = (is_name close ≡ false) × (harmless close ≡ true)

  safe_filter : {d : ℕ} {close : Kind} {o : Option Expr} {i j : ℕ} → Closer close → IsFilter ts d close o i j → Safe ts i
  safe_filter c (no_filter {close} p) = safe _ _ close p c.0
  safe_filter c (filter w e p) = safe_word _ _ w

  mutual
    neat_expr : {d : ℕ} {m : Bool} {e : Expr} {i j : ℕ} → IsExpr ts d m e i j → Safe ts j → Neat ts i j
    neat_expr (plain p) f = neat_level p f
    neat_expr (conditional c q x s y) f =
        both (neat_level c (safe _ _ k.Question q refl)) (via _ _ k.Question q refl (both (neat_expr x (safe _ _ k.Colon s refl)) (via _ _ k.Colon s refl (neat_expr y f))))

    neat_level : {d : ℕ} {m : Bool} {n : ℕ} {e : Expr} {i j : ℕ} → IsLevel ts d m n e i j → Safe ts j → Neat ts i j
    neat_level (lowest p) f = neat_unary p f
    neat_level (level p q) f = both (neat_level p (safe_links q f)) (neat_links q f)

    neat_links : {d : ℕ} {m : Bool} {n : ℕ} {xs : List Operation} {i j : ℕ} → IsOperations ts d m n xs i j → Safe ts j → Neat ts i j
    neat_links (no_operations {i}) f = still i
    neat_links (operation {n} {t} {op} p o x xs) f = both (pass_operator _ _ t (n, op) p o (begin_level x)) (both (neat_level x (safe_links xs f)) (neat_links xs f))

    neat_unary : {d : ℕ} {m : Bool} {e : Expr} {i j : ℕ} → IsUnary ts d m e i j → Safe ts j → Neat ts i j
    neat_unary (with_operator {t} {op} p o x) f = via _ _ t p (harmless-prefix t op o) (neat_unary x f)
    neat_unary (post p q) f = both (neat_term p (safe_tails q f)) (neat_tails q)

    neat_tails : {d : ℕ} {m : Bool} {xs : List Tail} {i j : ℕ} → IsTails ts d m xs i j → Neat ts i j
    neat_tails (no_tails {i}) = still i
    neat_tails (tails x xs) = both (neat_tail x) (neat_tails xs)

    neat_tail : {d : ℕ} {m : Bool} {x : Tail} {i j : ℕ} → IsTail ts d m x i j → Neat ts i j
    neat_tail (by_name p q) = both (pass_dot _ _ k.Identifier p q (λ e. cc) (λ e. cc)) (pass _ _ k.Identifier q refl)
    neat_tail (legacy p) = pass _ _ k.DotIndex p refl
    neat_tail (attribute_splat p q) = both (pass_dot _ _ k.Star p q (λ e. cc) (λ e. cc)) (pass _ _ k.Star q refl)
    neat_tail (full_splat p q c) = via _ _ k.OpenBracket p refl (via _ _ k.Star q refl (pass _ _ k.CloseBracket c refl))
    neat_tail (index p e q) = via _ _ k.OpenBracket p refl (both (neat_expr e (safe _ _ k.CloseBracket q refl)) (pass _ _ k.CloseBracket q refl))

    neat_term : {d : ℕ} {m : Bool} {e : Term} {i j : ℕ} → IsTerm ts d m e i j → Safe ts j → Neat ts i j
    neat_term (number p) f = pass_number _ _ p f
    neat_term (identifier p q r) f = pass _ _ k.Identifier p refl
    neat_term (call p ns q xs) f = via _ _ k.Identifier p refl (both (neat_names ns) (via _ _ k.OpenParen q refl (neat_arguments xs)))
    neat_term (tuple p n xs) f = via _ _ k.OpenBracket p refl (neat_items xs)
    neat_term (object p n l xs) f = via _ _ k.OpenBrace p refl (both (neat_lines l) (neat_elems xs))
    neat_term (for_tuple p x c e o) f =
        via _ _ k.OpenBracket p refl (both (neat_intro x (safe _ _ k.Colon c refl)) (via _ _ k.Colon c refl (both (neat_expr e (safe_filter (refl, refl) o)) (neat_filter (refl, refl) o))))
    neat_term (for_object p x c e a v s o) f =
        via _ _ k.OpenBrace p refl (both (neat_intro x (safe _ _ k.Colon c refl)) (via _ _ k.Colon c refl (both (neat_expr e (safe _ _ k.FatArrow a refl))
        (via _ _ k.FatArrow a refl (both (neat_expr v (safe_dots s (safe_filter (refl, refl) o))) (both (neat_dots s) (neat_filter (refl, refl) o)))))))
    neat_term (quoted p ps q) f = via _ _ k.QuoteOpen p refl (both (neat_parts ps) (pass _ _ k.QuoteClose q refl))
    neat_term (heredoc p ps q) f = via _ _ k.HereOpen p refl (both (neat_parts ps) (pass _ _ k.HereClose q refl))
    neat_term (parens p e q) f = via _ _ k.OpenParen p refl (both (neat_expr e (safe _ _ k.CloseParen q refl)) (pass _ _ k.CloseParen q refl))

    neat_arguments : {d : ℕ} {xs : List Expr} {s : Bool} {i j : ℕ} → IsArguments ts d xs s i j → Neat ts i j
    neat_arguments (no_arguments p) = pass _ _ k.CloseParen p refl
    neat_arguments (last_argument e p) = both (neat_expr e (safe _ _ k.CloseParen p refl)) (pass _ _ k.CloseParen p refl)
    neat_arguments (spread_argument e q p) = both (neat_expr e (safe _ _ k.Ellipsis q refl)) (via _ _ k.Ellipsis q refl (pass _ _ k.CloseParen p refl))
    neat_arguments (argument e p xs) = both (neat_expr e (safe _ _ k.Comma p refl)) (via _ _ k.Comma p refl (neat_arguments xs))

    neat_items : {d : ℕ} {xs : List Expr} {i j : ℕ} → IsItems ts d xs i j → Neat ts i j
    neat_items (no_items p) = pass _ _ k.CloseBracket p refl
    neat_items (last_item e p) = both (neat_expr e (safe _ _ k.CloseBracket p refl)) (pass _ _ k.CloseBracket p refl)
    neat_items (item e p xs) = both (neat_expr e (safe _ _ k.Comma p refl)) (via _ _ k.Comma p refl (neat_items xs))

    neat_elems : {d : ℕ} {xs : List Elem} {i j : ℕ} → IsElems ts d xs i j → Neat ts i j
    neat_elems (no_elems p) = pass _ _ k.CloseBrace p refl
    neat_elems (last_elem e p) = both (neat_elem e (safe _ _ k.CloseBrace p refl)) (pass _ _ k.CloseBrace p refl)
    neat_elems (elems e p xs) = both (neat_elem e (safe_sep p)) (both (neat_sep p) (neat_elems xs))

    neat_elem : {d : ℕ} {x : Elem} {i j : ℕ} → IsElem ts d x i j → Safe ts j → Neat ts i j
    neat_elem (by_equals a p b) f = both (neat_expr a (safe _ _ k.Equal p refl)) (via _ _ k.Equal p refl (neat_expr b f))
    neat_elem (by_colon a p b) f = both (neat_expr a (safe _ _ k.Colon p refl)) (via _ _ k.Colon p refl (neat_expr b f))

    neat_intro : {d : ℕ} {x : Intro} {i j : ℕ} → IsIntro ts d x i j → Safe ts j → Neat ts i j
    neat_intro (intro w p s v e) f = via_word _ _ _ w (via _ _ k.Identifier p refl (both (neat_second s) (via_word _ _ _ v (neat_expr e f))))

    neat_filter : {d : ℕ} {close : Kind} {o : Option Expr} {i j : ℕ} → Closer close → IsFilter ts d close o i j → Neat ts i j
    neat_filter c (no_filter {close} p) = pass _ _ close p c.1
    neat_filter c (filter {close} w e p) = via_word _ _ _ w (both (neat_expr e (safe _ _ close p c.0)) (pass _ _ close p c.1))

    neat_parts : {d : ℕ} {m : Bool} {xs : List Part} {i j : ℕ} → IsParts ts d m xs i j → Neat ts i j
    neat_parts (no_parts {i}) = still i
    neat_parts (parts x xs) = both (neat_part x) (neat_parts xs)

    neat_part : {d : ℕ} {m : Bool} {x : Part} {i j : ℕ} → IsPart ts d m x i j → Neat ts i j
    neat_part (quote_text p) = pass _ _ k.QuoteLit p refl
    neat_part (here_text p) = pass _ _ k.HereLit p refl
    neat_part (interp p e q) = via _ _ k.InterpOpen p refl (both (neat_expr e (safe _ _ k.SeqClose q refl)) (pass _ _ k.SeqClose q refl))
    neat_part (if_directive p w c q ps o) =
        via _ _ k.DirectiveOpen p refl (via_word _ _ _ w (both (neat_expr c (safe _ _ k.SeqClose q refl)) (via _ _ k.SeqClose q refl (both (neat_parts ps) (neat_else o)))))
    neat_part (for_directive p x q ps e) =
        via _ _ k.DirectiveOpen p refl (both (neat_intro x (safe _ _ k.SeqClose q refl)) (via _ _ k.SeqClose q refl (both (neat_parts ps) (neat_keyword e))))

    neat_else : {d : ℕ} {m : Bool} {o : Option Template} {i j : ℕ} → IsElse ts d m o i j → Neat ts i j
    neat_else (no_else e) = neat_keyword e
    neat_else (has_else q ps e) = both (neat_keyword q) (both (neat_parts ps) (neat_keyword e))

  -- ---- bodies

  neat_labels : {ls : List Label} {i j : ℕ} → IsLabels ts ls i j → Neat ts i j
  neat_labels (no_labels {i}) = still i
  neat_labels (word_label q ls) = via _ _ k.Identifier q refl (neat_labels ls)
  neat_labels (text_label p q r ls) = via _ _ k.QuoteOpen p refl (via _ _ k.QuoteLit q refl (via _ _ k.QuoteClose r refl (neat_labels ls)))
  neat_labels (empty_label p r ls) = via _ _ k.QuoteOpen p refl (via _ _ k.QuoteClose r refl (neat_labels ls))

  neat_on_line : {d : ℕ} {o : Option Attribute} {i j : ℕ} → IsOneLineBody ts d o i j → Safe ts j → Neat ts i j
  neat_on_line (nothing {i}) f = still i
  neat_on_line (one p q e) f = via _ _ k.Identifier p refl (via _ _ k.Equal q refl (neat_expr e f))

  neat_members : {d : ℕ} {ms : List Member} {i j : ℕ} → IsMembers ts d ms i j → Neat ts i j
  neat_members (no_members {i}) = still i
  neat_members (blank q ms) = both (neat_line q) (neat_members ms)
  neat_members (attribute q e x l ms) = via _ _ k.Identifier q refl (via _ _ k.Equal e refl (both (neat_expr x (safe_eol l)) (both (neat_eol l) (neat_members ms))))
  neat_members (block q ls h n bs c l ms) =
      via _ _ k.Identifier q refl (both (neat_labels ls) (via _ _ k.OpenBrace h refl (both (neat_line n) (both (neat_members bs) (via _ _ k.CloseBrace c refl (both (neat_eol l) (neat_members ms)))))))
  neat_members (line_block q ls h a c l ms) =
      via _ _ k.Identifier q refl (both (neat_labels ls) (via _ _ k.OpenBrace h refl (both (neat_on_line a (safe _ _ k.CloseBrace c refl)) (via _ _ k.CloseBrace c refl (both (neat_eol l) (neat_members ms))))))

  neat_mark : {i : ℕ} → IsOptionalMark ts i → Neat ts 0 i
  neat_mark no_mark = still 0
  neat_mark (mark q) = pass _ _ k.Mark q refl

  -- what follows the last token that is not dropped
  none_left : (o : Option Token) → option_map (λ (t : Token). t.0) o ≡ None → o ≡ None
  none_left None h = refl
  none_left (Some t) h = absurd (cc)

  trail : (j : ℕ) → next_kind ts false j ≡ None → (n : ℕ) → j ≤ n → Fine ts n
  unfolding next_kind next_token
  trail j h n l = let far = beyond ts (next_index ts false j) (none_left (slice_get ts (next_index ts false j)) h) in
      record { each = λ a b p q. (before false j n l (omega (arith, far, within ts n a p))).each a b p q }

  neat_last : {j : ℕ} → IsFileEnd ts j → (n : ℕ) → j ≤ n → Fine ts n
  neat_last (at_end {i} h) n l = trail i h n l
  neat_last (at_comment {i} q h) n l = split n (after_next ts false i) _ (λ x. (pass false i k.LineComment q refl).at n l x) (λ x. trail (after_next ts false i) h n x)

  neat_file : (n : ℕ) {j : ℕ} → Neat ts 0 j → IsFileEnd ts j → Fine ts n
  neat_file n {j} p l = split n j _ (λ x. p.at n (omega arith) x) (λ x. neat_last l n x)

  pub fine_file : {d : ℕ} {t : Tree} → IsFile ts d t → (n : ℕ) → Fine ts n
  fine_file (file f ms l) n = neat_file n (both (neat_mark f) (neat_members ms)) l

pub no_glue : (ts : List Token) (d : ℕ) (t : Tree) → IsFile ts d t → (n : ℕ) (a b : Token) → slice_get ts n ≡ Some a → slice_get ts (suc n) ≡ Some b → glues a.0 b.0 b.1 ≡ false
no_glue ts d t w n a b p q = (fine_file ts w n).each a b p q
