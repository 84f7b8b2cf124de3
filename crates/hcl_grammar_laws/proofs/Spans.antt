-- A derivation goes forward, and ends within the tokens.
use Rattle.std.proofs.Common.{◌≡◌, ℕ, zero, suc, ◌<◌, ◌≤◌, max, Bool, List, [], ◌∷◌, length, slice_get, Option, Some, None, refl, arith}
use Rattle.std.specs.Option.{option_map}
use Rattle.hcl_token.specs.declared.kind.Kind.{Kind}
use Rattle.hcl_token.specs.declared.kind.Kind.TheVariants as k
use Rattle.hcl_grammar.specs.declared.tree.Attribute.{Attribute}
use Rattle.hcl_grammar.specs.declared.tree.Elem.{Elem}
use Rattle.hcl_grammar.specs.declared.tree.Expr.{Expr}
use Rattle.hcl_grammar.specs.declared.tree.Intro.{Intro}
use Rattle.hcl_grammar.specs.declared.tree.Label.{Label}
use Rattle.hcl_grammar.specs.declared.tree.Operation.{Operation}
use Rattle.hcl_grammar.specs.declared.tree.Member.{Member}
use Rattle.hcl_grammar.specs.declared.tree.Part.{Part}
use Rattle.hcl_grammar.specs.declared.tree.Tail.{Tail}
use Rattle.hcl_grammar.specs.declared.tree.Template.{Template}
use Rattle.hcl_grammar.specs.declared.tree.Term.{Term}
use Rattle.hcl_grammar.specs.Tokens.{Token, next_index, next_token, next_kind, after_next}
use Rattle.hcl_grammar.specs.Lookahead.{NextIs, NextIsWord, IsNewline, line_end, comment, IsNewlines, no_lines, line, IsSep, comma, lines, IsEol, eol_line, eol_end, eol_comment, IsNameTail, no_names, name, IsSecondName, no_second, second, IsEllipsis, no_ellipsis, ellipsis, IsKeyword, keyword}
use Rattle.hcl_grammar.specs.Grammar.{IsExpr, plain, conditional, IsLevel, lowest, level, IsOperations, no_operations, operation, IsUnary, with_operator, post, IsTails, no_tails, tails, IsTail, by_name, legacy, attribute_splat, full_splat, index, IsTerm, number, identifier, call, tuple, object, for_tuple, for_object, quoted, heredoc, parens, IsArguments, no_arguments, last_argument, spread_argument, argument, IsItems, no_items, last_item, item, IsElems, no_elems, last_elem, elems, IsElem, by_equals, by_colon, IsIntro, intro, IsFilter, no_filter, filter, IsParts, no_parts, parts, IsPart, quote_text, here_text, interp, if_directive, for_directive, IsElse, no_else, has_else}
use Rattle.hcl_grammar.specs.Bodies.{IsLabels, no_labels, word_label, text_label, empty_label, IsOneLineBody, nothing, one as just, IsMembers, no_members, blank, attribute, block, line_block}
use Rattle.hcl_grammar_laws.proofs.Steps.{word_at}

pub record Spans (ts : List Token) (i j : ℕ) : Type 0 where
  pub forth : i ≤ j
  pub within : j ≤ max i (length ts)

pub record Takes (ts : List Token) (i j : ℕ) : Type 0 where
  pub forth : i < j
  pub within : j ≤ length ts

within-length : (ts : List Token) (i : ℕ) (t : Token) → slice_get ts i ≡ Some t → i < length ts
within-length [] i t h = absurd (cc)
within-length (s ∷ ts) zero t h = omega arith
within-length (s ∷ ts) (suc i) t h = omega (arith, within-length ts i t h)

there : (ts : List Token) (n : ℕ) (t : Kind) (o : Option Token) → slice_get ts n ≡ o → option_map (λ (t : Token). t.0) o ≡ Some t → n < length ts
there ts n t None e h = absurd (let clash : None ≡ Some t = h in cc)
there ts n t (Some u) e h = within-length ts n u e

pub step : (ts : List Token) (m : Bool) (t : Kind) (i : ℕ) → NextIs ts m t i → Takes ts i (after_next ts m i)
unfolding next_kind next_token after_next next_index
step ts m t i h = let below : next_index ts m i < length ts = there ts (next_index ts m i) t (slice_get ts (next_index ts m i)) refl h in record { forth = omega arith; within = omega arith }

pub step_word : (ts : List Token) (m : Bool) (w : List ℕ) (i : ℕ) → NextIsWord ts m w i → Takes ts i (after_next ts m i)
step_word ts m w i h = step ts m k.Identifier i (word_at ts m w i h)

pub still : (ts : List Token) (i : ℕ) → Spans ts i i
still ts i = record { forth = omega arith; within = omega arith }

pub loose : {ts : List Token} {i j : ℕ} → Takes ts i j → Spans ts i j
loose p = record { forth = omega arith; within = omega arith }

pub both : {ts : List Token} {i j l : ℕ} → Spans ts i j → Spans ts j l → Spans ts i l
both p q = record { forth = omega arith; within = omega arith }

pub ahead : {ts : List Token} {i j l : ℕ} → Takes ts i j → Spans ts j l → Takes ts i l
ahead p q = record { forth = omega arith; within = omega arith }

pub following : {ts : List Token} {i j l : ℕ} → Spans ts i j → Takes ts j l → Takes ts i l
following p q = record { forth = omega arith; within = omega arith }

module _ {ts : List Token} where
  -- a step and what follows it
  via : {j : ℕ} (m : Bool) (i : ℕ) (t : Kind) → NextIs ts m t i → Spans ts (after_next ts m i) j → Spans ts i j
  via m i t p q = both (loose (step ts m t i p)) q

  through : {j : ℕ} (m : Bool) (i : ℕ) (t : Kind) → NextIs ts m t i → Takes ts (after_next ts m i) j → Takes ts i j
  through m i t p q = following (loose (step ts m t i p)) q

  via_word : {j : ℕ} (m : Bool) (w : List ℕ) (i : ℕ) → NextIsWord ts m w i → Spans ts (after_next ts m i) j → Spans ts i j
  via_word m w i p q = both (loose (step_word ts m w i p)) q

  through_word : {j : ℕ} (m : Bool) (w : List ℕ) (i : ℕ) → NextIsWord ts m w i → Takes ts (after_next ts m i) j → Takes ts i j
  through_word m w i p q = following (loose (step_word ts m w i p)) q

  single : (m : Bool) (i : ℕ) (t : Kind) → NextIs ts m t i → Takes ts i (after_next ts m i)
  single m i t p = step ts m t i p

  pub span_line : {i j : ℕ} → IsNewline ts i j → Takes ts i j
  span_line (line_end p) = single _ _ k.LineEnd p
  span_line (comment p q) = through _ _ k.LineComment p (single _ _ k.LineEnd q)

  pub span_lines : {i j : ℕ} → IsNewlines ts i j → Spans ts i j
  span_lines (no_lines {i}) = still ts i
  span_lines (line p q) = both (loose (span_line p)) (span_lines q)

  pub span_eol : {i j : ℕ} → IsEol ts i j → Spans ts i j
  span_eol (eol_line q) = loose (span_line q)
  span_eol (eol_end {i} h) = still ts i
  span_eol (eol_comment q h) = loose (single _ _ k.LineComment q)

  pub span_sep : {i j : ℕ} → IsSep ts i j → Takes ts i j
  span_sep (comma p q) = ahead (single _ _ k.Comma p) (span_lines q)
  span_sep (lines p q) = ahead (span_line p) (span_lines q)

  pub span_names : {m : Bool} {ns : List ℕ} {i j : ℕ} → IsNameTail ts m ns i j → Spans ts i j
  span_names (no_names {i}) = still ts i
  span_names (name p q ns) = via _ _ k.DoubleColon p (via _ _ k.Identifier q (span_names ns))

  pub span_second : {o : Option ℕ} {i j : ℕ} → IsSecondName ts o i j → Spans ts i j
  span_second (no_second {i}) = still ts i
  span_second (second p q) = via _ _ k.Comma p (loose (single _ _ k.Identifier q))

  pub span_dots : {b : Bool} {i j : ℕ} → IsEllipsis ts b i j → Spans ts i j
  span_dots (no_ellipsis {i}) = still ts i
  span_dots (ellipsis p) = loose (single _ _ k.Ellipsis p)

  pub span_keyword : {m : Bool} {w : List ℕ} {i j : ℕ} → IsKeyword ts m w i j → Takes ts i j
  span_keyword (keyword p w q) = through _ _ k.DirectiveOpen p (through_word _ _ _ w (single _ _ k.SeqClose q))

  mutual
    pub span_expr : {d : ℕ} {m : Bool} {e : Expr} {i j : ℕ} → IsExpr ts d m e i j → Spans ts i j
    span_expr (plain p) = span_level p
    span_expr (conditional c q x s y) = both (span_level c) (via _ _ k.Question q (both (span_expr x) (via _ _ k.Colon s (span_expr y))))

    pub span_level : {d : ℕ} {m : Bool} {n : ℕ} {e : Expr} {i j : ℕ} → IsLevel ts d m n e i j → Spans ts i j
    span_level (lowest p) = span_unary p
    span_level (level p q) = both (span_level p) (span_links q)

    pub span_links : {d : ℕ} {m : Bool} {n : ℕ} {xs : List Operation} {i j : ℕ} → IsOperations ts d m n xs i j → Spans ts i j
    span_links (no_operations {i}) = still ts i
    span_links (operation {t} p o x xs) = via _ _ t p (both (span_level x) (span_links xs))

    pub span_unary : {d : ℕ} {m : Bool} {e : Expr} {i j : ℕ} → IsUnary ts d m e i j → Spans ts i j
    span_unary (with_operator {t} p o x) = via _ _ t p (span_unary x)
    span_unary (post p q) = both (loose (span_term p)) (span_tails q)

    pub span_tails : {d : ℕ} {m : Bool} {xs : List Tail} {i j : ℕ} → IsTails ts d m xs i j → Spans ts i j
    span_tails (no_tails {i}) = still ts i
    span_tails (tails x xs) = both (loose (span_tail x)) (span_tails xs)

    pub span_tail : {d : ℕ} {m : Bool} {x : Tail} {i j : ℕ} → IsTail ts d m x i j → Takes ts i j
    span_tail (by_name p q) = through _ _ k.Dot p (single _ _ k.Identifier q)
    span_tail (legacy p) = single _ _ k.DotIndex p
    span_tail (attribute_splat p q) = through _ _ k.Dot p (single _ _ k.Star q)
    span_tail (full_splat p q c) = through _ _ k.OpenBracket p (through _ _ k.Star q (single _ _ k.CloseBracket c))
    span_tail (index p e q) = through _ _ k.OpenBracket p (following (span_expr e) (single _ _ k.CloseBracket q))

    pub span_term : {d : ℕ} {m : Bool} {e : Term} {i j : ℕ} → IsTerm ts d m e i j → Takes ts i j
    span_term (number p) = single _ _ k.Number p
    span_term (identifier p q r) = single _ _ k.Identifier p
    span_term (call p ns q xs) = through _ _ k.Identifier p (following (span_names ns) (through _ _ k.OpenParen q (span_arguments xs)))
    span_term (tuple p n xs) = through _ _ k.OpenBracket p (span_items xs)
    span_term (object p n l xs) = through _ _ k.OpenBrace p (following (span_lines l) (span_elems xs))
    span_term (for_tuple p x c e f) = through _ _ k.OpenBracket p (following (loose (span_intro x)) (through _ _ k.Colon c (following (span_expr e) (span_filter f))))
    span_term (for_object p x c e a v s f) =
        through _ _ k.OpenBrace p (following (loose (span_intro x)) (through _ _ k.Colon c (following (span_expr e) (through _ _ k.FatArrow a (following (span_expr v) (following (span_dots s) (span_filter f)))))))
    span_term (quoted p ps q) = through _ _ k.QuoteOpen p (following (span_parts ps) (single _ _ k.QuoteClose q))
    span_term (heredoc p ps q) = through _ _ k.HereOpen p (following (span_parts ps) (single _ _ k.HereClose q))
    span_term (parens p e q) = through _ _ k.OpenParen p (following (span_expr e) (single _ _ k.CloseParen q))

    pub span_arguments : {d : ℕ} {xs : List Expr} {s : Bool} {i j : ℕ} → IsArguments ts d xs s i j → Takes ts i j
    span_arguments (no_arguments p) = single _ _ k.CloseParen p
    span_arguments (last_argument e p) = following (span_expr e) (single _ _ k.CloseParen p)
    span_arguments (spread_argument e q p) = following (span_expr e) (through _ _ k.Ellipsis q (single _ _ k.CloseParen p))
    span_arguments (argument e p xs) = following (span_expr e) (through _ _ k.Comma p (span_arguments xs))

    pub span_items : {d : ℕ} {xs : List Expr} {i j : ℕ} → IsItems ts d xs i j → Takes ts i j
    span_items (no_items p) = single _ _ k.CloseBracket p
    span_items (last_item e p) = following (span_expr e) (single _ _ k.CloseBracket p)
    span_items (item e p xs) = following (span_expr e) (through _ _ k.Comma p (span_items xs))

    pub span_elems : {d : ℕ} {xs : List Elem} {i j : ℕ} → IsElems ts d xs i j → Takes ts i j
    span_elems (no_elems p) = single _ _ k.CloseBrace p
    span_elems (last_elem e p) = following (span_elem e) (single _ _ k.CloseBrace p)
    span_elems (elems e p xs) = following (span_elem e) (following (loose (span_sep p)) (span_elems xs))

    pub span_elem : {d : ℕ} {x : Elem} {i j : ℕ} → IsElem ts d x i j → Spans ts i j
    span_elem (by_equals a p b) = both (span_expr a) (via _ _ k.Equal p (span_expr b))
    span_elem (by_colon a p b) = both (span_expr a) (via _ _ k.Colon p (span_expr b))

    pub span_intro : {d : ℕ} {x : Intro} {i j : ℕ} → IsIntro ts d x i j → Takes ts i j
    span_intro (intro w p s v e) = through_word _ _ _ w (ahead (single _ _ k.Identifier p) (both (span_second s) (via_word _ _ _ v (span_expr e))))

    pub span_filter : {d : ℕ} {close : Kind} {o : Option Expr} {i j : ℕ} → IsFilter ts d close o i j → Takes ts i j
    span_filter (no_filter {close} p) = single _ _ close p
    span_filter (filter {close} w e p) = through_word _ _ _ w (following (span_expr e) (single _ _ close p))

    pub span_parts : {d : ℕ} {m : Bool} {xs : List Part} {i j : ℕ} → IsParts ts d m xs i j → Spans ts i j
    span_parts (no_parts {i}) = still ts i
    span_parts (parts x xs) = both (loose (span_part x)) (span_parts xs)

    pub span_part : {d : ℕ} {m : Bool} {x : Part} {i j : ℕ} → IsPart ts d m x i j → Takes ts i j
    span_part (quote_text p) = single _ _ k.QuoteLit p
    span_part (here_text p) = single _ _ k.HereLit p
    span_part (interp p e q) = through _ _ k.InterpOpen p (following (span_expr e) (single _ _ k.SeqClose q))
    span_part (if_directive p w c q ps o) = through _ _ k.DirectiveOpen p (through_word _ _ _ w (following (span_expr c) (through _ _ k.SeqClose q (following (span_parts ps) (span_else o)))))
    span_part (for_directive p x q ps e) = through _ _ k.DirectiveOpen p (following (loose (span_intro x)) (through _ _ k.SeqClose q (following (span_parts ps) (span_keyword e))))

    pub span_else : {d : ℕ} {m : Bool} {o : Option Template} {i j : ℕ} → IsElse ts d m o i j → Takes ts i j
    span_else (no_else e) = span_keyword e
    span_else (has_else q ps e) = following (loose (span_keyword q)) (following (span_parts ps) (span_keyword e))

  pub span_labels : {ls : List Label} {i j : ℕ} → IsLabels ts ls i j → Spans ts i j
  span_labels (no_labels {i}) = still ts i
  span_labels (word_label q ls) = via _ _ k.Identifier q (span_labels ls)
  span_labels (text_label p q r ls) = via _ _ k.QuoteOpen p (via _ _ k.QuoteLit q (via _ _ k.QuoteClose r (span_labels ls)))
  span_labels (empty_label p r ls) = via _ _ k.QuoteOpen p (via _ _ k.QuoteClose r (span_labels ls))

  pub span_on_line : {d : ℕ} {o : Option Attribute} {i j : ℕ} → IsOneLineBody ts d o i j → Spans ts i j
  span_on_line (nothing {i}) = still ts i
  span_on_line (just p q e) = via _ _ k.Identifier p (via _ _ k.Equal q (span_expr e))

  pub span_members : {d : ℕ} {ms : List Member} {i j : ℕ} → IsMembers ts d ms i j → Spans ts i j
  span_members (no_members {i}) = still ts i
  span_members (blank q ms) = both (loose (span_line q)) (span_members ms)
  span_members (attribute q e x l ms) = via _ _ k.Identifier q (via _ _ k.Equal e (both (span_expr x) (both (span_eol l) (span_members ms))))
  span_members (block q ls h n bs c l ms) =
      via _ _ k.Identifier q (both (span_labels ls) (via _ _ k.OpenBrace h (both (loose (span_line n)) (both (span_members bs) (via _ _ k.CloseBrace c (both (span_eol l) (span_members ms)))))))
  span_members (line_block q ls h a c l ms) =
      via _ _ k.Identifier q (both (span_labels ls) (via _ _ k.OpenBrace h (both (span_on_line a) (via _ _ k.CloseBrace c (both (span_eol l) (span_members ms))))))
