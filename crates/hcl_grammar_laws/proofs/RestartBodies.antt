-- Parts of templates, labels and members by themselves, from their first tokens on.
use Rattle.std.proofs.Common.{◌<◌, ◌==◌, ◌≡◌, ℕ, suc, Bool, true, false, List, [], ◌∷◌, slice_get, Option, Some, None, refl, sym, ap, ◌∙◌, subst, inl, inr, arith}
use Rattle.std.proofs.lemmas.Bool.Decides.{eqb_tells}
use Rattle.hcl_token.specs.declared.kind.Kind.{Kind}
use Rattle.hcl_token.specs.declared.kind.Kind.TheVariants as k
use Rattle.hcl_grammar.specs.declared.tree.Attribute.{Attribute}
use Rattle.hcl_grammar.specs.declared.tree.Block.{Block}
use Rattle.hcl_grammar.specs.declared.tree.Content.TheVariants as content
use Rattle.hcl_grammar.specs.declared.tree.Expr.{Expr}
use Rattle.hcl_grammar.specs.declared.tree.Intro.{Intro}
use Rattle.hcl_grammar.specs.declared.tree.Label.{Label}
use Rattle.hcl_grammar.specs.declared.tree.Member.{Member, out-Member}
use Rattle.hcl_grammar.specs.declared.tree.Member.TheVariants as member
use Rattle.hcl_grammar.specs.declared.tree.Part.{Part}
use Rattle.hcl_grammar.specs.Bodies.{IsLabels, no_labels, word_label, text_label, empty_label, IsOneLineBody, one as just, IsMembers, no_members, blank, attribute, block, line_block}
use Rattle.hcl_grammar.specs.Grammar.{IsExpr, IsIntro, intro, IsParts, no_parts, parts, IsPart, quote_text, here_text, interp, if_directive, for_directive}
use Rattle.hcl_grammar.specs.Lookahead.{NextIs, NextIsWord, IsNewline, line_end, comment, IsEol, IsSecondName}
use Rattle.hcl_grammar.specs.Nodes as node
use Rattle.hcl_grammar.specs.Tokens.{Token, next_index, next_token, after_next, first_token_in, for_word, if_word}
use Rattle.hcl_grammar_laws.proofs.Chains.{nat-same}
use Rattle.hcl_grammar_laws.proofs.Opens.{open_attribute, open_block}
use Rattle.hcl_grammar_laws.proofs.Placed.{placed_intro}
use Rattle.hcl_grammar_laws.proofs.Restart.{moved, following, start-at}
use Rattle.hcl_grammar_laws.proofs.Spans.{Takes, Spans, step, loose, both, ahead, span_part, span_parts, span_expr, span_line, span_eol, span_labels, span_on_line, span_members}
use Rattle.hcl_grammar_laws.proofs.Steps.{word_at}

moved_word : (ts : List Token) (m : Bool) (w : List ℕ) (i n : ℕ) → next_index ts m i ≡ next_index ts m n → NextIsWord ts m w i → NextIsWord ts m w n
unfolding next_token
moved_word ts m w i n e h = ap (slice_get ts) (sym e) ∙ h

-- a token comes next
pub record HasNextToken (ts : List Token) (m : Bool) (i : ℕ) : Type 0 where
  pub kind : Kind
  pub is : NextIs ts m kind i

less-other : (i j : ℕ) → i < j → (i == j) ≡ false
less-other i j l = elim (eqb_tells i j) [ inl w ↦ absurd (omega arith) | inr w ↦ w.0 ]

-- what is not empty begins with its first token
filled : (ts : List Token) (m : Bool) (i j : ℕ) → i < j → first_token_in ts m i j ≡ next_index ts m i
unfolding first_token_in
filled ts m i j l = rw (less-other i j l) refl

empty : (ts : List Token) (m : Bool) (i : ℕ) → first_token_in ts m i i ≡ i
unfolding first_token_in
empty ts m i = rw (nat-same i) refl

has_next_token : (ts : List Token) (m : Bool) (t : Kind) (i : ℕ) → NextIs ts m t i → HasNextToken ts m i
has_next_token ts m t i h = record { kind = t; is = h }

pub some_is : {A : Type 0} {x y : A} → Some x ≡ Some y → x ≡ y
some_is e = cc

pub attribute_is : {x y : Attribute} → member.Attribute x ≡ member.Attribute y → x ≡ y
attribute_is {x} {y} e = let f = sym (open_attribute x) ∙ ap out-Member e ∙ open_attribute y in cc

pub block_is : {x y : Block} → member.Block x ≡ member.Block y → x ≡ y
block_is {x} {y} e = let f = sym (open_block x) ∙ ap out-Member e ∙ open_block y in cc

pub other_member : (x : Attribute) (y : Block) → member.Attribute x ≡ member.Block y → ⊥
other_member x y e = let f = sym (open_attribute x) ∙ ap out-Member e ∙ open_block y in absurd (cc)

module _ {ts : List Token} where
  same : {m : Bool} {i : ℕ} → HasNextToken ts m i → next_index ts m i ≡ next_index ts m (next_index ts m i)
  same {m} {i} c = start-at ts m i c.kind c.is

  -- ---- the beginning of a `for`

  restart_intro : {d : ℕ} {x : Intro} {i j : ℕ} → IsIntro ts d x i j → (n : ℕ) → next_index ts true i ≡ next_index ts true n → IsIntro ts d x n j
  restart_intro (intro {d} {o} {e} {i} {j} w p s v y) n h =
      let a = following ts true i n h in
      rw (h, a) (intro (moved_word ts true for_word i n h w) (subst (λ z. NextIs ts true k.Identifier z) a p) (subst (λ z. IsSecondName ts o (after_next ts true z) j) a s) v y)

  intro_has_next : {d : ℕ} {x : Intro} {i j : ℕ} → IsIntro ts d x i j → HasNextToken ts true i
  intro_has_next (intro {i} w p s v y) = has_next_token ts true k.Identifier i (word_at ts true for_word i w)

  pub own_intro : {d : ℕ} {x : Intro} {i j : ℕ} → IsIntro ts d x i j → IsIntro ts d x x.first x.past
  own_intro {d} {x} {i} {j} w =
      let p = placed_intro w in
      subst (λ l. IsIntro ts d x x.first l) (sym p.1) (subst (λ n. IsIntro ts d x n j) (sym p.0) (restart_intro w (next_index ts true i) (same (intro_has_next w))))

  -- ---- parts of templates

  restart_part : {d : ℕ} {m : Bool} {x : Part} {i j : ℕ} → IsPart ts d m x i j → (n : ℕ) → next_index ts m i ≡ next_index ts m n → IsPart ts d m x n j
  restart_part (quote_text {m} {i} p) n h = rw (h, following ts m i n h) (quote_text (moved ts m k.QuoteLit i n h p))
  restart_part (here_text {m} {i} p) n h = rw (h, following ts m i n h) (here_text (moved ts m k.HereLit i n h p))
  restart_part (interp {d} {m} {e} {i} {j} p x q) n h = interp (moved ts m k.InterpOpen i n h p) (subst (λ z. IsExpr ts d true e z j) (following ts m i n h) x) q
  restart_part (if_directive {d} {m} {c} {i} {j} p w x q ps o) n h =
      let a = following ts m i n h in
      rw h (if_directive (moved ts m k.DirectiveOpen i n h p) (subst (λ z. NextIsWord ts true if_word z) a w) (subst (λ z. IsExpr ts d true c (after_next ts true z) j) a x) q ps o)
  restart_part (for_directive {d} {m} {x} {i} {j} p y q ps e) n h =
      let a = following ts m i n h in
      rw h (for_directive (moved ts m k.DirectiveOpen i n h p) (subst (λ z. IsIntro ts d x z j) a y) q ps e)

  part_has_next : {d : ℕ} {m : Bool} {x : Part} {i j : ℕ} → IsPart ts d m x i j → HasNextToken ts m i
  part_has_next (quote_text {m} {i} p) = has_next_token ts m k.QuoteLit i p
  part_has_next (here_text {m} {i} p) = has_next_token ts m k.HereLit i p
  part_has_next (interp {m} {i} p x q) = has_next_token ts m k.InterpOpen i p
  part_has_next (if_directive {m} {i} p w x q ps o) = has_next_token ts m k.DirectiveOpen i p
  part_has_next (for_directive {m} {i} p y q ps e) = has_next_token ts m k.DirectiveOpen i p

  pub own_part : {d : ℕ} {m : Bool} {x : Part} {i j : ℕ} → IsPart ts d m x i j → IsPart ts d m x (next_index ts m i) j
  own_part {m} {i} w = restart_part w (next_index ts m i) (same (part_has_next w))

  pub own_parts : {d : ℕ} {m : Bool} {xs : List Part} {i j : ℕ} → IsParts ts d m xs i j → IsParts ts d m xs (first_token_in ts m i j) j
  own_parts {d} (no_parts {m} {i}) = rw (empty ts m i) no_parts
  own_parts {d} (parts {m} {x} {xs} {i} {j} {l} p ps) =
      let t = ahead (span_part p) (span_parts ps) in
      subst (λ n. IsParts ts d m (x ∷ xs) n l) (sym (filled ts m i l t.forth)) (parts (own_part p) ps)

  -- ---- labels

  pub word_alone : (i n : ℕ) → next_index ts false i ≡ next_index ts false n → NextIs ts false k.Identifier i
      → IsLabels ts (node.label (next_index ts false i) (after_next ts false i) (Some (next_index ts false i)) ∷ []) n (after_next ts false i)
  word_alone i n h p = rw (h, following ts false i n h) (word_label (moved ts false k.Identifier i n h p) no_labels)

  pub text_alone : (i n : ℕ) → next_index ts false i ≡ next_index ts false n → NextIs ts false k.QuoteOpen i → NextIs ts false k.QuoteLit (after_next ts false i) → NextIs ts false k.QuoteClose (after_next ts false (after_next ts false i))
      → IsLabels ts (node.label (next_index ts false i) (after_next ts false (after_next ts false (after_next ts false i))) (Some (next_index ts false (after_next ts false i))) ∷ []) n (after_next ts false (after_next ts false (after_next ts false i)))
  text_alone i n h p q r =
      let a = following ts false i n h in
      rw (h, a) (text_label (moved ts false k.QuoteOpen i n h p) (subst (λ z. NextIs ts false k.QuoteLit z) a q) (subst (λ z. NextIs ts false k.QuoteClose (after_next ts false z)) a r) no_labels)

  pub empty_alone : (i n : ℕ) → next_index ts false i ≡ next_index ts false n → NextIs ts false k.QuoteOpen i → NextIs ts false k.QuoteClose (after_next ts false i)
      → IsLabels ts (node.label (next_index ts false i) (after_next ts false (after_next ts false i)) None ∷ []) n (after_next ts false (after_next ts false i))
  empty_alone i n h p q =
      let a = following ts false i n h in
      rw (h, a) (empty_label (moved ts false k.QuoteOpen i n h p) (subst (λ z. NextIs ts false k.QuoteClose z) a q) no_labels)

  -- ---- attributes and blocks

  pub on_line_alone : {d : ℕ} {y : Expr} {j : ℕ} (i n : ℕ) → next_index ts false i ≡ next_index ts false n → NextIs ts false k.Identifier i → NextIs ts false k.Equal (after_next ts false i)
      → IsExpr ts d false y (after_next ts false (after_next ts false i)) j → IsOneLineBody ts d (Some (node.attribute (next_index ts false i) j y)) n j
  on_line_alone {d} {y} {j} i n h p q x =
      let a = following ts false i n h in
      rw h (just (moved ts false k.Identifier i n h p) (subst (λ z. NextIs ts false k.Equal z) a q) (subst (λ z. IsExpr ts d false y (after_next ts false z) j) a x))

  -- from its first token on, with what follows it
  pub attribute_from : {d : ℕ} {y : Expr} {ms : List Member} {j l o : ℕ} (i n : ℕ) → next_index ts false i ≡ next_index ts false n → NextIs ts false k.Identifier i → NextIs ts false k.Equal (after_next ts false i)
      → IsExpr ts d false y (after_next ts false (after_next ts false i)) j → IsEol ts j l → IsMembers ts d ms l o → IsMembers ts d (member.Attribute (node.attribute (next_index ts false i) l y) ∷ ms) n o
  attribute_from {d} {y} {j} i n h p q x s r =
      let a = following ts false i n h in
      rw h (attribute (moved ts false k.Identifier i n h p) (subst (λ z. NextIs ts false k.Equal z) a q) (subst (λ z. IsExpr ts d false y (after_next ts false z) j) a x) s r)

  pub block_from : {d : ℕ} {ls : List Label} {bs ms : List Member} {j l o q u : ℕ} (i n : ℕ) → next_index ts false i ≡ next_index ts false n → NextIs ts false k.Identifier i → IsLabels ts ls (after_next ts false i) j
      → NextIs ts false k.OpenBrace j → IsNewline ts (after_next ts false j) l → IsMembers ts d bs l o → NextIs ts false k.CloseBrace o → IsEol ts (after_next ts false o) q → IsMembers ts (suc d) ms q u
      → IsMembers ts (suc d) (node.block (next_index ts false i) q ls (content.Body (node.body (first_token_in ts false l o) o bs)) ∷ ms) n u
  block_from {ls} {j} i n h p ns b s ms c e r =
      let a = following ts false i n h in
      rw h (block (moved ts false k.Identifier i n h p) (subst (λ z. IsLabels ts ls z j) a ns) b s ms c e r)

  pub line_block_from : {d : ℕ} {ls : List Label} {t : Option Attribute} {ms : List Member} {j o q u : ℕ} (i n : ℕ) → next_index ts false i ≡ next_index ts false n → NextIs ts false k.Identifier i
      → IsLabels ts ls (after_next ts false i) j → NextIs ts false k.OpenBrace j → IsOneLineBody ts d t (after_next ts false j) o → NextIs ts false k.CloseBrace o → IsEol ts (after_next ts false o) q → IsMembers ts (suc d) ms q u
      → IsMembers ts (suc d) (node.block (next_index ts false i) q ls (content.OneLine t) ∷ ms) n u
  line_block_from {ls} {j} i n h p ns b t c e r =
      let a = following ts false i n h in
      rw h (line_block (moved ts false k.Identifier i n h p) (subst (λ z. IsLabels ts ls z j) a ns) b t c e r)

  take_block : {d : ℕ} {ls : List Label} {ms : List Member} {i j o q u : ℕ} → NextIs ts false k.Identifier i → IsLabels ts ls (after_next ts false i) j → NextIs ts false k.OpenBrace j
      → Spans ts (after_next ts false j) o → NextIs ts false k.CloseBrace o → IsEol ts (after_next ts false o) q → IsMembers ts d ms q u → Takes ts i u
  take_block p ns b s c l r =
      ahead (step ts false k.Identifier _ p) (both (span_labels ns) (both (loose (step ts false k.OpenBrace _ b)) (both s (both (loose (step ts false k.CloseBrace _ c)) (both (span_eol l) (span_members r))))))

  -- ---- bodies

  restart_line : {i j : ℕ} → IsNewline ts i j → (n : ℕ) → next_index ts false i ≡ next_index ts false n → IsNewline ts n j
  restart_line (line_end {i} p) n h = rw (following ts false i n h) (line_end (moved ts false k.LineEnd i n h p))
  restart_line (comment {i} p q) n h = let a = following ts false i n h in rw a (comment (moved ts false k.LineComment i n h p) (subst (λ z. NextIs ts false k.LineEnd z) a q))

  newline_has_next : {i j : ℕ} → IsNewline ts i j → HasNextToken ts false i
  newline_has_next (line_end {i} p) = has_next_token ts false k.LineEnd i p
  newline_has_next (comment {i} p q) = has_next_token ts false k.LineComment i p

  first_from : {d : ℕ} {ms : List Member} {i j : ℕ} → i < j → IsMembers ts d ms (next_index ts false i) j → IsMembers ts d ms (first_token_in ts false i j) j
  first_from {d} {ms} {i} {j} l w = subst (λ n. IsMembers ts d ms n j) (sym (filled ts false i j l)) w

  pub own_members : {d : ℕ} {ms : List Member} {i j : ℕ} → IsMembers ts d ms i j → IsMembers ts d ms (first_token_in ts false i j) j
  own_members (no_members {i}) = rw (empty ts false i) no_members
  own_members (blank {i} l r) = let t = ahead (span_line l) (span_members r) in first_from t.forth (blank (restart_line l (next_index ts false i) (same (newline_has_next l))) r)
  own_members (attribute {i} p q y s r) =
      let t = ahead (step ts false k.Identifier i p) (both (loose (step ts false k.Equal _ q)) (both (span_expr y) (both (span_eol s) (span_members r)))) in
      first_from t.forth (attribute_from i (next_index ts false i) (same (has_next_token ts false k.Identifier i p)) p q y s r)
  own_members (block {i} p ns b s ms c l r) =
      let t = take_block p ns b (both (loose (span_line s)) (span_members ms)) c l r in
      first_from t.forth (block_from i (next_index ts false i) (same (has_next_token ts false k.Identifier i p)) p ns b s ms c l r)
  own_members (line_block {i} p ns b t c l r) =
      let s = take_block p ns b (span_on_line t) c l r in
      first_from s.forth (line_block_from i (next_index ts false i) (same (has_next_token ts false k.Identifier i p)) p ns b t c l r)
