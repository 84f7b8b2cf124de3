-- What is derived from some tokens is derived from those from its `first` up to its `past`.
use Rattle.std.proofs.Common.{◌≡◌, ℕ, zero, suc, ◌+◌, Bool, false, List, [], ◌∷◌, Option, refl, sym, subst, arith}
use Rattle.std.specs.List.{AllByRecursion}
use Rattle.hcl_token.specs.declared.kind.Kind.TheVariants as k
use Rattle.hcl_grammar.specs.declared.tree.Attribute.{Attribute}
use Rattle.hcl_grammar.specs.declared.tree.Block.{Block}
use Rattle.hcl_grammar.specs.declared.tree.Content.{out-Content}
use Rattle.hcl_grammar.specs.declared.tree.Content.TheOpen.{Content-F}
use Rattle.hcl_grammar.specs.declared.tree.Expr.{Expr}
use Rattle.hcl_grammar.specs.declared.tree.ForDirective.{ForDirective}
use Rattle.hcl_grammar.specs.declared.tree.IfDirective.{IfDirective, out-IfDirective}
use Rattle.hcl_grammar.specs.declared.tree.Intro.{Intro}
use Rattle.hcl_grammar.specs.declared.tree.Label.{Label}
use Rattle.hcl_grammar.specs.declared.tree.Member.{Member, out-Member}
use Rattle.hcl_grammar.specs.declared.tree.Member.TheVariants as member_of
use Rattle.hcl_grammar.specs.declared.tree.Part.{Part, out-Part}
use Rattle.hcl_grammar.specs.declared.tree.Part.TheVariants as part_of
use Rattle.hcl_grammar.specs.declared.tree.Primary.{out-Primary}
use Rattle.hcl_grammar.specs.declared.tree.Tail.{Tail}
use Rattle.hcl_grammar.specs.declared.tree.Template.{Template}
use Rattle.hcl_grammar.specs.declared.tree.Term.{Term}
use Rattle.hcl_grammar.specs.Bodies.{IsLabels, no_labels, word_label, text_label, empty_label, IsOneLineBody, nothing, one as just, IsMembers, no_members, blank, attribute, block, line_block}
use Rattle.hcl_grammar.specs.Grammar.{IsExpr, plain, IsLevel, level, no_operations, IsTail, IsTerm, number, identifier, call, tuple, object, for_tuple, for_object, quoted, heredoc, parens, IsIntro, IsParts, IsPart, quote_text, here_text, interp, if_directive, for_directive, IsElse, no_else, has_else}
use Rattle.hcl_grammar.specs.Nodes as node
use Rattle.hcl_grammar.specs.Operators.{levels}
use Rattle.hcl_grammar.specs.Tokens.{Token, first_token_in}
use Rattle.hcl_grammar_laws.proofs.Opens.{open_number, open_identifier, open_call, open_tuple, open_object, open_for_tuple, open_for_object, open_quoted, open_heredoc, open_parens, open_literal, open_interp, open_if, open_for, open_lines, open_line, open_attribute, open_block, for_tuple_intro, for_object_intro, if_directive_first, if_directive_past, if_directive_met, if_directive_unmet}
use Rattle.hcl_grammar_laws.proofs.Restart.{own_expr, own_term, start-at}
use Rattle.hcl_grammar_laws.proofs.RestartBodies.{own_intro, own_part, own_parts, own_members, word_alone, text_alone, empty_alone, on_line_alone, attribute_from, block_from, line_block_from}
use Rattle.tf_rules.specs.declared.role.Role.{Role}
use Rattle.tf_rules.specs.Preorder.{expr, term, tail, part, member}
use Rattle.tf_rules_laws.specs.NodeSpans.{DerivesBody, DerivesLabel, DerivesIntro, DerivesTemplate, DerivesElse, DerivesContent, DerivesPrimary, DerivesPart, DerivesMember, Derives}

module _ {ts : List Token} where
  -- ---- expressions

  -- what is on a level is an expression
  lift : {d : ℕ} {m : Bool} {l : ℕ} {x : Expr} {i j : ℕ} (k : ℕ) → k + l ≡ levels → IsLevel ts d m l x i j → IsExpr ts d m x i j
  lift {d} {m} {l} {x} {i} {j} zero e w = let top : l ≡ levels = omega (arith, e) in plain (subst (λ z. IsLevel ts d m z x i j) top w)
  lift (suc k) e w = lift k (omega (arith, e)) (level w no_operations)

  pub expr_derived : {d : ℕ} {m : Bool} {x : Expr} {i j : ℕ} (role : Role) → IsExpr ts d m x i j → Derives ts (expr role x)
  expr_derived {d} {m} role w = (d, m, own_expr w)

  pub level_derived : {d : ℕ} {m : Bool} {l : ℕ} {x : Expr} {i j : ℕ} (role : Role) (k : ℕ) → k + l ≡ levels → IsLevel ts d m l x i j → Derives ts (expr role x)
  level_derived role k e w = expr_derived role (lift k e w)

  pub tail_derived : {d : ℕ} {m : Bool} {x : Tail} {i j : ℕ} (splat : Bool) → IsTail ts d m x i j → Derives ts (tail splat x)
  tail_derived {d} {m} {i = i} {j = j} splat w = (d, m, i, j, w)

  -- ---- terms

  template_derived : {d : ℕ} {m : Bool} {ps : List Part} {i j : ℕ} → IsParts ts d m ps i j → DerivesTemplate ts (node.template (first_token_in ts m i j) j ps)
  unfolding node.template
  template_derived {d} {m} w = (d, m, own_parts w)

  intro_derived : {d : ℕ} {x : Intro} {i j : ℕ} → IsIntro ts d x i j → DerivesIntro ts x
  intro_derived {d} w = (d, own_intro w)

  primary_derived : {d : ℕ} {m : Bool} {x : Term} {i j : ℕ} → IsTerm ts d m x i j → DerivesPrimary ts (out-Primary x.kind)
  unfolding node.term node.call node.for_tuple node.for_object
  primary_derived (number p) = simp (open_number) tt
  primary_derived (identifier p q r) = simp (open_identifier) tt
  primary_derived (call p ns q xs) = simp (open_call) tt
  primary_derived (tuple p w xs) = simp (open_tuple) tt
  primary_derived (object p w l es) = simp (open_object) tt
  primary_derived (for_tuple {x} {value} {filter} p y c v f) = simp (open_for_tuple) (subst (DerivesIntro ts) (sym (for_tuple_intro x value filter)) (intro_derived y))
  primary_derived (for_object {x} {key} {value} {grouped} {filter} p y c a w v s f) =
      simp (open_for_object) (subst (DerivesIntro ts) (sym (for_object_intro x key value grouped filter)) (intro_derived y))
  primary_derived (quoted p ps q) = simp (open_quoted) (template_derived ps)
  primary_derived (heredoc p ps q) = simp (open_heredoc) (template_derived ps)
  primary_derived (parens p x q) = simp (open_parens) tt

  pub term_derived : {d : ℕ} {m : Bool} {x : Term} {i j : ℕ} (role : Role) → IsTerm ts d m x i j → Derives ts (term role x)
  term_derived {d} {m} role w = ((d, m, own_term w), primary_derived w)

  -- ---- parts of templates

  else_derived : {d : ℕ} {m : Bool} {o : Option Template} {i j : ℕ} → IsElse ts d m o i j → DerivesElse ts o
  else_derived (no_else e) = tt
  else_derived (has_else q ps e) = template_derived ps

  if_derived : {d : ℕ} {m : Bool} (x : IfDirective) → IsPart ts d m (part_of.If x) (out-IfDirective x).first (out-IfDirective x).past → DerivesTemplate ts (out-IfDirective x).then_branch
      → DerivesElse ts (out-IfDirective x).else_branch → DerivesPart ts (out-Part (part_of.If x))
  if_derived {d} {m} x w t u = subst (DerivesPart ts) (sym (open_if x)) ((d, m, w), t, u)

  for_derived : {d : ℕ} {m : Bool} (x : ForDirective) → IsPart ts d m (part_of.For x) x.first x.past → DerivesIntro ts x.intro → DerivesTemplate ts x.body → DerivesPart ts (out-Part (part_of.For x))
  for_derived {d} {m} x w y t = subst (DerivesPart ts) (sym (open_for x)) ((d, m, w), y, t)

  pub part_derived : {d : ℕ} {m : Bool} {x : Part} {i j : ℕ} → IsPart ts d m x i j → Derives ts (part x)
  unfolding node.if_part node.for_part
  part_derived {d} {m} (quote_text {i} p) = simp (open_literal) (d, m, _, _, quote_text {d = d} p)
  part_derived {d} {m} (here_text {i} p) = simp (open_literal) (d, m, _, _, here_text {d = d} p)
  part_derived {m} (interp {d} p x q) = simp (open_interp) (suc d, m, _, _, interp p x q)
  part_derived {m} (if_directive {d} p w c q ps o) =
      if_derived {d = suc (suc d)} {m = m} _ (rw (if_directive_first _ _ _ _ _, if_directive_past _ _ _ _ _) (own_part (if_directive p w c q ps o))) (subst (DerivesTemplate ts) (sym (if_directive_met _ _ _ _ _)) (template_derived ps)) (subst (DerivesElse ts) (sym (if_directive_unmet _ _ _ _ _)) (else_derived o))
  part_derived (for_directive p y q ps s) = for_derived _ (own_part (for_directive p y q ps s)) (intro_derived y) (template_derived ps)

  -- ---- members

  labels_derived : {ls : List Label} {i j : ℕ} → IsLabels ts ls i j → AllByRecursion (DerivesLabel ts) ls
  unfolding node.label
  labels_derived no_labels = tt
  labels_derived (word_label {i} p r) = (word_alone i _ (start-at ts false i k.Identifier p) p, labels_derived r)
  labels_derived (text_label {i} p q s r) = (text_alone i _ (start-at ts false i k.QuoteOpen p) p q s, labels_derived r)
  labels_derived (empty_label {i} p q r) = (empty_alone i _ (start-at ts false i k.QuoteOpen p) p q, labels_derived r)

  line_derived : {d : ℕ} {o : Option Attribute} {i j : ℕ} → IsOneLineBody ts d o i j → DerivesContent ts (Content-F.OneLine o)
  unfolding node.attribute
  line_derived nothing = tt
  line_derived {d} (just {i} p q y) = (d, on_line_alone i _ (start-at ts false i k.Identifier p) p q y)

  pub body_derived : {d : ℕ} {ms : List Member} {i j : ℕ} → IsMembers ts d ms i j → DerivesBody ts (node.body (first_token_in ts false i j) j ms)
  unfolding node.body
  body_derived {d} w = (d, own_members w)

  attribute_derived : {d : ℕ} (x : Attribute) → IsMembers ts d (member_of.Attribute x ∷ []) x.first x.past → DerivesMember ts (out-Member (member_of.Attribute x))
  attribute_derived {d} x w = subst (DerivesMember ts) (sym (open_attribute x)) (d, w)

  block_derived : {d : ℕ} (x : Block) → IsMembers ts d (member_of.Block x ∷ []) x.first x.past → AllByRecursion (DerivesLabel ts) x.labels → DerivesContent ts (out-Content x.content)
      → DerivesMember ts (out-Member (member_of.Block x))
  block_derived {d} x w ls c = subst (DerivesMember ts) (sym (open_block x)) ((d, w), ls, c)

  pub member_derived : {d : ℕ} {x : Member} {i j : ℕ} → IsMembers ts d (x ∷ []) i j → Derives ts (member x)
  unfolding node.attribute node.block
  member_derived (blank l r) = member_derived r
  member_derived (attribute {i} p q y s r) = attribute_derived _ (attribute_from i _ (start-at ts false i k.Identifier p) p q y s no_members)
  member_derived (block {i} p ns b s ms c l r) = block_derived _ (block_from i _ (start-at ts false i k.Identifier p) p ns b s ms c l no_members) (labels_derived ns) (simp (open_lines) (body_derived ms))
  member_derived (line_block {i} p ns b t c l r) = block_derived _ (line_block_from i _ (start-at ts false i k.Identifier p) p ns b t c l no_members) (labels_derived ns) (simp (open_line) (line_derived t))
