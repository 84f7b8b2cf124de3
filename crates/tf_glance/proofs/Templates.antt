-- Templates: of a literal, an interpolation and directives, and texts by their parts.
use Rattle.std.proofs.Common.{◌≡◌, ℕ, not, ◌&&◌, Bool, true, false, List, [], ◌∷◌, ◌++◌, map, Option, Some, None, inl, refl, sym, ap, subst, ◌∙◌}
use Rattle.hcl_grammar.specs.Nodes as node
use Rattle.hcl_grammar.specs.TreeLayers.{PartLayer}
use Rattle.hcl_grammar.specs.declared.tree.Expr.{Expr}
use Rattle.hcl_grammar.specs.declared.tree.ExprKind.TheOpen.{Part-F}
use Rattle.hcl_grammar.specs.declared.tree.Intro.{Intro}
use Rattle.hcl_grammar.specs.declared.tree.Part.{Part, out-Part}
use Rattle.hcl_grammar.specs.declared.tree.Part.TheVariants as part_kind
use Rattle.hcl_grammar.specs.declared.tree.Primary.TheVariants as shape
use Rattle.hcl_grammar.specs.declared.tree.Template.{Template}
use Rattle.hcl_grammar_laws.proofs.Opens.{open_literal, open_interp, open_if, open_for, open_quoted, open_heredoc, if_directive_condition, if_directive_met, if_directive_unmet}
use Rattle.hcl_parse.specs.Alike.{InSome}
use Rattle.hcl_token.specs.Tokens.{Pair}
use Rattle.tf_glance.proofs.Expressions.{left, right, refuted, clean_if, TermOf, ExprOf, IntroOf, known_term, inner_term}
use Rattle.tf_glance.proofs.Free.{IsFree, free, AreFree, none, more, one, both}
use Rattle.tf_glance.specs.Inner.Summary as summary
use Rattle.tf_glance.specs.Inner.Summary.{is_clean_pieces_option, plain_if, add_piece}
use Rattle.tf_glance.specs.declared.summary.Piece.{Piece}
use Rattle.tf_glance.specs.declared.summary.Piece.TheVariants as piece
use Rattle.tf_rules.specs.Preorder.{part, part_children, else_children}
use Rattle.tf_rules.specs.Rules.{may_find_at_quoted}
use Rattle.tf_rules.specs.Summaries.{is_clean, is_clean_pieces, part_pieces, pieces_of, text_value}
use Rattle.tf_rules.specs.declared.role.Role.TheVariants.{Interpolation, Elsewhere}
use Rattle.tf_rules.specs.declared.summary.Pieces.{Pieces}
use Rattle.tf_rules.specs.declared.summary.Pieces.TheVariants as pieces
use Rattle.tf_rules.specs.declared.summary.Value.{Value}
use Rattle.tf_rules_laws.proofs.Nothing as empty
use Rattle.tf_rules_laws.proofs.Rules.{none_at_quoted}

still_mixed : (p : Piece) → is_clean_pieces (add_piece pieces.Empty p) ≡ true → add_piece pieces.Mixed p ≡ pieces.Mixed
still_mixed piece.Suspect c = absurd (cc)
still_mixed _ c = refl

mixed : (l : PartLayer) (p : Piece) → is_clean_pieces (add_piece pieces.Empty p) ≡ true → add_piece (part_pieces l) p ≡ pieces.Mixed
mixed (Part-F.Interp e) piece.Suspect c = absurd (cc)
mixed (Part-F.Interp e) _ c = refl
mixed _ p c = still_mixed p c

-- the parts with one more
more_pieces : (ps : List Part) (p : Piece) (x : Part) → is_clean_pieces (add_piece pieces.Empty p) ≡ true → add_piece pieces.Empty p ≡ part_pieces (out-Part x) → add_piece (pieces_of ps) p ≡ pieces_of (ps ++ x ∷ [])
more_pieces [] p x c e = e
more_pieces (y ∷ []) p x c e = mixed (out-Part y) p c
more_pieces (y ∷ z ∷ ps) p x c e = still_mixed p c

both_clean : (q : Pieces) (p : Piece) → is_clean_pieces (add_piece q p) ≡ true → (is_clean_pieces q ≡ true) × (is_clean_pieces (add_piece pieces.Empty p) ≡ true)
both_clean pieces.Suspect p c = absurd (cc)
both_clean pieces.Empty p c = (refl, c)
both_clean pieces.Sole piece.Suspect c = absurd (cc)
both_clean pieces.Mixed piece.Suspect c = absurd (cc)
both_clean _ _ c = (refl, refl)

module _ (pairs : List Pair) where
  part_free : (x : Part) → AreFree pairs (part_children (out-Part x)) → IsFree pairs (part x)
  part_free x h = free _ (λ rules. empty.none) h

  abbrev pub PartOf : Piece → Part → Type 0
  PartOf p x = is_clean_pieces (add_piece pieces.Empty p) ≡ true → IsFree pairs (part x) × (add_piece pieces.Empty p ≡ part_pieces (out-Part x))

  abbrev FreeParts : List Part → Type 0
  FreeParts ps = AreFree pairs (map part ps)

  abbrev pub PartsOf : Pieces → List Part → Type 0
  PartsOf q ps = is_clean_pieces q ≡ true → (q ≡ pieces_of ps) × FreeParts ps

  abbrev pub TemplateOf : Pieces → Template → Type 0
  TemplateOf q t = PartsOf q t.parts

  parts_more : (ps : List Part) (x : Part) → FreeParts ps → IsFree pairs (part x) → FreeParts (ps ++ x ∷ [])
  parts_more [] x h f = one _ f
  parts_more (y ∷ ps) x (more _ _ g a) f = more _ _ g (parts_more ps x a f)

  pub parts : (q : Pieces) (ps : List Part) (p : Piece) (x : Part) → PartsOf q ps → PartOf p x → PartsOf (add_piece q p) (ps ++ x ∷ [])
  parts q ps p x h g = λ w.
      let c = both_clean q p w in
      let before = h c.0 in
      let last = g c.1 in
      (ap (λ (r : Pieces). add_piece r p) before.0 ∙ more_pieces ps p x c.1 last.1, parts_more ps x before.1 last.0)

  pub template : (i j : ℕ) (q : Pieces) (ps : List Part) → PartsOf q ps → TemplateOf q (node.template i j ps)
  unfolding node.template
  template i j q ps h = h

  pub literal : (n : ℕ) → PartOf piece.Other (part_kind.Literal n)
  literal n = λ w. (part_free (part_kind.Literal n) (rw (open_literal n) none), rw (open_literal n) refl)

  pub interpolation : (q : Value) (e : Expr) → ExprOf pairs q e → PartOf (summary.interpolation (is_clean q)) (part_kind.Interp e)
  interpolation q e h = by (is_clean q) refl
    where
      by : (b : Bool) → is_clean q ≡ b → PartOf (summary.interpolation b) (part_kind.Interp e)
      by true w = λ c. (part_free (part_kind.Interp e) (rw (open_interp e) (one _ ((h w).0 Interpolation))), rw (open_interp e) refl)
      by false w = λ c. absurd (cc)

  directive : (b : Bool) (x : Part) → (b ≡ true → IsFree pairs (part x) × (pieces.Mixed ≡ part_pieces (out-Part x))) → PartOf (summary.directive b) x
  directive true x h = λ w. h refl
  directive false x h = λ w. absurd (cc)

  else_free : (o : Option Pieces) (t : Option Template) → InSome TemplateOf o t → is_clean_pieces_option o ≡ true → AreFree pairs (else_children t)
  else_free None None h w = none
  else_free (Some q) (Some t) h w = (h w).1
  else_free None (Some t) h w = absurd h
  else_free (Some q) None h w = absurd h

  pub if_directive : (i j : ℕ) (q : Value) (e : Expr) (p : Pieces) (t : Template) (o : Option Pieces) (s : Option Template) → ExprOf pairs q e → TemplateOf p t → InSome TemplateOf o s
      → PartOf (summary.directive (is_clean q && (is_clean_pieces p && is_clean_pieces_option o))) (node.if_part i j e t s)
  unfolding node.if_part
  if_directive i j q e p t o s f g h = directive (is_clean q && (is_clean_pieces p && is_clean_pieces_option o)) (node.if_part i j e t s) (λ w.
      let two = right (is_clean q) _ w in (
        part_free (node.if_part i j e t s) (rw (open_if _, if_directive_condition i j e t s, if_directive_met i j e t s, if_directive_unmet i j e t s) (more _ _ ((f (left (is_clean q) _ w)).0 Elsewhere) (both (g (left (is_clean_pieces p) _ two)).1 (else_free o s h (right (is_clean_pieces p) _ two))))),
        rw (open_if _) refl,
      ))

  pub for_directive : (i j : ℕ) (b : Bool) (x : Intro) (p : Pieces) (t : Template) → IntroOf pairs b x → TemplateOf p t → PartOf (summary.directive (b && is_clean_pieces p)) (node.for_part i j x t)
  unfolding node.for_part
  for_directive i j b x p t f g = directive (b && is_clean_pieces p) (node.for_part i j x t) (λ w. (
    part_free (node.for_part i j x t) (rw (open_for _) (more _ _ (f (left b _ w)) (g (right b _ w)).1)),
    rw (open_for _) refl,
  ))

  -- ---- texts

  pub quoted : (i j : ℕ) (q : Pieces) (t : Template) → TemplateOf q t → TermOf pairs (summary.quoted q) (node.term i j (shape.Quoted t))
  unfolding node.term
  quoted i j q t h = λ w.
      let c = (clean_if (is_clean_pieces q && not (may_find_at_quoted q)) (text_value q) w).0 in
      let known = h (left (is_clean_pieces q) _ c) in
      let none = subst (λ (r : Pieces). may_find_at_quoted r ≡ false) known.0 (refuted _ (right (is_clean_pieces q) _ c)) in
      rw c (known_term pairs (text_value q) i j (shape.Quoted t) _ (open_quoted t) (inl (ap text_value (sym known.0))) (λ rules role. none_at_quoted rules pairs role i j t none) known.1)

  pub heredoc : (i j : ℕ) (q : Pieces) (t : Template) → TemplateOf q t → TermOf pairs (plain_if (is_clean_pieces q)) (node.term i j (shape.Heredoc t))
  heredoc i j q t h = inner_term pairs (is_clean_pieces q) i j (shape.Heredoc t) _ (open_heredoc t) refl (λ rules role. empty.none) (λ w. (h w).1)
