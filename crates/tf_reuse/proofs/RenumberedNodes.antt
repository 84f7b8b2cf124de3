-- Two trees that differ in the numbers of tokens alone: R relates a place of the one with that of the other, and T a token of the one with that of the
-- other. A node whose tokens go from number i up to number j has at least one, so that token i is one of them.
use Rattle.std.specs.Prelude.{ℕ, ◌<◌, Bool, List, [], ◌∷◌, Option, Some, None}
use Rattle.hcl_grammar.specs.declared.tree.Attribute.{Attribute}
use Rattle.hcl_grammar.specs.declared.tree.Content.{Content}
use Rattle.hcl_grammar.specs.declared.tree.Content.TheVariants as content
use Rattle.hcl_grammar.specs.declared.tree.Elem.{Elem}
use Rattle.hcl_grammar.specs.declared.tree.Expr.{Expr}
use Rattle.hcl_grammar.specs.declared.tree.ExprKind.{ExprKind}
use Rattle.hcl_grammar.specs.declared.tree.ExprKind.TheVariants as form
use Rattle.hcl_grammar.specs.declared.tree.Intro.{Intro}
use Rattle.hcl_grammar.specs.declared.tree.Label.{Label}
use Rattle.hcl_grammar.specs.declared.tree.Operation.{Operation}
use Rattle.hcl_grammar.specs.declared.tree.Member.{Member}
use Rattle.hcl_grammar.specs.declared.tree.Member.TheVariants as member
use Rattle.hcl_grammar.specs.declared.tree.BinaryOperator.{BinaryOperator}
use Rattle.hcl_grammar.specs.declared.tree.Part.{Part}
use Rattle.hcl_grammar.specs.declared.tree.Part.TheVariants as part
use Rattle.hcl_grammar.specs.declared.tree.UnaryOperator.{UnaryOperator}
use Rattle.hcl_grammar.specs.declared.tree.Primary.{Primary}
use Rattle.hcl_grammar.specs.declared.tree.Primary.TheVariants as shape
use Rattle.hcl_grammar.specs.declared.tree.Tail.{Tail}
use Rattle.hcl_grammar.specs.declared.tree.Tail.TheVariants as tail
use Rattle.hcl_grammar.specs.declared.tree.Template.{Template}
use Rattle.hcl_grammar.specs.declared.tree.Term.{Term}
use Rattle.hcl_grammar.specs.Nodes as node

module _ (R T : ℕ → ℕ → Type 0) where
  pub data MovedNumbers : List ℕ → List ℕ → Type 0 where
    no_numbers : MovedNumbers [] []
    numbers : {n n' : ℕ} {ns ns' : List ℕ} → T n n' → MovedNumbers ns ns' → MovedNumbers (n ∷ ns) (n' ∷ ns')

  pub data MovedNumber : Option ℕ → Option ℕ → Type 0 where
    no_number : MovedNumber None None
    one_number : {n n' : ℕ} → T n n' → MovedNumber (Some n) (Some n')

  mutual
    pub data MovedExpr : Expr → Expr → Type 0 where
      moved_expr : {i i' j j' : ℕ} {x x' : ExprKind} → R i i' → R j j' → i < j → MovedForm x x' → MovedExpr (node.expr i j x) (node.expr i' j' x')

    pub data MovedForm : ExprKind → ExprKind → Type 0 where
      conditional : {c c' a a' b b' : Expr} → MovedExpr c c' → MovedExpr a a' → MovedExpr b b' → MovedForm (form.Conditional c a b) (form.Conditional c' a' b')
      chain : {h h' : Expr} {ls ls' : List Operation} → MovedExpr h h' → MovedLinks ls ls' → MovedForm (form.Binary h ls) (form.Binary h' ls')
      prefixed : (op : UnaryOperator) {e e' : Expr} → MovedExpr e e' → MovedForm (form.Unary op e) (form.Unary op e')
      tailed : {t t' : Term} {xs xs' : List Tail} → MovedTerm t t' → MovedTails xs xs' → MovedForm (form.Postfix t xs) (form.Postfix t' xs')
      plain : {t t' : Term} → MovedTerm t t' → MovedForm (form.Term t) (form.Term t')

    pub data MovedLinks : List Operation → List Operation → Type 0 where
      no_links : MovedLinks [] []
      links : (op : BinaryOperator) {e e' : Expr} {ls ls' : List Operation} → MovedExpr e e' → MovedLinks ls ls' → MovedLinks (node.operation op e ∷ ls) (node.operation op e' ∷ ls')

    pub data MovedTails : List Tail → List Tail → Type 0 where
      no_tails : MovedTails [] []
      tails : {x x' : Tail} {xs xs' : List Tail} → MovedTail x x' → MovedTails xs xs' → MovedTails (x ∷ xs) (x' ∷ xs')

    pub data MovedTail : Tail → Tail → Type 0 where
      by_name : {n n' : ℕ} → T n n' → MovedTail (tail.Name n) (tail.Name n')
      legacy : {n n' : ℕ} → T n n' → MovedTail (tail.LegacyIndex n) (tail.LegacyIndex n')
      attribute_splat : MovedTail tail.AttributeSplat tail.AttributeSplat
      full_splat : MovedTail tail.FullSplat tail.FullSplat
      index : {e e' : Expr} → MovedExpr e e' → MovedTail (tail.Index e) (tail.Index e')

    pub data MovedTerm : Term → Term → Type 0 where
      moved_term : {i i' j j' : ℕ} {x x' : Primary} → R i i' → R j j' → i < j → MovedShape x x' → MovedTerm (node.term i j x) (node.term i' j' x')

    pub data MovedShape : Primary → Primary → Type 0 where
      number : MovedShape shape.Number shape.Number
      identifier : MovedShape shape.Identifier shape.Identifier
      call : (spread : Bool) {ns ns' : List ℕ} {es es' : List Expr} → MovedNumbers ns ns' → MovedExprs es es' → MovedShape (node.call ns es spread) (node.call ns' es' spread)
      tuple : {es es' : List Expr} → MovedExprs es es' → MovedShape (shape.Tuple es) (shape.Tuple es')
      object : {xs xs' : List Elem} → MovedElems xs xs' → MovedShape (shape.Object xs) (shape.Object xs')
      for_tuple : {x x' : Intro} {v v' : Expr} {o o' : Option Expr} → MovedIntro x x' → MovedExpr v v' → MovedFilter o o' → MovedShape (node.for_tuple x v o) (node.for_tuple x' v' o')
      for_object : (grouped : Bool) {x x' : Intro} {key key' v v' : Expr} {o o' : Option Expr} → MovedIntro x x' → MovedExpr key key' → MovedExpr v v' → MovedFilter o o'
          → MovedShape (node.for_object x key v grouped o) (node.for_object x' key' v' grouped o')
      quoted : {t t' : Template} → MovedTemplate t t' → MovedShape (shape.Quoted t) (shape.Quoted t')
      heredoc : {t t' : Template} → MovedTemplate t t' → MovedShape (shape.Heredoc t) (shape.Heredoc t')
      parens : {e e' : Expr} → MovedExpr e e' → MovedShape (shape.Parens e) (shape.Parens e')

    pub data MovedExprs : List Expr → List Expr → Type 0 where
      no_exprs : MovedExprs [] []
      exprs : {e e' : Expr} {es es' : List Expr} → MovedExpr e e' → MovedExprs es es' → MovedExprs (e ∷ es) (e' ∷ es')

    pub data MovedElems : List Elem → List Elem → Type 0 where
      no_elems : MovedElems [] []
      elems : {key key' v v' : Expr} {xs xs' : List Elem} → MovedExpr key key' → MovedExpr v v' → MovedElems xs xs' → MovedElems (node.elem key v ∷ xs) (node.elem key' v' ∷ xs')

    pub data MovedIntro : Intro → Intro → Type 0 where
      intro : {i i' j j' n n' : ℕ} {o o' : Option ℕ} {e e' : Expr} → R i i' → R j j' → T n n' → MovedNumber o o' → MovedExpr e e' → MovedIntro (node.intro i j n o e) (node.intro i' j' n' o' e')

    pub data MovedFilter : Option Expr → Option Expr → Type 0 where
      no_filter : MovedFilter None None
      filter : {e e' : Expr} → MovedExpr e e' → MovedFilter (Some e) (Some e')

    pub data MovedTemplate : Template → Template → Type 0 where
      template : {i i' j j' : ℕ} {xs xs' : List Part} → R i i' → R j j' → MovedParts xs xs' → MovedTemplate (node.template i j xs) (node.template i' j' xs')

    pub data MovedParts : List Part → List Part → Type 0 where
      no_parts : MovedParts [] []
      parts : {x x' : Part} {xs xs' : List Part} → MovedPart x x' → MovedParts xs xs' → MovedParts (x ∷ xs) (x' ∷ xs')

    pub data MovedPart : Part → Part → Type 0 where
      literal : {n n' : ℕ} → T n n' → MovedPart (part.Literal n) (part.Literal n')
      interp : {e e' : Expr} → MovedExpr e e' → MovedPart (part.Interp e) (part.Interp e')
      if_directive : {i i' j j' : ℕ} {c c' : Expr} {t t' : Template} {o o' : Option Template} → R i i' → R j j' → MovedExpr c c' → MovedTemplate t t' → MovedElse o o'
          → MovedPart (node.if_part i j c t o) (node.if_part i' j' c' t' o')
      for_directive : {i i' j j' : ℕ} {x x' : Intro} {t t' : Template} → R i i' → R j j' → MovedIntro x x' → MovedTemplate t t' → MovedPart (node.for_part i j x t) (node.for_part i' j' x' t')

    pub data MovedElse : Option Template → Option Template → Type 0 where
      no_else : MovedElse None None
      has_else : {t t' : Template} → MovedTemplate t t' → MovedElse (Some t) (Some t')

  pub data MovedLabels : List Label → List Label → Type 0 where
    no_labels : MovedLabels [] []
    labels : {i i' j j' : ℕ} {o o' : Option ℕ} {ls ls' : List Label} → R i i' → R j j' → i < j → MovedNumber o o' → MovedLabels ls ls' → MovedLabels (node.label i j o ∷ ls) (node.label i' j' o' ∷ ls')

  pub data MovedOnLine : Option Attribute → Option Attribute → Type 0 where
    nothing : MovedOnLine None None
    one : {i i' j j' : ℕ} {e e' : Expr} → R i i' → R j j' → i < j → MovedExpr e e' → MovedOnLine (Some (node.attribute i j e)) (Some (node.attribute i' j' e'))

  mutual
    pub data MovedMember : Member → Member → Type 0 where
      attribute : {i i' j j' : ℕ} {e e' : Expr} → R i i' → R j j' → i < j → MovedExpr e e' → MovedMember (member.Attribute (node.attribute i j e)) (member.Attribute (node.attribute i' j' e'))
      block : {i i' j j' : ℕ} {ls ls' : List Label} {x x' : Content} → R i i' → R j j' → i < j → MovedLabels ls ls' → MovedContent x x' → MovedMember (node.block i j ls x) (node.block i' j' ls' x')

    pub data MovedContent : Content → Content → Type 0 where
      body : {i i' j j' : ℕ} {ms ms' : List Member} → R i i' → R j j' → MovedMembers ms ms' → MovedContent (content.Body (node.body i j ms)) (content.Body (node.body i' j' ms'))
      on_line : {o o' : Option Attribute} → MovedOnLine o o' → MovedContent (content.OneLine o) (content.OneLine o')

    pub data MovedMembers : List Member → List Member → Type 0 where
      no_members : MovedMembers [] []
      members : {m m' : Member} {ms ms' : List Member} → MovedMember m m' → MovedMembers ms ms' → MovedMembers (m ∷ ms) (m' ∷ ms')
