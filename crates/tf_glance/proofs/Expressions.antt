-- Summaries of expressions, terms and tails.
use Rattle.std.proofs.Common.{◌≡◌, ◌⊎◌, ℕ, not, ◌&&◌, Bool, true, false, if◌then◌else◌, List, [], ◌∷◌, ◌++◌, map, Option, Some, None, inl, inr, refl, sym, ap, subst, ◌∙◌}
use Rattle.std.specs.List.{flat_map}
use Rattle.hcl_grammar.specs.Nodes as node
use Rattle.hcl_grammar.specs.TreeLayers.{ExprKindLayer, PrimaryLayer, TailLayer}
use Rattle.hcl_grammar.specs.declared.tree.Elem.{Elem}
use Rattle.hcl_grammar.specs.declared.tree.Expr.{Expr}
use Rattle.hcl_grammar.specs.declared.tree.ExprKind.{ExprKind, out-ExprKind}
use Rattle.hcl_grammar.specs.declared.tree.ExprKind.TheOpen.{ExprKind-F, Primary-F}
use Rattle.hcl_grammar.specs.declared.tree.ExprKind.TheVariants as form
use Rattle.hcl_grammar.specs.declared.tree.Intro.{Intro}
use Rattle.hcl_grammar.specs.declared.tree.Part.{Part}
use Rattle.hcl_grammar.specs.declared.tree.Primary.{Primary, out-Primary}
use Rattle.hcl_grammar.specs.declared.tree.Primary.TheVariants as shape
use Rattle.hcl_grammar.specs.declared.tree.Tail.{Tail, out-Tail}
use Rattle.hcl_grammar.specs.declared.tree.Term.{Term}
use Rattle.hcl_grammar_laws.proofs.Opens.{open_tailed, open_plain, for_tuple_intro, for_tuple_value, for_tuple_filter, for_object_intro, for_object_key, for_object_value, for_object_filter, open_for_tuple, open_for_object, open_tuple}
use Rattle.hcl_parse.specs.Alike.{InSome}
use Rattle.hcl_token.specs.Tokens.{Pair}
use Rattle.tf_glance.proofs.Free.{IsFree, free, AreFree, none, more, one}
use Rattle.tf_glance.specs.Inner.Summary as summary
use Rattle.tf_glance.specs.Inner.Summary.{is_clean_option, is_clean_description, plain_if, add_one, next_count}
use Rattle.tf_rules.specs.Attributes.{has_no_parts, is_empty_string, is_empty_string_kind, is_empty_string_primary}
use Rattle.tf_rules.specs.Preorder.{expr, term, tail, nodes_of_tails, splat_after, expr_kind_children, primary_children, tail_children, filter_children, elem_children}
use Rattle.tf_rules.specs.Rules.{expr_findings, term_findings, tail_findings}
use Rattle.tf_rules.specs.Summaries.{is_clean, is_clean_count, count_of, pieces_of, text_value, primary_value, kind_value, value_of}
use Rattle.tf_rules.specs.declared.role.Role.{Role}
use Rattle.tf_rules.specs.declared.role.Role.TheVariants.{Element, ObjectKey, ObjectValue, Elsewhere}
use Rattle.tf_rules.specs.declared.rule_set.RuleSet.{RuleSet}
use Rattle.tf_rules.specs.declared.summary.Count.{Count}
use Rattle.tf_rules.specs.declared.summary.Count.TheVariants as count
use Rattle.tf_rules.specs.declared.summary.Value.{Value}
use Rattle.tf_rules.specs.declared.summary.Value.TheVariants as value
use Rattle.tf_rules_laws.proofs.Nothing as empty
use Rattle.tf_rules_laws.proofs.Nothing.{Nothing}

-- ---- tests

pub left : (a b : Bool) → (a && b) ≡ true → a ≡ true
left true b h = refl
left false b h = absurd (cc)

pub right : (a b : Bool) → (a && b) ≡ true → b ≡ true
right true b h = h
right false b h = absurd (cc)

pub refuted : (b : Bool) → not b ≡ true → b ≡ false
refuted true h = absurd (cc)
refuted false h = refl

pub clean_plain : (b : Bool) → is_clean (plain_if b) ≡ true → b ≡ true
clean_plain true w = refl
clean_plain false w = absurd (cc)

-- a value that is suspect unless a test holds
pub clean_if : (b : Bool) (v : Value) → is_clean (if b then v else value.Suspect) ≡ true → (b ≡ true) × (is_clean v ≡ true)
clean_if true v w = (refl, w)
clean_if false v w = absurd (cc)

-- ---- what a summary says of the value of an expression

abbrev pub Says : Value → Value → Type 0
Says v u = (u ≡ v) ⊎ (u ≡ value.Plain)

-- where a test holds of the summary, and of what is neither `[]` nor `""`, it holds of the value
pub holds : (test : Value → Bool) (b : Bool) (v u : Value) → Says v u → test value.Plain ≡ b → test v ≡ b → test u ≡ b
holds test b v u (inl e) p h = ap test e ∙ h
holds test b v u (inr e) p h = ap test e ∙ p

no_text_parts : (ps : List Part) → is_clean_description (text_value (pieces_of ps)) ≡ true → has_no_parts ps ≡ false
no_text_parts [] h = absurd (cc)
no_text_parts (x ∷ ps) h = refl

no_text_primary : (l : PrimaryLayer) → is_clean_description (primary_value l) ≡ true → is_empty_string_primary l ≡ false
no_text_primary (Primary-F.Quoted t) h = no_text_parts t.parts h
no_text_primary _ h = refl

no_text : (l : ExprKindLayer) → is_clean_description (kind_value l) ≡ true → is_empty_string_kind l ≡ false
no_text (ExprKind-F.Term t) h = no_text_primary (out-Primary t.kind) h
no_text _ h = refl

-- ---- how many there are

-- a list of which this is known, if no rule finds anything in it
abbrev pub Listed : {A : Type 0} → (List A → Type 0) → Count → List A → Type 0
Listed P n xs = is_clean_count n ≡ true → (n ≡ count_of xs) × P xs

count_more : {A : Type 0} (xs : List A) (x : A) → next_count (count_of xs) ≡ count_of (xs ++ x ∷ [])
count_more [] x = refl
count_more (a ∷ []) x = refl
count_more (a ∷ b ∷ []) x = refl
count_more (a ∷ b ∷ c ∷ xs) x = refl

one_more : (n : Count) (b : Bool) → is_clean_count (add_one n b) ≡ true → (is_clean_count n ≡ true) × (b ≡ true)
one_more count.Suspect true h = absurd (cc)
one_more _ true h = (refl, refl)
one_more _ false h = absurd (cc)

pub listed_more : {A : Type 0} (P : List A → Type 0) (n : Count) (b : Bool) (xs : List A) (x : A) → Listed P n xs → (n ≡ count_of xs → P xs → b ≡ true → P (xs ++ x ∷ [])) → Listed P (add_one n b) (xs ++ x ∷ [])
listed_more P n true xs x h f = λ w. let known = h (one_more n true w).0 in (ap next_count known.0 ∙ count_more xs x, f known.0 known.1 refl)
listed_more P n false xs x h f = λ w. absurd (cc)

module _ (pairs : List Pair) where
  -- ---- expressions

  abbrev pub FreeExpr : Expr → Type 0
  FreeExpr e = (role : Role) → IsFree pairs (expr role e)

  abbrev pub ExprOf : Value → Expr → Type 0
  ExprOf v e = is_clean v ≡ true → FreeExpr e × Says v (value_of e)

  pub clean_description : (v : Value) (e : Expr) → ExprOf v e → is_clean v ≡ true → is_clean_description v ≡ true → is_empty_string e ≡ false
  clean_description v e h c w = no_text (out-ExprKind e.kind) (holds is_clean_description true v (value_of e) (h c).1 refl w)

  -- an expression of this form, opened by one level
  pub known_expr : (v : Value) (first past : ℕ) (x : ExprKind) (l : ExprKindLayer) → out-ExprKind x ≡ l → Says v (kind_value l) → ((rules : RuleSet) → Nothing (expr_findings rules pairs first l))
      → ((role : Role) → AreFree pairs (expr_kind_children role l)) → FreeExpr (node.expr first past x) × Says v (value_of (node.expr first past x))
  unfolding node.expr
  known_expr v first past x l e says nothing inside = (λ role. free _ (λ rules. rw e (nothing rules)) (rw e (inside role)), subst (λ (k : ExprKindLayer). Says v (kind_value k)) (sym e) says)

  pub plain_expr : (b : Bool) (first past : ℕ) (x : ExprKind) (l : ExprKindLayer) → out-ExprKind x ≡ l → kind_value l ≡ value.Plain → ((rules : RuleSet) → Nothing (expr_findings rules pairs first l))
      → (b ≡ true → (role : Role) → AreFree pairs (expr_kind_children role l)) → ExprOf (plain_if b) (node.expr first past x)
  plain_expr b first past x l e plain nothing h = λ w. known_expr (plain_if b) first past x l e (inr plain) nothing (h (clean_plain b w))

  -- ---- terms

  abbrev pub FreeTerm : Term → Type 0
  FreeTerm t = (role : Role) → IsFree pairs (term role t)

  abbrev pub TermOf : Value → Term → Type 0
  TermOf v t = is_clean v ≡ true → FreeTerm t × Says v (primary_value (out-Primary t.kind))

  -- a term of this form, opened by one level
  pub known_term : (v : Value) (first past : ℕ) (x : Primary) (l : PrimaryLayer) → out-Primary x ≡ l → Says v (primary_value l)
      → ((rules : RuleSet) (role : Role) → Nothing (term_findings rules pairs role first past l)) → AreFree pairs (primary_children l)
      → FreeTerm (node.term first past x) × Says v (primary_value (out-Primary x))
  unfolding node.term
  known_term v first past x l e says nothing inside = (λ role. free _ (λ rules. rw e (nothing rules role)) (rw e inside), subst (λ (k : PrimaryLayer). Says v (primary_value k)) (sym e) says)

  pub plain_term : (b : Bool) (first past : ℕ) (x : Primary) (l : PrimaryLayer) → out-Primary x ≡ l → primary_value l ≡ value.Plain
      → (b ≡ true → ((rules : RuleSet) (role : Role) → Nothing (term_findings rules pairs role first past l)) × AreFree pairs (primary_children l)) → TermOf (plain_if b) (node.term first past x)
  unfolding node.term
  plain_term b first past x l e plain h = λ w. let known = h (clean_plain b w) in known_term (plain_if b) first past x l e (inr plain) known.0 known.1

  -- a term at which no rule looks
  pub inner_term : (b : Bool) (first past : ℕ) (x : Primary) (l : PrimaryLayer) → out-Primary x ≡ l → primary_value l ≡ value.Plain
      → ((rules : RuleSet) (role : Role) → Nothing (term_findings rules pairs role first past l)) → (b ≡ true → AreFree pairs (primary_children l)) → TermOf (plain_if b) (node.term first past x)
  inner_term b first past x l e plain nothing h = plain_term b first past x l e plain (λ w. (nothing, h w))

  -- ---- tails

  abbrev pub TailOf : Bool → Tail → Type 0
  TailOf q t = q ≡ true → (splat : Bool) → IsFree pairs (tail splat t)

  abbrev pub TailsOf : Bool → List Tail → Type 0
  TailsOf q ts = q ≡ true → (splat : Bool) → AreFree pairs (nodes_of_tails splat ts)

  pub tails_more : (ts : List Tail) (t : Tail) (splat : Bool) → AreFree pairs (nodes_of_tails splat ts) → ((s : Bool) → IsFree pairs (tail s t)) → AreFree pairs (nodes_of_tails splat (ts ++ t ∷ []))
  tails_more [] t splat h f = one _ (f splat)
  tails_more (x ∷ xs) t splat (more _ _ g a) f = more _ _ g (tails_more xs t (splat_after splat (out-Tail x)) a f)

  -- a tail of this form, opened by one level
  pub known_tail : (t : Tail) (l : TailLayer) → out-Tail t ≡ l → ((rules : RuleSet) (splat : Bool) → Nothing (tail_findings rules pairs splat l)) → AreFree pairs (tail_children l) → (splat : Bool) → IsFree pairs (tail splat t)
  known_tail t l e nothing inside splat = free _ (λ rules. rw e (nothing rules splat)) (rw e inside)

  tailed : (i j : ℕ) (v : Value) (t : Term) (ts : List Tail) → FreeTerm t × Says v (primary_value (out-Primary t.kind)) → ((splat : Bool) → AreFree pairs (nodes_of_tails splat ts))
      → FreeExpr (node.postfix i j t ts) × Says v (value_of (node.postfix i j t ts))
  tailed i j v t [] f g = known_expr v i j (form.Term t) _ (open_plain t) f.1 (λ rules. empty.none) (λ role. one _ (f.0 role))
  tailed i j v t (x ∷ xs) f g = known_expr v i j (form.Postfix t (x ∷ xs)) _ (open_tailed t (x ∷ xs)) (inr refl) (λ rules. empty.none) (λ role. more _ _ (f.0 Elsewhere) (g false))

  pub postfix : (i j : ℕ) (v : Value) (t : Term) (b : Bool) (ts : List Tail) → TermOf v t → TailsOf b ts → ExprOf (if b then v else value.Suspect) (node.postfix i j t ts)
  postfix i j v t true ts h g = λ w. tailed i j v t ts (h w) (g refl)
  postfix i j v t false ts h g = λ w. absurd (cc)

  -- ---- lists of expressions

  abbrev FreeExprs : List Expr → Type 0
  FreeExprs es = (role : Role) → AreFree pairs (map (expr role) es)

  abbrev pub ExprsOf : Count → List Expr → Type 0
  ExprsOf = Listed FreeExprs

  exprs_more : (es : List Expr) (e : Expr) (role : Role) → AreFree pairs (map (expr role) es) → IsFree pairs (expr role e) → AreFree pairs (map (expr role) (es ++ e ∷ []))
  exprs_more [] e role h f = one _ f
  exprs_more (x ∷ xs) e role (more _ _ g a) f = more _ _ g (exprs_more xs e role a f)

  pub exprs : (n : Count) (es : List Expr) (q : Value) (e : Expr) → ExprsOf n es → ExprOf q e → ExprsOf (add_one n (is_clean q)) (es ++ e ∷ [])
  exprs n es q e h g = listed_more FreeExprs n (is_clean q) es e h (λ c f w role. exprs_more es e role (f role) ((g w).0 role))

  tuple_says : (n : Count) (es : List Expr) → n ≡ count_of es → Says (summary.tuple n) (primary_value (Primary-F.Tuple es))
  tuple_says n [] e = rw e (inl refl)
  tuple_says n (x ∷ es) e = inr refl

  pub tuple : (i j : ℕ) (n : Count) (es : List Expr) → ExprsOf n es → TermOf (summary.tuple n) (node.term i j (shape.Tuple es))
  unfolding node.term
  tuple i j n es h = λ w.
      let known = h (counted n w) in
      known_term (summary.tuple n) i j (shape.Tuple es) _ (open_tuple es) (tuple_says n es known.0) (λ rules role. empty.none) (known.1 Element)
    where
      counted : (n : Count) → is_clean (summary.tuple n) ≡ true → is_clean_count n ≡ true
      counted count.Suspect w = absurd (cc)
      counted _ w = refl

  -- ---- elements of an object

  abbrev pub ElemsOf : Bool → List Elem → Type 0
  ElemsOf b xs = b ≡ true → AreFree pairs (flat_map elem_children xs)

  elems_more : (xs : List Elem) (key e : Expr) → AreFree pairs (flat_map elem_children xs) → IsFree pairs (expr ObjectKey key) → IsFree pairs (expr ObjectValue e) → AreFree pairs (flat_map elem_children (xs ++ node.elem key e ∷ []))
  unfolding node.elem
  elems_more [] key e h f g = more _ _ f (one _ g)
  elems_more (x ∷ xs) key e (more _ _ a (more _ _ b rest)) f g = more _ _ a (more _ _ b (elems_more xs key e rest f g))

  pub elems : (b : Bool) (xs : List Elem) (k : Value) (key : Expr) (q : Value) (e : Expr) → ElemsOf b xs → ExprOf k key → ExprOf q e → ElemsOf (b && (is_clean k && is_clean q)) (xs ++ node.elem key e ∷ [])
  elems b xs k key q e h f g = λ w.
      let two = right b _ w in
      elems_more xs key e (h (left b _ w)) ((f (left (is_clean k) _ two)).0 ObjectKey) ((g (right (is_clean k) _ two)).0 ObjectValue)

  -- ---- for

  abbrev pub IntroOf : Bool → Intro → Type 0
  IntroOf b x = b ≡ true → IsFree pairs (expr Elsewhere x.collection)

  pub intro : (i j n : ℕ) (o : Option ℕ) (q : Value) (e : Expr) → ExprOf q e → IntroOf (is_clean q) (node.intro i j n o e)
  unfolding node.intro
  intro i j n o q e h = λ w. (h w).0 Elsewhere

  filter_free : (o : Option Value) (c : Option Expr) → InSome ExprOf o c → is_clean_option o ≡ true → AreFree pairs (filter_children c)
  filter_free None None h w = none
  filter_free (Some q) (Some e) h w = one _ ((h w).0 Elsewhere)
  filter_free None (Some e) h w = absurd h
  filter_free (Some q) None h w = absurd h

  pub for_tuple : (i j : ℕ) (b : Bool) (x : Intro) (q : Value) (e : Expr) (o : Option Value) (c : Option Expr) → IntroOf b x → ExprOf q e → InSome ExprOf o c
      → TermOf (plain_if (b && (is_clean q && is_clean_option o))) (node.term i j (node.for_tuple x e c))
  unfolding node.for_tuple
  for_tuple i j b x q e o c f g h = inner_term (b && (is_clean q && is_clean_option o)) i j (node.for_tuple x e c) _ (open_for_tuple _) refl (λ rules role. empty.none) (λ w.
      let two = right b _ w in
      rw (for_tuple_intro x e c, for_tuple_value x e c, for_tuple_filter x e c) (more _ _ (f (left b _ w)) (more _ _ ((g (left (is_clean q) _ two)).0 Elsewhere) (filter_free o c h (right (is_clean q) _ two)))))

  pub for_object : (i j : ℕ) (b : Bool) (x : Intro) (k : Value) (key : Expr) (q : Value) (e : Expr) (grouped : Bool) (o : Option Value) (c : Option Expr) → IntroOf b x → ExprOf k key → ExprOf q e → InSome ExprOf o c
      → TermOf (plain_if (b && (is_clean k && (is_clean q && is_clean_option o)))) (node.term i j (node.for_object x key e grouped c))
  unfolding node.for_object
  for_object i j b x k key q e grouped o c f g h d = inner_term (b && (is_clean k && (is_clean q && is_clean_option o))) i j (node.for_object x key e grouped c) _ (open_for_object _) refl (λ rules role. empty.none) (λ w.
      let rest = right b _ w in
      let two = right (is_clean k) _ rest in
      rw (for_object_intro x key e grouped c, for_object_key x key e grouped c, for_object_value x key e grouped c, for_object_filter x key e grouped c)
      (more _ _ (f (left b _ w)) (more _ _ ((g (left (is_clean k) _ rest)).0 Elsewhere) (more _ _ ((h (left (is_clean q) _ two)).0 Elsewhere) (filter_free o c d (right (is_clean q) _ two))))))
