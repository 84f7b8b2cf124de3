-- What the makers of `summaries` make of summaries of nodes is the summary of the node that is made
-- of them.
use Rattle.std.proofs.Common.{ℕ, ◌&&◌, true, false, List, refl}
use Rattle.hcl_grammar.specs.Nodes as node
use Rattle.hcl_grammar.specs.declared.tree.Expr.{Expr}
use Rattle.hcl_grammar.specs.declared.tree.ExprKind.TheVariants as form
use Rattle.hcl_grammar.specs.declared.tree.Primary.TheVariants as shape
use Rattle.hcl_grammar.specs.declared.tree.Tail.TheVariants as variant
use Rattle.hcl_grammar_laws.proofs.Opens.{open_conditional, open_prefixed, open_number, open_identifier, open_object, open_parens, open_name, open_attribute_splat, open_full_splat, open_index}
use Rattle.hcl_parse.specs.Alike.{Relations, Respects}
use Rattle.hcl_grammar.specs.Pure.NodeMakers.{node_types, nodes}
use Rattle.hcl_token.specs.Tokens.{Pair}
use Rattle.tf_glance.proofs.Blocks.{LabelOf, LabelsOf, label, no_labels, labels, blocks}
use Rattle.tf_glance.proofs.Bodies.{AttributeOf, MemberOf, MembersOf, BodyOf, ContentOf, attributes, attribute_member, no_members, members, body, block_body, line_body}
use Rattle.tf_glance.proofs.Chains.{OperationsOf, operations, chain}
use Rattle.tf_glance.proofs.Expressions.{left, right, ExprOf, TermOf, TailOf, TailsOf, ExprsOf, ElemsOf, IntroOf, plain_expr, inner_term, known_tail, tails_more, postfix, exprs, tuple, elems, intro, for_tuple, for_object}
use Rattle.tf_glance.proofs.Free.{none, more, one}
use Rattle.tf_glance.proofs.Calls.{NamesOf, names, call}
use Rattle.tf_glance.proofs.Templates.{PartOf, PartsOf, TemplateOf, parts, template, literal, interpolation, if_directive, for_directive, quoted, heredoc}
use Rattle.tf_glance.specs.Inner.SummaryMakers.{summary_types, summaries}
use Rattle.tf_glance.specs.declared.block_type.BlockType.{BlockType}
use Rattle.tf_rules.specs.Summaries.{is_clean}
use Rattle.tf_rules.specs.declared.role.Role.TheVariants.{Parentheses, Index, Elsewhere}
use Rattle.tf_rules.specs.declared.summary.Value.{Value}
use Rattle.tf_rules_laws.proofs.Nothing as empty

module _ (pairs : List Pair) (assumed : BlockType) where
  abbrev pub summarizes : Relations summary_types node_types
  summarizes = record {
    Expr = ExprOf pairs;
    Exprs = ExprsOf pairs;
    Operations = OperationsOf pairs;
    Term = TermOf pairs;
    Tail = TailOf pairs;
    Tails = TailsOf pairs;
    Names = NamesOf;
    Elems = ElemsOf pairs;
    Intro = IntroOf pairs;
    Template = TemplateOf pairs;
    Part = PartOf pairs;
    Parts = PartsOf pairs;
    Attribute = AttributeOf pairs assumed;
    Label = LabelOf pairs;
    Labels = LabelsOf pairs assumed;
    Content = ContentOf pairs assumed;
    Member = MemberOf pairs assumed;
    Members = MembersOf pairs assumed;
    Body = BodyOf pairs assumed;
    Tree = λ x t. BodyOf pairs assumed x t.body;
  }

  conditional : (i j : ℕ) (c : Value) (d : Expr) (x : Value) (y : Expr) (v : Value) (w : Expr) → ExprOf pairs c d → ExprOf pairs x y → ExprOf pairs v w
      → ExprOf pairs ((summaries pairs assumed).conditional i j c x v) (node.expr i j (form.Conditional d y w))
  conditional i j c d x y v w e f g = plain_expr pairs (is_clean c && (is_clean x && is_clean v)) i j (form.Conditional d y w) _ (open_conditional d y w) refl (λ rules. empty.none)
      (λ q role. let two = right (is_clean c) _ q in
      more _ _ ((e (left (is_clean c) _ q)).0 Elsewhere) (more _ _ ((f (left (is_clean x) _ two)).0 Elsewhere) (one _ ((g (right (is_clean x) _ two)).0 Elsewhere))))

  legacy : (n : ℕ) → TailOf pairs false (variant.LegacyIndex n)
  legacy n q = absurd (cc)

  pub respects : Respects (summaries pairs assumed) nodes summarizes
  unfolding node.tree
  respects = record {
    conditional = λ i j c d e x y f v w g. conditional i j c d x y v w e f g;
    chain = λ q e h n ls g. chain pairs q e n ls h g;
    no_operations = λ w. (refl, tt);
    add_operation = λ n ls h op q e g. operations pairs n ls op q e h g;
    unary = λ i j op q e h. plain_expr pairs (is_clean q) i j (form.Unary op e) _ (open_prefixed op e) refl (λ rules. empty.none) (λ w role. one _ ((h w).0 Elsewhere));
    postfix = λ i j q t h b ts g. postfix pairs i j q t b ts h g;
    no_tails = λ w splat. none;
    add_tail = λ b ts h c t g w splat. tails_more pairs ts t splat (h (left b c w) splat) (λ s. g (right b c w) s);
    name_tail = λ n w. known_tail pairs (variant.Name n) _ (open_name n) (λ rules splat. empty.none) none;
    legacy_index = legacy;
    attribute_splat = λ w. known_tail pairs variant.AttributeSplat _ open_attribute_splat (λ rules splat. empty.none) none;
    full_splat = λ w. known_tail pairs variant.FullSplat _ open_full_splat (λ rules splat. empty.none) none;
    index = λ q e h w. known_tail pairs (variant.Index e) _ (open_index e) (λ rules splat. empty.none) (one _ ((h w).0 Index));
    number = λ i j. inner_term pairs true i j shape.Number _ open_number refl (λ rules role. empty.none) (λ w. none);
    identifier = λ i j. inner_term pairs true i j shape.Identifier _ open_identifier refl (λ rules role. empty.none) (λ w. none);
    call = λ i j o ns h n es g more. call pairs i j o ns n es more h g;
    first_name = λ n. (refl, refl);
    add_name = λ o ns h n. names o ns n h;
    no_exprs = λ w. (refl, λ role. none);
    add_expr = λ n es h q e g. exprs pairs n es q e h g;
    tuple = λ i j n es h. tuple pairs i j n es h;
    object = λ i j b xs h. inner_term pairs b i j (shape.Object xs) _ (open_object xs) refl (λ rules role. empty.none) h;
    no_elems = λ w. none;
    add_elem = λ b xs h k key f q e g. elems pairs b xs k key q e h f g;
    intro = λ i j n o q e h. intro pairs i j n o q e h;
    for_tuple = λ i j b x f q e g o c h. for_tuple pairs i j b x q e o c f g h;
    for_object = λ i j b x f k key g q e h grouped o c d. for_object pairs i j b x k key q e grouped o c f g h d;
    quoted = λ i j q t h. quoted pairs i j q t h;
    heredoc = λ i j q t h. heredoc pairs i j q t h;
    parens = λ i j q e h. inner_term pairs (is_clean q) i j (shape.Parens e) _ (open_parens e) refl (λ rules role. empty.none) (λ w. one _ ((h w).0 Parentheses));
    template = λ i j q ps h. template pairs i j q ps h;
    no_parts = λ w. (refl, none);
    add_part = λ q ps h p x g. parts pairs q ps p x h g;
    literal = λ n. literal pairs n;
    interpolation = λ q e h. interpolation pairs q e h;
    if_directive = λ i j q e f p t g o s h. if_directive pairs i j q e p t o s f g h;
    for_directive = λ i j b x f p t g. for_directive pairs i j b x p t f g;
    attribute = λ i j q e h. attributes pairs assumed i j q e h;
    label = λ i j o. label pairs i j o;
    no_labels = no_labels pairs assumed;
    add_label = λ n ls h o l g. labels pairs assumed n ls o l h g;
    one_line = λ o a h. line_body pairs assumed o a h;
    block_body = λ x b h. block_body pairs assumed x b h;
    attribute_member = λ x a h. attribute_member pairs assumed x a h;
    block = λ i j n ls h x c g. blocks pairs assumed i j n ls x c h g;
    no_members = no_members pairs assumed;
    add_member = λ x ms h y m g. members pairs assumed x ms y m h g;
    body = λ i j x ms h. body pairs assumed i j x ms h;
    tree = λ n x b h. h;
  }
