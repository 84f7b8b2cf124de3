-- Summaries of attributes and of bodies.
use Rattle.std.proofs.Common.{◌≡◌, ℕ, not, ◌&&◌, ◌||◌, Bool, true, false, List, [], ◌∷◌, ◌++◌, map, Option, Some, None, codes, refl, ap₂, ◌∙◌}
use Rattle.std.proofs.lemmas.Grind.{flat_map-append}
use Rattle.std.proofs.lemmas.List.Folds.{list_any-append}
use Rattle.std.specs.List.{flat_map}
use Rattle.std.specs.Str.{bytes_eq}
use Rattle.hcl_grammar.specs.Nodes as node
use Rattle.hcl_grammar.specs.declared.tree.Attribute.{Attribute}
use Rattle.hcl_grammar.specs.declared.tree.Body.{Body}
use Rattle.hcl_grammar.specs.declared.tree.Content.{Content, out-Content}
use Rattle.hcl_grammar.specs.declared.tree.Content.TheVariants as content
use Rattle.hcl_grammar.specs.declared.tree.Expr.{Expr}
use Rattle.hcl_grammar.specs.declared.tree.Member.{Member, out-Member}
use Rattle.hcl_grammar.specs.declared.tree.Member.TheVariants as member_kind
use Rattle.hcl_grammar_laws.proofs.Opens.{open_attribute, open_lines, open_line}
use Rattle.hcl_parse.specs.Alike.{InSome}
use Rattle.hcl_token.specs.Tokens.{Pair}
use Rattle.tf_glance.proofs.Expressions.{left, right, ExprOf, clean_description}
use Rattle.tf_glance.proofs.Free.{IsFree, free, AreFree, none, more, one}
use Rattle.tf_glance.specs.Inner.SummaryMakers.{attribute, declaration, one_line}
use Rattle.tf_glance.specs.Inner.Summary as summary
use Rattle.tf_glance.specs.Inner.Summary.{is_clean_description}
use Rattle.tf_glance.specs.declared.summary.BodyContent.{BodyContent}
use Rattle.tf_glance.specs.declared.block_type.BlockType.{BlockType}
use Rattle.tf_glance.specs.declared.block_type.BlockType.TheVariants as block_type
use Rattle.tf_rules.specs.Attributes.{member_attributes, layer_attributes, is_attribute, is_empty_string, has_attribute, has_empty_attribute}
use Rattle.tf_rules.specs.Preorder.{expr, member, member_children, content_children}
use Rattle.tf_rules.specs.Rules.{top_level_member_findings}
use Rattle.tf_rules.specs.Rules.Naming.{local_findings}
use Rattle.tf_rules.specs.SnakeCase.{is_snake_case}
use Rattle.tf_rules.specs.Spelling.{token_text}
use Rattle.tf_rules.specs.declared.finding.Finding.{Finding}
use Rattle.tf_rules.specs.declared.role.Role.TheVariants.{AttributeValue}
use Rattle.tf_rules.specs.Summaries.{is_clean}
use Rattle.tf_rules.specs.declared.rule_set.RuleSet.{RuleSet}
use Rattle.tf_rules.specs.declared.summary.Value.{Value}
use Rattle.tf_rules_laws.proofs.Nothing as empty

-- ---- tests

one_of_two : (a b p q : Bool) → (a ≡ true → p ≡ true) → (b ≡ true → q ≡ true) → (a || b) ≡ true → (p || q) ≡ true
one_of_two true b p q f g h = rw (f refl) refl
one_of_two false b true q f g h = refl
one_of_two false b false q f g h = g h

neither : (p q : Bool) → p ≡ false → q ≡ false → (p || q) ≡ false
neither p q h g = rw (h, g) refl

alone : (t : Bool) → t ≡ true → ((t && true) || false) ≡ true
alone t h = rw h refl

not_empty : (d s : Bool) (q : Bool) → (q ≡ true → s ≡ false) → (not d || q) ≡ true → ((d && s) || false) ≡ false
not_empty false s q h w = refl
not_empty true s q h w = rw (h w) refl

-- ---- attributes

abbrev pub is_declaration : BlockType → Bool
is_declaration block_type.Variable = true
is_declaration block_type.Output = true
is_declaration _ = false

abbrev pub is_locals : BlockType → Bool
is_locals block_type.Locals = true
is_locals _ = false

-- attributes among which there is one `type` and one `description`, if so it is said; in a block that
-- is assumed to be of this type, no empty description, or only names in snake_case
pub record AreSummarized (pairs : List Pair) (assumed : BlockType) (typed described : Bool) (all : List Attribute) : Type 0 where
  pub has_type : typed ≡ true → has_attribute pairs (codes "type") all ≡ true
  pub has_description : described ≡ true → has_attribute pairs (codes "description") all ≡ true
  pub none_empty : is_declaration assumed ≡ true → has_empty_attribute pairs (codes "description") all ≡ false
  pub named : is_locals assumed ≡ true → flat_map (local_findings pairs) all ≡ []

module _ (pairs : List Pair) where
  pub none_summarized : (assumed : BlockType) → AreSummarized pairs assumed false false []
  none_summarized assumed = record { has_type = λ h. absurd (cc); has_description = λ h. absurd (cc); none_empty = λ h. refl; named = λ h. refl }

  joined_summarized : (assumed : BlockType) (t d u e : Bool) (xs ys : List Attribute) → AreSummarized pairs assumed t d xs → AreSummarized pairs assumed u e ys → AreSummarized pairs assumed (t || u) (d || e) (xs ++ ys)
  joined_summarized assumed t d u e xs ys h g = record {
    has_type = λ w. list_any-append (is_attribute pairs (codes "type") false) xs ys ∙ one_of_two t u _ _ h.has_type g.has_type w;
    has_description = λ w. list_any-append (is_attribute pairs (codes "description") false) xs ys ∙ one_of_two d e _ _ h.has_description g.has_description w;
    none_empty = λ w. list_any-append (is_attribute pairs (codes "description") true) xs ys ∙ neither _ _ (h.none_empty w) (g.none_empty w);
    named = λ w. flat_map-append (local_findings pairs) xs ys ∙ ap₂ (λ (fs gs : List Finding). fs ++ gs) (h.named w) (g.named w);
  }

  plain_summarized : (assumed : BlockType) (all : List Attribute) → is_declaration assumed ≡ false → is_locals assumed ≡ false → AreSummarized pairs assumed false false all
  plain_summarized assumed all h g = record { has_type = λ w. absurd (cc); has_description = λ w. absurd (cc); none_empty = λ w. absurd (cc); named = λ w. absurd (cc) }

  local_named : (i : ℕ) (a : Attribute) → a.name ≡ i → is_snake_case (token_text pairs i) ≡ true → flat_map (local_findings pairs) (a ∷ []) ≡ []
  local_named i a e h = rw (e, h) refl

  module _ (assumed : BlockType) where
    abbrev pub AttributeOf : BodyContent → Attribute → Type 0
    AttributeOf x a = x.clean ≡ true → IsFree pairs (expr AttributeValue a.value) × AreSummarized pairs assumed x.typed x.described (a ∷ [])

  declared : (assumed : BlockType) → is_locals assumed ≡ false → (i j : ℕ) (q : Value) (e : Expr) → ExprOf pairs q e
      → AttributeOf assumed (declaration (bytes_eq (token_text pairs i) (codes "type")) (bytes_eq (token_text pairs i) (codes "description")) q) (node.attribute i j e)
  unfolding node.attribute
  declared assumed l i j q e h = λ w. (
    (h (left (is_clean q) _ w)).0 AttributeValue,
    record {
      has_type = λ t. alone (bytes_eq (token_text pairs i) (codes "type")) t;
      has_description = λ t. alone (bytes_eq (token_text pairs i) (codes "description")) t;
      none_empty = λ t. not_empty (bytes_eq (token_text pairs i) (codes "description")) (is_empty_string e) (is_clean_description q) (clean_description pairs q e h (left (is_clean q) _ w)) (right (is_clean q) _ w);
      named = λ t. absurd (cc);
    },
  )

  plain : (assumed : BlockType) → is_declaration assumed ≡ false → is_locals assumed ≡ false → (i j : ℕ) (q : Value) (e : Expr) → ExprOf pairs q e → AttributeOf assumed (record { clean = is_clean q; complete = true; typed = false; described = false }) (node.attribute i j e)
  unfolding node.attribute
  plain assumed d l i j q e h = λ w. ((h w).0 AttributeValue, plain_summarized assumed _ d l)

  local : (i j : ℕ) (q : Value) (e : Expr) → ExprOf pairs q e → AttributeOf block_type.Locals (attribute pairs block_type.Locals i q) (node.attribute i j e)
  unfolding node.attribute
  local i j q e h = λ w. (
    (h (left (is_clean q) _ w)).0 AttributeValue,
    record { has_type = λ t. absurd (cc); has_description = λ t. absurd (cc); none_empty = λ t. absurd (cc); named = λ t. local_named i (node.attribute i j e) refl (right (is_clean q) _ w) },
  )

  pub attributes : (assumed : BlockType) (i j : ℕ) (q : Value) (e : Expr) → ExprOf pairs q e → AttributeOf assumed (attribute pairs assumed i q) (node.attribute i j e)
  attributes block_type.Variable i j q e h = declared block_type.Variable refl i j q e h
  attributes block_type.Output i j q e h = declared block_type.Output refl i j q e h
  attributes block_type.Locals i j q e h = local i j q e h
  attributes assumed i j q e h = plain assumed refl refl i j q e h

  -- ---- members

  pub member_free : (m : Member) → AreFree pairs (member_children (out-Member m)) → IsFree pairs (member m)
  member_free m h = free _ (λ rules. empty.none) h

  module _ (assumed : BlockType) where
    abbrev pub MemberOf : BodyContent → Member → Type 0
    MemberOf x m = x.clean ≡ true → IsFree pairs (member m) × AreSummarized pairs assumed x.typed x.described (member_attributes m) × (x.complete ≡ true → (rules : RuleSet) → top_level_member_findings rules pairs m ≡ [])

    abbrev pub MembersOf : BodyContent → List Member → Type 0
    MembersOf x ms = x.clean ≡ true → AreFree pairs (map member ms) × AreSummarized pairs assumed x.typed x.described (flat_map member_attributes ms)

    abbrev pub BodyOf : BodyContent → Body → Type 0
    BodyOf x b = MembersOf x b.members

    abbrev pub ContentOf : BodyContent → Content → Type 0
    ContentOf x c = x.clean ≡ true → AreFree pairs (content_children (out-Content c)) × AreSummarized pairs assumed x.typed x.described (layer_attributes (out-Content c))

    pub attribute_member : (x : BodyContent) (a : Attribute) → AttributeOf assumed x a → MemberOf x (member_kind.Attribute a)
    attribute_member x a h = λ w. (member_free (member_kind.Attribute a) (rw (open_attribute a) (one _ (h w).0)), rw (open_attribute a) (h w).1, λ c rules. rw (open_attribute a) refl)

    pub no_members : MembersOf summary.no_content []
    no_members = λ w. (none, none_summarized assumed)

    members_free : (ms : List Member) (m : Member) → AreFree pairs (map member ms) → IsFree pairs (member m) → AreFree pairs (map member (ms ++ m ∷ []))
    members_free [] m h f = one _ f
    members_free (x ∷ xs) m (more _ _ g a) f = more _ _ g (members_free xs m a f)

    attributes_more : (ms : List Member) (m : Member) → flat_map member_attributes (ms ++ m ∷ []) ≡ flat_map member_attributes ms ++ member_attributes m
    attributes_more ms m = flat_map-append member_attributes ms (m ∷ []) ∙ ap₂ (λ (xs ys : List Attribute). xs ++ ys) refl (at_end (member_attributes m))
      where
        at_end : (xs : List Attribute) → xs ++ [] ≡ xs
        at_end [] = refl
        at_end (a ∷ xs) = ap₂ (λ (b : Attribute) (bs : List Attribute). b ∷ bs) refl (at_end xs)

    pub members : (x : BodyContent) (ms : List Member) (y : BodyContent) (m : Member) → MembersOf x ms → MemberOf y m → MembersOf (summary.joined x y) (ms ++ m ∷ [])
    members x ms y m h g = λ w.
        let before = h (left x.clean y.clean w) in
        let last = g (right x.clean y.clean w) in
        (members_free ms m before.0 last.0, rw (attributes_more ms m) (joined_summarized assumed x.typed x.described y.typed y.described (flat_map member_attributes ms) (member_attributes m) before.1 last.1))

    pub body : (i j : ℕ) (x : BodyContent) (ms : List Member) → MembersOf x ms → BodyOf x (node.body i j ms)
    unfolding node.body
    body i j x ms h = h

    pub block_body : (x : BodyContent) (b : Body) → BodyOf x b → ContentOf x (content.Body b)
    block_body x b h = λ w. (rw (open_lines b) (h w).0, rw (open_lines b) (h w).1)

    pub line_body : (o : Option BodyContent) (a : Option Attribute) → InSome (AttributeOf assumed) o a → ContentOf (one_line o) (content.OneLine a)
    line_body None None h = λ w. (rw (open_line None) none, rw (open_line None) (none_summarized assumed))
    line_body (Some x) (Some a) h = λ w. (rw (open_line (Some a)) (one _ (h w).0), rw (open_line (Some a)) (h w).1)
    line_body None (Some a) h = absurd h
    line_body (Some x) None h = absurd h
