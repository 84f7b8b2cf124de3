-- The rules on blocks: they find nothing at a block whose name is in snake_case, and that has what
-- it must have.
use Rattle.std.proofs.Common.{◌≡◌, ℕ, not, ◌&&◌, ◌||◌, if◌then◌else◌, Bool, true, false, List, [], ◌∷◌, ◌++◌, slice_get, Option, Some, None, codes, refl, sym, ap, subst, ◌∙◌}
use Rattle.std.proofs.lemmas.Slice.Eq.{bytes_eq-Decides}
use Rattle.std.specs.List.{flat_map}
use Rattle.std.specs.Str.{bytes_eq}
use Rattle.hcl_grammar.specs.Nodes as node
use Rattle.hcl_grammar.specs.declared.tree.Block.{Block, roll-Block}
use Rattle.hcl_grammar.specs.declared.tree.Content.{Content}
use Rattle.hcl_grammar.specs.declared.tree.Label.{Label}
use Rattle.hcl_grammar_laws.proofs.Opens.{open_block}
use Rattle.hcl_token.specs.Tokens.{Pair}
use Rattle.tf_glance.proofs.Bodies.{is_declaration, is_locals, AreSummarized, none_summarized, member_free, MemberOf, ContentOf}
use Rattle.tf_glance.proofs.Expressions.{left, right, Listed, listed_more}
use Rattle.tf_glance.specs.Inner.SummaryMakers.{block_type_of, names_after, is_clean_label, is_complete, block}
use Rattle.tf_glance.specs.Inner.Summary.{add_one}
use Rattle.tf_glance.specs.declared.summary.BodyContent.{BodyContent}
use Rattle.tf_glance.specs.declared.block_type.BlockType.{BlockType}
use Rattle.tf_glance.specs.declared.block_type.BlockType.TheVariants as block_type
use Rattle.tf_rules.specs.Attributes.{attributes, has_attribute, has_empty_attribute}
use Rattle.tf_rules.specs.RuleSets.{has_rule}
use Rattle.tf_rules.specs.Rules.Missing.{is_undocumented, missing_finding}
use Rattle.tf_rules.specs.Rules.Naming.{declared_name, label_findings, declared_findings, local_findings}
use Rattle.tf_rules.specs.SnakeCase.{is_snake_case}
use Rattle.tf_rules.specs.Spelling.{token_text, name_text}
use Rattle.tf_rules.specs.declared.finding.Finding.{Finding}
use Rattle.tf_rules.specs.declared.finding.NameKind.{NameKind}
use Rattle.tf_rules.specs.declared.finding.NameKind.TheVariants as kind
use Rattle.tf_rules.specs.declared.rule.Rule.{Rule}
use Rattle.tf_rules.specs.declared.rule.Rule.TheVariants.{NamingConvention, TypedVariables, DocumentedVariables, DocumentedOutputs}
use Rattle.tf_rules.specs.Summaries.{is_clean_count, count_of}
use Rattle.tf_rules.specs.declared.rule_set.RuleSet.{RuleSet}
use Rattle.tf_rules.specs.declared.summary.Count.{Count}
use Rattle.tf_rules.specs.declared.summary.Count.TheVariants as count
use Rattle.tf_rules_laws.proofs.Nothing.{Nothing, none, choose, unless, append}

-- ---- tests

never : (a b c : Bool) (xs : List Finding) → b ≡ false → Nothing (if a && (b && c) then xs else [])
never false b c xs e = none
never true true c xs e = absurd (cc)
never true false c xs e = none

none_of_two : (a b c : Bool) (xs : List Finding) → c ≡ false → Nothing (if a && (b && c) then xs else [])
none_of_two false b c xs e = none
none_of_two true false c xs e = none
none_of_two true true true xs e = absurd (cc)
none_of_two true true false xs e = none

none_without : (a b c : Bool) (xs : List Finding) → (b ≡ true → c ≡ true) → Nothing (if a && (b && not c) then xs else [])
none_without false b c xs e = none
none_without true false c xs e = none
none_without true true true xs e = none
none_without true true false xs e = let f : false ≡ true = e refl in absurd (cc)

documented : (a b : Bool) → a ≡ true → b ≡ false → (not a || b) ≡ false
documented true b h e = e
documented false b h e = absurd (cc)

given : (b s : Bool) → (not b || s) ≡ true → b ≡ true → s ≡ true
given true s h e = h
given false s h e = absurd (cc)

spelled : (text expected : List ℕ) → bytes_eq text expected ≡ true → text ≡ expected
spelled text expected e = (bytes_eq-Decides text expected).0 e

module _ (pairs : List Pair) where
  -- ---- labels

  abbrev NamedAt : ℕ → List Label → Type 0
  NamedAt i ls = (k : NameKind) → Nothing (label_findings pairs k (slice_get ls i))

  -- the label that names what the block declares
  abbrev pub AreNamed : BlockType → List Label → Type 0
  AreNamed block_type.Resource ls = NamedAt 1 ls
  AreNamed block_type.Module ls = NamedAt 0 ls
  AreNamed block_type.Variable ls = NamedAt 0 ls
  AreNamed block_type.Output ls = NamedAt 0 ls
  AreNamed _ ls = Unit {0}

  abbrev pub LabelOf : Option ℕ → Label → Type 0
  LabelOf o l = l.name ≡ o

  abbrev pub LabelsOf : BlockType → Count → List Label → Type 0
  LabelsOf assumed = Listed (AreNamed assumed)

  pub label : (i j : ℕ) (o : Option ℕ) → LabelOf o (node.label i j o)
  unfolding node.label
  label i j o = refl

  snake : (l : Label) (o : Option ℕ) (k : NameKind) → l.name ≡ o → is_snake_case (name_text pairs o) ≡ true → Nothing (label_findings pairs k (Some l))
  snake l o k e h = record { is = rw (e, h) refl }

  first_named : (n : Count) (ls : List Label) (o : Option ℕ) (l : Label) → LabelOf o l → n ≡ count_of ls → NamedAt 0 ls → (n ≡ count.Zero → is_snake_case (name_text pairs o) ≡ true) → NamedAt 0 (ls ++ l ∷ [])
  first_named n [] o l e c h s k = snake l o k e (s c)
  first_named n (x ∷ ls) o l e c h s k = h k

  second_named : (n : Count) (ls : List Label) (o : Option ℕ) (l : Label) → LabelOf o l → n ≡ count_of ls → NamedAt 1 ls → (n ≡ count.One → is_snake_case (name_text pairs o) ≡ true) → NamedAt 1 (ls ++ l ∷ [])
  second_named n [] o l e c h s k = none
  second_named n (x ∷ []) o l e c h s k = snake l o k e (s c)
  second_named n (x ∷ y ∷ ls) o l e c h s k = h k

  snake_after : (assumed : BlockType) (n m : Count) (o : Option ℕ) → names_after assumed m ≡ true → is_clean_label pairs assumed n o ≡ true → n ≡ m → is_snake_case (name_text pairs o) ≡ true
  snake_after assumed n m o f w e = given (names_after assumed n) (is_snake_case (name_text pairs o)) w (ap (names_after assumed) e ∙ f)

  named_more : (assumed : BlockType) (n : Count) (ls : List Label) (o : Option ℕ) (l : Label) → LabelOf o l → n ≡ count_of ls → AreNamed assumed ls → is_clean_label pairs assumed n o ≡ true → AreNamed assumed (ls ++ l ∷ [])
  named_more block_type.Resource n ls o l e c h w = second_named n ls o l e c h (snake_after block_type.Resource n count.One o refl w)
  named_more block_type.Module n ls o l e c h w = first_named n ls o l e c h (snake_after block_type.Module n count.Zero o refl w)
  named_more block_type.Variable n ls o l e c h w = first_named n ls o l e c h (snake_after block_type.Variable n count.Zero o refl w)
  named_more block_type.Output n ls o l e c h w = first_named n ls o l e c h (snake_after block_type.Output n count.Zero o refl w)
  named_more _ n ls o l e c h w = tt

  none_named : (assumed : BlockType) → AreNamed assumed []
  none_named block_type.Other = tt
  none_named block_type.Locals = tt
  none_named _ = λ k. none

  pub no_labels : (assumed : BlockType) → LabelsOf assumed count.Zero []
  no_labels assumed = λ w. (refl, none_named assumed)

  pub labels : (assumed : BlockType) (n : Count) (ls : List Label) (o : Option ℕ) (l : Label) → LabelsOf assumed n ls → LabelOf o l → LabelsOf assumed (add_one n (is_clean_label pairs assumed n o)) (ls ++ l ∷ [])
  labels assumed n ls o l h e = listed_more (AreNamed assumed) n (is_clean_label pairs assumed n o) ls l h (λ c f w. named_more assumed n ls o l e c f w)

  -- ---- a block, by its type

  module _ (rules : RuleSet) (b : Block) where
    abbrev untyped : List ℕ → Label → List Finding
    untyped text l = if has_rule rules TypedVariables && (bytes_eq text (codes "variable") && not (has_attribute pairs (codes "type") (attributes b))) then missing_finding TypedVariables b l.name else []

    abbrev undocumented : List ℕ → Rule → List ℕ → Label → List Finding
    undocumented text rule kind l = if has_rule rules rule && (bytes_eq text kind && is_undocumented pairs (attributes b)) then missing_finding rule b l.name else []

    abbrev missing : List ℕ → Option Label → List Finding
    missing text None = []
    missing text (Some l) = untyped text l ++ (undocumented text DocumentedVariables (codes "variable") l ++ undocumented text DocumentedOutputs (codes "output") l)

    abbrev naming : List ℕ → List Finding
    naming text = declared_findings pairs b (declared_name text) ++ (if bytes_eq text (codes "locals") then flat_map (local_findings pairs) (attributes b) else [])

    -- what is found at it, if this is its type
    abbrev found : List ℕ → List Finding
    found text = (if has_rule rules NamingConvention then naming text else []) ++ missing text (slice_get b.labels 0)

    none_missing : (text : List ℕ) (o : Option Label) → bytes_eq text (codes "variable") ≡ false → bytes_eq text (codes "output") ≡ false → Nothing (missing text o)
    none_missing text None v o = none
    none_missing text (Some l) v o =
        append (never (has_rule rules TypedVariables) (bytes_eq text (codes "variable")) (not (has_attribute pairs (codes "type") (attributes b))) (missing_finding TypedVariables b l.name) v)
        (append (never (has_rule rules DocumentedVariables) (bytes_eq text (codes "variable")) (is_undocumented pairs (attributes b)) (missing_finding DocumentedVariables b l.name) v)
        (never (has_rule rules DocumentedOutputs) (bytes_eq text (codes "output")) (is_undocumented pairs (attributes b)) (missing_finding DocumentedOutputs b l.name) o))

    none_incomplete : (text : List ℕ) (o : Option Label) → (bytes_eq text (codes "variable") ≡ true → has_attribute pairs (codes "type") (attributes b) ≡ true)
        → is_undocumented pairs (attributes b) ≡ false → Nothing (missing text o)
    none_incomplete text None t d = none
    none_incomplete text (Some l) t d =
        append (none_without (has_rule rules TypedVariables) (bytes_eq text (codes "variable")) (has_attribute pairs (codes "type") (attributes b)) (missing_finding TypedVariables b l.name) t)
        (append (none_of_two (has_rule rules DocumentedVariables) (bytes_eq text (codes "variable")) (is_undocumented pairs (attributes b)) (missing_finding DocumentedVariables b l.name) d)
        (none_of_two (has_rule rules DocumentedOutputs) (bytes_eq text (codes "output")) (is_undocumented pairs (attributes b)) (missing_finding DocumentedOutputs b l.name) d))

    -- a type of which only the label is looked at
    labelled : (text : List ℕ) (declared : Option (NameKind × ℕ)) → declared_name text ≡ declared → Nothing (declared_findings pairs b declared) → bytes_eq text (codes "locals") ≡ false
        → Nothing (missing text (slice_get b.labels 0)) → Nothing (found text)
    labelled text declared e h l m =
        append (choose (has_rule rules NamingConvention) (append (subst (λ (d : Option (NameKind × ℕ)). Nothing (declared_findings pairs b d)) (sym e) h) (unless (bytes_eq text (codes "locals")) _ l none)) none) m

    module _ (assumed : BlockType) (x : BodyContent) (names : AreNamed assumed b.labels) (has : AreSummarized pairs assumed x.typed x.described (attributes b)) where
      documents : is_declaration assumed ≡ true → x.described ≡ true → is_undocumented pairs (attributes b) ≡ false
      documents w d = documented (has_attribute pairs (codes "description") (attributes b)) (has_empty_attribute pairs (codes "description") (attributes b)) (has.has_description d) (has.none_empty w)

      resource : (s : BlockType) → s ≡ assumed → is_complete block_type.Resource s x ≡ true → NamedAt 1 b.labels
      resource block_type.Resource e h = subst (λ (s : BlockType). AreNamed s b.labels) (sym e) names
      resource _ e h = absurd (cc)

      named_module : (s : BlockType) → s ≡ assumed → is_complete block_type.Module s x ≡ true → NamedAt 0 b.labels
      named_module block_type.Module e h = subst (λ (s : BlockType). AreNamed s b.labels) (sym e) names
      named_module _ e h = absurd (cc)

      variable : (s : BlockType) → s ≡ assumed → is_complete block_type.Variable s x ≡ true → NamedAt 0 b.labels × (has_attribute pairs (codes "type") (attributes b) ≡ true) × (is_undocumented pairs (attributes b) ≡ false)
      variable block_type.Variable e h = (subst (λ (s : BlockType). AreNamed s b.labels) (sym e) names, has.has_type (left x.typed x.described h), documents (ap is_declaration (sym e)) (right x.typed x.described h))
      variable _ e h = absurd (cc)

      output : (s : BlockType) → s ≡ assumed → is_complete block_type.Output s x ≡ true → NamedAt 0 b.labels × (is_undocumented pairs (attributes b) ≡ false)
      output block_type.Output e h = (subst (λ (s : BlockType). AreNamed s b.labels) (sym e) names, documents (ap is_declaration (sym e)) h)
      output _ e h = absurd (cc)

      locals : (s : BlockType) → s ≡ assumed → is_complete block_type.Locals s x ≡ true → flat_map (local_findings pairs) (attributes b) ≡ []
      locals block_type.Locals e h = has.named (ap is_locals (sym e))
      locals _ e h = absurd (cc)

      skip : {A : Type 0} (t : Bool) (y z : A) → t ≡ false → (if t then y else z) ≡ z
      skip true y z e = absurd (cc)
      skip false y z e = refl

      moved : (text expected : List ℕ) → bytes_eq text expected ≡ true → Nothing (found expected) → Nothing (found text)
      moved text expected e h = subst (λ (t : List ℕ). Nothing (found t)) (sym (spelled text expected e)) h

      by_type : (text : List ℕ) (r d m v o l : Bool) → bytes_eq text (codes "resource") ≡ r → bytes_eq text (codes "data") ≡ d → bytes_eq text (codes "module") ≡ m → bytes_eq text (codes "variable") ≡ v
          → bytes_eq text (codes "output") ≡ o → bytes_eq text (codes "locals") ≡ l
          → is_complete (if r then block_type.Resource else (if d then block_type.Resource else (if m then block_type.Module else (if v then block_type.Variable else (if o then block_type.Output else (if l then block_type.Locals else block_type.Other)))))) assumed x ≡ true
          → Nothing (found text)
      by_type text true d m v o l er ed em ev eo el h = moved text (codes "resource") er (labelled (codes "resource") _ refl (resource assumed refl h kind.Resource) refl (none_missing (codes "resource") _ refl refl))
      by_type text false true m v o l er ed em ev eo el h = moved text (codes "data") ed (labelled (codes "data") _ refl (resource assumed refl h kind.Data) refl (none_missing (codes "data") _ refl refl))
      by_type text false false true v o l er ed em ev eo el h = moved text (codes "module") em (labelled (codes "module") _ refl (named_module assumed refl h kind.Module) refl (none_missing (codes "module") _ refl refl))
      by_type text false false false true o l er ed em ev eo el h =
          let known = variable assumed refl h in
          moved text (codes "variable") ev (labelled (codes "variable") _ refl (known.0 kind.Variable) refl (none_incomplete (codes "variable") _ (λ w. known.1) known.2))
      by_type text false false false false true l er ed em ev eo el h =
          let known = output assumed refl h in
          moved text (codes "output") eo (labelled (codes "output") _ refl (known.0 kind.Output) refl (none_incomplete (codes "output") _ (λ w. let f : false ≡ true = w in absurd (cc)) known.1))
      by_type text false false false false false true er ed em ev eo el h =
          moved text (codes "locals") el (append (choose (has_rule rules NamingConvention) (append none (record { is = locals assumed refl h })) none) (none_missing (codes "locals") _ refl refl))
      by_type text false false false false false false er ed em ev eo el h =
          labelled text None (skip (bytes_eq text (codes "resource")) _ _ er ∙ (skip (bytes_eq text (codes "data")) _ _ ed ∙ (skip (bytes_eq text (codes "variable")) _ _ ev ∙ (skip (bytes_eq text (codes "output")) _ _ eo ∙ skip (bytes_eq text (codes "module")) _ _ em)))) none el (none_missing text _ ev eo)

      block_nothing : (text : List ℕ) → is_complete (block_type_of text) assumed x ≡ true → Nothing (found text)
      block_nothing text h = by_type text (bytes_eq text (codes "resource")) (bytes_eq text (codes "data")) (bytes_eq text (codes "module")) (bytes_eq text (codes "variable")) (bytes_eq text (codes "output")) (bytes_eq text (codes "locals")) refl refl refl refl refl refl h

  abbrev the_block : ℕ → ℕ → List Label → Content → Block
  the_block i j ls c = roll-Block (record { first = i; past = j; block_type = i; labels = ls; content = c })

  pub blocks : (assumed : BlockType) (i j : ℕ) (n : Count) (ls : List Label) (x : BodyContent) (c : Content) → LabelsOf assumed n ls → ContentOf pairs assumed x c → MemberOf pairs assumed (block pairs assumed i n x) (node.block i j ls c)
  unfolding node.block
  blocks assumed i j n ls x c f g = λ w.
      let b = the_block i j ls c in
      let inside = g (left x.clean (is_clean_count n) w) in
      let names = (f (right x.clean (is_clean_count n) w)).1 in (
        member_free pairs (node.block i j ls c) (rw (open_block b) inside.0),
        rw (open_block b) (none_summarized pairs assumed),
        λ complete rules. rw (open_block b) (block_nothing rules b assumed x names inside.1 (token_text pairs i) complete).is,
      )
