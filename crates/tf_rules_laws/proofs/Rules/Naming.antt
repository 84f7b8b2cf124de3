-- Names.
use Rattle.std.proofs.Common.{◌≡◌, ℕ, List, [], ◌∷◌, Option, Some, None, refl, sym, ap, subst, codes, length, arith, ◌+◌, ◌<◌, ◌≤◌, zero, suc, map, slice_get}
use Rattle.std.specs.List.{flat_map, AllByRecursion}
use Rattle.std.specs.Str.{bytes_eq}
use Rattle.hcl_grammar.specs.Tokens.{Token}
use Rattle.hcl_grammar.specs.TreeLayers.{MemberLayer, ContentLayer}
use Rattle.hcl_grammar.specs.declared.tree.Attribute.{Attribute}
use Rattle.hcl_grammar.specs.declared.tree.Block.{Block}
use Rattle.hcl_grammar.specs.declared.tree.Content.TheOpen.{Member-F, Content-F}
use Rattle.hcl_grammar.specs.declared.tree.Content.{out-Content}
use Rattle.hcl_grammar.specs.declared.tree.Label.{Label}
use Rattle.hcl_grammar.specs.declared.tree.Member.{Member, out-Member}
use Rattle.hcl_scan.specs.Follows.{tokens_of}
use Rattle.hcl_token.specs.Tokens.{Pair}
use Rattle.tf_reuse.proofs.RenumberedNodes as moved
use Rattle.tf_reuse.proofs.RenumberedNodes.{MovedNumber, MovedLabels}
use Rattle.tf_reuse.proofs.RenumberedTrivia.{here_after}
use Rattle.tf_reuse.proofs.Renumbering as moves
use Rattle.tf_reuse.proofs.Renumbering.{Moves}
use Rattle.tf_reuse.proofs.Window.{Here, Same, same_here}
use Rattle.tf_reuse.specs.SameTokens.{SameTokens}
use Rattle.tf_rules.specs.Attributes.{attributes, layer_attributes, member_attributes, layer_attribute}
use Rattle.tf_rules.specs.Preorder.{member, content_children, member_children}
use Rattle.tf_rules.specs.Rules.Naming.{naming_finding, declared_name, label_findings, declared_findings, local_findings, naming_findings}
use Rattle.tf_rules.specs.SnakeCase.{is_snake_case}
use Rattle.tf_rules.specs.Spelling.{token_text, name_text}
use Rattle.tf_rules.specs.declared.finding.NameKind.TheVariants.{Local}
use Rattle.tf_rules.specs.declared.finding.NameKind.{NameKind}
use Rattle.tf_rules.specs.declared.rule.Rule.TheVariants.{NamingConvention}
use Rattle.tf_rules_laws.proofs.OfRule as found
use Rattle.tf_rules_laws.proofs.OfRule.{From}
use Rattle.tf_rules_laws.proofs.All.{both_all}
use Rattle.tf_rules_laws.proofs.MovedBlocks as blocks
use Rattle.tf_rules_laws.proofs.MovedBlocks.{SameAttributes, SameLabel, label_at, SameBlock, word_moves, name_moves, number_moves, message}
use Rattle.tf_rules_laws.proofs.Order.{label_within, name_on_line, name_within}
use Rattle.tf_rules_laws.proofs.Valid as valid
use Rattle.tf_rules_laws.proofs.Valid.{AreValid}
use Rattle.tf_rules_laws.specs.NodeSpans.{DerivesLabel, DerivesContent, DerivesMember, Derives}

-- ---- what is found is of the rule

naming_of_rule : (pairs : List Pair) (named : NameKind) (name : Option ℕ) (first past : ℕ) → From pairs NamingConvention (naming_finding pairs named name first past)
naming_of_rule pairs named name first past = found.choose (is_snake_case (name_text pairs name)) found.none (found.plainly refl)

label_of_rule : (pairs : List Pair) (named : NameKind) (o : Option Label) → From pairs NamingConvention (label_findings pairs named o)
label_of_rule pairs named None = found.none
label_of_rule pairs named (Some l) = naming_of_rule pairs named l.name l.first l.past

declared_of_rule : (pairs : List Pair) (b : Block) (o : Option (NameKind × ℕ)) → From pairs NamingConvention (declared_findings pairs b o)
declared_of_rule pairs b None = found.none
declared_of_rule pairs b (Some (named, i)) = label_of_rule pairs named (slice_get b.labels i)

local_of_rule : (pairs : List Pair) (a : Attribute) → From pairs NamingConvention (local_findings pairs a)
local_of_rule pairs a = naming_of_rule pairs Local (Some a.name) a.name (a.name + 1)

pub of_rule : (pairs : List Pair) (b : Block) → From pairs NamingConvention (naming_findings pairs b)
of_rule pairs b = found.both (declared_of_rule pairs b (declared_name (token_text pairs b.block_type))) (found.choose (bytes_eq (token_text pairs b.block_type) (codes "locals")) (found.each (local_findings pairs) (local_of_rule pairs) (attributes b)) found.none)

-- ---- where its tokens are elsewhere too, the same is found

module _ (old new : List Pair) {from to count : ℕ} (w : SameTokens (tokens_of old) (tokens_of new) from to count) where
  naming_moves : (named : NameKind) {o o' : Option ℕ} {i i' j j' : ℕ} → MovedNumber (Here w) (Same w) o o' → Here w i i' → Here w j j'
      → Moves old new from to (naming_finding old named o i j) (naming_finding new named o' i' j')
  naming_moves named {o} {o'} n h g =
      moves.either (ap is_snake_case (name_moves old new w n)) moves.none
      (moves.finding_moves old new w NamingConvention h g (ap (λ (m : Option ℕ). message (Some named) m) (number_moves old new w n)) moves.no_fix)

  label_moves : (named : NameKind) {o o' : Option Label} → SameLabel old new w o o' → Moves old new from to (label_findings old named o) (label_findings new named o')
  label_moves named blocks.no_label = moves.none
  label_moves named (blocks.one_label n h g) = naming_moves named n h g

  declared_moves : (b b' : Block) → MovedLabels (Here w) (Same w) b.labels b'.labels → (o : Option (NameKind × ℕ))
      → Moves old new from to (declared_findings old b o) (declared_findings new b' o)
  declared_moves b b' ls None = moves.none
  declared_moves b b' ls (Some (named, k)) = label_moves named (label_at old new w ls k)

  locals_moves : {xs xs' : List Attribute} → SameAttributes old new w xs xs' → Moves old new from to (flat_map (local_findings old) xs) (flat_map (local_findings new) xs')
  locals_moves blocks.none = moves.none
  locals_moves (blocks.more h e r) = moves.append (naming_moves Local (moved.one_number h) (same_here w h) (here_after old new w h)) (locals_moves r)

  pub naming_moved : (b b' : Block) → SameBlock old new w b b' → Moves old new from to (naming_findings old b) (naming_findings new b')
  naming_moved b b' s =
      let e = word_moves old new w s.name in
      let declared = declared_moves b b' s.labelled (declared_name (token_text old b.block_type)) in
      moves.append (subst (λ (k : List ℕ). Moves old new from to (declared_findings old b (declared_name (token_text old b.block_type))) (declared_findings new b' (declared_name k))) (sym e) declared)
      (moves.either (ap (λ k. bytes_eq k (codes "locals")) e) (locals_moves s.inside) moves.none)

-- ---- over a text that parses, the numbers are in order

module _ (pairs : List Pair) (ts : List Token) (count : length ts ≡ length pairs) where
  label_sits : (l : Label) → DerivesLabel ts l → (l.first < l.past) × (l.past ≤ length pairs)
  label_sits l w = let s = label_within w in (s.forth, omega (arith, s.within, count))

  attribute_named : (a : Attribute) → DerivesMember ts (Member-F.Attribute a) → a.name < length pairs
  attribute_named a s = let n = name_within s.1 a refl in omega (arith, n, count)

  on_line_named : (a : Attribute) → DerivesContent ts (Content-F.OneLine (Some a)) → a.name < length pairs
  on_line_named a s = let n = name_on_line s.1 a refl in omega (arith, n, count)

  name_is_valid : (named : NameKind) (name : Option ℕ) (first past : ℕ) → first < past → past ≤ length pairs → AreValid (length pairs) (naming_finding pairs named name first past)
  name_is_valid named name first past a b =
      valid.choose (is_snake_case (name_text pairs name)) valid.none (valid.keep (length pairs) NamingConvention first past (record { kind = Some named; name = name }) None a b refl)

  local_is_valid : (a : Attribute) → a.name < length pairs → AreValid (length pairs) (local_findings pairs a)
  local_is_valid a h = name_is_valid Local (Some a.name) a.name (a.name + 1) (omega arith) (omega (arith, h))

  label_in : (ls : List Label) → AllByRecursion (DerivesLabel ts) ls → (i : ℕ) (l : Label) → slice_get ls i ≡ Some l → DerivesLabel ts l
  label_in [] a i l h = absurd (cc)
  label_in (x ∷ ls) a zero l h = let same : x ≡ l = cc in subst (DerivesLabel ts) same a.0
  label_in (x ∷ ls) a (suc i) l h = label_in ls a.1 i l h

  label_is_valid : (named : NameKind) (ls : List Label) → AllByRecursion (DerivesLabel ts) ls → (i : ℕ) (o : Option Label) → slice_get ls i ≡ o → AreValid (length pairs) (label_findings pairs named o)
  label_is_valid named ls a i None h = valid.none
  label_is_valid named ls a i (Some l) h = let s = label_sits l (label_in ls a i l h) in name_is_valid named l.name l.first l.past s.0 s.1

  declared_is_valid : (b : Block) → AllByRecursion (DerivesLabel ts) b.labels → (o : Option (NameKind × ℕ)) → AreValid (length pairs) (declared_findings pairs b o)
  declared_is_valid b a None = valid.none
  declared_is_valid b a (Some (named, i)) = label_is_valid named b.labels a i (slice_get b.labels i) refl

  abbrev IsValidLocal : Attribute → Type 0
  IsValidLocal a = AreValid (length pairs) (local_findings pairs a)

  of_member : (l : MemberLayer) → DerivesMember ts l → AllByRecursion IsValidLocal (layer_attribute l)
  of_member (Member-F.Attribute a) s = (local_is_valid a (attribute_named a s), tt)
  of_member (Member-F.Block b) s = tt

  of_members : (ms : List Member) → AllByRecursion (Derives ts) (map member ms) → AllByRecursion IsValidLocal (flat_map member_attributes ms)
  of_members [] a = tt
  of_members (m ∷ ms) a = both_all IsValidLocal (member_attributes m) (flat_map member_attributes ms) (of_member (out-Member m) a.0) (of_members ms a.1)

  of_content : (l : ContentLayer) → DerivesContent ts l → AllByRecursion (Derives ts) (content_children l) → AllByRecursion IsValidLocal (layer_attributes l)
  of_content (Content-F.Body b) c a = of_members b.members a
  of_content (Content-F.OneLine None) c a = tt
  of_content (Content-F.OneLine (Some x)) c a = (local_is_valid x (on_line_named x c), tt)

  pub naming_is_valid : (b : Block) → DerivesMember ts (Member-F.Block b) → AllByRecursion (Derives ts) (member_children (Member-F.Block b)) → AreValid (length pairs) (naming_findings pairs b)
  naming_is_valid b s inside =
      let names = valid.mapped (local_findings pairs) (attributes b) (of_content (out-Content b.content) s.2 inside) in
      valid.append (declared_is_valid b s.1 (declared_name (token_text pairs b.block_type))) (valid.choose (bytes_eq (token_text pairs b.block_type) (codes "locals")) names valid.none)
