-- What is missing in a block.
use Rattle.std.proofs.Common.{◌≡◌, ℕ, ◌&&◌, true, false, not, List, Option, Some, None, refl, ap, ap₂, codes, length, arith, ◌+◌, ◌<◌, rules, slice_get}
use Rattle.std.specs.Str.{bytes_eq}
use Rattle.hcl_grammar.specs.Tokens.{Token}
use Rattle.hcl_grammar.specs.declared.tree.Block.{Block}
use Rattle.hcl_grammar.specs.declared.tree.Content.TheOpen.{Member-F}
use Rattle.hcl_grammar.specs.declared.tree.Label.{Label}
use Rattle.hcl_scan.specs.Follows.{tokens_of}
use Rattle.hcl_token.specs.Tokens.{Pair}
use Rattle.tf_reuse.proofs.RenumberedNodes.{MovedNumber}
use Rattle.tf_reuse.proofs.RenumberedTrivia.{here_after}
use Rattle.tf_reuse.proofs.Renumbering as moves
use Rattle.tf_reuse.proofs.Renumbering.{Moves}
use Rattle.tf_reuse.proofs.Window.{Here, Same, same_here}
use Rattle.tf_reuse.specs.SameTokens.{SameTokens}
use Rattle.tf_rules.specs.Attributes.{attributes, has_attribute}
use Rattle.tf_rules.specs.RuleSets.{has_rule}
use Rattle.tf_rules.specs.Rules.Missing.{is_undocumented, untyped_findings, undocumented_findings, missing_findings, missing_finding}
use Rattle.tf_rules.specs.SingleRule.{only}
use Rattle.tf_rules.specs.Spelling.{token_text}
use Rattle.tf_rules.specs.Table.{is_comment_rule}
use Rattle.tf_rules.specs.declared.rule.Rule.TheVariants.{TypedVariables, DocumentedVariables, DocumentedOutputs}
use Rattle.tf_rules.specs.declared.rule.Rule.{Rule}
use Rattle.tf_rules.specs.declared.rule_set.RuleSet.{RuleSet}
use Rattle.tf_rules_laws.proofs.OfRule as found
use Rattle.tf_rules_laws.proofs.OfRule.{From}
use Rattle.tf_rules_laws.proofs.MovedBlocks as blocks
use Rattle.tf_rules_laws.proofs.MovedBlocks.{SameLabel, SameBlock, word_moves, number_moves, has_moves, undocumented_moves, message}
use Rattle.tf_rules_laws.proofs.Order.{word_within}
use Rattle.tf_rules_laws.proofs.Picks as picks
use Rattle.tf_rules_laws.proofs.Picks.{Picks}
use Rattle.tf_rules_laws.proofs.Valid as valid
use Rattle.tf_rules_laws.proofs.Valid.{AreValid}
use Rattle.tf_rules_laws.specs.NodeSpans.{DerivesMember}

-- ---- what is found is of the rule

of_rule : (pairs : List Pair) (rule : Rule) (b : Block) (name : Option ℕ) → is_comment_rule rule ≡ false → From pairs rule (missing_finding rule b name)
of_rule pairs rule b name other = found.plainly other

module _ (rules : RuleSet) (rule : Rule) (has : has_rule rules rule ≡ true) where
  untyped_picks : (pairs : List Pair) (b : Block) (l : Label) → Picks pairs rule (untyped_findings rules pairs b l) (untyped_findings (only rule) pairs b l)
  untyped_picks pairs b l =
      picks.chosen_if rules rule has TypedVariables (bytes_eq (token_text pairs b.block_type) (codes "variable") && not (has_attribute pairs (codes "type") (attributes b))) _
      (of_rule pairs TypedVariables b l.name refl)

  undocumented_picks : (pairs : List Pair) (other : Rule) (kind : List ℕ) (b : Block) (l : Label) → is_comment_rule other ≡ false
      → Picks pairs rule (undocumented_findings rules pairs other kind b l) (undocumented_findings (only rule) pairs other kind b l)
  undocumented_picks pairs other kind b l none =
      picks.chosen_if rules rule has other (bytes_eq (token_text pairs b.block_type) kind && is_undocumented pairs (attributes b)) _ (of_rule pairs other b l.name none)

  pub missing_picks : (pairs : List Pair) (b : Block) (o : Option Label) → Picks pairs rule (missing_findings rules pairs b o) (missing_findings (only rule) pairs b o)
  missing_picks pairs b None = picks.nothing
  missing_picks pairs b (Some l) = picks.both (untyped_picks pairs b l)
      (picks.both (undocumented_picks pairs DocumentedVariables (codes "variable") b l refl) (undocumented_picks pairs DocumentedOutputs (codes "output") b l refl))

-- ---- where its tokens are elsewhere too, the same is found

module _ (old new : List Pair) {from to count : ℕ} (w : SameTokens (tokens_of old) (tokens_of new) from to count) where
  missing_moves : (rule : Rule) (b b' : Block) → SameBlock old new w b b' → {o o' : Option ℕ} → MovedNumber (Here w) (Same w) o o'
      → Moves old new from to (missing_finding rule b o) (missing_finding rule b' o')
  missing_moves rule b b' s n = moves.finding_moves old new w rule (same_here w s.name) (here_after old new w s.name) (ap (λ (m : Option ℕ). message None m) (number_moves old new w n)) moves.no_fix

  untyped_moves : (rules : RuleSet) (b b' : Block) → SameBlock old new w b b' → (l l' : Label) → MovedNumber (Here w) (Same w) l.name l'.name
      → Moves old new from to (untyped_findings rules old b l) (untyped_findings rules new b' l')
  untyped_moves rules b b' s l l' n =
      let e : (has_rule rules TypedVariables && (bytes_eq (token_text new b'.block_type) (codes "variable") && not (has_attribute new (codes "type") (attributes b'))))
      ≡ (has_rule rules TypedVariables && (bytes_eq (token_text old b.block_type) (codes "variable") && not (has_attribute old (codes "type") (attributes b)))) =
      ap₂ (λ a b. has_rule rules TypedVariables && (bytes_eq a (codes "variable") && not b)) (word_moves old new w s.name) (has_moves old new w (codes "type") false s.inside) in
      moves.either e (missing_moves TypedVariables b b' s n) moves.none

  undocumented_finds : (rules : RuleSet) (rule : Rule) (kind : List ℕ) (b b' : Block) → SameBlock old new w b b' → (l l' : Label) → MovedNumber (Here w) (Same w) l.name l'.name
      → Moves old new from to (undocumented_findings rules old rule kind b l) (undocumented_findings rules new rule kind b' l')
  undocumented_finds rules rule kind b b' s l l' n =
      let e : (has_rule rules rule && (bytes_eq (token_text new b'.block_type) kind && is_undocumented new (attributes b')))
      ≡ (has_rule rules rule && (bytes_eq (token_text old b.block_type) kind && is_undocumented old (attributes b))) =
      ap₂ (λ a b. has_rule rules rule && (bytes_eq a kind && b)) (word_moves old new w s.name) (undocumented_moves old new w s.inside) in
      moves.either e (missing_moves rule b b' s n) moves.none

  pub missing_moved : (rules : RuleSet) (b b' : Block) → SameBlock old new w b b' → {o o' : Option Label} → SameLabel old new w o o'
      → Moves old new from to (missing_findings rules old b o) (missing_findings rules new b' o')
  missing_moved rules b b' s blocks.no_label = moves.none
  missing_moved rules b b' s (blocks.one_label {l} {l'} n h g) =
      moves.append (untyped_moves rules b b' s l l' n)
      (moves.append (undocumented_finds rules DocumentedVariables (codes "variable") b b' s l l' n) (undocumented_finds rules DocumentedOutputs (codes "output") b b' s l l' n))

-- ---- over a text that parses, the numbers are in order

module _ (rules : RuleSet) (pairs : List Pair) (ts : List Token) (count : length ts ≡ length pairs) where
  block_type_within : (b : Block) → DerivesMember ts (Member-F.Block b) → b.block_type < length pairs
  block_type_within b s = let n = word_within s.0.1 b refl in omega (arith, n, count)

  finding_is_valid : (rule : Rule) (b : Block) (name : Option ℕ) → b.block_type < length pairs → AreValid (length pairs) (missing_finding rule b name)
  finding_is_valid rule b name h = valid.keep (length pairs) rule b.block_type (b.block_type + 1) (record { kind = None; name = name }) None (omega arith) (omega (arith, h)) refl

  undocumented_is_valid : (rule : Rule) (kind : List ℕ) (b : Block) (l : Label) → b.block_type < length pairs
      → AreValid (length pairs) (undocumented_findings rules pairs rule kind b l)
  undocumented_is_valid rule kind b l h =
      valid.choose (has_rule rules rule && (bytes_eq (token_text pairs b.block_type) kind && is_undocumented pairs (attributes b))) (finding_is_valid rule b l.name h) valid.none

  labelled_is_valid : (b : Block) (o : Option Label) → b.block_type < length pairs → AreValid (length pairs) (missing_findings rules pairs b o)
  labelled_is_valid b None h = valid.none
  labelled_is_valid b (Some l) h =
      valid.append (valid.choose (has_rule rules TypedVariables && (bytes_eq (token_text pairs b.block_type) (codes "variable") && not (has_attribute pairs (codes "type") (attributes b))))
      (finding_is_valid TypedVariables b l.name h) valid.none)
      (valid.append (undocumented_is_valid DocumentedVariables (codes "variable") b l h) (undocumented_is_valid DocumentedOutputs (codes "output") b l h))

  pub missing_is_valid : (b : Block) → DerivesMember ts (Member-F.Block b) → AreValid (length pairs) (missing_findings rules pairs b (slice_get b.labels 0))
  missing_is_valid b s = labelled_is_valid b (slice_get b.labels 0) (block_type_within b s)
