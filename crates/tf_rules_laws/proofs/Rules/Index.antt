-- Legacy indices.
use Rattle.std.proofs.Common.{◌≡◌, ℕ, Bool, true, not, List, refl, length, arith, ◌+◌, nat_le}
use Rattle.hcl_grammar.specs.Grammar.{IsTail}
use Rattle.hcl_grammar.specs.Tokens.{Token}
use Rattle.hcl_grammar.specs.declared.tree.ExprKind.TheOpen.{Tail-F}
use Rattle.hcl_grammar.specs.declared.tree.Tail.{out-Tail, Tail}
use Rattle.hcl_scan.specs.Follows.{tokens_of}
use Rattle.hcl_token.specs.Tokens.{Pair}
use Rattle.hcl_token.specs.declared.kind.Kind.TheVariants.{DotIndex}
use Rattle.tf_reuse.proofs.RenumberedTrivia.{here_after}
use Rattle.tf_reuse.proofs.Renumbering as moves
use Rattle.tf_reuse.proofs.Renumbering.{Moves}
use Rattle.tf_reuse.proofs.Window.{Same, same_here}
use Rattle.tf_reuse.specs.SameTokens.{SameTokens}
use Rattle.tf_rules.specs.Findings.{plain_message}
use Rattle.tf_rules.specs.Fixes.{is_in_order, insert_only}
use Rattle.tf_rules.specs.Rules.Index.{index_findings}
use Rattle.tf_rules.specs.declared.fix.Insertion.TheVariants as insertion
use Rattle.tf_rules.specs.declared.rule.Rule.TheVariants.{DeprecatedIndex}
use Rattle.tf_rules_laws.proofs.OfRule as found
use Rattle.tf_rules_laws.proofs.OfRule.{From}
use Rattle.tf_rules_laws.proofs.Order.{tail_legacy, kind_within}
use Rattle.tf_rules_laws.proofs.Valid as valid
use Rattle.tf_rules_laws.proofs.Valid.{AreValid}

-- ---- what is found is of the rule

pub of_rule : (pairs : List Pair) (splat : Bool) (n : ℕ) → From pairs DeprecatedIndex (index_findings pairs splat n)
of_rule pairs splat n = found.maybe (not splat) (insert_only insertion.Index) refl refl refl

-- ---- where its tokens are elsewhere too, the same is found

module _ (old new : List Pair) {from to count : ℕ} (w : SameTokens (tokens_of old) (tokens_of new) from to count) where
  pub index_moved : (splat : Bool) {n n' : ℕ} → Same w n n' → Moves old new from to (index_findings old splat n) (index_findings new splat n')
  index_moved splat t =
      let fix = moves.fix_when old new w refl (moves.tokens insertion.Index (moves.skip (moves.skip moves.no_kept))) in
      moves.finding_moves old new w DeprecatedIndex (same_here w t) (here_after old new w t) refl fix

-- ---- over a text that parses, the numbers are in order

indexed : (n : ℕ) → is_in_order n (n + 1) (insert_only insertion.Index) ≡ true
indexed n = let e : nat_le n (n + 1) ≡ true = grind arith in e

module _ (pairs : List Pair) (ts : List Token) (count : length ts ≡ length pairs) where
  pub index_is_valid : {d : ℕ} {m : Bool} {x : Tail} {i j : ℕ} (splat : Bool) → IsTail ts d m x i j → (n : ℕ) → out-Tail x ≡ Tail-F.LegacyIndex n → AreValid (length pairs) (index_findings pairs splat n)
  index_is_valid splat w n h =
      let b = kind_within ts n DotIndex (tail_legacy w n h) in
      valid.keep (length pairs) DeprecatedIndex n (n + 1) plain_message _ (omega arith) (omega (arith, b, count)) (valid.fits n (n + 1) (not splat) (insert_only insertion.Index) (indexed n))
