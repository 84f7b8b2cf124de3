-- Rules that are removed from a set, or added to it, one choice after another.
use Rattle.std.proofs.Common.{◌≡◌, ◌≢◌, ◌==◌, ◌||◌, ℕ, ◌<◌, ◌+◌, Bool, true, false, not, List, take, length, get_or, inl, inr, refl, sym, ap, ◌∙◌}
use Rattle.std.proofs.lemmas.Bool.Decides.{eqb_tells}
use Rattle.std.proofs.lemmas.List.Folds.{list_any_more}
use Rattle.tf_rules.specs.declared.rule.Rule.{Rule}
use Rattle.tf_rules.specs.declared.rule.Rule.TheVariants.{CommentSyntax}
use Rattle.tf_rules.specs.declared.rule_set.RuleSet.{RuleSet}
use Rattle.tf_rules.specs.RuleSets.{has_rule}
use Rattle.tf_rules.specs.Table.{all_rules, index_of}
use Rattle.tf_cli.specs.Choices.{choice_names, is_chosen}
use Rattle.tf_cli.specs.declared.rule_choice.Choice.{Choice}

-- each rule is at its number, so a number is that of one rule
rule_at_index : (rule d : Rule) → get_or all_rules (index_of rule) d ≡ rule
rule_at_index CommentSyntax d = refl
rule_at_index rule d = refl

same_rule : (one other : Rule) → index_of one ≡ index_of other → one ≡ other
same_rule one other e =
    sym (rule_at_index one one) ∙ ap (λ k. get_or all_rules k one) e ∙ rule_at_index other one

or_true : (b : Bool) → (b || true) ≡ true
or_true true = refl
or_true false = refl

or_false : (b : Bool) → (b || false) ≡ b
or_false true = refl
or_false false = refl

-- what the choices name with one more
pub one_more : (choices : List Choice) (i : ℕ) (choice d : Choice) (rule : Rule)
    → i < length choices → get_or choices i d ≡ choice
    → is_chosen (take (i + 1) choices) rule ≡ (is_chosen (take i choices) rule || choice_names choice rule)
one_more choices i choice d rule below is =
    list_any_more (λ (c : Choice). choice_names c rule) choices i d below
    ∙ ap (λ c. is_chosen (take i choices) rule || choice_names c rule) is

-- a set with a rule more, and one with a rule less
pub rule_in : (before after : RuleSet) (one rule : Rule) → has_rule after one ≡ true
    → ((other : Rule) → other ≢ one → has_rule after other ≡ has_rule before other)
    → has_rule after rule ≡ (has_rule before rule || (index_of rule == index_of one))
rule_in before after one rule added others = elim (eqb_tells (index_of rule) (index_of one)) [
  | inl same ↦ ap (has_rule after) (same_rule rule one same.1) ∙ added
      ∙ sym (ap (λ b. has_rule before rule || b) same.0 ∙ or_true (has_rule before rule))
  | inr other ↦ others rule (λ is. other.1 (ap index_of is))
      ∙ sym (ap (λ b. has_rule before rule || b) other.0 ∙ or_false (has_rule before rule))
]

not_or_true : (b : Bool) → not (b || true) ≡ false
not_or_true b = ap not (or_true b)

pub rule_out : (before after : RuleSet) (named : Bool) (one rule : Rule)
    → has_rule before rule ≡ not named → has_rule after one ≡ false
    → ((other : Rule) → other ≢ one → has_rule after other ≡ has_rule before other)
    → has_rule after rule ≡ not (named || (index_of rule == index_of one))
rule_out before after named one rule left removed others =
    elim (eqb_tells (index_of rule) (index_of one)) [
      | inl same ↦ ap (has_rule after) (same_rule rule one same.1) ∙ removed
          ∙ sym (ap (λ b. not (named || b)) same.0 ∙ not_or_true named)
      | inr other ↦ others rule (λ is. other.1 (ap index_of is)) ∙ left
          ∙ sym (ap (λ b. not (named || b)) other.0 ∙ ap not (or_false named))
    ]

pub none_left : (b : Bool) → false ≡ not (b || true)
none_left b = sym (not_or_true b)

pub all_in : (b c : Bool) → true ≡ (b || (c || true))
all_in b c = sym (ap (λ d. b || d) (or_true c) ∙ or_true b)

pub or_more : (a b c : Bool) → ((a || b) || c) ≡ (a || (b || c))
or_more true b c = refl
or_more false b c = refl
