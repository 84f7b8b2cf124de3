-- For proofs: the edits that lead from one text to another, where they were kept and where not.
use Rattle.std.specs.Prelude.{◌≡◌, ℕ, Bool, List, [], length, Option, IfSome, ⊤}
use Rattle.std.specs.Option.{is_some}
use Rattle.edit_record.specs.Lists.Pieces.{EditList, Transforms, as_list}
use Rattle.edit_record.specs.Lists.Validity.{IsValidList}
use Rattle.tf_rules.specs.declared.rule_set.RuleSet.{RuleSet}
use Rattle.tf_lint.specs.declared.steps.FixOutcome.{FixOutcome}
use Rattle.tf_lint.specs.declared.steps.FixOutcome.TheVariants.{Unchanged, Edited}
use Rattle.tf_lint.specs.Inner.FirstChange.{rewrite_by}
use Rattle.tf_lint.specs.Remaining.{remaining_count, IsRemaining}
use Rattle.tf_lint.specs.Steps.{Rewrite, Fixes}

-- these are a list of edits, which leads from the one text to the other; what was kept is just them
pub record LeadsTo (kept : Option EditList) (edits : EditList) (old new : List ℕ) : Type 0 where
  pub kept_are : IfSome kept (λ k. k ≡ edits)
  pub valid : IsValidList edits
  pub transforms : Transforms edits old new

-- what was made of a text that no rule changes
abbrev pub unchanged_rewrite : List ℕ → ℕ → ℕ → Rewrite
unchanged_rewrite text fixed left =
    record { text = text; edits = as_list (length text) []; fixed = fixed; left = left }

-- the steps of all rules did what a fix does, by edits that were kept or not
abbrev pub IsFixOutcome : RuleSet → List ℕ → FixOutcome → Type 0
IsFixOutcome rules text (Unchanged fixed left) =
    Fixes rules text (unchanged_rewrite text fixed (remaining_count left)) × IsRemaining rules text left
IsFixOutcome rules text (Edited e) =
    (edits : EditList) × LeadsTo e.edits edits text e.text.items
    × Fixes rules text (rewrite_by edits e) × IsRemaining rules e.text.items e.left

-- whether they were kept
abbrev pub KeepsEdits : Bool → FixOutcome → Type 0
KeepsEdits keep (Unchanged fixed left) = ⊤
KeepsEdits keep (Edited e) = is_some e.edits ≡ keep
