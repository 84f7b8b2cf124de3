-- What a clause reads of a fixed text.
use Rattle.std.specs.Prelude.{ℕ, List, [], length, Option, Some, None}
use Rattle.std.specs.Global.{Vec}
use Rattle.edit_record.specs.Lists.Pieces.{EditList, Transforms, as_list}
use Rattle.tf_rules.specs.declared.rule_set.RuleSet.{RuleSet}
use Rattle.tf_lint.specs.declared.step.NewText.{NewText}
use Rattle.tf_lint.specs.declared.steps.FixResult.{FixResult}
use Rattle.tf_lint.specs.declared.steps.FixedText.{FixedText}
use Rattle.tf_lint.specs.Remaining.{remaining_count}
use Rattle.tf_lint.specs.Steps.{Fixes, Rewrite}

abbrev pub changed_text : List ℕ → Option NewText → List ℕ
changed_text text None = text
changed_text text (Some change) = change.text.items

-- no edits where nothing changes
abbrev pub changed_edits : List ℕ → Option NewText → EditList
changed_edits text None = as_list (length text) []
changed_edits text (Some change) = change.edits

-- what was made of this text
abbrev pub rewrite_of : List ℕ → FixResult → Rewrite
rewrite_of text f = record {
  text = changed_text text f.change;
  edits = changed_edits text f.change;
  fixed = f.fixed;
  left = remaining_count f.left;
}

-- ---- where no edits are kept

abbrev pub fixed_text_or : List ℕ → Option (Vec ℕ) → List ℕ
fixed_text_or text None = text
fixed_text_or text (Some new) = new.items

-- what was made of this text, by these edits
abbrev pub rewrite_with : EditList → List ℕ → FixedText → Rewrite
rewrite_with edits text f = record {
  text = fixed_text_or text f.text;
  edits = edits;
  fixed = f.fixed;
  left = remaining_count f.left;
}

-- that is what a fix by these rules makes of the text, by some edits, which lead to it
abbrev pub FixesTo : RuleSet → List ℕ → FixedText → Type 0
FixesTo rules text f =
    (edits : EditList) × Transforms edits text (fixed_text_or text f.text)
    × Fixes rules text (rewrite_with edits text f)
