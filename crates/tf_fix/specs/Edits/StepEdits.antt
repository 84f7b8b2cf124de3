-- By which edits one step of a fix makes a text into another.
use Rattle.std.specs.Prelude.{List, length, map, if◌then◌else◌}
use Rattle.edit_record.specs.Lists.Pieces.{EditEntry, EditList, as_list, changed_entries}
use Rattle.hcl_token.specs.TokenizedText.{TokenizedText}
use Rattle.tf_rules.specs.declared.finding.Finding.{Finding}
use Rattle.tf_rules.specs.declared.rule.Rule.{Rule}
use Rattle.tf_rules.specs.Table.{is_comment_rule}
use Rattle.tf_fix.specs.Edits.CommentEdits.{comment_edit}
use Rattle.tf_fix.specs.Edits.FindingReplacements.{step_replacements}
use Rattle.tf_fix.specs.Edits.Parts.{parts}
use Rattle.tf_fix.specs.Edits.Replacements.{replaced_pieces}
use Rattle.tf_fix.specs.Selection.{selected}

-- the edits of the step: an edit of two bytes for each comment that it takes; for the other rules
-- the pieces of the text that change
abbrev pub fix_step_entries : Rule → TokenizedText → List Finding → List EditEntry
fix_step_entries rule tokenized findings =
    if is_comment_rule rule then map (comment_edit tokenized.pairs) (selected findings)
    else changed_entries 0 (replaced_pieces (parts tokenized) (step_replacements tokenized.pairs findings))

abbrev pub fix_step_edits : Rule → TokenizedText → List Finding → EditList
fix_step_edits rule tokenized findings =
    as_list (length tokenized.text) (fix_step_entries rule tokenized findings)
