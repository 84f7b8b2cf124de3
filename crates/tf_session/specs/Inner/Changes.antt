-- What a fmt and `push_change` are proved to make.
use Rattle.std.specs.Prelude.{◌≡◌, ℕ, Bool, true, false, List, [], ◌∷◌, ◌++◌, Option}
use Rattle.edit_record.specs.declared.lists.record.Word.{Word}
use Rattle.edit_record.specs.Lists.Journal.{JournalEntry}
use Rattle.edit_record.specs.Lists.Pieces.{EditList}
use Rattle.tf_lint.specs.declared.step.NewText.{NewText}
use Rattle.tf_lint.specs.FixResult.{changed_text, changed_edits}
use Rattle.tf_lint.specs.Steps.{Rewrite}

-- what a fmt makes of this text, given the change that it returns
abbrev pub fmt_rewrite : List ℕ → Option NewText → Rewrite
fmt_rewrite text change =
    record { text = changed_text text change; edits = changed_edits text change; fixed = 0; left = 0 }

-- the record with this word and these edits is added, or nothing
abbrev pub AddsRecord : Bool → Word → EditList → List JournalEntry → List JournalEntry → Type 0
AddsRecord true word edits js ks = ks ≡ js ++ (record { word = word; edits = edits }) ∷ []
AddsRecord false word edits js ks = ks ≡ js
