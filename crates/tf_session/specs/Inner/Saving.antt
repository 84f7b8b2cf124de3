-- When the texts that a command made are saved.
use Rattle.std.specs.Prelude.{◌≡◌, Bool, true, false, Option, Some, None}
use Rattle.tf_session.specs.declared.command.Command.{Command}
use Rattle.tf_session.specs.declared.command.Command.TheVariants.{Fmt, Fix, Revert, Take}
use Rattle.tf_session.specs.declared.command.Done.{Done}
use Rattle.tf_session.specs.declared.saver.SavedTexts.{SavedTexts}
use Rattle.tf_session.specs.Journals.{IsSavedText}
use Rattle.tf_session.specs.Session.{SessionContents}

-- a fmt and a fix change the journal if and only if they change the text; a revert always does
abbrev pub must_save : Command → Done → Bool
must_save Fmt d = d.changed
must_save (Fix rules) d = d.changed
must_save Revert d = true
must_save (Take n) d = true

-- the text and the text of the records, if they are to be saved
abbrev pub AreSavedTexts : Bool → SessionContents → Option SavedTexts → Type 0
AreSavedTexts false contents saved = saved ≡ None
AreSavedTexts true contents None = ⊥
AreSavedTexts true contents (Some saved) =
    (saved.text.items ≡ contents.text) × IsSavedText contents.records saved.journal.items
