-- The machine's table: which call a step makes, and which step follows its reply.
use Rattle.std.specs.Prelude.{ℕ, true, false, Result, Ok, Err}
use Rattle.tf_saving.specs.declared.call.SavedFile.TheVariants.{Text, Journal}
use Rattle.tf_saving.specs.declared.call.Syscall.{Syscall}
use Rattle.tf_saving.specs.declared.call.Syscall.TheVariants.{Open, FindNew, CreateNew, CopyAttributes, Write}
use Rattle.tf_saving.specs.declared.call.Syscall.TheVariants.{Sync, SyncDirectory, CompareNew, Compare}
use Rattle.tf_saving.specs.declared.call.Syscall.TheVariants.{CanAdopt, Rename, Remove}
use Rattle.tf_saving.specs.declared.call.Reply.{Reply}
use Rattle.tf_saving.specs.declared.call.Reply.TheVariants.{Done, NotFound, CannotReplace, Failed}
use Rattle.tf_saving.specs.declared.step.End.{End}
use Rattle.tf_saving.specs.declared.step.End.TheVariants.{Success, InPlace, Error, Unknown, Late}
use Rattle.tf_saving.specs.declared.step.Step.{Step}
use Rattle.tf_saving.specs.declared.step.Step.TheVariants.{FindNewJournal, FindNewText, ReadNewJournal}
use Rattle.tf_saving.specs.declared.step.Step.TheVariants.{RemoveStray, OpenJournal, OpenText}
use Rattle.tf_saving.specs.declared.step.Step.TheVariants.{SyncEarlierRename, CreateText, CopyTextAttributes}
use Rattle.tf_saving.specs.declared.step.Step.TheVariants.{SyncTextName, CreateJournal, CopyJournalAttributes}
use Rattle.tf_saving.specs.declared.step.Step.TheVariants.{WriteJournal, SyncJournal, WriteText, SyncText}
use Rattle.tf_saving.specs.declared.step.Step.TheVariants.{SyncJournalName, CompareNewJournal, CompareNewText}
use Rattle.tf_saving.specs.declared.step.Step.TheVariants.{CompareText, RenameText, CheckRename, SyncRename}
use Rattle.tf_saving.specs.declared.step.Step.TheVariants.{RenameJournal, RemoveJournal, SyncRemoval}
use Rattle.tf_saving.specs.declared.step.Step.TheVariants.{RemoveText, CompareInPlace, Ended}

abbrev pub choose : Reply → Step → Step → Step → Step
choose Done done not_found failed = done
choose NotFound done not_found failed = not_found
choose CannotReplace done not_found failed = failed
choose Failed done not_found failed = failed

-- where the part may be written in place of being replaced
abbrev pub choose_or_in_place : Reply → Step → Step → Step → Step
choose_or_in_place Done done cannot_replace failed = done
choose_or_in_place NotFound done cannot_replace failed = failed
choose_or_in_place CannotReplace done cannot_replace failed = cannot_replace
choose_or_in_place Failed done cannot_replace failed = failed

-- the step to this end once the new files are removed
abbrev pub finish : End → Step
finish InPlace = CompareInPlace
finish Success = Ended Success
finish (Error part) = Ended (Error part)
finish Unknown = Ended Unknown
finish Late = Ended Late

-- the call to make, or the end
abbrev pub call_of : Step → Result Syscall End
call_of FindNewJournal = Ok (FindNew Journal)
call_of (FindNewText has_journal) = Ok (FindNew Text)
call_of ReadNewJournal = Ok CanAdopt
call_of RemoveStray = Ok (Remove Journal)
call_of OpenJournal = Ok (Open Journal)
call_of OpenText = Ok (Open Text)
call_of SyncEarlierRename = Ok (SyncDirectory Journal)
call_of CreateText = Ok (CreateNew Text)
call_of CopyTextAttributes = Ok (CopyAttributes Text)
call_of WriteText = Ok (Write Text)
call_of SyncText = Ok (Sync Text)
call_of SyncTextName = Ok (SyncDirectory Text)
call_of CreateJournal = Ok (CreateNew Journal)
call_of CopyJournalAttributes = Ok (CopyAttributes Journal)
call_of WriteJournal = Ok (Write Journal)
call_of SyncJournal = Ok (Sync Journal)
call_of SyncJournalName = Ok (SyncDirectory Journal)
call_of CompareNewJournal = Ok (CompareNew Journal)
call_of CompareNewText = Ok (CompareNew Text)
call_of CompareText = Ok Compare
call_of RenameText = Ok (Rename Text)
call_of (CheckRename end) = Ok (FindNew Text)
call_of SyncRename = Ok (SyncDirectory Text)
call_of RenameJournal = Ok (Rename Journal)
call_of (RemoveJournal end) = Ok (Remove Journal)
call_of (SyncRemoval end) = Ok (SyncDirectory Journal)
call_of (RemoveText end) = Ok (Remove Text)
call_of CompareInPlace = Ok Compare
call_of (Ended end) = Err end

abbrev pub step_after : Step → Reply → Step
step_after FindNewJournal r = choose r (FindNewText true) (FindNewText false) (Ended Unknown)
step_after (FindNewText true) r = choose r (RemoveJournal Success) ReadNewJournal (Ended Unknown)
step_after (FindNewText false) r = choose r (RemoveJournal Success) (Ended Success) (Ended Unknown)
step_after ReadNewJournal r = choose r SyncRename RemoveStray (Ended Unknown)
step_after RemoveStray r = choose r (Ended Success) (Ended Success) (Ended (Error Journal))
step_after OpenJournal r = choose r OpenText OpenText (Ended (Error Journal))
step_after OpenText r = choose r SyncEarlierRename (Ended (Error Text)) (Ended (Error Text))
step_after SyncEarlierRename r = choose_or_in_place r CreateText CompareInPlace (Ended (Error Journal))
step_after CreateText r = choose_or_in_place r CopyTextAttributes CompareInPlace (RemoveJournal (Error Text))
step_after CopyTextAttributes r =
    choose_or_in_place r WriteText (RemoveText InPlace) (RemoveText (Error Text))
step_after WriteText r = choose r SyncText (RemoveText (Error Text)) (RemoveText (Error Text))
step_after SyncText r = choose r SyncTextName (RemoveText (Error Text)) (RemoveText (Error Text))
step_after SyncTextName r = choose_or_in_place r CreateJournal (RemoveText InPlace) (RemoveText (Error Text))
step_after CreateJournal r =
    choose_or_in_place r CopyJournalAttributes (RemoveText InPlace) (RemoveJournal (Error Journal))
step_after CopyJournalAttributes r =
    choose_or_in_place r WriteJournal (RemoveJournal InPlace) (RemoveJournal (Error Journal))
step_after WriteJournal r =
    choose r SyncJournal (RemoveJournal (Error Journal)) (RemoveJournal (Error Journal))
step_after SyncJournal r =
    choose r SyncJournalName (RemoveJournal (Error Journal)) (RemoveJournal (Error Journal))
step_after SyncJournalName r =
    choose_or_in_place r CompareNewJournal (RemoveJournal InPlace) (RemoveJournal (Error Journal))
step_after CompareNewJournal r =
    choose r CompareNewText (RemoveJournal (Error Journal)) (RemoveJournal (Error Journal))
step_after CompareNewText r = choose r CompareText (RemoveJournal (Error Text)) (RemoveJournal (Error Text))
step_after CompareText r = choose r RenameText (RemoveJournal (Error Text)) (RemoveJournal (Error Text))
step_after RenameText r = choose_or_in_place r SyncRename (CheckRename InPlace) (CheckRename (Error Text))
step_after (CheckRename end) r = choose r (RemoveJournal end) SyncRename (Ended Unknown)
step_after SyncRename r = choose r RenameJournal (Ended Late) (Ended Late)
step_after RenameJournal r = choose r (Ended Success) (Ended Late) (Ended Late)
step_after (RemoveJournal end) r = choose r (SyncRemoval end) (SyncRemoval end) (finish end)
step_after (SyncRemoval end) r = choose r (RemoveText end) (finish end) (finish end)
step_after (RemoveText end) r = finish end
step_after CompareInPlace r = choose r (Ended InPlace) (Ended (Error Text)) (Ended (Error Text))
step_after (Ended end) r = Ended end

-- how many calls are left at most
abbrev pub calls_left : Step → ℕ
calls_left FindNewJournal = 7
calls_left (FindNewText has_journal) = 6
calls_left ReadNewJournal = 5
calls_left RemoveStray = 1
calls_left OpenJournal = 22
calls_left OpenText = 21
calls_left SyncEarlierRename = 20
calls_left CreateText = 19
calls_left CopyTextAttributes = 18
calls_left WriteText = 17
calls_left SyncText = 16
calls_left SyncTextName = 15
calls_left CreateJournal = 14
calls_left CopyJournalAttributes = 13
calls_left WriteJournal = 12
calls_left SyncJournal = 11
calls_left SyncJournalName = 10
calls_left CompareNewJournal = 9
calls_left CompareNewText = 8
calls_left CompareText = 7
calls_left RenameText = 6
calls_left (CheckRename end) = 5
calls_left SyncRename = 2
calls_left RenameJournal = 1
calls_left (RemoveJournal end) = 4
calls_left (SyncRemoval end) = 3
calls_left (RemoveText end) = 2
calls_left CompareInPlace = 1
calls_left (Ended end) = 0
