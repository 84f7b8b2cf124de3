-- Commands on a file, one after another, are one run: by induction on the commands.
use Rattle.std.proofs.Common.{◌≡◌, ◌∙◌, ℕ, List, [], ◌∷◌, map, Bool, true, false, MatchBool, Result, Ok, Err, ap, sym, subst, refl, inl, inr, arith}
use Rattle.std.specs.List.{AllByRecursion}
use Rattle.edit_record.specs.Lists.ChangeResults.{ChangeResultIsUnique}
use Rattle.edit_record.specs.Lists.Journal.{JournalEntry, record_transforms}
use Rattle.edit_record.specs.Swaps.MoveToEnd.{MoveToEndIsUnique}
use Rattle.tf_session.specs.declared.command.Command.{Command}
use Rattle.tf_session.specs.declared.command.Command.TheVariants.{Fmt, Fix, Revert, Take}
use Rattle.tf_session.specs.declared.command.Done.{Done}
use Rattle.tf_session.specs.declared.command.Fault.{Fault}
use Rattle.tf_session.specs.declared.fault.RunFault.{RunFault}
use Rattle.tf_session.specs.Faults.{run_fault_of}
use Rattle.tf_session.specs.Invocations.{FileContents, without_journal, IsFileOf, StepsFile, Invokes}
use Rattle.tf_session.specs.Invocations.{AreOneRun, HasStackRecords, HasHistoryRecords, InvocationsAreStackRun, InvocationsAreHistoryRun, StepOrLimit, is_limit}
use Rattle.tf_session.specs.Invocations.{is_limit_result, commands_within, results_within, result_of, LimitsChangeNothing}
use Rattle.tf_session.specs.Journals.{IsSavedText}
use Rattle.tf_session.specs.Layers.{History, initial_history, top_text, records_in, HistoryStep, HistoryMayAllocate, HistoryStepOrMemory}
use Rattle.tf_session.specs.Machine.{StackEntry, Stack, initial_stack, StackStep, StackMayAllocate, StackStepOrMemory, IsNotTake}
use Rattle.tf_session.specs.Records.{IsJournalOfStack, ChangesContents, CannotRevert, RefusesContents, DoesStep, RefusesStep}
use Rattle.tf_session.specs.Rewrites.{Rewrites}
use Rattle.tf_session.specs.Runs.{StepOrMemory, RunBy}
use Rattle.tf_session.specs.Session.{SessionContents, with_records}
use Rattle.tf_session.proofs.Histories.{acted, stays}
use Rattle.tf_session.proofs.JournalOne.{TransformLengths}
use Rattle.tf_session.proofs.Lists.{not_nil, same_last}
use Rattle.tf_session.proofs.Stacks.{did, last_transforms}
use Rattle.tf_session.proofs.OneInvocation.{Unambiguous, TooLong, StepsContents}
use Rattle.tf_session.proofs.OneInvocation.{steps_contents, refuses, invoked_on}

-- ---- over any machine, by what one command does there

module _ {State : Type 0} (MayAllocate : Command → State → Type 0) (Step : Command → State → Result Done Fault → State → Type 0) (top : State → List ℕ) (HasRecords : State → List JournalEntry → Type 0)
    (DoesIt : Command → SessionContents → Done → SessionContents → Type 0) (RefusesIt : Command → SessionContents → Fault → Type 0) where
  -- a state of the machine is that of a file
  record Represents (file : FileContents) (s : State) : Type 0 where
    records : List JournalEntry
    is_file : IsFileOf (with_records (top s) records) file
    records_are : HasRecords s records

  -- the command leaves a state of the file after it
  abbrev StepsOrStops : Command → State → Result Done RunFault → FileContents → Type 0
  StepsOrStops command s result new =
      (mid : State) × StepOrLimit Step command s result mid × Represents new mid

  abbrev Does : Command → Type 0
  Does command =
      (s : State) (js : List JournalEntry) (d : Done) (u : List ℕ) (ks : List JournalEntry) → DoesIt command (with_records (top s) js) d (with_records u ks) → HasRecords s js
      → (n : State) × Step command s (Ok d) n × (u ≡ top n) × HasRecords n ks

  abbrev Refuses : Command → Type 0
  Refuses command =
      (s : State) (js : List JournalEntry) (fault : Fault) → RefusesIt command (with_records (top s) js) fault → HasRecords s js → StepOrMemory MayAllocate Step command s (Err fault) s

  done : (command : Command) → Does command
      → (s : State) (old new : FileContents) (d : Done) (rep : Represents old s)
      → StepsContents DoesIt RefusesIt command (with_records (top s) rep.records) (Ok d) old new
      → StepsOrStops command s (Ok d) new
  done command does s old new d rep (left, here, file) =
      let step = does s rep.records d left.text left.records here rep.records_are in
      (step.0, step.1, record { records = left.records; is_file = (file.0 ∙ step.2, file.1); records_are = step.3 })

  stays_there : (s : State) (old new : FileContents) → new ≡ old → Represents old s
      → Represents new s
  stays_there s old new same rep = subst (λ (file : FileContents). Represents file s) (sym same) rep

  -- a refusal is a limit or the machine's
  refusal : (command : Command) (s : State) (new : FileContents) (fault : Fault) → Represents new s
      → StepOrMemory MayAllocate Step command s (Err fault) s
      → StepsOrStops command s (Err (run_fault_of fault)) new
  refusal command s new (Fault.Scan fault) rep step = (s, (Fault.Scan fault, refl, step), rep)
  refusal command s new (Fault.Parse fault) rep step = (s, (Fault.Parse fault, refl, step), rep)
  refusal command s new (Fault.FixBroken rule) rep step = (s, (Fault.FixBroken rule, refl, step), rep)
  refusal command s new Fault.TooLong rep step = (s, (Fault.TooLong, refl, step), rep)
  refusal command s new Fault.NoRecord rep step = (s, (Fault.NoRecord, refl, step), rep)
  refusal command s new (Fault.Refused refused) rep step = (s, (Fault.Refused refused, refl, step), rep)
  refusal command s new Fault.Memory rep step = (s, refl, rep)
  refusal command s new (Fault.Blocked number) rep step = (s, (Fault.Blocked number, refl, step), rep)

  stopped : (command : Command) → Refuses command
      → (s : State) (old new : FileContents) (fault : RunFault) (rep : Represents old s)
      → StepsContents DoesIt RefusesIt command (with_records (top s) rep.records) (Err fault) old new
      → StepsOrStops command s (Err fault) new
  stopped command refuses s old new fault rep (same, inl memory) =
      subst (λ (f : RunFault). StepsOrStops command s (Err f) new) (sym memory) (s, refl, stays_there s old new same rep)
  stopped command refuses s old new fault rep (same, inr (inl (endless, _, _, _, _))) =
      subst (λ (f : RunFault). StepsOrStops command s (Err f) new) (sym endless) (s, refl, stays_there s old new same rep)
  stopped command refuses s old new fault rep (same, inr (inr (refusing, is_fault, why))) =
      subst (λ (f : RunFault). StepsOrStops command s (Err f) new) (sym is_fault)
      (refusal command s new refusing (stays_there s old new same rep) (refuses s rep.records refusing why rep.records_are))

  stepped_on : (command : Command) → Does command → Refuses command
      → (s : State) (old new : FileContents) (result : Result Done RunFault) (rep : Represents old s)
      → StepsContents DoesIt RefusesIt command (with_records (top s) rep.records) result old new
      → StepsOrStops command s result new
  stepped_on command does refuses s old new (Ok d) rep h = done command does s old new d rep h
  stepped_on command does refuses s old new (Err fault) rep h = stopped command refuses s old new fault rep h

  -- ---- commands one after another

  abbrev Are : State → List Command → List (Result Done RunFault) → FileContents → Type 0
  Are = AreOneRun Step top HasRecords

  -- the commands that the machine has, and what is known of one on a file
  module _ (Allowed : Command → Type 0) (does : (command : Command) → Allowed command → Does command) (refuses : (command : Command) → Allowed command → Refuses command) (Known : Command → FileContents → Result Done RunFault → FileContents → Type 0)
      (known : (command : Command) (contents : SessionContents) (result : Result Done RunFault) (old new : FileContents) → Allowed command → IsFileOf contents old → Known command old result new → StepsContents DoesIt RefusesIt command contents result old new) where
    invoked_in_order : (s : State) (old end : FileContents) (commands : List Command) (results : List (Result Done RunFault))
        → AllByRecursion Allowed commands → Represents old s → RunBy Known old commands results end
        → Are s commands results end
    invoked_in_order s old end [] [] allowed rep same = record {
      state = s;
      run = refl;
      text = ap (λ (file : FileContents). file.text) same ∙ rep.is_file.0;
      records = rep.records;
      journal = subst (λ (file : FileContents). IsSavedText rep.records file.journal) (sym same) rep.is_file.1;
      records_are = rep.records_are;
    }
    invoked_in_order s old end [] (result ∷ results) allowed rep h = absurd h
    invoked_in_order s old end (command ∷ commands) [] allowed rep h = absurd h
    invoked_in_order s old end (command ∷ commands) (result ∷ results) allowed rep (between, first, rest) =
        let step = stepped_on command (does command allowed.0) (refuses command allowed.0) s old between result rep (known command (with_records (top s) rep.records) result old between allowed.0 rep.is_file first) in
        let run = invoked_in_order step.0 between end commands results allowed.1 step.2 rest in
        record {
          state = run.state;
          run = (step.0, step.1, run.run);
          text = run.text;
          records = run.records;
          journal = run.journal;
          records_are = run.records_are;
        }

    pub are_one_run : (text : List ℕ) (s : State) (commands : List Command) (results : List (Result Done RunFault)) (end : FileContents)
        → text ≡ top s → HasRecords s [] → AllByRecursion Allowed commands
        → RunBy Known (without_journal text) commands results end → Are s commands results end
    are_one_run text s commands results end is none allowed h =
        invoked_in_order s (without_journal text) end commands results allowed
        (record { records = []; is_file = (is, (record { made = tt; is = refl }, omega arith)); records_are = none }) h

-- ---- without the commands that ended at a limit

module _ {State : Type 0} (Step : Command → State → Result Done Fault → State → Type 0) where
  abbrev Within : State → List Command → List (Result Done RunFault) → State → Type 0
  Within first commands results end =
      (replies : List (Result Done Fault)) × (results_within results ≡ map result_of replies)
      × RunBy Step first (commands_within commands results) replies end

  skipped : (s end : State) (command : Command) (commands : List Command) (fault : RunFault) (results : List (Result Done RunFault))
      → is_limit fault ≡ true
      → Within s commands results end → Within s (command ∷ commands) (Err fault ∷ results) end
  skipped s end command commands fault results limit (replies, are, run) =
      (replies, rw limit are, rw limit run)

  counted : (s mid end : State) (command : Command) (commands : List Command) (result : Result Done RunFault) (reply : Result Done Fault) (results : List (Result Done RunFault))
      → is_limit_result result ≡ false → result ≡ result_of reply
      → Step command s reply mid → Within mid commands results end → Within s (command ∷ commands) (result ∷ results) end
  counted s mid end command commands result reply results within is step (replies, are, run) =
      let same : result ∷ results_within results ≡ result_of reply ∷ map result_of replies = cc in
      (reply ∷ replies, rw within same, rw within (mid, step, run))

  ended : (b : Bool) (s mid end : State) (command : Command) (commands : List Command) (fault : RunFault) (results : List (Result Done RunFault))
      → is_limit fault ≡ b
      → MatchBool b (mid ≡ s) ((refusal : Fault) × (fault ≡ run_fault_of refusal) × Step command s (Err refusal) mid)
      → Within mid commands results end → Within s (command ∷ commands) (Err fault ∷ results) end
  ended true s mid end command commands fault results limit same rest =
      skipped s end command commands fault results limit (subst (λ (x : State). Within x commands results end) same rest)
  ended false s mid end command commands fault results limit (refusal, is, step) rest =
      counted s mid end command commands (Err fault) (Err refusal) results limit (ap Err is) step rest

  pub limits_change_nothing : LimitsChangeNothing Step
  limits_change_nothing s end [] [] same = ([], refl, same)
  limits_change_nothing s end [] (result ∷ results) h = absurd h
  limits_change_nothing s end (command ∷ commands) [] h = absurd h
  limits_change_nothing s end (command ∷ commands) (Ok d ∷ results) (mid, step, rest) =
      counted s mid end command commands (Ok d) (Ok d) results refl refl step (limits_change_nothing mid end commands results rest)
  limits_change_nothing s end (command ∷ commands) (Err fault ∷ results) (mid, step, rest) =
      ended (is_limit fault) s mid end command commands fault results refl step (limits_change_nothing mid end commands results rest)

-- ---- the two machines

stays_text : (command : Command) (s : Stack) (fault : Fault)
    → ¬ (Rewrites command s.top (Err Fault.Memory))
    → (Rewrites command s.top (Err fault) → StackStep command s (Err fault) s)
    → Rewrites command s.top (Err fault) → StackStepOrMemory command s (Err fault) s
stays_text command s Fault.Memory never step h = absurd (never h)
stays_text command s _ never step h = step h

stays_revert : (t : List ℕ) (below : List StackEntry) (js : List JournalEntry) (fault : Fault)
    → CannotRevert (with_records t js) fault → IsJournalOfStack js t below
    → StackStepOrMemory Revert (record { top = t; below = below }) (Err fault) (record { top = t; below = below })
stays_revert t [] js Fault.NoRecord why st = (refl, refl)
stays_revert t (under ∷ rest) js Fault.NoRecord why st = absurd (not_nil st.0 st.1 (sym st.2 ∙ why))
stays_revert t [] js (Fault.Refused refused) (r, last, never) st = absurd (not_nil last.0 r (sym last.1 ∙ st))
stays_revert t (under ∷ rest) js (Fault.Refused refused) (r, last, never) st =
    let lasts = same_last last.0 st.0 r st.1 (sym last.1 ∙ st.2) in
    absurd (never under.text (subst (λ (r : JournalEntry). record_transforms r under.text t) (sym lasts.1) (last_transforms js t under rest st)))
stays_revert t below js _ why st = absurd why

stays_refused : (command : Command) → IsNotTake command
    → (s : Stack) (js : List JournalEntry) (fault : Fault)
    → RefusesContents command (with_records s.top js) fault → HasStackRecords s js
    → StackStepOrMemory command s (Err fault) s
stays_refused Fmt untaken s js fault why st =
    stays_text Fmt s fault (λ never. never) (λ h. (Err fault, h, (refl, refl))) why
stays_refused (Fix rules) untaken s js fault why st =
    stays_text (Fix rules) s fault (λ never. never) (λ h. (Err fault, h, (refl, refl))) why
stays_refused Revert untaken s js fault why st = stays_revert s.top s.below js fault why st
stays_refused (Take n) untaken s js fault why st = absurd untaken

pub are_stack_run : InvocationsAreStackRun
are_stack_run text commands results end untaken h =
    are_one_run StackMayAllocate StackStep (λ s. s.top) HasStackRecords ChangesContents RefusesContents IsNotTake
    (λ command allowed s js d u ks does st. did command allowed s.top s.below js d u ks does st)
    stays_refused
    StepsFile steps_contents
    text (initial_stack text) commands results end refl refl untaken h

-- any command
abbrev IsAny : Command → Type 0
IsAny command = Unit {0}

all_are_any : (commands : List Command) → AllByRecursion IsAny commands
all_are_any [] = tt
all_are_any (command ∷ commands) = (tt, all_are_any commands)

layer_did : MoveToEndIsUnique
    → (command : Command) (s : History) (js : List JournalEntry) (d : Done) (u : List ℕ) (ks : List JournalEntry)
    → DoesStep command (with_records (top_text s) js) d (with_records u ks) → HasHistoryRecords s js
    → (n : History) × HistoryStep command s (Ok d) n × (u ≡ top_text n) × HasHistoryRecords n ks
layer_did takes_one command s js d u ks does st =
    let here : DoesStep command (with_records (top_text s) (records_in s.layers)) d (with_records u ks) = subst (λ (x : List JournalEntry). DoesStep command (with_records (top_text s) x) d (with_records u ks)) st.0 does in
    let h = acted takes_one command s d u ks here st.1 in
    (h.0, h.1, h.2, (h.3, h.4))

layer_refused : ChangeResultIsUnique → MoveToEndIsUnique → TransformLengths
    → (command : Command) (s : History) (js : List JournalEntry) (fault : Fault)
    → RefusesStep command (with_records (top_text s) js) fault → HasHistoryRecords s js
    → HistoryStepOrMemory command s (Err fault) s
layer_refused unique takes_one lengths command s js fault why st =
    let here : RefusesStep command (with_records (top_text s) (records_in s.layers)) fault = subst (λ (x : List JournalEntry). RefusesStep command (with_records (top_text s) x) fault) st.0 why in
    stays unique takes_one lengths command s fault here st.1

pub are_history_run : Unambiguous → ChangeResultIsUnique → MoveToEndIsUnique → TransformLengths
    → InvocationsAreHistoryRun
are_history_run one unique takes_one lengths text commands results end h =
    are_one_run HistoryMayAllocate HistoryStep top_text HasHistoryRecords DoesStep RefusesStep IsAny
    (λ command allowed. layer_did takes_one command)
    (λ command allowed. layer_refused unique takes_one lengths command)
    Invokes (λ command contents result old new allowed file h. invoked_on one command contents result old new file h)
    text (initial_history text) commands results end refl (refl, tt) (all_are_any commands) h
