-- Runs of the program do to a file what their commands do to it: by induction on files and runs.
use Rattle.std.proofs.Common.{◌≡◌, ◌⊎◌, ℕ, Bool, true, List, [], ◌∷◌, ◌++◌, Option, Some, None, Result, Ok, Err, ◌∙◌, refl, sym, ap, ap₂, subst, inl, inr}
use Rattle.std.specs.Borrow.{Bor}
use Rattle.std.specs.Prelude.{unwrap_or, length}
use Rattle.tf_cli.specs.Reading.{IsTaskOfArguments}
use Rattle.tf_cli.specs.declared.options.Action.{Action}
use Rattle.tf_cli.specs.declared.outcome.FileOutcome.{FileOutcome}
use Rattle.tf_cli.specs.declared.tasks.Task.{Task}
use Rattle.tf_session.specs.Invocations.{FileContents, without_journal, HasEffect, HasNoEffect, Invokes, InvokesAll, InvocationsStepFiles, InvocationsAreStackRun, InvocationsAreHistoryRun, contents_after}
use Rattle.tf_session.specs.declared.command.Command.{Command}
use Rattle.tf_session.specs.declared.command.Done.{Done}
use Rattle.tf_session.specs.declared.fault.RunFault.{RunFault}
use Rattle.tf_session.specs.declared.invocation.Effect.{Effect}
use Rattle.tf_session.specs.declared.saver.SavedTexts.{SavedTexts}
use Rattle.tf_files.specs.Stores.{Files, Spot, AreApart, SavesIn, contents_at}
use Rattle.tf_files.specs.declared.cause.Trouble.{Trouble}
use Rattle.tf_program.specs.Printing.{Channel}
use Rattle.tf_program.specs.ProgramRuns.{ProgramRun, RunsInTurn, LeadToBothOrNeither, NameBothOrNeither, AreCommandsBy, AreCommandsOfRun, AreCommandsOf, ProgramRunsAreOneRun}
use Rattle.tf_program.specs.Runs.{Works, world_of}
use Rattle.tf_program.specs.Tasks.{Progress, DoesCommand, DoesEach, DoesEffect, HasError, HasEffectIn, HasNoEffectIn, IsReadError, IsMet, PrintsLines, SavesTexts, contents_saved, outcome_of_files, with_output}
use Rattle.tf_program.specs.Work.{file_command}
use Rattle.tf_program.specs.declared.file_error.FileError.{FileError}

-- ---- a save

-- What a save has left: names lead to what they led to, all other bytes are as they were, and at the
-- place there is what was saved, or the save failed and nothing has changed.
record SavedAt (place : Spot) (saved : Option SavedTexts) (result : Result (Unit {0}) Trouble) (old : Files) (files : Option Files) : Type 0 where
  new : Files
  are : files ≡ Some new
  names : new.spot ≡ old.spot
  others : (id : ℕ) → ¬ (id ≡ place.text) → ¬ (id ≡ place.journal) → new.bytes id ≡ old.bytes id
  contents : (contents_at new place ≡ contents_after (contents_at old place) saved) ⊎ ((new ≡ old) × (trouble : Trouble) × (result ≡ Err trouble))

saved_in : (place : Spot) (saved : SavedTexts) (result : Result (Unit {0}) Trouble) (old new : Files) → SavesIn place (contents_saved saved) result old new → SavedAt place (Some saved) result old (Some new)
saved_in place saved (Ok done) old new has = record { new = new; are = refl; names = has.names; others = has.others; contents = inl has.holds }
saved_in place saved (Err trouble) old new (inl same) = record {
  new = new;
  are = refl;
  names = ap (λ (f : Files). f.spot) same;
  others = λ id text journal. ap (λ (f : Files). f.bytes id) same;
  contents = inr (same, trouble, refl);
}
saved_in place saved (Err trouble) old new (inr has) = record { new = new; are = refl; names = has.names; others = has.others; contents = inl has.holds }

texts_saved : (name : List ℕ) (saved : Option SavedTexts) (result : Result (Unit {0}) Trouble) (old : Files) (files : Option Files) → SavesTexts name saved result (Some old) files
    → SavedAt (old.spot name) saved result old files
texts_saved name None result old files was = record { new = old; are = was.1; names = refl; others = λ id text journal. refl; contents = inl refl }
texts_saved name (Some saved) result old None was = absurd was.2
texts_saved name (Some saved) result old (Some new) was =
    subst (λ (place : Spot). SavedAt place (Some saved) result old (Some new)) was.1 (saved_in was.0 saved result old new was.2)

-- what is at a place that has nothing in common with what was saved stays
apart_stays : (place other : Spot) (old new : Files) → ((id : ℕ) → ¬ (id ≡ place.text) → ¬ (id ≡ place.journal) → new.bytes id ≡ old.bytes id) → AreApart place other
    → contents_at new other ≡ contents_at old other
apart_stays place other old new others apart =
    ap₂ (λ (t j : List ℕ). record { text = t; journal = j }) (others other.text (λ same. apart.0 (sym same)) (λ same. apart.2 (sym same)))
    (others other.journal (λ same. apart.1 (sym same)) (λ same. apart.3 (sym same)))

-- ---- what one file has met

met_files : (name : List ℕ) (locate : Bool) (met : Result FileOutcome FileError) (a b : Progress) → IsMet name locate met a b → b.files ≡ a.files
met_files name locate (Ok outcome) a b is = is.2
met_files name locate (Err error) a b is = is.4

met_error : (name : List ℕ) (locate : Bool) (error : FileError) (a b : Progress) → IsMet name locate (Err error) a b → b.outcome.has_fault ≡ true
met_error name locate error a b is = is.0.0

met_keeps_fault : (name : List ℕ) (locate : Bool) (met : Result FileOutcome FileError) (a b : Progress) → IsMet name locate met a b → a.outcome.has_fault ≡ true → b.outcome.has_fault ≡ true
met_keeps_fault name locate (Ok outcome) a b is had = is.0.0 ∙ had
met_keeps_fault name locate (Err error) a b is had = is.0.0

command_keeps_fault : (o : Option Command) (action : Action) (locate : Bool) (name : List ℕ) (a b : Progress) → DoesCommand o action locate name a b → a.outcome.has_fault ≡ true → b.outcome.has_fault ≡ true
command_keeps_fault (Some command) action locate name a b does had = met_keeps_fault name locate does.0 (with_output a does.2 does.1) b does.4 had
command_keeps_fault None action locate name a b does had = met_keeps_fault name locate does.0 (record { outcome = a.outcome; console = does.1; files = a.files }) b does.3 had

each_keeps_fault : (action : Action) (locate : Bool) (names : List (Bor (List ℕ))) (a b : Progress) → DoesEach action locate names a b → a.outcome.has_fault ≡ true → b.outcome.has_fault ≡ true
each_keeps_fault action locate [] a b same had = ap (λ (p : Progress). p.outcome.has_fault) same ∙ had
each_keeps_fault action locate (name ∷ names) a b does had =
    each_keeps_fault action locate names does.0 b does.2 (command_keeps_fault (file_command action name.now) action locate name.now a does.0 does.1 had)

-- a failed save is met as an error
unsaved_is_met : (lines name : List ℕ) (locate : Bool) (outcome : FileOutcome) (trouble : Trouble) (met : Result FileOutcome FileError) (from to : Channel) (a b : Progress)
    → PrintsLines lines outcome (Err trouble) met from to → IsMet name locate met a b → b.outcome.has_fault ≡ true
unsaved_is_met lines name locate outcome trouble (Ok met) from to a b prints is = absurd prints
unsaved_is_met lines name locate outcome trouble (Err error) from to a b prints is = met_error name locate error a b is

-- ---- what one file of a task does to a place

-- nothing: its name leads elsewhere, or the action changes no file, or there was an error
abbrev LeavesAlone : Spot → Action → List ℕ → Files → Files → Progress → Type 0
LeavesAlone place action name old new after =
    (contents_at new place ≡ contents_at old place)
    × (AreApart (old.spot name) place ⊎ (file_command action name ≡ None) ⊎ (after.outcome.has_fault ≡ true))

-- a command
abbrev DoesThere : Spot → Action → List ℕ → Files → Files → Progress → Type 0
DoesThere place action name old new after =
    (command : Command) × (result : Result Done RunFault) × (old.spot name ≡ place) × (file_command action name ≡ Some command)
    × Invokes command (contents_at old place) result (contents_at new place)
    × ((after.outcome.has_fault ≡ true) ⊎ ((done : Done) × (result ≡ Ok done)))

record FileDone (place : Spot) (action : Action) (name : List ℕ) (old : Files) (after : Progress) : Type 0 where
  new : Files
  are : after.files ≡ Some new
  names : new.spot ≡ old.spot
  did : LeavesAlone place action name old new after ⊎ DoesThere place action name old new after

effect_there : (command : Command) (name : List ℕ) (action : Action) (locate : Bool) (effect : Effect) (outcome : FileOutcome) (result : Result (Unit {0}) Trouble) (met : Result FileOutcome FileError) (old : Files)
    (files : Option Files) (from to : Channel) (noting after : Progress) → file_command action name ≡ Some command → HasEffectIn command name (Some old) effect → (saved : SavedAt (old.spot name) effect.saved result old files)
    → PrintsLines effect.lines.items outcome result met from to → IsMet name locate met noting after
    → LeavesAlone (old.spot name) action name old saved.new after ⊎ DoesThere (old.spot name) action name old saved.new after
effect_there command name action locate effect outcome result met old files from to noting after is has saved prints noted =
    there saved.contents
  where
    there : (contents_at saved.new (old.spot name) ≡ contents_after (contents_at old (old.spot name)) effect.saved) ⊎ ((saved.new ≡ old) × (trouble : Trouble) × (result ≡ Err trouble))
        → LeavesAlone (old.spot name) action name old saved.new after ⊎ DoesThere (old.spot name) action name old saved.new after
    there (inl contents) =
        let does = subst (λ (c : FileContents). HasEffect command name c.text c.journal effect) has.1 has.2 in
        inr (command, Ok effect.done, refl, is, (name, effect, does, refl, contents), inr (effect.done, refl))
    there (inr (same, trouble, failed)) =
        let unprinted = subst (λ (r : Result (Unit {0}) Trouble). PrintsLines effect.lines.items outcome r met from to) failed prints in
        inl (ap (λ (f : Files). contents_at f (old.spot name)) same, inr (inr (unsaved_is_met effect.lines.items name locate outcome trouble met from to noting after unprinted noted)))

effect_did : (place : Spot) (command : Command) (name : List ℕ) (action : Action) (locate : Bool) (effect : Effect) (outcome : FileOutcome) (result : Result (Unit {0}) Trouble) (met : Result FileOutcome FileError) (old : Files)
    (files : Option Files) (from to : Channel) (noting after : Progress) → file_command action name ≡ Some command → (old.spot name ≡ place) ⊎ AreApart (old.spot name) place → HasEffectIn command name (Some old) effect
    → (saved : SavedAt (old.spot name) effect.saved result old files) → PrintsLines effect.lines.items outcome result met from to → IsMet name locate met noting after
    → LeavesAlone place action name old saved.new after ⊎ DoesThere place action name old saved.new after
effect_did place command name action locate effect outcome result met old files from to noting after is (inl here) has saved prints noted =
    subst (λ (p : Spot). LeavesAlone p action name old saved.new after ⊎ DoesThere p action name old saved.new after) here
    (effect_there command name action locate effect outcome result met old files from to noting after is has saved prints noted)
effect_did place command name action locate effect outcome result met old files from to noting after is (inr apart) has saved prints noted =
    inl (apart_stays (old.spot name) place old saved.new saved.others apart, inl apart)

effect_done : (place : Spot) (action : Action) (locate : Bool) (command : Command) (name : List ℕ) (met : Result FileOutcome FileError) (old : Files) (files : Option Files) (before after : Progress) (output : Channel)
    → before.files ≡ Some old → file_command action name ≡ Some command → (old.spot name ≡ place) ⊎ AreApart (old.spot name) place
    → DoesEffect command name met before files output → IsMet name locate met (with_output before output files) after → FileDone place action name old after
effect_done place action locate command name met old files before after output had is lead does noted =
    let saved = texts_saved name does.0.saved does.4 old files (subst (λ (f : Option Files). SavesTexts name does.0.saved does.4 f files) had does.5) in
    let read = subst (λ (f : Option Files). HasEffectIn command name f does.0) had does.1 in
    record {
      new = saved.new;
      are = met_files name locate met (with_output before output files) after noted ∙ saved.are;
      names = saved.names;
      did = effect_did place command name action locate does.0 does.2 does.4 met old files before.console.output output (with_output before output files) after is lead read saved does.6 noted;
    }

-- a command that has no effect returns its error; a file that was not read is left out
error_there : (place : Spot) (action : Action) (locate : Bool) (command : Command) (name : List ℕ) (error : FileError) (old : Files) (after : Progress) → file_command action name ≡ Some command → after.outcome.has_fault ≡ true
    → (old.spot name ≡ place) ⊎ AreApart (old.spot name) place → IsReadError (Some old) name error ⊎ HasNoEffectIn command name locate (Some old) error
    → LeavesAlone place action name old old after ⊎ DoesThere place action name old old after
error_there place action locate command name error old after is fault lead (inl unread) = inl (refl, inr (inr fault))
error_there place action locate command name error old after is fault (inr apart) (inr refused) = inl (refl, inl apart)
error_there place action locate command name error old after is fault (inl here) (inr refused) =
    let why = subst (λ (c : FileContents). HasNoEffect command c.text c.journal error.fault) refused.1 refused.2 in
    subst (λ (p : Spot). LeavesAlone p action name old old after ⊎ DoesThere p action name old old after) here
    (inr (command, Err error.fault, refl, is, (why, refl), inl fault))

error_done : (place : Spot) (action : Action) (locate : Bool) (command : Command) (name : List ℕ) (met : Result FileOutcome FileError) (old : Files) (files : Option Files) (before after : Progress) (output : Channel)
    → before.files ≡ Some old → file_command action name ≡ Some command → (old.spot name ≡ place) ⊎ AreApart (old.spot name) place
    → HasError command name locate met before files output → IsMet name locate met (with_output before output files) after → FileDone place action name old after
error_done place action locate command name (Ok met) old files before after output had is lead does noted = absurd does
error_done place action locate command name (Err error) old files before after output had is lead does noted =
    let why = subst (λ (f : Option Files). IsReadError f name error ⊎ HasNoEffectIn command name locate f error) had does.0 in
    let fault = met_error name locate error (with_output before output files) after noted in
    record {
      new = old;
      are = met_files name locate (Err error) (with_output before output files) after noted ∙ does.1 ∙ had;
      names = refl;
      did = error_there place action locate command name error old after is fault lead why;
    }

command_done : (o : Option Command) (place : Spot) (action : Action) (locate : Bool) (name : List ℕ) (old : Files) (before after : Progress) → file_command action name ≡ o → before.files ≡ Some old
    → (old.spot name ≡ place) ⊎ AreApart (old.spot name) place → DoesCommand o action locate name before after → FileDone place action name old after
command_done (Some command) place action locate name old before after is had lead (met, files, output, inl does, noted) = effect_done place action locate command name met old files before after output had is lead does noted
command_done (Some command) place action locate name old before after is had lead (met, files, output, inr does, noted) = error_done place action locate command name met old files before after output had is lead does noted
command_done None place action locate name old before after is had lead does = record {
  new = old;
  are = met_files name locate does.0 (record { outcome = before.outcome; console = does.1; files = before.files }) after does.3 ∙ had;
  names = refl;
  did = inl (refl, inr (inl is));
}

-- ---- the files of a task

lead_stays : (a b : List ℕ → Spot) (place : Spot) (names : List (Bor (List ℕ))) → b ≡ a → LeadToBothOrNeither a place names → LeadToBothOrNeither b place names
lead_stays a b place names same = subst (λ (leads : List ℕ → Spot). LeadToBothOrNeither leads place names) (sym same)

record NamesDone (place : Spot) (status : ℕ) (action : Action) (names : List (Bor (List ℕ))) (old : Files) (end : Progress) : Type 0 where
  new : Files
  are : end.files ≡ Some new
  stay : new.spot ≡ old.spot
  commands : List Command
  results : List (Result Done RunFault)
  by : AreCommandsBy old.spot place status action names commands results
  invokes : InvokesAll (contents_at old place) commands results (contents_at new place)

one_more : (place : Spot) (status : ℕ) (action : Action) (name : Bor (List ℕ)) (names : List (Bor (List ℕ))) (old : Files) (mid end : Progress) (file : FileDone place action name.now old mid)
    → (mid.outcome.has_fault ≡ true → status ≡ 1) → NamesDone place status action names file.new end → NamesDone place status action (name ∷ names) old end
one_more place status action name names old mid end file bad rest = did file.did
  where
    by : AreCommandsBy old.spot place status action names rest.commands rest.results
    by = subst (λ (leads : List ℕ → Spot). AreCommandsBy leads place status action names rest.commands rest.results) file.names rest.by

    why : AreApart (old.spot name.now) place ⊎ (file_command action name.now ≡ None) ⊎ (mid.outcome.has_fault ≡ true)
        → AreApart (old.spot name.now) place ⊎ (file_command action name.now ≡ None) ⊎ (status ≡ 1)
    why (inl apart) = inl apart
    why (inr (inl none)) = inr (inl none)
    why (inr (inr fault)) = inr (inr (bad fault))

    answer : (result : Result Done RunFault) → (mid.outcome.has_fault ≡ true) ⊎ ((done : Done) × (result ≡ Ok done)) → (status ≡ 1) ⊎ ((done : Done) × (result ≡ Ok done))
    answer result (inl fault) = inl (bad fault)
    answer result (inr done) = inr done

    did : LeavesAlone place action name.now old file.new mid ⊎ DoesThere place action name.now old file.new mid → NamesDone place status action (name ∷ names) old end
    did (inl (same, left)) = record {
      new = rest.new;
      are = rest.are;
      stay = rest.stay ∙ file.names;
      commands = rest.commands;
      results = rest.results;
      by = inl (why left, by);
      invokes = subst (λ (c : FileContents). InvokesAll c rest.commands rest.results (contents_at rest.new place)) same rest.invokes;
    }
    did (inr (command, result, here, is, does, met)) = record {
      new = rest.new;
      are = rest.are;
      stay = rest.stay ∙ file.names;
      commands = command ∷ rest.commands;
      results = result ∷ rest.results;
      by = inr (command, rest.commands, result, rest.results, (here, is, answer result met), by, refl, refl);
      invokes = (contents_at file.new place, does, rest.invokes);
    }

names_done : (place : Spot) (status : ℕ) (action : Action) (locate : Bool) (names : List (Bor (List ℕ))) (old : Files) (start end : Progress) → start.files ≡ Some old → LeadToBothOrNeither old.spot place names
    → (end.outcome.has_fault ≡ true → status ≡ 1) → DoesEach action locate names start end → NamesDone place status action names old end
names_done place status action locate [] old start end had lead bad same = record {
  new = old;
  are = ap (λ (p : Progress). p.files) same ∙ had;
  stay = refl;
  commands = [];
  results = [];
  by = (refl, refl);
  invokes = refl;
}
names_done place status action locate (name ∷ names) old start end had lead bad does =
    let file = command_done (file_command action name.now) place action locate name.now old start does.0 refl had lead.0 does.1 in
    one_more place status action name names old does.0 end file (λ fault. bad (each_keeps_fault action locate names does.0 end does.2 fault))
    (names_done place status action locate names file.new does.0 end file.are (lead_stays old.spot file.new.spot place names file.names lead.1) bad does.2)

-- ---- a run

record RunDone (place : Spot) (run : ProgramRun) (old new : Files) : Type 0 where
  stay : new.spot ≡ old.spot
  commands : List Command
  results : List (Result Done RunFault)
  by : AreCommandsOfRun old.spot place run commands results
  invokes : InvokesAll (contents_at old place) commands results (contents_at new place)

same_files : (a b : Files) → Some a ≡ Some b → a ≡ b
same_files a b same = ap (λ (o : Option Files). unwrap_or o a) same

run_done : (place : Spot) (run : ProgramRun) (old new : Files) → ((task : Task) → IsTaskOfArguments run.args task → LeadToBothOrNeither old.spot place task.files.items)
    → Works run.args run.status (world_of (Some old) run.before) (world_of (Some new) run.after) → RunDone place run old new
run_done place run old new lead (inl (task, is, (outcome, does, status))) =
    let start : Progress = record { outcome = outcome_of_files (length task.files.items); console = run.before; files = Some old } in
    let end : Progress = record { outcome = outcome; console = run.after; files = Some new } in
    let done = names_done place run.status task.action task.locate task.files.items old start end refl (lead task is) status.0 does in
    let same : new ≡ done.new = same_files new done.new done.are in
    record {
      stay = ap (λ (f : Files). f.spot) same ∙ done.stay;
      commands = done.commands;
      results = done.results;
      by = inl (task, is, done.by);
      invokes = subst (λ (f : Files). InvokesAll (contents_at old place) done.commands done.results (contents_at f place)) (sym same) done.invokes;
    }
run_done place run old new lead (inr (exit, is, prints, same)) =
    let here : new ≡ old = same_files new old same in
    record {
      stay = ap (λ (f : Files). f.spot) here;
      commands = [];
      results = [];
      by = inr (exit, is, refl, refl);
      invokes = ap (λ (f : Files). contents_at f place) here;
    }

-- ---- runs one after another

both_invoke : (a b c : FileContents) (first next : List Command) (answers others : List (Result Done RunFault)) → InvokesAll a first answers b → InvokesAll b next others c → InvokesAll a (first ++ next) (answers ++ others) c
both_invoke a b c [] next [] others same does = subst (λ (x : FileContents). InvokesAll x next others c) same does
both_invoke a b c [] next (answer ∷ answers) others first does = absurd first
both_invoke a b c (command ∷ commands) next [] others first does = absurd first
both_invoke a b c (command ∷ commands) next (answer ∷ answers) others first does = (first.0, first.1, both_invoke first.0 b c commands next answers others first.2 does)

record RunsDone (place : Spot) (runs : List ProgramRun) (old new : Files) : Type 0 where
  commands : List Command
  results : List (Result Done RunFault)
  of : AreCommandsOf old.spot place runs commands results
  invokes : InvokesAll (contents_at old place) commands results (contents_at new place)

runs_done : (place : Spot) (runs : List ProgramRun) (old new : Files) → NameBothOrNeither old.spot place runs → RunsInTurn runs old new → RunsDone place runs old new
runs_done place [] old new named same = record { commands = []; results = []; of = (refl, refl); invokes = ap (λ (f : Files). contents_at f place) same }
runs_done place (run ∷ runs) old new named turns =
    let one = run_done place run old turns.0 named.0 turns.1 in
    let still = subst (λ (leads : List ℕ → Spot). NameBothOrNeither leads place runs) (sym one.stay) named.1 in
    let rest = runs_done place runs turns.0 new still turns.2 in
    let others = subst (λ (leads : List ℕ → Spot). AreCommandsOf leads place runs rest.commands rest.results) one.stay rest.of in
    record {
      commands = one.commands ++ rest.commands;
      results = one.results ++ rest.results;
      of = (one.commands, rest.commands, one.results, rest.results, one.by, others, refl, refl);
      invokes = both_invoke (contents_at old place) (contents_at turns.0 place) (contents_at new place) one.commands rest.commands one.results rest.results one.invokes rest.invokes;
    }

pub program_runs : InvocationsStepFiles → InvocationsAreStackRun → InvocationsAreHistoryRun → ProgramRunsAreOneRun
program_runs steps stack history text name runs old new is named turns =
    let place = old.spot name in
    let done = runs_done place runs old new named turns in
    let invokes = subst (λ (c : FileContents). InvokesAll c done.commands done.results (contents_at new place)) is done.invokes in (
      done.commands,
      done.results,
      done.of,
      (invokes, λ without. stack text done.commands done.results (contents_at new place) without (steps (without_journal text) (contents_at new place) done.commands done.results invokes), history text done.commands done.results (contents_at new place) invokes),
    )
