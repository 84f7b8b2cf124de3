-- What a session does is a step of the stack of texts that its records represent.
use Rattle.std.proofs.Common.{◌≡◌, ◌∙◌, ℕ, List, [], ◌∷◌, ◌++◌, Bool, true, false, MatchBool, IfOk, IfErr, OnErr, Result, Ok, Err, ap, sym, refl, subst}
use Rattle.std.proofs.lemmas.Slice.Eq.{bytes_eq-Decides}
use Rattle.std.proofs.lemmas.Bool.{not-false}
use Rattle.edit_record.specs.Lists.Journal.{JournalEntry, record_transforms}
use Rattle.edit_record.specs.Lists.Pieces.{EditList, Transforms}
use Rattle.edit_record.specs.Lists.ChangeResults.{IsChangeResult, ChangeResultIsUnique}
use Rattle.edit_record.specs.declared.lists.change.Refused.{Refused}
use Rattle.edit_record.specs.declared.lists.direction.Direction.TheVariants.{Backward}
use Rattle.tf_session.specs.declared.command.Command.{Command}
use Rattle.tf_session.specs.declared.command.Command.TheVariants.{Fmt, Fix, Revert, Take}
use Rattle.tf_session.specs.declared.command.Done.{Done}
use Rattle.tf_session.specs.declared.command.Fault.{Fault}
use Rattle.tf_session.specs.declared.command.Fault.TheVariants.{NoRecord, Memory}
use Rattle.tf_lint.specs.Steps.{Rewrite, texts_differ}
use Rattle.tf_session.specs.Rewrites.{Rewrites, is_memory_fault}
use Rattle.tf_lint.specs.ParseFaults.{IsUtf8WithinLimit}
use Rattle.tf_session.specs.Machine.{StackEntry, Stack, done, PushesText, StackStep, StackStepOrMemory, StackRun, IsNotTake, WithoutTake}
use Rattle.tf_session.specs.Records.{IsJournalOfStack, AddsRecordOf, RevertsLast, ChangesContents, DoesStep, RefusesRevert, RefusesStep}
use Rattle.tf_session.specs.Session.{SessionContents, with_records}
use Rattle.tf_session.proofs.Lists.{not_nil, same_last}
use Rattle.tf_session.proofs.Runs.{run_more}

abbrev stack : List ℕ → List StackEntry → Stack
stack t below = record { top = t; below = below }

-- texts that do not differ are one
pub same_texts : (t u : List ℕ) → texts_differ t u ≡ false → t ≡ u
same_texts t u h = (bytes_eq-Decides t u).0 (not-false _ h)

-- a text that a command made was pushed, and the records represent the stack
abbrev PushesOntoStack : Command → Rewrite → List ℕ → List StackEntry → Done → List ℕ → List JournalEntry → Type 0
PushesOntoStack command made t below d u ks =
    (n : Stack) × PushesText command (Ok made) (stack t below) (Ok d) n × (u ≡ n.top) × IsJournalOfStack ks n.top n.below

push_cases : (b : Bool) (command : Command) (made : Rewrite) (t : List ℕ) (below : List StackEntry) (js : List JournalEntry) (d : Done) (u : List ℕ) (ks : List JournalEntry) → Rewrites command t (Ok made)
    → texts_differ t made.text ≡ b → u ≡ made.text → d ≡ done (texts_differ t made.text) made.fixed made.left → AddsRecordOf b command t made js ks → IsJournalOfStack js t below
    → PushesOntoStack command made t below d u ks
push_cases true command made t below js d u ks makes e um dd a st = (
  stack made.text ((record { text = t; command = command }) ∷ below),
  (ap (λ (x : Done). Ok x) dd, rw e refl),
  um,
  (js, a.0, a.1, made, makes, refl, a.2, e, st),
)
push_cases false command made t below js d u ks makes e um dd a st = (
  stack t below,
  (ap (λ (x : Done). Ok x) dd, rw e refl),
  um ∙ sym (same_texts t made.text e),
  subst (λ (x : List JournalEntry). IsJournalOfStack x t below) (sym a) st,
)

-- the last record turns the text below the top into the top
pub last_transforms : (records : List JournalEntry) (top : List ℕ) (under : StackEntry) (rest : List StackEntry) (st : IsJournalOfStack records top (under ∷ rest)) → record_transforms st.1 under.text top
last_transforms records top under rest st = subst (λ (x : List ℕ). record_transforms st.1 under.text x) (sym st.5) st.6.transforms

-- a step says of the edits of a fix what they are
pub changes : (command : Command) (old new : SessionContents) (d : Done) → IsNotTake command
    → DoesStep command old d new → ChangesContents command old d new
changes Fmt old new d untaken h = h
changes (Fix rules) old new d untaken h = (h.0, h.1.fixes_text, h.2)
changes Revert old new d untaken h = h
changes (Take n) old new d untaken h = absurd untaken

-- a step of a session, over a stack that its records represent
abbrev Did : Command → List ℕ → List StackEntry → Done → List ℕ → List JournalEntry → Type 0
Did command t below d u ks = (n : Stack) × StackStep command (stack t below) (Ok d) n × (u ≡ n.top) × IsJournalOfStack ks n.top n.below

removed : (t : List ℕ) (below : List StackEntry) (js : List JournalEntry) (d : Done) (u : List ℕ) (ks : List JournalEntry) → RevertsLast (with_records t js) d (with_records u ks) → IsJournalOfStack js t below → Did Revert t below d u ks
removed t [] js d u ks p st = absurd (not_nil ks p.0 (sym p.1 ∙ st))
removed t (under ∷ rest) js d u ks p st =
    let earlier = st.0 in
    let lasts = same_last ks earlier p.0 st.1 (sym p.1 ∙ st.2) in
    let turns : record_transforms p.0 under.text t = subst (λ (r : JournalEntry). record_transforms r under.text t) (sym lasts.1) (last_transforms js t under rest st) in
    let same : u ≡ under.text = sym (p.2.1 under.text turns) in
    let changed : texts_differ u t ≡ true = ap (λ (x : List ℕ). texts_differ x t) same ∙ st.7 in (
      stack under.text rest,
      (ap (λ (x : Done). Ok x) (p.3 ∙ ap (λ (b : Bool). done b 0 0) changed), refl),
      same,
      subst (λ (x : List JournalEntry). IsJournalOfStack x under.text rest) (sym lasts.0) st.8,
    )

pub did : (command : Command) → IsNotTake command → (t : List ℕ) (below : List StackEntry) (js : List JournalEntry) (d : Done) (u : List ℕ) (ks : List JournalEntry) → ChangesContents command (with_records t js) d (with_records u ks) → IsJournalOfStack js t below → Did command t below d u ks
did Fmt _ t below js d u ks p st =
    let made = p.0 in
    let h = push_cases (texts_differ t made.text) Fmt made t below js d u ks p.1 refl p.2.0 p.2.1 p.2.2 st in
    (h.0, (Ok made, p.1, h.1), h.2, h.3)
did (Fix rules) _ t below js d u ks p st =
    let made = p.0 in
    let h = push_cases (texts_differ t made.text) (Fix rules) made t below js d u ks p.1 refl p.2.0 p.2.1 p.2.2 st in
    (h.0, (Ok made, p.1, h.1), h.2, h.3)
did Revert _ t below js d u ks p st = removed t below js d u ks p st
did (Take n) untaken t below js d u ks p st = absurd untaken

-- edits that a text refuses turn no text into it
pub undone_or_refused : ChangeResultIsUnique → (e : EditList) (t u : List ℕ) (refused : Refused) → IsChangeResult Backward e t (Err refused) → Transforms e u t → ⊥
undone_or_refused unique e t u refused why turns =
    let same = unique Backward e t (Err refused) (Ok u) why turns in
    cc

refused_text : (command : Command) (s : Stack) (e : Fault) → (Rewrites command s.top (Err e) → StackStep command s (Err e) s) → MatchBool (is_memory_fault e) (IsUtf8WithinLimit s.top) (Rewrites command s.top (Err e)) → MatchBool (is_memory_fault e) (IsUtf8WithinLimit s.top × (s ≡ s)) (StackStep command s (Err e) s)
refused_text command s Memory f h = (h, refl)
refused_text command s _ f h = f h

module _ (unique : ChangeResultIsUnique) where
  refused_take : (t : List ℕ) (below : List StackEntry) (js : List JournalEntry) (e : Fault) → RefusesRevert (with_records t js) e → IsJournalOfStack js t below → StackStepOrMemory Revert (stack t below) (Err e) (stack t below)
  refused_take t [] js NoRecord p st = (refl, refl)
  refused_take t (under ∷ rest) js NoRecord p st = absurd (not_nil st.0 st.1 (sym st.2 ∙ p))
  refused_take t [] js (Fault.Refused refused) p st = absurd (not_nil p.1.0 p.0 (sym p.1.1 ∙ st))
  refused_take t (under ∷ rest) js (Fault.Refused refused) p st =
      let lasts = same_last p.1.0 st.0 p.0 st.1 (sym p.1.1 ∙ st.2) in
      let turns = subst (λ (r : JournalEntry). record_transforms r under.text t) (sym lasts.1) (last_transforms js t under rest st) in
      absurd (undone_or_refused unique p.0.edits t under.text refused p.2 turns)
  refused_take t [] js Memory p st = absurd (not_nil p.1.0 p.0 (sym p.1.1 ∙ st))
  refused_take t (under ∷ rest) js Memory p st = (λ e. cc, refl)
  refused_take t below js _ p st = absurd p

  pub refused : (command : Command) → IsNotTake command → (t : List ℕ) (below : List StackEntry) (js : List JournalEntry) (e : Fault) → RefusesStep command (with_records t js) e → IsJournalOfStack js t below → StackStepOrMemory command (stack t below) (Err e) (stack t below)
  refused Fmt _ t below js e p st = refused_text Fmt (stack t below) e (λ h. (Err e, h, (refl, refl))) p
  refused (Fix rules) _ t below js e p st = refused_text (Fix rules) (stack t below) e (λ h. (Err e, h, (refl, refl))) p
  refused Revert _ t below js e p st = refused_take t below js e p st
  refused (Take n) untaken t below js e p st = absurd untaken

  -- What a session's step ensures takes a run, and the records that represent its stack, one
  -- command further.
  pub stepped : (first mid : Stack) (cs : List Command) (rs : List (Result Done Fault)) (command : Command) (reply : Result Done Fault) (t : List ℕ) (js : List JournalEntry) (u : List ℕ) (ks : List JournalEntry)
      → IsNotTake command → StackRun first cs rs mid → t ≡ mid.top → IsJournalOfStack js mid.top mid.below
      → IfOk reply (λ d. DoesStep command (with_records t js) d (with_records u ks)) → IfErr reply (RefusesStep command (with_records t js)) → OnErr reply (u ≡ t) → OnErr reply (ks ≡ js)
      → (n : Stack) × StackRun first (cs ++ command ∷ []) (rs ++ reply ∷ []) n × (u ≡ n.top) × IsJournalOfStack ks n.top n.below
  stepped first mid cs rs command (Ok d) t js u ks untaken run top st does _ _ _ =
      let here = subst (λ (x : List ℕ). DoesStep command (with_records x js) d (with_records u ks)) top does in
      let h = did command untaken mid.top mid.below js d u ks (changes command (with_records mid.top js) (with_records u ks) d untaken here) st in
      (h.0, run_more StackStepOrMemory first mid h.0 cs rs command (Ok d) run h.1, h.2, h.3)
  stepped first mid cs rs command (Err e) t js u ks untaken run top st _ why ut kj =
      (mid, run_more StackStepOrMemory first mid mid cs rs command (Err e) run (refused command untaken mid.top mid.below js e (subst (λ (x : List ℕ). RefusesStep command (with_records x js) e) top why) st), ut ∙ top, subst (λ (x : List JournalEntry). IsJournalOfStack x mid.top mid.below) (sym kj) st)

-- no take among some commands and one more
pub without_before : (cs : List Command) (c : Command) → WithoutTake (cs ++ c ∷ []) → WithoutTake cs
without_before [] c h = tt
without_before (x ∷ cs) c h = (h.0, without_before cs c h.1)

pub without_last : (cs : List Command) (c : Command) → WithoutTake (cs ++ c ∷ []) → IsNotTake c
without_last [] c h = h.0
without_last (x ∷ cs) c h = without_last cs c h.1
