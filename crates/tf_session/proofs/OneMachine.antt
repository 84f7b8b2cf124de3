-- Without take: step by step.
use Rattle.std.proofs.Common.{◌≡◌, ◌∙◌, ℕ, List, [], ◌∷◌, ◌++◌, Bool, true, false, MatchBool, Result, Ok, Err, refl, sym, ap, subst}
use Rattle.edit_record.specs.declared.lists.record.Word.{Word}
use Rattle.tf_session.specs.declared.command.Command.{Command}
use Rattle.tf_session.specs.declared.command.Command.TheVariants.{Fmt, Fix, Revert, Take}
use Rattle.tf_session.specs.declared.command.Done.{Done}
use Rattle.tf_session.specs.declared.command.Fault.{Fault}
use Rattle.tf_lint.specs.Steps.{Rewrite, FixHasEdits, texts_differ}
use Rattle.tf_rules.specs.declared.rule_set.RuleSet.{RuleSet}
use Rattle.tf_session.specs.Fixing.{FixRewrites, FixRewritesBy}
use Rattle.tf_session.specs.Rewrites.{Rewrites}
use Rattle.tf_lint.specs.ParseFaults.{IsUtf8WithinLimit}
use Rattle.tf_session.specs.Runs.{is_memory}
use Rattle.tf_session.specs.Machine.{StackEntry, Stack, initial_stack, push_text, done, PushesText, PopsText, StackStep, StackMayAllocate, StackRun, IsNotTake, WithoutTake}
use Rattle.tf_session.specs.Layers.{Layer, History, initial_history, last_text, top_text, push_layer, PushesLayer, PopsLayer, PopsLast, HistoryStep, HistoryMayAllocate, HistoryRun}
use Rattle.tf_session.specs.MachinesAgree.{LayersMatchStack, MatchesStack, MachinesAgreeWithoutTake}
use Rattle.tf_session.proofs.Lists.{not_nil, same_last}
use Rattle.tf_session.proofs.Histories.{last_on}

shown_top : (first : List ℕ) (layers : List Layer) (top : List ℕ) (below : List StackEntry) → LayersMatchStack first layers top below → last_text first layers ≡ top
shown_top first layers top [] h = ap (λ (x : List Layer). last_text first x) h.0 ∙ sym h.1
shown_top first layers top (under ∷ rest) h = ap (λ (x : List Layer). last_text first x) h.2 ∙ last_on first h.0 (h.1 ∷ []) ∙ h.3

-- a text goes on both
both_on : (b : Bool) (command : Command) (word : Word) (made : Rewrite) (p : History) (s : Stack) → texts_differ s.top made.text ≡ b → MatchesStack p s → MatchesStack (push_layer word made p) (push_text command made.text s)
both_on true command word made p s e h =
    let top : texts_differ (top_text p) made.text ≡ true = ap (λ (x : List ℕ). texts_differ x made.text) (shown_top p.first p.layers s.top s.below h) ∙ e in
    let layer : Layer = record { word = word; edits = made.edits; text = made.text } in
    let q : History = record { first = p.first; layers = p.layers ++ layer ∷ [] } in
    let n : Stack = record { top = made.text; below = (record { text = s.top; command = command }) ∷ s.below } in
    let up : push_layer word made p ≡ q = rw top refl in
    let on : push_text command made.text s ≡ n = rw e refl in
    let shows : MatchesStack q n = (p.layers, layer, refl, refl, e, h) in
    subst (λ (x : History). MatchesStack x (push_text command made.text s)) (sym up) (subst (λ (x : Stack). MatchesStack q x) (sym on) shows)
both_on false command word made p s e h =
    let top : texts_differ (top_text p) made.text ≡ false = ap (λ (x : List ℕ). texts_differ x made.text) (shown_top p.first p.layers s.top s.below h) ∙ e in
    let up : push_layer word made p ≡ p = rw top refl in
    let on : push_text command made.text s ≡ s = rw e refl in
    subst (λ (x : History). MatchesStack x (push_text command made.text s)) (sym up) (subst (λ (x : Stack). MatchesStack p x) (sym on) h)

text_down : (command : Command) (word : Word) (answer : Result Rewrite Fault) (p q : History) (s : Stack) (r : Result Done Fault) → MatchesStack p s → PushesLayer word answer p r q → (n : Stack) × PushesText command answer s r n × MatchesStack q n
text_down command word (Ok made) p q s r h g =
    let top = shown_top p.first p.layers s.top s.below h in (
      push_text command made.text s,
      (g.0 ∙ ap (λ (x : List ℕ). Ok (done (texts_differ x made.text) made.fixed made.left)) top, refl),
      subst (λ (x : History). MatchesStack x (push_text command made.text s)) (sym g.1) (both_on (texts_differ s.top made.text) command word made p s refl h),
    )
text_down command word (Err fault) p q s r h g = (s, (g.0, refl), subst (λ (x : History). MatchesStack x s) (sym g.1) h)

text_up : (command : Command) (word : Word) (answer : Result Rewrite Fault) (p : History) (s n : Stack) (r : Result Done Fault) → MatchesStack p s → PushesText command answer s r n → (q : History) × PushesLayer word answer p r q × MatchesStack q n
text_up command word (Ok made) p s n r h g =
    let top = shown_top p.first p.layers s.top s.below h in (
      push_layer word made p,
      (g.0 ∙ ap (λ (x : List ℕ). Ok (done (texts_differ x made.text) made.fixed made.left)) (sym top), refl),
      subst (λ (x : Stack). MatchesStack (push_layer word made p) x) (sym g.1) (both_on (texts_differ s.top made.text) command word made p s refl h),
    )
text_up command word (Err fault) p s n r h g = (p, (g.0, refl), subst (λ (x : Stack). MatchesStack p x) (sym g.1) h)

off_down : (p q : History) (top : List ℕ) (below : List StackEntry) (r : Result Done Fault) → LayersMatchStack p.first p.layers top below → PopsLayer p r q → (n : Stack) × PopsText top below r n × MatchesStack q n
off_down p q top [] (Ok d) h g = absurd (not_nil g.rest g.last (sym g.layers_are ∙ h.0))
off_down p q top [] (Err fault) h g = (initial_stack top, (ap (λ (x : Fault). Err x) g.0, refl), subst (λ (x : History). MatchesStack x (initial_stack top)) (sym g.2) h)
off_down p q top (under ∷ rest) (Ok d) h g =
    let lasts = same_last g.rest h.0 g.last h.1 (sym g.layers_are ∙ h.2) in
    let n : Stack = record { top = under.text; below = rest } in
    let shows : MatchesStack (record { first = p.first; layers = g.rest }) n = subst (λ (x : List Layer). LayersMatchStack p.first x under.text rest) (sym lasts.0) h.5 in
    let here = subst (λ (x : History). MatchesStack x n) (sym g.new_is) shows in
    let low : top_text q ≡ under.text = shown_top q.first q.layers under.text rest here in
    let high : top_text p ≡ top = shown_top p.first p.layers top (under ∷ rest) h in
    let changed : texts_differ (top_text q) (top_text p) ≡ true = (λ i. texts_differ (low i) (high i)) ∙ h.4 in
    (n, (ap (λ (x : Done). Ok x) (g.done_is ∙ ap (λ (b : Bool). done b 0 0) changed), refl), here)
off_down p q top (under ∷ rest) (Err fault) h g = absurd (not_nil h.0 h.1 (sym h.2 ∙ g.1))

off_up : (p : History) (top : List ℕ) (below : List StackEntry) (n : Stack) (r : Result Done Fault) → LayersMatchStack p.first p.layers top below → PopsText top below r n → (q : History) × PopsLayer p r q × MatchesStack q n
off_up p top [] n r h g =
    (p, subst (λ (x : Result Done Fault). PopsLayer p x p) (sym g.0) (refl, h.0, refl), subst (λ (x : Stack). MatchesStack p x) (sym g.1) h)
off_up p top (under ∷ rest) n r h g =
    let q : History = record { first = p.first; layers = h.0 } in
    let low : top_text q ≡ under.text = shown_top p.first h.0 under.text rest h.5 in
    let high : top_text p ≡ top = shown_top p.first p.layers top (under ∷ rest) h in
    let changed : texts_differ (top_text q) (top_text p) ≡ true = (λ i. texts_differ (low i) (high i)) ∙ h.4 in
    let off : PopsLast p (done true 0 0) q = record { rest = h.0; last = h.1; layers_are = h.2; new_is = refl; done_is = ap (λ (b : Bool). done b 0 0) (sym changed) } in
    (q, subst (λ (x : Result Done Fault). PopsLayer p x q) (sym g.0) off, subst (λ (x : Stack). MatchesStack q x) (sym g.1) h.5)

-- what is made by edits is made
without_edits : (rules : RuleSet) (text : List ℕ) (answer : Result Rewrite Fault) → FixRewritesBy rules text answer → FixRewrites rules text answer
without_edits rules text (Ok made) h = h.fixes_text
without_edits rules text (Err fault) h = h

-- and the other way round, by edits of which the stack knows nothing
by_edits : FixHasEdits → (rules : RuleSet) (text : List ℕ) (answer : Result Rewrite Fault) (s n : Stack) (r : Result Done Fault) → FixRewrites rules text answer → PushesText (Fix rules) answer s r n
    → (other : Result Rewrite Fault) × FixRewritesBy rules text other × PushesText (Fix rules) other s r n
by_edits has rules text (Ok made) s n r fixes pushes =
    let (edits, by) = has rules text made fixes in
    let other : Rewrite = record { text = made.text; edits = edits; fixed = made.fixed; left = made.left } in
    (Ok other, by, pushes)
by_edits has rules text (Err fault) s n r refuses pushes = (Err fault, refuses, pushes)

act_down : (command : Command) (p q : History) (s : Stack) (r : Result Done Fault) → IsNotTake command → MatchesStack p s → HistoryStep command p r q → (n : Stack) × StackStep command s r n × MatchesStack q n
act_down Fmt p q s r untaken h g =
    let f = text_down Fmt Word.Fmt g.0 p q s r h g.2 in
    (f.0, (g.0, subst (λ (x : List ℕ). Rewrites Fmt x g.0) (shown_top p.first p.layers s.top s.below h) g.1, f.1), f.2)
act_down (Fix rules) p q s r untaken h g =
    let f = text_down (Fix rules) Word.Fix g.0 p q s r h g.2 in
    (f.0, (g.0, subst (λ (x : List ℕ). FixRewrites rules x g.0) (shown_top p.first p.layers s.top s.below h) (without_edits rules (top_text p) g.0 g.1), f.1), f.2)
act_down Revert p q s r untaken h g = off_down p q s.top s.below r h g
act_down (Take n) p q s r untaken h g = absurd untaken

act_up : FixHasEdits → (command : Command) (p : History) (s n : Stack) (r : Result Done Fault) → IsNotTake command → MatchesStack p s → StackStep command s r n → (q : History) × HistoryStep command p r q × MatchesStack q n
act_up has Fmt p s n r untaken h g =
    let f = text_up Fmt Word.Fmt g.0 p s n r h g.2 in
    (f.0, (g.0, subst (λ (x : List ℕ). Rewrites Fmt x g.0) (sym (shown_top p.first p.layers s.top s.below h)) g.1, f.1), f.2)
act_up has (Fix rules) p s n r untaken h g =
    let (answer, by, pushes) = by_edits has rules s.top g.0 s n r g.1 g.2 in
    let f = text_up (Fix rules) Word.Fix answer p s n r h pushes in
    (f.0, (answer, subst (λ (x : List ℕ). FixRewritesBy rules x answer) (sym (shown_top p.first p.layers s.top s.below h)) by, f.1), f.2)
act_up has Revert p s n r untaken h g = off_up p s.top s.below n r h g
act_up has (Take k) p s n r untaken h g = absurd untaken

some_below : (first : List ℕ) (layers : List Layer) (top : List ℕ) (below : List StackEntry) → LayersMatchStack first layers top below → (layers ≡ [] → ⊥) → below ≡ [] → ⊥
some_below first layers top [] h f e = f h.0
some_below first layers top (under ∷ rest) h f e = not_nil_head e where
  not_nil_head : (under ∷ rest) ≡ [] → ⊥
  not_nil_head e = cc

some_layers : (first : List ℕ) (layers : List Layer) (top : List ℕ) (below : List StackEntry) → LayersMatchStack first layers top below → (below ≡ [] → ⊥) → layers ≡ [] → ⊥
some_layers first layers top [] h f e = f refl
some_layers first layers top (under ∷ rest) h f e = not_nil h.0 h.1 (sym h.2 ∙ e)

allocation_down : (command : Command) (p : History) (s : Stack) → IsNotTake command → MatchesStack p s → HistoryMayAllocate command p → StackMayAllocate command s
allocation_down Fmt p s untaken h a = subst IsUtf8WithinLimit (shown_top p.first p.layers s.top s.below h) a
allocation_down (Fix rules) p s untaken h a = subst IsUtf8WithinLimit (shown_top p.first p.layers s.top s.below h) a
allocation_down Revert p s untaken h a = some_below p.first p.layers s.top s.below h a
allocation_down (Take n) p s untaken h a = absurd untaken

allocation_up : (command : Command) (p : History) (s : Stack) → IsNotTake command → MatchesStack p s → StackMayAllocate command s → HistoryMayAllocate command p
allocation_up Fmt p s untaken h a =
    subst IsUtf8WithinLimit (sym (shown_top p.first p.layers s.top s.below h)) a
allocation_up (Fix rules) p s untaken h a = subst IsUtf8WithinLimit (sym (shown_top p.first p.layers s.top s.below h)) a
allocation_up Revert p s untaken h a = some_layers p.first p.layers s.top s.below h a
allocation_up (Take n) p s untaken h a = absurd untaken

down_by : (b : Bool) (command : Command) (p q : History) (s : Stack) (r : Result Done Fault) → IsNotTake command → MatchesStack p s → MatchBool b (HistoryMayAllocate command p × (q ≡ p)) (HistoryStep command p r q)
    → (n : Stack) × MatchBool b (StackMayAllocate command s × (n ≡ s)) (StackStep command s r n) × MatchesStack q n
down_by true command p q s r untaken h g = (s, (allocation_down command p s untaken h g.0, refl), subst (λ (x : History). MatchesStack x s) (sym g.1) h)
down_by false command p q s r untaken h g = act_down command p q s r untaken h g

up_by : FixHasEdits → (b : Bool) (command : Command) (p : History) (s n : Stack) (r : Result Done Fault) → IsNotTake command → MatchesStack p s → MatchBool b (StackMayAllocate command s × (n ≡ s)) (StackStep command s r n)
    → (q : History) × MatchBool b (HistoryMayAllocate command p × (q ≡ p)) (HistoryStep command p r q) × MatchesStack q n
up_by has true command p s n r untaken h g = (p, (allocation_up command p s untaken h g.0, refl), subst (λ (x : Stack). MatchesStack p x) (sym g.1) h)
up_by has false command p s n r untaken h g = act_up has command p s n r untaken h g

run_down : (commands : List Command) (replies : List (Result Done Fault)) (p q : History) (s : Stack) → WithoutTake commands → MatchesStack p s → HistoryRun p commands replies q → (n : Stack) × StackRun s commands replies n × MatchesStack q n
run_down [] [] p q s untaken h g = (s, refl, subst (λ (x : History). MatchesStack x s) (sym g) h)
run_down [] (r ∷ replies) p q s untaken h g = absurd g
run_down (c ∷ commands) [] p q s untaken h g = absurd g
run_down (c ∷ commands) (r ∷ replies) p q s untaken h g =
    let d = down_by (is_memory r) c p g.0 s r untaken.0 h g.1 in
    let f = run_down commands replies g.0 q d.0 untaken.1 d.2 g.2 in
    (f.0, (d.0, d.1, f.1), f.2)

run_up : FixHasEdits → (commands : List Command) (replies : List (Result Done Fault)) (p : History) (s n : Stack) → WithoutTake commands → MatchesStack p s → StackRun s commands replies n → (q : History) × HistoryRun p commands replies q × MatchesStack q n
run_up has [] [] p s n untaken h g = (p, refl, subst (λ (x : Stack). MatchesStack p x) (sym g) h)
run_up has [] (r ∷ replies) p s n untaken h g = absurd g
run_up has (c ∷ commands) [] p s n untaken h g = absurd g
run_up has (c ∷ commands) (r ∷ replies) p s n untaken h g =
    let d = up_by has (is_memory r) c p s g.0 r untaken.0 h g.1 in
    let f = run_up has commands replies d.0 g.0 n untaken.1 d.2 g.2 in
    (f.0, (d.0, d.1, f.1), f.2)

pub without_take_one_machine : FixHasEdits → MachinesAgreeWithoutTake
without_take_one_machine has text commands replies untaken = record {
  history_to_stack = λ end g. run_down commands replies (initial_history text) end (initial_stack text) untaken (refl, refl) g;
  stack_to_history = λ end g. run_up has commands replies (initial_history text) (initial_stack text) end untaken (refl, refl) g;
}
