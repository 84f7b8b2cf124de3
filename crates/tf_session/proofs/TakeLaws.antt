-- By induction on the run and on the layers.
use Rattle.std.proofs.Common.{◌≡◌, ◌∙◌, ℕ, zero, suc, List, [], ◌∷◌, ◌++◌, length, replicate, Bool, true, false, MatchBool, Result, Ok, Err, refl, sym, ap, subst, arith, length-append}
use Rattle.std.proofs.lemmas.List.{length-map, nil_from_length}
use Rattle.edit_record.specs.Lists.Journal.{JournalEntry, edits_of}
use Rattle.edit_record.specs.Lists.Validity.{ApplyIsDeterministic}
use Rattle.edit_record.specs.Lists.Sequence.{TransformsInOrder}
use Rattle.edit_record.specs.Squashes.Squash.{ComposableListsSquash}
use Rattle.edit_record.specs.Lists.Pieces.{EditList, Transforms}
use Rattle.edit_record.specs.declared.lists.record.Word.{Word}
use Rattle.edit_record.specs.Swaps.MoveToEnd.{IsMovedToEnd, MoveToEndIsUnique}
use Rattle.tf_session.specs.declared.command.Command.{Command}
use Rattle.tf_session.specs.declared.command.Command.TheVariants.{Fmt, Fix, Revert, Take}
use Rattle.tf_session.specs.declared.command.Done.{Done}
use Rattle.tf_session.specs.declared.command.Fault.{Fault}
use Rattle.tf_lint.specs.Steps.{Rewrite, texts_differ}
use Rattle.tf_session.specs.Runs.{is_memory}
use Rattle.tf_session.specs.Layers.{Layer, History, initial_history, last_text, top_text, record_of, records_in, LayersAreConsistent, IsHistory, push_layer, PushesLayer, PopsLayer, TakeStep, HistoryStep, HistoryMayAllocate, HistoryRun}
use Rattle.tf_session.specs.TakeLaws.{HistoryRunWithMemory, TakePreservesHistory, RevertsRestoreTheFirstAfterTakes, JournalSquashesToOneAfterTakes}
use Rattle.tf_session.proofs.JournalOne.{TransformLengths, SquashesAreOne, become_one}
use Rattle.tf_session.proofs.Histories.{last_on, rise_on, rise_low, rise_high, rise_turns}

-- ---- the first text stays

push_first : (b : Bool) (word : Word) (made : Rewrite) (p : History) → texts_differ (top_text p) made.text ≡ b → (push_layer word made p).first ≡ p.first
push_first true word made p e = rw e refl
push_first false word made p e = rw e refl

pushes_first : (word : Word) (answer : Result Rewrite Fault) (old new : History) (reply : Result Done Fault) → PushesLayer word answer old reply new → new.first ≡ old.first
pushes_first word (Ok made) old new reply h = ap (λ (p : History). p.first) h.1 ∙ push_first (texts_differ (top_text old) made.text) word made old refl
pushes_first word (Err fault) old new reply h = ap (λ (p : History). p.first) h.1

off_first : (reply : Result Done Fault) (old new : History) → PopsLayer old reply new → new.first ≡ old.first
off_first (Ok d) old new h = ap (λ (p : History). p.first) h.new_is
off_first (Err fault) old new h = ap (λ (p : History). p.first) h.2

out_first : (n : ℕ) (reply : Result Done Fault) (old new : History) → TakeStep n old reply new → new.first ≡ old.first
out_first n (Ok d) old new h = ap (λ (p : History). p.first) h.new_is
out_first n (Err fault) old new h = ap (λ (p : History). p.first) h.1

acts_first : (command : Command) (reply : Result Done Fault) (old new : History) → HistoryStep command old reply new → new.first ≡ old.first
acts_first Fmt reply old new h = pushes_first Word.Fmt h.0 old new reply h.2
acts_first (Fix rules) reply old new h = pushes_first Word.Fix h.0 old new reply h.2
acts_first Revert reply old new h = off_first reply old new h
acts_first (Take n) reply old new h = out_first n reply old new h

moves_first : (b : Bool) (command : Command) (reply : Result Done Fault) (old new : History) → MatchBool b (HistoryMayAllocate command old × (new ≡ old)) (HistoryStep command old reply new) → new.first ≡ old.first
moves_first true command reply old new h = ap (λ (p : History). p.first) h.1
moves_first false command reply old new h = acts_first command reply old new h

run_first : (old new : History) (commands : List Command) (replies : List (Result Done Fault)) → HistoryRun old commands replies new → new.first ≡ old.first
run_first old new [] [] h = ap (λ (p : History). p.first) h
run_first old new [] (reply ∷ replies) h = absurd h
run_first old new (command ∷ commands) [] h = absurd h
run_first old new (command ∷ commands) (reply ∷ replies) h = run_first h.0 new commands replies h.2 ∙ moves_first (is_memory reply) command reply old h.0 h.1

-- ---- the laws

pub journal_is_one_again : TransformLengths → ComposableListsSquash → SquashesAreOne → JournalSquashesToOneAfterTakes
journal_is_one_again lengths squashes squash_as_one text commands replies end run is_history first others same =
    let from_text : TransformsInOrder Transforms (edits_of (records_in end.layers)) text (top_text end) =
    subst (λ (t : List ℕ). TransformsInOrder Transforms (edits_of (records_in end.layers)) t (top_text end)) (run_first (initial_history text) end commands replies run) (rise_turns end.first end.layers is_history) in
    become_one lengths squashes squash_as_one text (top_text end) first others (subst (λ (cs : List EditList). TransformsInOrder Transforms cs text (top_text end)) same from_text)

all_off : (n : ℕ) (p new : History) (answers : List (Result Done Fault)) → length p.layers ≡ n → HistoryRunWithMemory p (replicate n Revert) answers new → new ≡ initial_history p.first
all_off zero p new (answer ∷ answers) len h = absurd h
all_off zero p new [] len h = h ∙ (λ i. record { first = p.first; layers = nil_from_length p.layers len i })
all_off (suc n) p new [] len h = absurd h
all_off (suc n) p new ((Err fault) ∷ answers) len h = let e = ap length h.1.1 in absurd (omega (arith, len, e))
all_off (suc n) p new ((Ok d) ∷ answers) len h =
    let off = h.1 in
    let sum = ap length off.layers_are ∙ length-append off.rest (off.last ∷ []) in
    let rest : length h.0.layers ≡ n = ap (λ (x : History). length x.layers) off.new_is ∙ omega (arith, len, sum) in
    all_off n h.0 new answers rest h.2 ∙ ap (λ (x : History). initial_history x.first) off.new_is

pub reverts_give_the_first_again : RevertsRestoreTheFirstAfterTakes
reverts_give_the_first_again text commands replies answers mid new before back =
    all_off (length mid.layers) mid new answers refl back ∙ ap initial_history (run_first (initial_history text) mid commands replies before)

taken_length : (a : EditList) (bs cs : List EditList) (last : EditList) → IsMovedToEnd a bs cs last → length cs ≡ length bs
taken_length a [] [] last h = refl
taken_length a [] (c ∷ cs) last h = absurd h
taken_length a (b ∷ bs) [] last h = absurd h
taken_length a (b ∷ bs) (c ∷ cs) last h = ap (λ (k : ℕ). suc k) (taken_length h.0 bs cs last h.2)

one_new : ApplyIsDeterministic → (es : List EditList) (t u v : List ℕ) → TransformsInOrder Transforms es t u → TransformsInOrder Transforms es t v → u ≡ v
one_new into_one [] t u v p q = sym p ∙ q
one_new into_one (e ∷ es) t u v p q =
    let same : p.0 ≡ q.0 = into_one e t p.0 q.0 p.1 q.1 in
    one_new into_one es q.0 u v (subst (λ (x : List ℕ). TransformsInOrder Transforms es x u) same p.2) q.2

layer_lists : (ls : List Layer) → length (edits_of (records_in ls)) ≡ length ls
layer_lists ls = length-map (records_in ls) (λ (r : JournalEntry). r.edits) ∙ length-map ls record_of

pub take_leaves : MoveToEndIsUnique → ApplyIsDeterministic → TakePreservesHistory
take_leaves takes_one into_one n old d new st out =
    let nth = out.nth in
    let whole : LayersAreConsistent old.first (nth.before ++ nth.item ∷ nth.after) = subst (λ (x : List Layer). LayersAreConsistent old.first x) nth.all st in
    let below = last_text old.first nth.before in
    let here = rise_high old.first nth.before (nth.item ∷ nth.after) whole in
    let top : top_text old ≡ last_text nth.item.text nth.after = ap (λ (x : List Layer). last_text old.first x) nth.all ∙ last_on old.first nth.before (nth.item ∷ nth.after) in
    let w = ((takes_one nth.item.edits (edits_of (records_in nth.after))).equivalent (edits_of (records_in out.new_layers)) out.moved_edits out.is_moved below (last_text nth.item.text nth.after)).0 (nth.item.text, here.0, rise_turns nth.item.text nth.after here.1) in
    let same : w.0 ≡ last_text below out.new_layers = one_new into_one (edits_of (records_in out.new_layers)) below w.0 (last_text below out.new_layers) w.1 (rise_turns below out.new_layers out.consistent) in
    let new_top : top_text new ≡ last_text below out.new_layers = ap top_text out.new_is ∙ last_on old.first nth.before out.new_layers in
    let len = taken_length nth.item.edits (edits_of (records_in nth.after)) (edits_of (records_in out.new_layers)) out.moved_edits out.is_moved in
    let count : length out.new_layers ≡ length nth.after = sym (layer_lists out.new_layers) ∙ len ∙ layer_lists nth.after in
    let a = ap (λ (x : History). length x.layers) out.new_is ∙ length-append nth.before out.new_layers in
    let b = ap length nth.all ∙ length-append nth.before (nth.item ∷ nth.after) in
    record {
      first = ap (λ (p : History). p.first) out.new_is;
      one_less = omega (arith, a, b, count);
      is_history = subst IsHistory (sym out.new_is) (rise_on old.first nth.before out.new_layers (rise_low old.first nth.before (nth.item ∷ nth.after) whole) out.consistent);
      transforms = subst (λ (x : List ℕ). Transforms out.moved_edits x (top_text old)) (same ∙ sym new_top) (subst (λ (x : List ℕ). Transforms out.moved_edits w.0 x) (sym top) w.2);
    }
