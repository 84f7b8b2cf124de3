-- By induction on the run, on the number of reverts, and on the commands.
use Rattle.std.proofs.Common.{◌≡◌, ◌∙◌, ◌≤◌, ℕ, zero, suc, List, [], ◌∷◌, length, drop, replicate, map, Bool, true, false, Result, Ok, Err, refl, ap, subst, arith}
use Rattle.tf_session.specs.declared.command.Command.{Command}
use Rattle.tf_session.specs.declared.command.Command.TheVariants.{Fmt, Fix, Revert, Take}
use Rattle.tf_session.specs.declared.command.Done.{Done}
use Rattle.tf_session.specs.declared.command.Fault.{Fault}
use Rattle.tf_lint.specs.Steps.{Rewrite, texts_differ}
use Rattle.tf_session.specs.Machine.{StackEntry, Stack, initial_stack, push_text, PushesText, PopsText, StackMayAllocate, StackStep}
use Rattle.tf_session.specs.RunLaws.{StackRunWithMemory, OutOfMemoryChangesNothing, texts_of, revert_reply, RevertsPop, RevertsRestoreTheFirst}
use Rattle.tf_session.proofs.Runs.{memory_does_not_count}

pub refused_do_not_count : OutOfMemoryChangesNothing
refused_do_not_count = memory_does_not_count StackMayAllocate StackStep

-- a revert, from a stack in its parts
reverts_from : (k : ℕ) (top : List ℕ) (below : List StackEntry) (new : Stack) (replies : List (Result Done Fault)) → k ≤ length below
    → StackRunWithMemory (record { top = top; below = below }) (replicate k Revert) replies new
    → (texts_of new ≡ drop k (top ∷ map (λ (u : StackEntry). u.text) below)) × (replies ≡ replicate k revert_reply)
reverts_from zero top below new [] le h = (ap texts_of h, refl)
reverts_from zero top below new (reply ∷ replies) le h = absurd h
reverts_from (suc k) top below new [] le h = absurd h
reverts_from (suc k) top [] new (reply ∷ replies) le h = absurd (omega arith)
reverts_from (suc k) top (under ∷ rest) new (reply ∷ replies) le h =
    let fewer : k ≤ length rest = omega arith in
    let more = subst (λ (s : Stack). StackRunWithMemory s (replicate k Revert) replies new) h.1.1 h.2 in
    let ih = reverts_from k under.text rest new replies fewer more in
    (ih.0, let head = h.1.0 in let tail = ih.1 in cc)

pub reverts_pop : RevertsPop
reverts_pop k old new replies le h = reverts_from k old.top old.below new replies le h

-- the text that was there first
abbrev pub bottom : List ℕ → List StackEntry → List ℕ
bottom top [] = top
bottom top (under ∷ rest) = bottom under.text rest

push_cases : (b : Bool) (command : Command) (text : List ℕ) (old mid : Stack) → texts_differ old.top text ≡ b → mid ≡ push_text command text old → bottom mid.top mid.below ≡ bottom old.top old.below
push_cases true command text old mid e h =
    let put : push_text command text old ≡ record { top = text; below = (record { text = old.top; command = command }) ∷ old.below } = rw e refl in
    ap (λ (s : Stack). bottom s.top s.below) (h ∙ put)
push_cases false command text old mid e h =
    let put : push_text command text old ≡ old = rw e refl in
    ap (λ (s : Stack). bottom s.top s.below) (h ∙ put)

popped_bottom : (top : List ℕ) (below : List StackEntry) (reply : Result Done Fault) (mid : Stack) → PopsText top below reply mid → bottom mid.top mid.below ≡ bottom top below
popped_bottom top [] reply mid h = ap (λ (s : Stack). bottom s.top s.below) h.1
popped_bottom top (under ∷ rest) reply mid h = ap (λ (s : Stack). bottom s.top s.below) h.1

answered : (command : Command) (answer : Result Rewrite Fault) (old mid : Stack) (reply : Result Done Fault) → PushesText command answer old reply mid → bottom mid.top mid.below ≡ bottom old.top old.below
answered command (Ok made) old mid reply h = push_cases (texts_differ old.top made.text) command made.text old mid refl h.1
answered command (Err fault) old mid reply h = ap (λ (s : Stack). bottom s.top s.below) h.1

-- no command touches the text that was there first
same_bottom : (command : Command) (old mid : Stack) (reply : Result Done Fault) → StackStep command old reply mid → bottom mid.top mid.below ≡ bottom old.top old.below
same_bottom Fmt old mid reply h = answered Fmt h.0 old mid reply h.2
same_bottom (Fix rules) old mid reply h = answered (Fix rules) h.0 old mid reply h.2
same_bottom Revert old mid reply h = popped_bottom old.top old.below reply mid h
same_bottom (Take n) old mid reply h = absurd h

pub same_bottoms : (old mid : Stack) (commands : List Command) (replies : List (Result Done Fault)) → StackRunWithMemory old commands replies mid → bottom mid.top mid.below ≡ bottom old.top old.below
same_bottoms old mid [] [] h = ap (λ (s : Stack). bottom s.top s.below) h
same_bottoms old mid [] (reply ∷ replies) h = absurd h
same_bottoms old mid (command ∷ commands) [] h = absurd h
same_bottoms old mid (command ∷ commands) (reply ∷ replies) h =
    same_bottoms h.0 mid commands replies h.2 ∙ same_bottom command old h.0 reply h.1

all_off : (top : List ℕ) (below : List StackEntry) (replies : List (Result Done Fault)) (new : Stack)
    → StackRunWithMemory (record { top = top; below = below }) (replicate (length below) Revert) replies new → new ≡ initial_stack (bottom top below)
all_off top [] [] new h = h
all_off top [] (reply ∷ replies) new h = absurd h
all_off top (under ∷ rest) [] new h = absurd h
all_off top (under ∷ rest) (reply ∷ replies) new h =
    all_off under.text rest replies new (subst (λ (s : Stack). StackRunWithMemory s (replicate (length rest) Revert) replies new) h.1.1 h.2)

pub reverts_give_the_first : RevertsRestoreTheFirst
reverts_give_the_first text commands replies answers mid new before back =
    all_off mid.top mid.below answers new back ∙ ap initial_stack (same_bottoms (initial_stack text) mid commands replies before)
