-- The run goes on by one command.
use Rattle.std.proofs.Common.{◌∙◌, ◌++◌, ◌∷◌, [], List, refl, sym, subst}
use Rattle.std.proofs.lemmas.List.{take_more}
use Rattle.tf_session.specs.declared.command.Command.{Command}
use Rattle.tf_session.specs.Layers.{initial_history, HistoryRun}
use Rattle.tf_session.specs.Machine.{initial_stack, StackRun, WithoutTake}
use Rattle.tf_session.proofs.Histories.{moved}
use Rattle.tf_session.proofs.Stacks.{stepped, without_before, without_last}
use Rattle.tf_session.proofs.running.run.Goals as goal

pub loop-command-init : goal.loop-command-init
loop-command-init c = (
  λ untaken. (initial_stack c.args.text.items, rw c.new-replies.ensures.items refl, c.start-session.ensures.text, c.start-session.ensures.journal ∙ c.empty.ensures),
  (initial_history c.args.text.items, rw c.new-replies.ensures.items refl, c.start-session.ensures.text, c.start-session.ensures.journal ∙ c.empty.ensures, tt),
)

pub loop-command-preserved : goal.loop-command-preserved
loop-command-preserved c =
    let more = take_more c.args.commands.now c.loop-command.command-index _ c.loop-command-test.true in
    let high = c.loop-command.invariant.1 in
    let g = moved c.change_result_is_unique.ensures c.move_to_end_is_unique.ensures c.transformed_lengths_match.ensures _ high.0 _ _ _ c.step-reply.result _ _ _ _ high.1 high.2 high.3 high.4
    c.step-reply.ensures.done c.step-reply.ensures.refused c.step-reply.ensures.text c.step-reply.ensures.journal in
    let deleted = subst (λ (commands : List Command). HistoryRun (initial_history c.args.text.items) commands (c.loop-command.replies.items ++ c.step-reply.result ∷ []) g.0) (sym more) g.1 in (
      λ untaken.
          let all = subst WithoutTake more untaken in
          let inv = c.loop-command.invariant.0 (without_before _ _ all) in
          let h = stepped c.change_result_is_unique.ensures _ inv.0 _ _ _ c.step-reply.result _ _ _ _ (without_last _ _ all) inv.1 inv.2 inv.3 c.step-reply.ensures.done c.step-reply.ensures.refused c.step-reply.ensures.text c.step-reply.ensures.journal in
          let extended = subst (λ (commands : List Command). StackRun (initial_stack c.args.text.items) commands (c.loop-command.replies.items ++ c.step-reply.result ∷ []) h.0) (sym more) h.1 in
          (h.0, rw c.in_ok-push.ensures.items extended, h.2, h.3),
      (g.0, rw c.in_ok-push.ensures.items deleted, g.2, g.3, g.4),
    )
