-- The commands up to here are a run, and the session represents its stack, if none is a take, and
-- its history.
use Rattle.std.proofs.Common.{◌≡◌, take}
use Rattle.tf_session.specs.Session.{text_of, records_of}
use Rattle.tf_session.specs.Layers.{History, initial_history, top_text, records_in, IsHistory, HistoryRun}
use Rattle.tf_session.specs.Machine.{Stack, initial_stack, StackRun, WithoutTake}
use Rattle.tf_session.specs.Records.{IsJournalOfStack}
use Rattle.tf_session.proofs.running.run.Given as goal

abbrev pub invariant-loop-command : goal.invariant-loop-command
invariant-loop-command l =
    (WithoutTake (take l.command-index l.commands) → (mid : Stack) × StackRun (initial_stack l.fn.text.items) (take l.command-index l.commands) l.replies.items mid
    × (text_of l.session ≡ mid.top) × IsJournalOfStack (records_of l.session) mid.top mid.below)
    × ((mid : History) × HistoryRun (initial_history l.fn.text.items) (take l.command-index l.commands) l.replies.items mid
    × (text_of l.session ≡ top_text mid) × (records_of l.session ≡ records_in mid.layers) × IsHistory mid)
