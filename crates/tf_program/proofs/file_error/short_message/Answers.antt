-- The message was written whole.
use Rattle.std.proofs.Common.{inl, sym}
use Rattle.tf_session.specs.Faults.{message_of}
use Rattle.tf_program.proofs.ShortMessages.{written, on_ok}
use Rattle.tf_program.proofs.file_error.short_message.Goals as goal

pub returns-then-is_ok : goal.returns-then-is_ok
returns-then-is_ok c =
    let writes = on_ok c.write.result (sym c.if-is_ok.ensures.value) c.write.ensures.writes in
    inl (written (message_of c.args.fault) c.new-message.result c.write.new.self writes (λ s. s.bytes) (λ w bs v took. took) c.new-message.ensures)
