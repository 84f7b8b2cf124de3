use Rattle.std.proofs.Common.{List, ℕ, Bool, false, subst}
use Rattle.edit_record.specs.Decoding.{IsVersion}
use Rattle.edit_record.specs.Text.{IsJournalText}
use Rattle.edit_record.proofs.KnownText.{current}
use Rattle.edit_record.proofs.decoder.decode_owned.Goals as goal

pub keep_text-requires : goal.keep_text-requires
keep_text-requires c =
    current c.args.text.items c.in_ok-journal.journal
    (subst (λ (t : List ℕ). IsVersion false t) c.deref.ensures.value (subst (λ (old : Bool). IsVersion old c.deref.result.now) c.if-not-is_version_1.true c.is_version_1.ensures))
    (subst (λ (t : List ℕ). IsJournalText t c.in_ok-journal.journal) c.as_slice.ensures.value c.in_ok-journal.ensures)
