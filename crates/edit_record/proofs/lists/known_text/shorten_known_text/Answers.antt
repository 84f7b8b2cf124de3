use Rattle.std.proofs.Common.{◌≡◌, ◌-◌, arith, length}
use Rattle.edit_record.specs.Text.{journal_text}
use Rattle.std.specs.List.{slice_range}
use Rattle.edit_record.proofs.KnownText.{known_fits, known_prefix}
use Rattle.edit_record.proofs.lists.known_text.shorten_known_text.Goals as goal

pub overflow_sub-len : goal.overflow_sub-len
overflow_sub-len c =
    omega (arith, c.records_len.ensures, c.len.ensures, known_fits c.args.records.now c.args.known c.args.to c.args.text.now.items c.requires (omega (arith, c.if-known-to.false)))

pub returns-clause-known : goal.returns-clause-known
returns-clause-known c =
    let fits = known_fits c.args.records.now c.args.known c.args.to c.args.text.now.items c.requires (omega (arith, c.if-known-to.false)) in
    let rest = length (journal_text (slice_range c.args.records.now c.args.to c.args.known)) in
    let len : c.len.result - c.records_len.result ≡ length c.args.text.now.items - rest = omega (arith, c.records_len.ensures, c.len.ensures, c.len.type_inv, fits) in
    rw c.truncate.ensures.items (known_prefix c.args.records.now c.args.known c.args.to (c.len.result - c.records_len.result) c.args.text.now.items c.requires (omega (arith, c.if-known-to.false)) len)
