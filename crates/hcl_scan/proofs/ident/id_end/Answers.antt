use Rattle.std.proofs.Common.{arith}
use Rattle.hcl_scan.proofs.IdentLemmas.{continue_none}
use Rattle.hcl_scan.proofs.ident.id_end.Goals as goal

pub returns-then-byte_at-lt128-clause-value : goal.returns-then-byte_at-lt128-clause-value
returns-then-byte_at-lt128-clause-value c =
    let ascii = rw (c.byte_at.ensures.value, c.as_bytes.ensures.value) at c.if-byte_at-lt128.true in
    let none = continue_none c.args.text.now c.ascii_id_end-end.result c.ascii_id_end-end.ensures.rest ascii c.ascii_id_end-end.ensures.stops in
    omega (arith, c.ascii_id_end-end.ensures.value, none)
