use Rattle.std.proofs.Common.{arith, sym, ◌∙◌}
use Rattle.hcl_scan.proofs.IdentLemmas.{id_continue_at}
use Rattle.hcl_scan.proofs.ident.ascii_id_end_bytewise.Goals as goal

pub loop-at-preserved : goal.loop-at-preserved
loop-at-preserved c =
    let on = id_continue_at c.as_bytes-bytes.result.now c.loop-at.at c.loop-at.invariant.utf8 (omega arith) (sym c.is_ascii_id_continue.ensures ∙ c.if-is_ascii_id_continue.true) in
    record {
      counted = omega (arith, c.loop-at.invariant.counted, on.0);
      within = omega arith;
      utf8 = on.1;
    }
