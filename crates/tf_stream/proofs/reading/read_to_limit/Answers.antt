-- What was read last follows what was taken before it.
use Rattle.std.proofs.Common.{◌++◌, ◌<◌, take, arith, length-append}
use Rattle.std.proofs.lemmas.List.{length-take}
use Rattle.std.proofs.KnownBytes.{Consumes-trans}
use Rattle.tf_stream.proofs.reading.read_to_limit.Goals as goal

pub returns-then-n-allowed-clause-fault : goal.returns-then-n-allowed-clause-fault
returns-then-n-allowed-clause-fault g c = (
  c.chunks.text.items ++ take c.in-Ok.n c.read.new.buf,
  Consumes-trans _ _ _ _ _ c.chunks.invariant.taken c.in-Ok.ensures.bytes.0,
  let allowed = simp length-take at c.read.auto.buf in simp (length-append, length-take) (omega (arith, c.chunks.text.ok.0, c.chunks.invariant.within, c.len.ensures, c.in-Ok.ensures.bound, c.min.ensures, c.if-n-allowed.true, allowed)),
)

pub returns-then-is_err-clause-fault : goal.returns-then-is_err-clause-fault
returns-then-is_err-clause-fault g c =
    let some : 0 < c.in-Ok.n = omega arith in
    let allowed = simp length-take at c.read.auto.buf in (
      c.chunks.text.items ++ take c.in-Ok.n c.read.new.buf,
      Consumes-trans _ _ _ _ _ c.chunks.invariant.taken c.in-Ok.ensures.bytes.0,
      simp (length-append, length-take) (omega (arith, some, c.in-Ok.ensures.bound, c.min.ensures, allowed)),
      simp (length-append, length-take) (omega (arith, c.chunks.text.ok.0, c.chunks.invariant.within, c.len.ensures, c.in-Ok.ensures.bound, c.min.ensures, c.if-n-allowed.false, allowed)),
    )
