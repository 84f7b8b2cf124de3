-- What was taken up to here, and that no read has failed since the start.
use Rattle.std.proofs.Common.{◌-◌, ◌≡◌, ◌≤◌, vec_len}
use Rattle.std.specs.Io.KnownBytes.{Consumes}
use Rattle.tf_stream.specs.Told.{inner_of, has_failed}
use Rattle.tf_stream.proofs.reading.read_to_limit.Given as goal

abbrev pub invariant-chunks : goal.invariant-chunks
invariant-chunks g l = record {
  within : vec_len l.text ≤ l.limit;
  taken : Consumes (g.R.Read.remaining (inner_of l.fn.reader)) (g.R.Read.remaining (inner_of l.reader)) l.text.items;
  fresh : has_failed l.reader ≡ has_failed l.fn.reader;
}

abbrev pub decreases-chunks : goal.decreases-chunks
decreases-chunks g l = l.limit - vec_len l.text
