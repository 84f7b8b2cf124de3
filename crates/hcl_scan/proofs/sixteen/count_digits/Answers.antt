use Rattle.std.proofs.Common.{not, slice_index, ap}
use Rattle.hcl_scan.proofs.FlagLemmas.{digit_flags}
use Rattle.hcl_scan.proofs.sixteen.count_digits.Goals as goal

pub returns-clause-digits : goal.returns-clause-digits
returns-clause-digits c = λ k from to. digit_flags (slice_index c.args.text.now k) (ap not (c.count_flagged.ensures.flagged k from to))
