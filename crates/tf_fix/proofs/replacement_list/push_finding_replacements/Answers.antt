use Rattle.std.proofs.Common.{◌<◌, ℕ, length, subst, sym, arith}
use Rattle.tf_fix.specs.Inner.Views.{HasByte}
use Rattle.tf_fix.proofs.NonemptyLemmas.{has_byte}
use Rattle.tf_fix.proofs.replacement_list.push_finding_replacements.Goals as goal

pub push_kept_replacements-requires : goal.push_kept_replacements-requires
push_kept_replacements-requires c =
    let one = c.args.one.now in
    let fits = c.requires.fits in
    let lt : one.first < length c.args.scanned.now.pairs = omega (arith, fits.0, fits.2) in
    record { byte = subst (λ (i : ℕ). HasByte c.args.scanned.now.pairs i) (sym c.first.ensures) (has_byte c.args.scanned.now.pairs one.first c.requires.nonempty lt) }
