-- For proofs: the place that a packed replacement stores.
use Rattle.std.specs.Prelude.{ℕ, Bool, if◌then◌else◌}
use Rattle.tf_fix.specs.declared.boundary.Boundary.{Boundary}
use Rattle.tf_fix.specs.declared.boundary.Boundary.TheVariants.{Gap as BeforeGap, Token as BeforeToken}

-- directly before the token of this number, or before its gap
abbrev pub boundary_at : Bool → ℕ → Boundary
boundary_at is_token i = if is_token then BeforeToken i else BeforeGap i
