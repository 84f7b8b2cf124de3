-- The place and the kind of a token, as callers see `Span`.
use Rattle.std.specs.Prelude.{ℕ}
use Rattle.hcl_token.specs.declared.kind.Kind.{Kind}

-- where a token starts and where it stops, in bytes from 0, and what it is
pub record TokenSpan : Type 0 where
  pub start : ℕ
  pub stop : ℕ
  pub kind : Kind
