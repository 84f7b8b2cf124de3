-- For proofs: what is tried before the general form.
use Rattle.std.specs.Prelude.{◌≡◌, ℕ, false, Ok}
use Rattle.hcl_token.specs.declared.kind.Kind.{Kind}
use Rattle.hcl_reader.specs.ReaderRules.{ReaderState}
use Rattle.hcl_grammar.specs.Pure.Makers.{Types, Makers}
use Rattle.hcl_parse.specs.Rules as spec
use Rattle.hcl_parse.specs.declared.plain.Portion.{Portion}
use Rattle.hcl_parse.specs.declared.plain.Portion.TheVariants as portion

module _ {types : Types} (a : Makers types) (t : ReaderState) where
  open types use {Expr, Term, Tails}

  -- from one place to another a term is read, and tails of it; at most n may follow
  abbrev pub IsRead : ℕ → Kind → ℕ → Term → Tails → ℕ → ℕ → Type 0
  IsRead first kind n head tails from to =
      spec.is_called t to ≡ false
      → spec.post a t first kind from ≡ spec.with_tails a t n first head tails to

  -- what is tried answers: all that this rule takes is taken, or nothing
  abbrev pub IsTried : ℕ → ℕ → Portion Expr Term Tails → ℕ → Type 0
  IsTried first old portion.Nothing new = new ≡ old
  IsTried first old (portion.Term n end head tails) new =
      (new ≡ old)
      × (spec.is_called t end ≡ false
      → spec.expr a t old ≡ spec.rest_of_expr a t n first head tails end)
  IsTried first old (portion.Whole made) new = spec.expr a t old ≡ Ok (made, new)
