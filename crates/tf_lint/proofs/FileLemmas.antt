-- A file that is read, part by part.
use Rattle.std.proofs.Common.{◌≡◌, ℕ, List, Result, Ok, Err, refl, sym, subst}
use Rattle.std.specs.Prelude.{IfOk, IfErr}
use Rattle.std.specs.Result.{IsErr, IsErrAnd}
use Rattle.hcl_grammar.specs.Nodes as node
use Rattle.hcl_grammar.specs.Tokens.{Token}
use Rattle.hcl_grammar.specs.declared.tree.Member.{Member}
use Rattle.hcl_tree.proofs.Passing.{file_tree}

-- what `?` hands on
pub residual : {T E : Type 0} (r : Result T E) (f : E) (P : E → Type 0) → IsErr r × IsErrAnd r (λ e. e ≡ f) → P f → IfErr r P
residual (Ok x) f P result_is p = tt
residual (Err e) f P result_is p = subst P (sym result_is.1) p

pub if_ok : {T E : Type 0} (r : Result T E) (P Q : T → Type 0) → ((x : T) → P x → Q x) → IfOk r P → IfOk r Q
if_ok (Ok x) P Q f p = f x p
if_ok (Err e) P Q f p = tt

module _ (ts : List Token) (d i : ℕ) where
  pub its_members : (ms : List Member) (j : ℕ) → (file_tree ts d i ms j).body.members ≡ ms
  unfolding node.tree node.body
  its_members ms j = refl
