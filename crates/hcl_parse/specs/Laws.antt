-- What the instances of the parser have to do with one another.
use Rattle.std.specs.Prelude.{◌≡◌, ℕ, Bool, List}
use Rattle.hcl_grammar.specs.declared.goal.Goal.{Goal}
use Rattle.hcl_grammar.specs.Tokens.{Token}
use Rattle.hcl_parse.specs.Alike.{Alike, InSome}
use Rattle.hcl_grammar.specs.Pure.BodyParser as bodies
use Rattle.hcl_grammar.specs.Pure.NodeMakers.{nodes}
use Rattle.hcl_grammar.specs.Pure.Parser as p
use Rattle.hcl_parse.specs.Nothing.{nothing}

-- whatever the values are
abbrev pub Any : {A B : Type 0} → A → B → Type 0
Any x y = Unit {0}

-- a parser that makes nothing ends where the one ends that makes nodes, or has the same error,
-- which is not that memory ran out
pub record EndAlike : Type 0 where
  pub expr : (ts : List Token) (depth : ℕ) (m : Bool) (goal : Goal) (i : ℕ)
      → Alike Any ((p.under nothing ts depth).expr m goal i)
      ((p.under nodes ts depth).expr m goal i)
  pub member : (ts : List Token) (depth i : ℕ)
      → Alike (InSome Any) (bodies.member_of nothing ts depth (bodies.deeper_members nothing ts depth) i)
      (bodies.member_of nodes ts depth (bodies.deeper_members nodes ts depth) i)
  pub file : (ts : List Token) (depth i : ℕ)
      → Alike Any (bodies.file nothing ts depth i) (bodies.file nodes ts depth i)
