-- How deep constructs may be nested is a bound.
use Rattle.std.specs.Prelude.{ℕ, ◌≤◌, List}
use Rattle.hcl_grammar.specs.declared.tree.Tree.{Tree}
use Rattle.hcl_grammar.specs.Bodies.{IsFile}
use Rattle.hcl_grammar.specs.Tokens.{Token}

-- what nests no deeper than d nests no deeper than more
abbrev pub NestingIsMonotone : Type 0
NestingIsMonotone = (ts : List Token) (d e : ℕ) (t : Tree) → d ≤ e → IsFile ts d t → IsFile ts e t
