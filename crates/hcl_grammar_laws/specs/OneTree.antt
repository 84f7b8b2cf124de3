-- The grammar is unambiguous.
use Rattle.std.specs.Prelude.{◌≡◌, ℕ, List}
use Rattle.hcl_grammar.specs.declared.tree.Tree.{Tree}
use Rattle.hcl_grammar.specs.Bodies.{IsFile}
use Rattle.hcl_grammar.specs.Tokens.{Token}

-- from the same tokens at most one tree is derived, however deep the constructs nest in either
abbrev pub OneTree : Type 0
OneTree = (ts : List Token) (d e : ℕ) (t u : Tree) → IsFile ts d t → IsFile ts e u → t ≡ u
