-- Texts that parse.
use Rattle.std.specs.Prelude.{ℕ, List}
use Rattle.hcl_grammar.specs.declared.tree.Tree.{Tree}
use Rattle.hcl_text_laws.specs.Parses.{Parses}

-- the text parses
abbrev pub DoesParse : List ℕ → Type 0
DoesParse text = (t : Tree) × Parses text t
