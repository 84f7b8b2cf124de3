-- The tokens of a text that parses.
use Rattle.std.proofs.Common.{◌≡◌, List, sym, subst}
use Rattle.hcl_token.specs.TokenizedText.{TokenizedText}
use Rattle.hcl_token.specs.Tokens.{Pair}
use Rattle.hcl_scan.specs.Follows.{tokens_of}
use Rattle.hcl_grammar.specs.declared.tree.Tree.{Tree}
use Rattle.hcl_grammar.specs.declared.bounds.TheConstants.{MAX_NESTING}
use Rattle.hcl_grammar.specs.Bodies.{IsFile}
use Rattle.hcl_text_laws.specs.Parses.{Parses}

-- if the tokens of a text are those of its parse, they derive its tree
pub own_tokens : (s : TokenizedText) (t : Tree) (p : Parses s.text t) → s.pairs ≡ p.pairs → IsFile (tokens_of s.pairs) MAX_NESTING t
own_tokens s t p e = subst (λ (ps : List Pair). IsFile (tokens_of ps) MAX_NESTING t) (sym e) p.derived
