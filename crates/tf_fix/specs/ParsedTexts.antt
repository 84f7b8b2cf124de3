-- Texts that parse.
use Rattle.std.specs.Prelude.{◌≡◌, ℕ, List}
use Rattle.hcl_scan.specs.Tokenization.{IsTokenization}
use Rattle.hcl_scan.specs.Follows.{tokens_of}
use Rattle.hcl_grammar.specs.Bodies.{IsFile}
use Rattle.hcl_grammar.specs.declared.bounds.TheConstants.{MAX_NESTING}
use Rattle.tf_fix.specs.declared.parsed.Parsed.{Parsed}

-- the text parses, and these are its tokens and gaps, and the tree over them
abbrev pub IsParseOf : List ℕ → Parsed → Type 0
IsParseOf text p =
    (p.scanned.text ≡ text) × IsTokenization p.scanned.text p.scanned.pairs p.scanned.last
    × IsFile (tokens_of p.scanned.pairs) MAX_NESTING p.tree
