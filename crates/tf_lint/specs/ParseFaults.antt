-- Texts that do not parse, and why a fix does not read them.
use Rattle.std.specs.Prelude.{◌≤◌, ℕ, List, length, IsUtf8}
use Rattle.hcl_token.specs.Tokens.{Pair}
use Rattle.hcl_scan.specs.Tokenization.{MAX_TEXT, IsTokenization}
use Rattle.hcl_scan.specs.Fault.{IsFault}
use Rattle.hcl_scan.specs.Follows.{tokens_of}
use Rattle.hcl_grammar.specs.declared.tree.Tree.{Tree}
use Rattle.hcl_grammar.specs.Bodies.{IsFile}
use Rattle.hcl_text_laws.specs.Parses.{Parses}
use Rattle.hcl_text_laws.specs.declared.fault.ParseFault.{ParseFault}
use Rattle.hcl_text_laws.specs.declared.fault.ParseFault.TheVariants.{Syntax, TooDeep, Memory}
use Rattle.tf_lint.specs.declared.fault.FixFault.{FixFault}

-- the text does not parse
abbrev pub DoesNotParse : List ℕ → Type 0
DoesNotParse text = (t : Tree) → ¬ (Parses text t)

-- the grammar derives no tree from the tokens of the text, at any depth of nesting
abbrev pub HasNoTree : List ℕ → Type 0
HasNoTree text = (pairs : List Pair) × (last : List ℕ) × IsTokenization text pairs last
    × ((d : ℕ) (t : Tree) → ¬ (IsFile (tokens_of pairs) d t))

-- the text has tokens, and does not parse
abbrev pub HasNoTreeWithinLimit : List ℕ → Type 0
HasNoTreeWithinLimit text =
    (pairs : List Pair) × (last : List ℕ) × IsTokenization text pairs last × DoesNotParse text

-- Why a text that has tokens does not parse. If the grammar derives a tree from them that nests
-- deeper than is allowed, the error is TooDeep; if it derives none it may be either. Of the place
-- nothing is said.
abbrev pub IsParseFault : List ℕ → ParseFault → Type 0
IsParseFault text (Syntax at) = HasNoTree text
IsParseFault text (TooDeep at) = HasNoTreeWithinLimit text
IsParseFault text Memory = ⊥

-- a text that is looked into: before that no memory is taken
abbrev pub IsUtf8WithinLimit : List ℕ → Type 0
IsUtf8WithinLimit text = (length text ≤ MAX_TEXT) × IsUtf8 text

-- why a text is not read: it has no tokens, it does not parse, or memory ran out while it was read
abbrev pub IsReadFault : List ℕ → FixFault → Type 0
IsReadFault text (FixFault.Scan fault) = IsFault text fault
IsReadFault text (FixFault.Parse fault) = IsParseFault text fault
IsReadFault text (FixFault.FixBroken rule) = ⊥
IsReadFault text FixFault.TooLong = ⊥
IsReadFault text FixFault.Memory = IsUtf8WithinLimit text
