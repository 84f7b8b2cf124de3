-- A text and its tree.
use Rattle.std.proofs.Common.{◌≡◌, ℕ, ◌≤◌, false, List, [], length, sym, subst}
use Rattle.hcl_token.specs.Tokens.{Pair, whole_text}
use Rattle.hcl_scan.specs.Tokenization.{MAX_TEXT, IsTokenization}
use Rattle.hcl_scan.specs.Follows.{Follows, AreApart, AreAllowedGaps, tokens_of}
use Rattle.hcl_grammar.specs.Bodies.{IsFile}
use Rattle.hcl_grammar_laws.specs.OneTree.{OneTree}
use Rattle.hcl_grammar.specs.declared.bounds.TheConstants.{MAX_NESTING}
use Rattle.hcl_text_laws.specs.Parses.{OneParse, OtherGapsParse}

-- what is known of texts and their cuts
abbrev OneTokenization : Type 0
OneTokenization = (text : List ℕ) (pairs others : List Pair) (last other : List ℕ) → IsTokenization text pairs last → IsTokenization text others other → (pairs ≡ others) × (last ≡ other)

abbrev TokenizationFollows : Type 0
TokenizationFollows = (text : List ℕ) (pairs : List Pair) (last : List ℕ) → IsTokenization text pairs last → Follows pairs last []

abbrev OtherGaps : Type 0
OtherGaps = (pairs others : List Pair) (last other : List ℕ) → Follows pairs last [] → tokens_of others ≡ tokens_of pairs → AreAllowedGaps false others other → AreApart others → Follows others other []

abbrev WritesBack : Type 0
WritesBack = (pairs : List Pair) (last : List ℕ) → Follows pairs last [] → AreApart pairs → length (whole_text pairs last) ≤ MAX_TEXT → IsTokenization (whole_text pairs last) pairs last

pub one_parse : OneTokenization → OneTree → OneParse
one_parse unique_tokens one_tree text t u p q =
    let same = (unique_tokens text p.pairs q.pairs p.last q.last p.tokenization q.tokenization).0 in
    one_tree (tokens_of q.pairs) MAX_NESTING MAX_NESTING t u (subst (λ ps. IsFile (tokens_of ps) MAX_NESTING t) same p.derived) q.derived

pub regapped : TokenizationFollows → OtherGaps → WritesBack → OtherGapsParse
regapped tokens_follow other_gaps writes_back text pairs others last other d t c w same gaps apart short =
    (writes_back others other (other_gaps pairs others last other (tokens_follow text pairs last c) same gaps apart) apart short, subst (λ ts. IsFile ts d t) (sym same) w)
