-- For proofs: what an answer to a list of tokens has to be, and that an answer of the pure parser
-- is such a one.
use Rattle.std.specs.Prelude.{◌≡◌, ℕ, List, Option, Result, MatchResult, IfOk}
use Rattle.hcl_grammar.specs.declared.fault.TokenFault.{TokenFault}
use Rattle.hcl_grammar.specs.declared.tree.Member.{Member}
use Rattle.hcl_grammar.specs.declared.tree.Tree.{Tree}
use Rattle.hcl_grammar.specs.Bodies.{IsFile}
use Rattle.hcl_grammar.specs.Pure.BodyParser.{deeper_members, file, member_of}
use Rattle.hcl_grammar.specs.Faults.{IsMemory, IsMemoryOrDeep}
use Rattle.hcl_grammar.specs.Pure.NodeMakers.{nodes}
use Rattle.hcl_grammar.specs.Pure.Reading.{Reads}
use Rattle.hcl_grammar.specs.Tokens.{Token}
use Rattle.hcl_grammar_laws.specs.Members.{IsMemberResult}

-- the answer to the tokens where constructs may be nested b deep
pub record IsParseResult (ts : List Token) (b : ℕ) (answer : Result Tree TokenFault) : Type 0 where
  -- a tree that is answered is derived
  pub derived : IfOk answer (λ t. IsFile ts b t)
  -- a tree that is derived is answered, or memory failed
  pub only : (t : Tree) → IsFile ts b t → MatchResult answer (λ x. x ≡ t) IsMemory
  -- a tree that is derived with whatever nesting is answered, or it nests too deep, or memory
  -- failed
  pub deeper : (d : ℕ) (t : Tree) → IsFile ts d t → MatchResult answer (λ x. x ≡ t) IsMemoryOrDeep

abbrev pub FileParserIsExact : Type 0
FileParserIsExact = (ts : List Token) (b : ℕ) (answer : Result Tree TokenFault) (new : ℕ)
    → Reads (file nodes ts b 0) answer new → IsParseResult ts b answer

-- what a parser answers at one member
abbrev pub MemberParserIsExact : Type 0
MemberParserIsExact = (ts : List Token) (b i : ℕ) (answer : Result (Option Member) TokenFault) (new : ℕ)
    → Reads (member_of nodes ts b (deeper_members nodes ts b) i) answer new
    → IsMemberResult ts b i answer new
