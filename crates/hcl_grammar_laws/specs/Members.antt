-- What a reading of one member answers.
use Rattle.std.specs.Prelude.{◌≡◌, ◌≢◌, ℕ, false, List, ◌∷◌, Option, Some, None, Result, MatchResult, IfOk}
use Rattle.std.specs.Prelude.{IfSome, IfNone}
use Rattle.hcl_token.specs.declared.kind.Kind.TheVariants.{Identifier}
use Rattle.hcl_grammar.specs.declared.fault.TokenFault.{TokenFault}
use Rattle.hcl_grammar.specs.declared.tree.Block.{Block}
use Rattle.hcl_grammar.specs.declared.tree.Body.{Body}
use Rattle.hcl_grammar.specs.declared.tree.Content.{Content}
use Rattle.hcl_grammar.specs.declared.tree.Content.TheOpen.{Member-F}
use Rattle.hcl_grammar.specs.declared.tree.Member.{Member, out-Member}
use Rattle.hcl_grammar.specs.Bodies.{IsMembers}
use Rattle.hcl_grammar.specs.Faults.{IsMemory, IsMemoryOrDeep}
use Rattle.hcl_grammar.specs.Tokens.{Token, next_kind}

abbrev pub open_member_past : Member-F Content Member Block Body → ℕ
open_member_past (Member-F.Attribute a) = a.past
open_member_past (Member-F.Block b) = b.past

-- the number of the token after the last one of an attribute or a block
abbrev pub member_past : Member → ℕ
member_past m = open_member_past (out-Member m)

-- The answer at place i, and the place after it, where constructs may be nested b deep.
pub record IsMemberResult (ts : List Token) (b i : ℕ) (answer : Result (Option Member) TokenFault)
    (new : ℕ) : Type 0 where
  -- a body that begins at the new place is one with the member before it
  pub derived : IfOk answer
      (λ o. IfSome o (λ m. (ms : List Member) (l : ℕ) → IsMembers ts b ms new l
      → IsMembers ts b (m ∷ ms) i l))
  -- the place after it is that after its last token
  pub past : IfOk answer (λ o. IfSome o (λ m. member_past m ≡ new))
  -- where none is answered, no name comes next, and nothing is taken
  pub none : IfOk answer (λ o. IfNone o ((next_kind ts false i ≢ Some Identifier) × (new ≡ i)))
  -- where no name comes next, none is answered, or memory failed
  pub nothing : next_kind ts false i ≢ Some Identifier → MatchResult answer (λ o. o ≡ None) IsMemory
  -- where a name comes next, the member that a body begins with is answered, or memory failed
  pub only : (m : Member) (ms : List Member) (l : ℕ) → next_kind ts false i ≡ Some Identifier
      → IsMembers ts b (m ∷ ms) i l → MatchResult answer (λ o. o ≡ Some m) IsMemory
  -- with whatever nesting: it is answered, or it nests too deep, or memory failed
  pub deeper : (d : ℕ) (m : Member) (ms : List Member) (l : ℕ) → next_kind ts false i ≡ Some Identifier
      → IsMembers ts d (m ∷ ms) i l → MatchResult answer (λ o. o ≡ Some m) IsMemoryOrDeep
