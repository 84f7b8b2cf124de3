-- A law of one member of a body by itself.
use Rattle.std.specs.Prelude.{◌∷◌, ℕ, List}
use Rattle.hcl_grammar.specs.declared.tree.Member.{Member}
use Rattle.hcl_grammar.specs.Bodies.{IsMembers}
use Rattle.hcl_grammar.specs.Tokens.{Token}
use Rattle.hcl_grammar_laws.specs.OneMember.{IsOneMember}

-- A member followed by the members of a body begins a body.
abbrev pub PrependedMemberExtendsBody : Type 0
PrependedMemberExtendsBody = (ts : List Token) (d : ℕ) (x : Member) (ms : List Member) (i n l : ℕ)
    → IsOneMember ts d x i n → IsMembers ts d ms n l → IsMembers ts d (x ∷ ms) i l
