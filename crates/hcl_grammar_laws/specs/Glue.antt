-- Tokens that join, and that a tokenization allows next to each other with no gap: the grammar does
-- not allow them.
use Rattle.std.specs.Prelude.{◌≡◌, ℕ, suc, ◌||◌, Bool, true, false, List, slice_get, Some}
use Rattle.hcl_token.specs.declared.kind.Kind.{Kind}
use Rattle.hcl_token.specs.declared.kind.Kind.TheVariants as k
use Rattle.hcl_token.specs.Bytes.{capital_e, letter_e}
use Rattle.hcl_token.specs.Joins.{starts_with}
use Rattle.hcl_grammar.specs.declared.tree.Tree.{Tree}
use Rattle.hcl_grammar.specs.Bodies.{IsFile}
use Rattle.hcl_grammar.specs.Tokens.{Token}

-- `<` `<`; `.` before `.` or a DotIndex; a Number before an Identifier that begins with `e` or `E`
abbrev pub glues : Kind → Kind → List ℕ → Bool
glues k.Less k.Less w = true
glues k.Dot k.Dot w = true
glues k.Dot k.DotIndex w = true
glues k.Number k.Identifier w = starts_with letter_e w || starts_with capital_e w
glues _ _ w = false

-- no such two are next to each other, whatever is dropped
abbrev pub NoGlue : Type 0
NoGlue = (ts : List Token) (d : ℕ) (t : Tree) → IsFile ts d t → (n : ℕ) (a b : Token)
    → slice_get ts n ≡ Some a → slice_get ts (suc n) ≡ Some b → glues a.0 b.0 b.1 ≡ false
