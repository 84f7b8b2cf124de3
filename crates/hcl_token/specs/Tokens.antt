-- A text as a list of tokens, each with the gap before it.
use Rattle.std.specs.Prelude.{ℕ, List, [], ◌∷◌, ◌++◌}
use Rattle.hcl_token.specs.declared.kind.Kind.{Kind}

-- a token and the gap before it
pub record Pair : Type 0 where
  pub gap : List ℕ
  pub kind : Kind
  pub spelling : List ℕ

-- the text that the pairs and a last gap make, in order
abbrev pub whole_text : List Pair → List ℕ → List ℕ
whole_text [] last = last
whole_text (p ∷ ps) last = p.gap ++ (p.spelling ++ whole_text ps last)
