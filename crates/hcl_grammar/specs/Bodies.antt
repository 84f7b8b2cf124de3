-- The grammar of bodies and of a whole text: which members are derived from which tokens.
-- HCL native syntax specification, Structural Elements.
use Rattle.std.specs.Prelude.{◌≡◌, ℕ, suc, false, List, [], ◌∷◌, length, Option, Some, None}
use Rattle.hcl_token.specs.declared.kind.Kind.TheVariants as k
use Rattle.hcl_grammar.specs.declared.tree.Attribute.{Attribute}
use Rattle.hcl_grammar.specs.declared.tree.Content.TheVariants as content
use Rattle.hcl_grammar.specs.declared.tree.Expr.{Expr}
use Rattle.hcl_grammar.specs.declared.tree.Label.{Label}
use Rattle.hcl_grammar.specs.declared.tree.Member.{Member}
use Rattle.hcl_grammar.specs.declared.tree.Member.TheVariants as member
use Rattle.hcl_grammar.specs.declared.tree.Tree.{Tree}
use Rattle.hcl_grammar.specs.Grammar.{IsExpr}
use Rattle.hcl_grammar.specs.Lookahead.{NextIs, IsNewline, IsEol}
use Rattle.hcl_grammar.specs.Nodes as node
use Rattle.hcl_grammar.specs.Tokens.{Token, next_index, next_kind, after_next, first_token_in}

-- Label*, where Label = Identifier | QuoteOpen QuoteLit? QuoteClose
pub data IsLabels (ts : List Token) : List Label → ℕ → ℕ → Type 0 where
  no_labels : {i : ℕ} → IsLabels ts [] i i
  word_label : {ls : List Label} {i j : ℕ} → NextIs ts false k.Identifier i
      → IsLabels ts ls (after_next ts false i) j
      → IsLabels ts (node.label (next_index ts false i) (after_next ts false i) (Some (next_index ts false i))
      ∷ ls) i j
  text_label : {ls : List Label} {i j : ℕ} → NextIs ts false k.QuoteOpen i
      → NextIs ts false k.QuoteLit (after_next ts false i)
      → NextIs ts false k.QuoteClose (after_next ts false (after_next ts false i))
      → IsLabels ts ls (after_next ts false (after_next ts false (after_next ts false i))) j
      → IsLabels ts (node.label (next_index ts false i)
      (after_next ts false (after_next ts false (after_next ts false i)))
      (Some (next_index ts false (after_next ts false i))) ∷ ls) i j
  empty_label : {ls : List Label} {i j : ℕ} → NextIs ts false k.QuoteOpen i
      → NextIs ts false k.QuoteClose (after_next ts false i)
      → IsLabels ts ls (after_next ts false (after_next ts false i)) j
      → IsLabels ts (node.label (next_index ts false i) (after_next ts false (after_next ts false i)) None
      ∷ ls) i j

-- (Identifier "=" Expr)?
pub data IsOneLineBody (ts : List Token) (d : ℕ) : Option Attribute → ℕ → ℕ → Type 0 where
  nothing : {i : ℕ} → IsOneLineBody ts d None i i
  one : {e : Expr} {i j : ℕ}
      → NextIs ts false k.Identifier i → NextIs ts false k.Equal (after_next ts false i)
      → IsExpr ts d false e (after_next ts false (after_next ts false i)) j
      → IsOneLineBody ts d (Some (node.attribute (next_index ts false i) j e)) i j

-- Body = (nl | Attr | Block)*, where
-- Attr  = Identifier "=" Expr Eol
-- Block = Identifier Label* "{" nl Body "}" Eol
--       | Identifier Label* "{" (Identifier "=" Expr)? "}" Eol
pub data IsMembers (ts : List Token) : ℕ → List Member → ℕ → ℕ → Type 0 where
  no_members : {d i : ℕ} → IsMembers ts d [] i i
  blank : {d : ℕ} {ms : List Member} {i j l : ℕ} → IsNewline ts i j → IsMembers ts d ms j l
      → IsMembers ts d ms i l
  attribute : {d : ℕ} {e : Expr} {ms : List Member} {i j n l : ℕ} → NextIs ts false k.Identifier i
      → NextIs ts false k.Equal (after_next ts false i)
      → IsExpr ts d false e (after_next ts false (after_next ts false i)) j → IsEol ts j n
      → IsMembers ts d ms n l
      → IsMembers ts d (member.Attribute (node.attribute (next_index ts false i) n e) ∷ ms) i l
  block : {d : ℕ} {ls : List Label} {bs ms : List Member} {i j n o q l : ℕ}
      → NextIs ts false k.Identifier i → IsLabels ts ls (after_next ts false i) j
      → NextIs ts false k.OpenBrace j
      → IsNewline ts (after_next ts false j) n → IsMembers ts d bs n o → NextIs ts false k.CloseBrace o
      → IsEol ts (after_next ts false o) q → IsMembers ts (suc d) ms q l
      → IsMembers ts (suc d)
      (node.block (next_index ts false i) q ls
      (content.Body (node.body (first_token_in ts false n o) o bs)) ∷ ms) i l
  line_block : {d : ℕ} {ls : List Label} {a : Option Attribute} {ms : List Member} {i j o q l : ℕ}
      → NextIs ts false k.Identifier i → IsLabels ts ls (after_next ts false i) j
      → NextIs ts false k.OpenBrace j → IsOneLineBody ts d a (after_next ts false j) o
      → NextIs ts false k.CloseBrace o → IsEol ts (after_next ts false o) q → IsMembers ts (suc d) ms q l
      → IsMembers ts (suc d) (node.block (next_index ts false i) q ls (content.OneLine a) ∷ ms) i l

-- Mark?
pub data IsOptionalMark (ts : List Token) : ℕ → Type 0 where
  no_mark : IsOptionalMark ts 0
  mark : NextIs ts false k.Mark 0 → IsOptionalMark ts (after_next ts false 0)

-- (LineComment)? end
pub data IsFileEnd (ts : List Token) : ℕ → Type 0 where
  at_end : {i : ℕ} → next_kind ts false i ≡ None → IsFileEnd ts i
  at_comment : {i : ℕ} → NextIs ts false k.LineComment i → next_kind ts false (after_next ts false i) ≡ None
      → IsFileEnd ts i

-- File = Mark? Body (LineComment)? end: this tree is derived from all the tokens
pub data IsFile (ts : List Token) (d : ℕ) : Tree → Type 0 where
  file : {ms : List Member} {i j : ℕ} → IsOptionalMark ts i → IsMembers ts d ms i j → IsFileEnd ts j
      → IsFile ts d (node.tree (length ts) (node.body (first_token_in ts false i j) j ms))
