-- One member of a body by itself. HCL Native Syntax Specification, Bodies.
use Rattle.std.specs.Prelude.{ℕ, suc, false, List, Option}
use Rattle.hcl_token.specs.declared.kind.Kind.TheVariants as k
use Rattle.hcl_grammar.specs.declared.tree.Attribute.{Attribute}
use Rattle.hcl_grammar.specs.declared.tree.Content.TheVariants as content
use Rattle.hcl_grammar.specs.declared.tree.Expr.{Expr}
use Rattle.hcl_grammar.specs.declared.tree.Label.{Label}
use Rattle.hcl_grammar.specs.declared.tree.Member.{Member}
use Rattle.hcl_grammar.specs.declared.tree.Member.TheVariants as member
use Rattle.hcl_grammar.specs.Bodies.{IsLabels, IsOneLineBody, IsMembers}
use Rattle.hcl_grammar.specs.Grammar.{IsExpr}
use Rattle.hcl_grammar.specs.Lookahead.{NextIs, IsNewline, IsEol}
use Rattle.hcl_grammar.specs.Nodes as node
use Rattle.hcl_grammar.specs.Tokens.{Token, next_index, after_next, first_token_in}

-- What the grammar says of the first member of a body (`IsMembers`), without the members after it:
-- an attribute or a block from its name on up to the end of its last line.
pub data IsOneMember (ts : List Token) : ℕ → Member → ℕ → ℕ → Type 0 where
  attribute : {d : ℕ} {e : Expr} {i j n : ℕ} → NextIs ts false k.Identifier i
      → NextIs ts false k.Equal (after_next ts false i)
      → IsExpr ts d false e (after_next ts false (after_next ts false i)) j → IsEol ts j n
      → IsOneMember ts d (member.Attribute (node.attribute (next_index ts false i) n e)) i n
  block : {d : ℕ} {ls : List Label} {bs : List Member} {i j n o q : ℕ} → NextIs ts false k.Identifier i
      → IsLabels ts ls (after_next ts false i) j → NextIs ts false k.OpenBrace j
      → IsNewline ts (after_next ts false j) n → IsMembers ts d bs n o → NextIs ts false k.CloseBrace o
      → IsEol ts (after_next ts false o) q
      → IsOneMember ts (suc d)
      (node.block (next_index ts false i) q ls
      (content.Body (node.body (first_token_in ts false n o) o bs))) i q
  line_block : {d : ℕ} {ls : List Label} {a : Option Attribute} {i j o q : ℕ}
      → NextIs ts false k.Identifier i → IsLabels ts ls (after_next ts false i) j
      → NextIs ts false k.OpenBrace j
      → IsOneLineBody ts d a (after_next ts false j) o → NextIs ts false k.CloseBrace o
      → IsEol ts (after_next ts false o) q
      → IsOneMember ts (suc d) (node.block (next_index ts false i) q ls (content.OneLine a)) i q
