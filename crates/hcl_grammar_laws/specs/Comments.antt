-- What line comments say is no part of a tree.
-- HCL native syntax specification, Comments and Whitespace.
use Rattle.std.specs.Prelude.{◌≡◌, ℕ, List, [], map, if◌then◌else◌}
use Rattle.hcl_token.specs.Kinds.{is_line_comment}
use Rattle.hcl_grammar.specs.declared.tree.Tree.{Tree}
use Rattle.hcl_grammar.specs.Bodies.{IsFile}
use Rattle.hcl_grammar.specs.Tokens.{Token}

-- a token; of a line comment the kind alone
abbrev pub without_comment_text : Token → Token
without_comment_text t = if is_line_comment t.0 then (t.0, []) else t

-- tokens that differ in what their line comments say, and in nothing else, have the same trees
abbrev pub CommentTextIsIgnored : Type 0
CommentTextIsIgnored = (ts us : List Token) (d : ℕ) (t : Tree)
    → map without_comment_text ts ≡ map without_comment_text us
    → IsFile ts d t → IsFile us d t
