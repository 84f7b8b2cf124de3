-- From which tokens the nodes of a tree are derived: each from those from its number `first` up to
-- its number `past`. The same is said of what has these numbers without being a node: bodies,
-- labels, the attribute of a block on one line, what begins a `for`, templates. A tail, a literal
-- and an interpolation have no such numbers: some of the tokens derive each. In all this d is some
-- depth of nesting, and m is whether line ends and line comments are dropped (Grammar, `IsExpr`).
use Rattle.std.specs.Prelude.{⊤, ℕ, Bool, List, [], ◌∷◌, map, Option, Some, None}
use Rattle.std.specs.List.{AllByRecursion}
use Rattle.hcl_grammar.specs.declared.tree.Body.{Body}
use Rattle.hcl_grammar.specs.declared.tree.Content.{out-Content}
use Rattle.hcl_grammar.specs.declared.tree.Content.TheOpen.{Content-F, Member-F}
use Rattle.hcl_grammar.specs.declared.tree.ExprKind.TheOpen.{Primary-F, Part-F}
use Rattle.hcl_grammar.specs.declared.tree.ForObject.{out-ForObject}
use Rattle.hcl_grammar.specs.declared.tree.ForTuple.{out-ForTuple}
use Rattle.hcl_grammar.specs.declared.tree.IfDirective.{out-IfDirective}
use Rattle.hcl_grammar.specs.declared.tree.Intro.{Intro}
use Rattle.hcl_grammar.specs.declared.tree.Label.{Label}
use Rattle.hcl_grammar.specs.declared.tree.Member.{out-Member}
use Rattle.hcl_grammar.specs.declared.tree.Member.TheVariants as member_of
use Rattle.hcl_grammar.specs.declared.tree.Part.{out-Part}
use Rattle.hcl_grammar.specs.declared.tree.Part.TheVariants as part_of
use Rattle.hcl_grammar.specs.declared.tree.Primary.{out-Primary}
use Rattle.hcl_grammar.specs.declared.tree.Template.{Template}
use Rattle.hcl_grammar.specs.declared.tree.Tree.{Tree}
use Rattle.hcl_grammar.specs.Bodies.{IsLabels, IsOneLineBody, IsMembers, IsFile}
use Rattle.hcl_grammar.specs.Grammar.{IsExpr, IsTail, IsTerm, IsIntro, IsParts, IsPart}
use Rattle.hcl_grammar.specs.Tokens.{Token}
use Rattle.hcl_grammar.specs.TreeLayers.{PrimaryLayer, PartLayer, ContentLayer, MemberLayer}
use Rattle.tf_rules.specs.Preorder.{Node, expr, term, tail, part, member, IsPreorder}

-- ---- what is no node

abbrev pub DerivesBody : List Token → Body → Type 0
DerivesBody ts x = (d : ℕ) × IsMembers ts d x.members x.first x.past

abbrev pub DerivesLabel : List Token → Label → Type 0
DerivesLabel ts x = IsLabels ts (x ∷ []) x.first x.past

abbrev pub DerivesIntro : List Token → Intro → Type 0
DerivesIntro ts x = (d : ℕ) × IsIntro ts d x x.first x.past

abbrev pub DerivesTemplate : List Token → Template → Type 0
DerivesTemplate ts x = (d : ℕ) × (m : Bool) × IsParts ts d m x.parts x.first x.past

abbrev pub DerivesElse : List Token → Option Template → Type 0
DerivesElse ts None = ⊤
DerivesElse ts (Some x) = DerivesTemplate ts x

-- what is in a block, as a body or as at most one attribute on one line
abbrev pub DerivesContent : List Token → ContentLayer → Type 0
DerivesContent ts (Content-F.Body x) = DerivesBody ts x
DerivesContent ts (Content-F.OneLine None) = ⊤
DerivesContent ts (Content-F.OneLine (Some x)) = (d : ℕ) × IsOneLineBody ts d (Some x) x.first x.past

-- what is in a term without being a node
abbrev pub DerivesPrimary : List Token → PrimaryLayer → Type 0
DerivesPrimary ts Primary-F.Number = ⊤
DerivesPrimary ts Primary-F.Identifier = ⊤
DerivesPrimary ts (Primary-F.Call x) = ⊤
DerivesPrimary ts (Primary-F.Tuple xs) = ⊤
DerivesPrimary ts (Primary-F.Object xs) = ⊤
DerivesPrimary ts (Primary-F.ForTuple x) = DerivesIntro ts (out-ForTuple x).intro
DerivesPrimary ts (Primary-F.ForObject x) = DerivesIntro ts (out-ForObject x).intro
DerivesPrimary ts (Primary-F.Quoted x) = DerivesTemplate ts x
DerivesPrimary ts (Primary-F.Heredoc x) = DerivesTemplate ts x
DerivesPrimary ts (Primary-F.Parens x) = ⊤

-- ---- nodes

abbrev pub DerivesPart : List Token → PartLayer → Type 0
DerivesPart ts (Part-F.Literal n) =
    (d : ℕ) × (m : Bool) × (i : ℕ) × (j : ℕ) × IsPart ts d m (part_of.Literal n) i j
DerivesPart ts (Part-F.Interp x) =
    (d : ℕ) × (m : Bool) × (i : ℕ) × (j : ℕ) × IsPart ts d m (part_of.Interp x) i j
DerivesPart ts (Part-F.If x) =
    ((d : ℕ) × (m : Bool)
    × IsPart ts d m (part_of.If x) (out-IfDirective x).first (out-IfDirective x).past)
    × DerivesTemplate ts (out-IfDirective x).then_branch × DerivesElse ts (out-IfDirective x).else_branch
DerivesPart ts (Part-F.For x) =
    ((d : ℕ) × (m : Bool) × IsPart ts d m (part_of.For x) x.first x.past)
    × DerivesIntro ts x.intro × DerivesTemplate ts x.body

-- an attribute or a block, with the end of its line
abbrev pub DerivesMember : List Token → MemberLayer → Type 0
DerivesMember ts (Member-F.Attribute x) =
    (d : ℕ) × IsMembers ts d (member_of.Attribute x ∷ []) x.first x.past
DerivesMember ts (Member-F.Block x) =
    ((d : ℕ) × IsMembers ts d (member_of.Block x ∷ []) x.first x.past)
    × AllByRecursion (DerivesLabel ts) x.labels × DerivesContent ts (out-Content x.content)

abbrev pub Derives : List Token → Node → Type 0
Derives ts (expr role x) = (d : ℕ) × (m : Bool) × IsExpr ts d m x x.first x.past
Derives ts (term role x) =
    ((d : ℕ) × (m : Bool) × IsTerm ts d m x x.first x.past) × DerivesPrimary ts (out-Primary x.kind)
Derives ts (tail splat x) = (d : ℕ) × (m : Bool) × (i : ℕ) × (j : ℕ) × IsTail ts d m x i j
Derives ts (part x) = DerivesPart ts (out-Part x)
Derives ts (member x) = DerivesMember ts (out-Member x)

-- The tree of a list of tokens has a list of all its nodes (and only one: `preorder_is_unique` of
-- tf_findings), and each is derived by its own tokens; so is the body of the tree.
abbrev pub NodesSpanTheirTokens : Type 0
NodesSpanTheirTokens = (ts : List Token) (d : ℕ) (t : Tree) → IsFile ts d t
    → DerivesBody ts t.body
    × (ns : List Node) × IsPreorder (map member t.body.members) ns × AllByRecursion (Derives ts) ns
