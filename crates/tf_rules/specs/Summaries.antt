-- Summaries of the parts of a node: what the rules look at of them where there is no tree.
use Rattle.std.specs.Prelude.{Bool, true, false, List, [], ◌∷◌}
use Rattle.hcl_grammar.specs.TreeLayers.{ExprKindLayer, PrimaryLayer, PartLayer}
use Rattle.hcl_grammar.specs.declared.tree.Expr.{Expr}
use Rattle.hcl_grammar.specs.declared.tree.ExprKind.{out-ExprKind}
use Rattle.hcl_grammar.specs.declared.tree.ExprKind.TheOpen.{ExprKind-F, Primary-F, Part-F}
use Rattle.hcl_grammar.specs.declared.tree.Part.{Part, out-Part}
use Rattle.hcl_grammar.specs.declared.tree.Primary.{out-Primary}
use Rattle.tf_rules.specs.declared.summary.Count.{Count}
use Rattle.tf_rules.specs.declared.summary.Count.TheVariants as count
use Rattle.tf_rules.specs.declared.summary.Pieces.{Pieces}
use Rattle.tf_rules.specs.declared.summary.Pieces.TheVariants as pieces
use Rattle.tf_rules.specs.declared.summary.Value.{Value}
use Rattle.tf_rules.specs.declared.summary.Value.TheVariants as value

abbrev pub count_of : {A : Type 0} → List A → Count
count_of [] = count.Zero
count_of (x ∷ []) = count.One
count_of (x ∷ y ∷ []) = count.Two
count_of (x ∷ y ∷ z ∷ xs) = count.Many

abbrev pub part_pieces : PartLayer → Pieces
part_pieces (Part-F.Interp e) = pieces.Sole
part_pieces _ = pieces.Mixed

abbrev pub pieces_of : List Part → Pieces
pieces_of [] = pieces.Empty
pieces_of (x ∷ []) = part_pieces (out-Part x)
pieces_of (x ∷ y ∷ xs) = pieces.Mixed

abbrev pub text_value : Pieces → Value
text_value pieces.Empty = value.EmptyText
text_value _ = value.Plain

abbrev pub primary_value : PrimaryLayer → Value
primary_value (Primary-F.Tuple []) = value.EmptyList
primary_value (Primary-F.Quoted t) = text_value (pieces_of t.parts)
primary_value _ = value.Plain

abbrev pub kind_value : ExprKindLayer → Value
kind_value (ExprKind-F.Term t) = primary_value (out-Primary t.kind)
kind_value _ = value.Plain

abbrev pub value_of : Expr → Value
value_of e = kind_value (out-ExprKind e.kind)

-- ---- no rule finds anything in it

abbrev pub is_clean : Value → Bool
is_clean value.Suspect = false
is_clean _ = true

abbrev pub is_clean_count : Count → Bool
is_clean_count count.Suspect = false
is_clean_count _ = true

abbrev pub is_clean_pieces : Pieces → Bool
is_clean_pieces pieces.Suspect = false
is_clean_pieces _ = true
