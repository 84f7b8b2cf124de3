use Rattle.hcl_grammar.specs.Pure.NodeMakers.{nodes, node_types}
use Rattle.hcl_parse.specs.Nothing.{nothing, nothing_types}
use Rattle.hcl_parse.proofs.Anything.{anything, respected}
use Rattle.hcl_parse.proofs.Fold.{expr, member, file}
use Rattle.hcl_parse.proofs.laws.both_end_alike.Goals as goal

pub returns : goal.returns
returns c = record {
  expr = λ ts depth m goal i. expr nothing nodes (anything nothing_types node_types) (respected nothing nodes) ts depth m goal i;
  member = λ ts depth i. member nothing nodes (anything nothing_types node_types) (respected nothing nodes) ts depth i;
  file = λ ts depth i. file nothing nodes (anything nothing_types node_types) (respected nothing nodes) ts depth i;
}
