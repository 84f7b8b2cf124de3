-- Whatever is made is related, if anything is related to anything.
use Rattle.std.proofs.Common.{rules}
use Rattle.hcl_parse.specs.Alike.{Relations, Respects}
use Rattle.hcl_parse.specs.Laws.{Any}
use Rattle.hcl_grammar.specs.Pure.Makers.{Types, Makers}

abbrev pub anything : (s t : Types) → Relations s t
anything s t = record {
  Expr = Any;
  Exprs = Any;
  Operations = Any;
  Term = Any;
  Tail = Any;
  Tails = Any;
  Names = Any;
  Elems = Any;
  Intro = Any;
  Template = Any;
  Part = Any;
  Parts = Any;
  Attribute = Any;
  Label = Any;
  Labels = Any;
  Content = Any;
  Member = Any;
  Members = Any;
  Body = Any;
  Tree = Any;
}

pub respected : {s t : Types} (a : Makers s) (b : Makers t) → Respects a b (anything s t)
respected a b = search rules
