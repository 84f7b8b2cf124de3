-- The makers that make nothing.
use Rattle.std.specs.Prelude.{refl}
use Rattle.hcl_grammar.specs.Pure.Makers.{Types, Makers}

abbrev pub nothing_types : Types
nothing_types = record {
  Expr = Unit {0};
  Exprs = Unit {0};
  Operations = Unit {0};
  Term = Unit {0};
  Tail = Unit {0};
  Tails = Unit {0};
  Names = Unit {0};
  Elems = Unit {0};
  Intro = Unit {0};
  Template = Unit {0};
  Part = Unit {0};
  Parts = Unit {0};
  Attribute = Unit {0};
  Label = Unit {0};
  Labels = Unit {0};
  Content = Unit {0};
  Member = Unit {0};
  Members = Unit {0};
  Body = Unit {0};
  Tree = Unit {0};
}

abbrev pub nothing : Makers nothing_types
nothing = record {
  conditional = λ _ _ _ _ _. tt;
  chain = λ _ _. tt;
  no_operations = tt;
  add_operation = λ _ _ _. tt;
  alone = λ _. refl;
  unary = λ _ _ _ _. tt;
  postfix = λ _ _ _ _. tt;
  no_tails = tt;
  add_tail = λ _ _. tt;
  name_tail = λ _. tt;
  legacy_index = λ _. tt;
  attribute_splat = tt;
  full_splat = tt;
  index = λ _. tt;
  number = λ _ _. tt;
  identifier = λ _ _. tt;
  call = λ _ _ _ _ _. tt;
  first_name = λ _. tt;
  add_name = λ _ _. tt;
  no_exprs = tt;
  add_expr = λ _ _. tt;
  tuple = λ _ _ _. tt;
  object = λ _ _ _. tt;
  no_elems = tt;
  add_elem = λ _ _ _. tt;
  intro = λ _ _ _ _ _. tt;
  for_tuple = λ _ _ _ _ _. tt;
  for_object = λ _ _ _ _ _ _ _. tt;
  quoted = λ _ _ _. tt;
  heredoc = λ _ _ _. tt;
  parens = λ _ _ _. tt;
  template = λ _ _ _. tt;
  no_parts = tt;
  add_part = λ _ _. tt;
  literal = λ _. tt;
  interpolation = λ _. tt;
  if_directive = λ _ _ _ _ _. tt;
  for_directive = λ _ _ _ _. tt;
  attribute = λ _ _ _. tt;
  label = λ _ _ _. tt;
  no_labels = tt;
  add_label = λ _ _. tt;
  one_line = λ _. tt;
  block_body = λ _. tt;
  attribute_member = λ _. tt;
  block = λ _ _ _ _. tt;
  no_members = tt;
  add_member = λ _ _. tt;
  body = λ _ _ _. tt;
  tree = λ _ _. tt;
}
