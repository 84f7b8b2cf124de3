use Rattle.std.proofs.Common.{◌≡◌, ◌+◌, ◌-◌, ◌*◌, length}
use Rattle.hcl_parse.specs.Rules as spec
use Rattle.hcl_parse.proofs.+nest.Given as goal

-- A construct has 64 places of its own: each function calls those below it, and what is in a
-- construct that was opened has the next 64.

abbrev pub decreases-exprs::conditional : goal.decreases-exprs::conditional
decreases-exprs::conditional g l = 64 * l.reader.now.depth + 1

abbrev pub decreases-exprs::unary_with : goal.decreases-exprs::unary_with
decreases-exprs::unary_with g l = 64 * l.reader.now.depth + 1

abbrev pub decreases-exprs::unary : goal.decreases-exprs::unary
decreases-exprs::unary g l = 64 * l.reader.now.depth + 7

abbrev pub decreases-exprs::operand : goal.decreases-exprs::operand
decreases-exprs::operand g l = 64 * l.reader.now.depth + 8

abbrev pub decreases-exprs::operations : goal.decreases-exprs::operations
decreases-exprs::operations g l = 64 * l.reader.now.depth + 8

abbrev pub decreases-exprs::chain : goal.decreases-exprs::chain
decreases-exprs::chain g l = 64 * l.reader.now.depth + 26

abbrev pub decreases-exprs::after_operand : goal.decreases-exprs::after_operand
decreases-exprs::after_operand g l = 64 * l.reader.now.depth + 27

abbrev pub decreases-exprs::whole : goal.decreases-exprs::whole
decreases-exprs::whole g l = 64 * l.reader.now.depth + 28

abbrev pub decreases-exprs::rest_of_expr : goal.decreases-exprs::rest_of_expr
decreases-exprs::rest_of_expr g l = 64 * l.reader.now.depth + 28

abbrev pub decreases-exprs::general_expr : goal.decreases-exprs::general_expr
decreases-exprs::general_expr g l = 64 * l.reader.now.depth + 29

abbrev pub decreases-exprs::expr_after_term : goal.decreases-exprs::expr_after_term
decreases-exprs::expr_after_term g l = 64 * l.reader.now.depth + 30

abbrev pub decreases-exprs::expr_next : goal.decreases-exprs::expr_next
decreases-exprs::expr_next g l = 64 * l.reader.now.depth + 31

abbrev pub decreases-exprs::expr : goal.decreases-exprs::expr
decreases-exprs::expr g l = 64 * l.reader.now.depth + 32

abbrev pub decreases-tails::bracket_tail : goal.decreases-tails::bracket_tail
decreases-tails::bracket_tail g l = 64 * l.reader.now.depth + 1

abbrev pub decreases-tails::tail : goal.decreases-tails::tail
decreases-tails::tail g l = 64 * l.reader.now.depth + 2

abbrev pub decreases-tails::each_tail : goal.decreases-tails::each_tail
decreases-tails::each_tail g l = 64 * l.reader.now.depth + 3

abbrev pub decreases-tails::more_tails : goal.decreases-tails::more_tails
decreases-tails::more_tails g l = 64 * l.reader.now.depth + 4

abbrev pub decreases-tails::with_tails : goal.decreases-tails::with_tails
decreases-tails::with_tails g l = 64 * l.reader.now.depth + 5

abbrev pub decreases-terms::call : goal.decreases-terms::call
decreases-terms::call g l = 64 * l.reader.now.depth + 1

abbrev pub decreases-terms::identifier_or_call : goal.decreases-terms::identifier_or_call
decreases-terms::identifier_or_call g l = 64 * l.reader.now.depth + 2

abbrev pub decreases-terms::tuple_or_for : goal.decreases-terms::tuple_or_for
decreases-terms::tuple_or_for g l = 64 * l.reader.now.depth + 1

abbrev pub decreases-terms::object_or_for : goal.decreases-terms::object_or_for
decreases-terms::object_or_for g l = 64 * l.reader.now.depth + 1

abbrev pub decreases-terms::enclosed : goal.decreases-terms::enclosed
decreases-terms::enclosed g l = 64 * l.reader.now.depth + 1

abbrev pub decreases-terms::parens : goal.decreases-terms::parens
decreases-terms::parens g l = 64 * l.reader.now.depth + 2

abbrev pub decreases-terms::quoted : goal.decreases-terms::quoted
decreases-terms::quoted g l = 64 * l.reader.now.depth + 1

abbrev pub decreases-terms::heredoc : goal.decreases-terms::heredoc
decreases-terms::heredoc g l = 64 * l.reader.now.depth + 1

abbrev pub decreases-terms::term : goal.decreases-terms::term
decreases-terms::term g l = 64 * l.reader.now.depth + 3

abbrev pub decreases-tails::post : goal.decreases-tails::post
decreases-tails::post g l = 64 * l.reader.now.depth + 6

abbrev pub decreases-terms::tuple_items : goal.decreases-terms::tuple_items
decreases-terms::tuple_items g l = 64 * l.reader.now.depth + 33

abbrev pub decreases-terms::arguments : goal.decreases-terms::arguments
decreases-terms::arguments g l = 64 * l.reader.now.depth + 33

abbrev pub decreases-terms::tuple : goal.decreases-terms::tuple
decreases-terms::tuple g l = 64 * l.reader.now.depth + 34

abbrev pub decreases-terms::elem : goal.decreases-terms::elem
decreases-terms::elem g l = 64 * l.reader.now.depth + 33

abbrev pub decreases-terms::elems : goal.decreases-terms::elems
decreases-terms::elems g l = 64 * l.reader.now.depth + 34

abbrev pub decreases-terms::object : goal.decreases-terms::object
decreases-terms::object g l = 64 * l.reader.now.depth + 35

abbrev pub decreases-for_exprs::intro : goal.decreases-for_exprs::intro
decreases-for_exprs::intro g l = 64 * l.reader.now.depth + 33

abbrev pub decreases-for_exprs::filter : goal.decreases-for_exprs::filter
decreases-for_exprs::filter g l = 64 * l.reader.now.depth + 33

abbrev pub decreases-for_exprs::for_tuple : goal.decreases-for_exprs::for_tuple
decreases-for_exprs::for_tuple g l = 64 * l.reader.now.depth + 34

abbrev pub decreases-for_exprs::for_value : goal.decreases-for_exprs::for_value
decreases-for_exprs::for_value g l = 64 * l.reader.now.depth + 34

abbrev pub decreases-for_exprs::for_object : goal.decreases-for_exprs::for_object
decreases-for_exprs::for_object g l = 64 * l.reader.now.depth + 35

abbrev pub decreases-templates::if_directive : goal.decreases-templates::if_directive
decreases-templates::if_directive g l = 64 * l.reader.now.depth + 1

abbrev pub decreases-templates::for_directive : goal.decreases-templates::for_directive
decreases-templates::for_directive g l = 64 * l.reader.now.depth + 1

abbrev pub decreases-templates::directive : goal.decreases-templates::directive
decreases-templates::directive g l = 64 * l.reader.now.depth + 2

abbrev pub decreases-templates::interpolation : goal.decreases-templates::interpolation
decreases-templates::interpolation g l = 64 * l.reader.now.depth + 2

abbrev pub decreases-templates::part : goal.decreases-templates::part
decreases-templates::part g l = 64 * l.reader.now.depth + 3

abbrev pub decreases-templates::each_part : goal.decreases-templates::each_part
decreases-templates::each_part g l = 64 * l.reader.now.depth + 4

abbrev pub decreases-templates::parts : goal.decreases-templates::parts
decreases-templates::parts g l = 64 * l.reader.now.depth + 5

abbrev pub decreases-templates::template : goal.decreases-templates::template
decreases-templates::template g l = 64 * l.reader.now.depth + 6

abbrev pub decreases-templates::else_and_endif : goal.decreases-templates::else_and_endif
decreases-templates::else_and_endif g l = 64 * l.reader.now.depth + 7

abbrev pub invariant-tails::each_tail-loop-turn : goal.invariant-tails::each_tail-loop-turn
invariant-tails::each_tail-loop-turn g l = spec.tails_from (g.S.Builder.make l.builder) l.reader l.turns l.fn.found l.fn.at ≡ spec.tails_from (g.S.Builder.make l.builder) l.reader (l.turns - l._turn) l.all l.at

abbrev pub invariant-terms::arguments-loop-turn : goal.invariant-terms::arguments-loop-turn
invariant-terms::arguments-loop-turn g l = spec.arguments (g.S.Builder.make l.builder) l.reader l.fn.at ≡ spec.arguments_from (g.S.Builder.make l.builder) l.reader (l._turn-end - l._turn) l.found l.at

abbrev pub invariant-terms::tuple_items-loop-turn : goal.invariant-terms::tuple_items-loop-turn
invariant-terms::tuple_items-loop-turn g l = spec.tuple_items (g.S.Builder.make l.builder) l.reader l.fn.at ≡ spec.tuple_items_from (g.S.Builder.make l.builder) l.reader (l._turn-end - l._turn) l.found l.at

abbrev pub invariant-terms::elems-loop-turn : goal.invariant-terms::elems-loop-turn
invariant-terms::elems-loop-turn g l = spec.elems (g.S.Builder.make l.builder) l.reader l.fn.at ≡ spec.elems_from (g.S.Builder.make l.builder) l.reader (l._turn-end - l._turn) l.found l.at

abbrev pub invariant-exprs::operations-loop-turn : goal.invariant-exprs::operations-loop-turn
invariant-exprs::operations-loop-turn g l = spec.operations (g.S.Builder.make l.builder) l.reader l.fn.at ≡ spec.operations_from (g.S.Builder.make l.builder) l.reader (l._turn-end - l._turn) l.found l.at

abbrev pub invariant-templates::each_part-loop-turn : goal.invariant-templates::each_part-loop-turn
invariant-templates::each_part-loop-turn g l = spec.parts_from (g.S.Builder.make l.builder) l.reader (length l.reader.tokens) (g.S.Builder.make l.builder).no_parts l.fn.at ≡ spec.parts_from (g.S.Builder.make l.builder) l.reader (l._turn-end - l._turn) l.found l.at
