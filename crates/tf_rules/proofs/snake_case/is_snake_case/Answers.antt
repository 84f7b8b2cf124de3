use Rattle.std.proofs.Common.{◌≡◌, ◌≤◌, true, length, slice_index, rules, ◌∙◌}
use Rattle.tf_rules.proofs.SnakeCaseLemmas.{snake_case_is}
use Rattle.tf_rules.specs.SnakeCase.{is_lower}
use Rattle.tf_rules.proofs.snake_case.is_snake_case.Goals as goal

pub returns-then-is_lower : goal.returns-then-is_lower
returns-then-is_lower c =
    let name = c.args.name.now in
    let some : 1 ≤ length name = search rules in
    let lower : is_lower (slice_index name 0) ≡ true = search rules in
    c.is_valid_after_first.ensures ∙ snake_case_is name some lower
