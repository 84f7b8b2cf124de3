use Rattle.std.proofs.Common.{rules, ◌≡◌, true, false, inl, inr}
use Rattle.hcl_explain.proofs.WithoutLemmas.{is_not}
use Rattle.hcl_explain.proofs.scan_character.by_dollars.Goals as goal

pub returns-then-branch : goal.returns-then-branch
returns-then-branch c =
    let is : c.in_ok-is_unclosed_without_dollars.field-0 ≡ true = first_of (cc, search rules) in
    inl (c.in_ok-is_unclosed_without_dollars.ensures.0 is, c.explanation.ensures)

pub returns-else-branch : goal.returns-else-branch
returns-else-branch c =
    let is : c.in_ok-is_unclosed_without_dollars.field-0 ≡ false = first_of (cc, search rules) in
    inr (
      is_not c.in_ok-is_unclosed_without_dollars.field-0 is
          c.in_ok-is_unclosed_without_dollars.ensures,
      c.explanation-else-branch.ensures,
    )
