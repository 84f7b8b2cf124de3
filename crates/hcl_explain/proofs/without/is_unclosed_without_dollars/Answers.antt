use Rattle.std.proofs.Common.{rules, ◌≡◌, true, inl, refl}
use Rattle.hcl_explain.proofs.without.is_unclosed_without_dollars.Goals as goal

pub returns-then-branch : goal.returns-then-branch
returns-then-branch c =
    let is : c.in_ok-ends_with_line.field-0 ≡ true = first_of (cc, search rules) in
    ((λ yes. inl (c.in_ok-ends_with_line.ensures.0 is)), (λ h. refl))
