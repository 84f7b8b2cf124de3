use Rattle.std.proofs.Common.{◌≡◌, drop}
use Rattle.std.specs.List.{flat_map, list_any}
use Rattle.tf_rules.specs.Attributes.{is_attribute, member_attributes}
use Rattle.tf_rules.proofs.attributes.members_have_attribute.Given as goal

abbrev pub invariant-loop-m : goal.invariant-loop-m
invariant-loop-m l =
    list_any (is_attribute l.fn.scanned.pairs l.fn.name l.fn.must_be_empty) (flat_map member_attributes (drop l.m-index l.fn.members))
    ≡ list_any (is_attribute l.fn.scanned.pairs l.fn.name l.fn.must_be_empty) (flat_map member_attributes l.fn.members)
