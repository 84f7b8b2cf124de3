use Rattle.std.proofs.Common.{◌≡◌, ◌+◌, ◌-◌, ◌*◌}
use Rattle.hcl_parse.specs.BodyRules as spec
use Rattle.hcl_parse.proofs.bodies.+nest.Given as goal

-- A block has 8 places of its own.

abbrev pub decreases-members : goal.decreases-members
decreases-members g l = 8 * l.reader.now.depth + 4

abbrev pub decreases-member_next : goal.decreases-member_next
decreases-member_next g l = 8 * l.reader.now.depth + 3

abbrev pub decreases-attribute_or_block : goal.decreases-attribute_or_block
decreases-attribute_or_block g l = 8 * l.reader.now.depth + 2

abbrev pub decreases-block : goal.decreases-block
decreases-block g l = 8 * l.reader.now.depth + 1

abbrev pub decreases-nested_body : goal.decreases-nested_body
decreases-nested_body g l = 8 * l.reader.now.depth + 5

abbrev pub decreases-block_content : goal.decreases-block_content
decreases-block_content g l = 8 * l.reader.now.depth + 6

abbrev pub invariant-members-loop-turn : goal.invariant-members-loop-turn
invariant-members-loop-turn g l = spec.members (g.S.Builder.make l.builder) l.reader l.fn.at ≡ spec.members_from (g.S.Builder.make l.builder) l.reader (l._turn-end - l._turn) l.found l.at
