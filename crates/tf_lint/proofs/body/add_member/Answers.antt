-- One member more, which is kept or given up.
use Rattle.tf_lint.proofs.BodyLemmas.{all_ok, one_more_kept, one_more_taken}
use Rattle.tf_lint.proofs.body.add_member.Goals as goal

pub returns-then-is_worth_keeping : goal.returns-then-is_worth_keeping
returns-then-is_worth_keeping c = λ rules pairs ms seen is.
    let h = c.keep_member.ensures in
    all_ok c.keep_member.result (one_more_kept c.args.body.now c.keep_member.new.body seen is) h.members h.nodes h.blocks

pub returns-else-keep_members : goal.returns-else-keep_members
returns-else-keep_members c = λ rules pairs ms seen is.
    let h = c.merge_member.ensures in
    all_ok c.merge_member.result (one_more_taken c.args.body.now c.merge_member.new.body seen is) h.members h.nodes h.blocks
