use Rattle.std.proofs.lemmas.Option.{slice_get-get_or}
use Rattle.tf_lint.proofs.member.reuse_member_at.Goals as goal

pub returns : goal.returns
returns c = λ rules old_members.
    c.reuse_member.ensures rules (old_members c.args.index _ (slice_get-get_or c.args.search.now.old_members.now c.args.index c.index-search-index.result c.if-index-search.false))
