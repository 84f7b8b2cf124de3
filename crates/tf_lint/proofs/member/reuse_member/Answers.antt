-- The member of the new text is the old one, its numbers moved.
use Rattle.std.proofs.Common.{refl, sym, map, ap, ◌∙◌, ◌-◌}
use Rattle.hcl_grammar.specs.declared.bounds.TheConstants.{MAX_NESTING}
use Rattle.tf_reuse.specs.Renumbering.{renumber_finding}
use Rattle.tf_lint.proofs.member.reuse_member.Goals as goal

pub returns : goal.returns
returns c = λ rules is.
    let s = c.args.old_member.now in
    let old = c.args.old.now.pairs in
    let new = c.args.scanned.now.pairs in
    let whole = c.if-not-is_unchanged.ensures.whole refl in
    let m = c.unchanged_members_keep_findings.ensures rules old new MAX_NESTING s.from c.args.at (s.past - s.from) is.member (c.if-not-is_unchanged.ensures.same refl) (rw whole is.is_member) (rw whole (c.if-not-is_unchanged.ensures.more refl)) in
    let nodes = c.in_ok-node_findings.ensures ∙ ap (map (renumber_finding s.from c.args.at)) c.deref.ensures.value in
    let blocks = c.in_ok-block_findings.ensures ∙ ap (map (renumber_finding s.from c.args.at)) (c.deref-2.ensures.value ∙ is.at_block) in
    (refl, record { member = m.0; is_member = m.1; at_nodes = rw nodes (m.2 s.node_findings.items is.at_nodes); at_block = blocks ∙ sym m.3 })
