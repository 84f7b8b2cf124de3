use Rattle.hcl_scan.specs.Follows.{tokens_of}
use Rattle.tf_lint.proofs.TokenLemmas.{same_more}
use Rattle.tf_lint.proofs.tokens.same_each.Goals as goal

pub loop-k-preserved : goal.loop-k-preserved
loop-k-preserved c =
    let old = tokens_of c.args.old.now.pairs in
    let new = tokens_of c.args.new.now.pairs in
    same_more old new c.args.from c.args.to c.loop-k.k c.loop-k.invariant (c.same_token.ensures.same c.if-not-same_token.false)
