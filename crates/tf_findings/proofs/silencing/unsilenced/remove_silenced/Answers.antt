use Rattle.std.proofs.Common.{refl, ◌∙◌}
use Rattle.tf_findings.proofs.UnsilencedLemmas.{all_left, is_empty, unsilenced_left}
use Rattle.tf_findings.proofs.silencing.unsilenced.remove_silenced.Goals as goal

pub returns-then-is_empty : goal.returns-then-is_empty
returns-then-is_empty c =
    all_left c.args.scanned.now.pairs c.args.found.items c.args.silencing_tokens.now (is_empty c.args.silencing_tokens.now _ c.is_empty.ensures c.if-is_empty.true) c.requires.silence

pub returns : goal.returns
returns c =
    c.unsilenced.ensures ∙ unsilenced_left c.args.scanned.now.pairs _ c.args.found.items _ c.in_ok-annotations.annotations.items _ refl refl c.as_slice.ensures.value
    (λ rule line. c.in_ok-annotations.ensures.silenced rule line ∙ c.requires.silence rule line)
