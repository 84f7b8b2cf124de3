use Rattle.std.proofs.Common.{◌∙◌, arith}
use Rattle.hcl_layout.proofs.GapsLemmas.Copied.{most_len}
use Rattle.hcl_layout.proofs.GapsLemmas.EditLemmas.{last_at}
use Rattle.hcl_scan.proofs.TokenCount.{few_tokens}
use Rattle.hcl_layout.proofs.gaps.limit.capacity_within_limit.Goals as goal

pub total_space_count-requires : goal.total_space_count-requires
total_space_count-requires c =
    omega (arith, few_tokens c.args.scanned.now.text c.args.scanned.now.pairs c.args.scanned.now.last c.text-text.ensures.tokenization, c.requires)

pub returns-then-most-le-MAX_TEXT-clause-short : goal.returns-then-most-le-MAX_TEXT-clause-short
returns-then-most-le-MAX_TEXT-clause-short c =
    omega (
      arith,
      most_len c.args.gaps.now c.args.scanned.now.pairs,
      last_at c.args.scanned.now.pairs c.args.scanned.now.last c.text-text.result.now (c.text-text.ensures.text ∙ c.text-text.ensures.tokenization.tokenizes.text_is),
      c.total_space_count.ensures.value,
      c.if-most-le-MAX_TEXT.true,
    )
