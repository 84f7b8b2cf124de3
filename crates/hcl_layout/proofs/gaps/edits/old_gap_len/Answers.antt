use Rattle.hcl_layout.proofs.GapsLemmas.GapLengths.{gap_len_is}
use Rattle.hcl_layout.proofs.gaps.edits.old_gap_len.Goals as goal

pub overflow_sub-result : goal.overflow_sub-result
overflow_sub-result c = (gap_len_is c.args.scanned.now.pairs c.args.i c.item-item.result c.requires c.item-item.ensures).0

pub returns : goal.returns
returns c = (gap_len_is c.args.scanned.now.pairs c.args.i c.item-item.result c.requires c.item-item.ensures).1
