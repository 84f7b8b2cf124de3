use Rattle.std.proofs.Common.{◌≡◌, ℕ, List, Ok}
use Rattle.edit_record.specs.Lists.Pieces.{EditEntry, EditList, as_list}
use Rattle.edit_record.specs.Squashes.Squash.{IsSquash, IsSquashResult}
use Rattle.edit_record.proofs.squashes.squash_lists.squash.Goals as goal

answered : (a b c : EditList) (old_len : ℕ) (es : List EditEntry) → c ≡ as_list old_len es → old_len ≡ a.old_len → IsSquash a b (as_list a.old_len es) → IsSquashResult a b (Ok c)
answered a b c old_len es c_is old_is h = rw (c_is, old_is) h

pub returns : goal.returns
returns c = answered c.args.first.now c.args.second.now c.from_valid.result c.old_len-2.result c.in_ok-edits.edits.items c.from_valid.ensures c.old_len-2.ensures c.in_ok-edits.ensures.merges.1
