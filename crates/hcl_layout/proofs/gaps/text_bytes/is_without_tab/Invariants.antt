use Rattle.std.proofs.Common.{◌≡◌, take}
use Rattle.hcl_layout.specs.Gaps.Inner.CodeViews.{is_without_tab}
use Rattle.hcl_layout.proofs.gaps.text_bytes.is_without_tab.Given as goal

abbrev pub invariant-loop-byte : goal.invariant-loop-byte
invariant-loop-byte l = l.none ≡ is_without_tab (take l.byte-index l.text)
