use Rattle.std.proofs.Common.{◌≡◌, take}
use Rattle.hcl_layout.specs.Gaps.Inner.CodeViews.{is_plain}
use Rattle.hcl_layout.proofs.gaps.text_bytes.is_plain.Given as goal

abbrev pub invariant-loop-byte : goal.invariant-loop-byte
invariant-loop-byte l = l.plain ≡ is_plain (take l.byte-index l.text)
