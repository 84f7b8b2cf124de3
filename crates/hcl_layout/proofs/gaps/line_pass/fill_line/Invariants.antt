use Rattle.std.proofs.Common.{◌≡◌, ◌-◌, Some, false, length, take}
use Rattle.hcl_token.specs.TokenizedText.{kind_of}
use Rattle.hcl_layout.proofs.GapsLemmas.LineLemmas.{IsInLine}
use Rattle.hcl_layout.proofs.GapsLemmas.LinePass.{CountsTo, AreSpaced}
use Rattle.hcl_layout.proofs.gaps.line_pass.fill_line.Given as goal

abbrev pub invariant-loop-i : goal.invariant-loop-i
invariant-loop-i l = record {
  line : IsInLine l.scanned.pairs l.at false (l.i - 1) 0;
  counts : CountsTo l.scanned.pairs l.at (l.i - 1) l.brackets l.marks 0;
  a : Some l.a ≡ kind_of l.scanned.pairs (l.i - 1);
  spaced : AreSpaced l.scanned.pairs l.first l.at l.i (take l.at l.fn.gaps.items) (take l.i l.gaps.items);
  same : length l.gaps.items ≡ length l.fn.gaps.items;
}
