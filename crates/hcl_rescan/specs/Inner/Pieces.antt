-- Pieces of a text: those that were replaced, and those that are scanned by themselves.
use Rattle.std.specs.Prelude.{◌≡◌, ℕ, ◌+◌, ◌<◌, ◌≤◌, List, slice_get, Some}
use Rattle.hcl_scan.specs.declared.fault.ScanFault.{ScanFault}
use Rattle.hcl_scan.specs.declared.fault.ScanFault.TheVariants.{Memory}
use Rattle.hcl_rescan.specs.declared.fault.RescanFault.{RescanFault}
use Rattle.hcl_rescan.specs.declared.incremental.ReplacedRange.{ReplacedRange}

-- the replaced pieces from number `from` on, up to number `to`, end before this byte of the old text
abbrev pub AreBefore : List ReplacedRange → ℕ → ℕ → ℕ → Type 0
AreBefore pieces from to at =
    (k : ℕ) (piece : ReplacedRange) → from ≤ k → k < to → slice_get pieces k ≡ Some piece
    → piece.at + piece.removed < at

-- why a text is not tokenized by its pieces, by the error of a piece: where memory did not run out
-- the piece has no tokens by itself, and the whole text is scanned
abbrev pub fault_of_part : ScanFault → RescanFault
fault_of_part Memory = RescanFault.Memory
fault_of_part _ = RescanFault.Mismatch
