-- Why a text is not formatted.
use Rattle.std.specs.Prelude.{◌≡◌, ◌⊎◌}
use Rattle.hcl_layout.specs.declared.gaps.fault.LayoutFault.{LayoutFault}
use Rattle.hcl_layout.specs.declared.gaps.fault.LayoutFault.TheVariants.{TooLong, Memory}

-- the error is `Memory`, or it is `TooLong` and this statement holds, that the layout is too long
abbrev pub IsMemoryOrTooLong : Type 0 → LayoutFault → Type 0
IsMemoryOrTooLong long e = (e ≡ Memory) ⊎ ((e ≡ TooLong) × long)
