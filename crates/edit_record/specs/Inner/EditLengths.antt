-- The end of an edit's head, and what follows the head: `edit_at` of Parsing in two parts, for
-- readers that read the head by itself.
use Rattle.std.specs.Prelude.{ℕ, List, [], ◌∷◌, Result, Ok}
use Rattle.edit_record.specs.declared.fault.FaultKind.TheVariants.{End}
use Rattle.edit_record.specs.declared.fault.TextError.{TextError}
use Rattle.edit_record.specs.Lists.Pieces.{EditEntry}
use Rattle.edit_record.specs.Text.{space, newline, max_number}
use Rattle.edit_record.specs.Parsing.{number_at, bytes_at, expect, ◌>>=◌}

-- how many bytes an edit removes, and how many it adds
abbrev pub lengths_at : List ℕ → Result ((ℕ × ℕ) × List ℕ) TextError
lengths_at t = do
  removed ← number_at 0 max_number space t
  added ← number_at 0 max_number newline removed.1
  Ok ((removed.0, added.0), added.1)

-- the edit whose head has these numbers: its place, and how many bytes it removes and adds
unfoldable pub after_head_at : ℕ → ℕ → ℕ → List ℕ → Result (EditEntry × List ℕ) TextError
after_head_at at removes adds t = do
  removed ← bytes_at removes t
  added ← bytes_at adds removed.1
  rest ← expect (newline ∷ []) End added.1
  Ok (record { at = at; removed = removed.0; added = added.0 }, rest)
