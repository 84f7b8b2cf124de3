-- How arguments are read, before they are parsed.
use Rattle.std.specs.Prelude.{ℕ, Bool, false, ◌&&◌, if◌then◌else◌, List, [], ◌∷◌, map, codes, bytes_eq}

-- standard input
abbrev pub is_dash : List ℕ → Bool
is_dash name = bytes_eq name (codes "-")

-- one argument: `-check` of the command fmt is `--check`, as terraform fmt has it
abbrev pub normalized : Bool → List ℕ → List ℕ
normalized is_fmt arg = if is_fmt && bytes_eq arg (codes "-check") then codes "--check" else arg

-- whether the first of the arguments is fmt
abbrev pub begins_with_fmt : List (List ℕ) → Bool
begins_with_fmt [] = false
begins_with_fmt (arg ∷ args) = bytes_eq arg (codes "fmt")

-- all arguments, after the name of the program
abbrev pub all_normalized : List (List ℕ) → List (List ℕ)
all_normalized args = codes "tfk" ∷ map (normalized (begins_with_fmt args)) args
