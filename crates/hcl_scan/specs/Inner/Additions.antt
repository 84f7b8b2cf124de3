-- What holds of an addition by its case: of the place where the tokens stop, or of the length of
-- the text after a `"`.
use Rattle.std.specs.Prelude.{ℕ, ⊤}
use Rattle.hcl_scan.specs.declared.plain.Addition.{Addition}
use Rattle.hcl_scan.specs.declared.plain.Addition.TheVariants.{Added, NotAdded}

abbrev pub IfAdded : Addition → (ℕ → Type 0) → Type 0
IfAdded (Added stop) P = P stop
IfAdded (NotAdded text_len) P = ⊤

abbrev pub IfNotAdded : Addition → (ℕ → Type 0) → Type 0
IfNotAdded (Added stop) P = ⊤
IfNotAdded (NotAdded text_len) P = P text_len
