-- The line and the column of a byte of a text, counted from 1, and the byte of an error.
-- Unicode Standard Annex #29, extended grapheme clusters.
use Rattle.std.specs.Prelude.{◌≡◌, ◌+◌, ℕ, if◌then◌else◌, List, length, take, drop, count_by, Option, Some}
use Rattle.std.specs.Prelude.{None, Bool, true, false}
use Rattle.hcl_scan.specs.Characters.{is_prefix_of}
use Rattle.std.specs.Str.{is_utf8}
use Rattle.hcl_scan.specs.Tokenization.{byte_order_mark}
use Rattle.hcl_scan.specs.Fault.{byte_of_fault}
use Rattle.hcl_text_laws.specs.declared.fault.ParseFault.{ParseFault}
use Rattle.hcl_text_laws.specs.declared.fault.ParseFault.TheVariants as parse
use Rattle.hcl_token.specs.Place.{is_lf, clusters, last_line}
use Rattle.tf_session.specs.declared.fault.RunFault.{RunFault}
use Rattle.tf_session.specs.declared.fault.RunFault.TheVariants as fault
use Rattle.tf_program.specs.declared.file_error.FileError.{FileError}
use Rattle.tf_program.specs.declared.location.Location.{Location}

abbrev pub without_mark : List ℕ → List ℕ
without_mark text = if is_prefix_of byte_order_mark text then drop 3 text else text

-- the text before a byte, without the byte order mark
abbrev pub text_before : List ℕ → ℕ → List ℕ
text_before text at = without_mark (take at text)

-- the columns of a part of a line: its grapheme clusters; its bytes, if it is not UTF-8, as no part
-- before the byte of an error is
abbrev pub columns : List ℕ → ℕ
columns part = if is_utf8 part then clusters part else length part

-- where a byte of a text is
abbrev pub IsLocation : List ℕ → ℕ → Location → Type 0
IsLocation text at location =
    (location.line ≡ 1 + count_by is_lf (text_before text at))
    × (location.column ≡ 1 + columns (last_line (text_before text at)))

-- ---- the byte of an error

abbrev pub byte_of_parse_fault : ParseFault → Option ℕ
byte_of_parse_fault (parse.Syntax at) = Some at
byte_of_parse_fault (parse.TooDeep at) = Some at
byte_of_parse_fault parse.Memory = None

-- none of the errors of a journal is at a byte of the file
abbrev pub byte_of : RunFault → Option ℕ
byte_of (fault.Scan error) = byte_of_fault error
byte_of (fault.Parse error) = byte_of_parse_fault error
byte_of _ = None

-- ---- where an error is

-- the location of an error, if it is at a byte
abbrev pub IsLocationOf : List ℕ → Option ℕ → Option Location → Type 0
IsLocationOf text None None = Unit {0}
IsLocationOf text None (Some location) = ⊥
IsLocationOf text (Some at) None = ⊥
IsLocationOf text (Some at) (Some location) = IsLocation text at location

-- an error of this text: it has its location there if errors are located, and else none
abbrev pub IsLocatedIn : List ℕ → Bool → FileError → Type 0
IsLocatedIn text locate error =
    (locate ≡ true → IsLocationOf text (byte_of error.fault) error.location)
    × (locate ≡ false → error.location ≡ None)
