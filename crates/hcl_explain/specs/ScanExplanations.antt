-- What an explanation says of a text without tokens.
use Rattle.std.specs.Prelude.{◌≡◌, ℕ, ◌⊎◌, true, false, List, drop}
use Rattle.std.specs.Prelude.{Option, Some, None}
use Rattle.hcl_scan.specs.Fault.{byte_of_fault}
use Rattle.hcl_scan.specs.declared.fault.ScanFault.{ScanFault}
use Rattle.hcl_scan.specs.declared.fault.ScanFault.TheVariants as fault
use Rattle.hcl_explain.specs.Heredocs.{IsOpeningBefore}
use Rattle.hcl_explain.specs.Lines.{line_start, line_end, closing_place, is_conflict_marker}
use Rattle.hcl_explain.specs.Sequences.{IsClosedInComment, IsOpenBefore, IsEnded, IsBlamed}
use Rattle.hcl_explain.specs.Sequences.{is_interpolation, EndsWithLine}
use Rattle.hcl_explain.specs.Sequences.{IsUnclosed, IsUnclosedWithoutDollars}
use Rattle.hcl_explain.specs.declared.scan_error.ScanExplanation.{ScanExplanation}
use Rattle.hcl_explain.specs.declared.scan_error.ScanReason.{ScanReason}
use Rattle.hcl_explain.specs.declared.scan_error.ScanReason.TheVariants as reason

-- with this reason, at this byte
abbrev pub of : ℕ → ScanReason → ScanExplanation
of at reason = record { at = at; reason = reason }

-- the first of these if no template sequence is open before byte `at`, else the second of that which
-- is open there
abbrev pub ByOpen : List ℕ → ℕ → Type 0 → (ℕ → Type 0) → Type 0
ByOpen text at Without In =
    (((opened : ℕ) → IsOpenBefore text at opened → ⊥) × Without)
    ⊎ ((opened : ℕ) × IsOpenBefore text at opened × In opened)

-- the template sequence that begins at `opened` is named if its `}` is in a comment; else this is so
abbrev pub HiddenOr : List ℕ → ℕ → ScanExplanation → Type 0 → Type 0
HiddenOr text opened e Else =
    (IsClosedInComment (drop opened text) × (e ≡ of opened reason.Foreign))
    ⊎ ((IsClosedInComment (drop opened text) → ⊥) × Else)

-- of a template sequence that is not closed
abbrev pub IsSequenceExplanation : List ℕ → ℕ → ScanExplanation → Type 0
IsSequenceExplanation text opened e = HiddenOr text opened e (e ≡ of opened reason.Sequence)

-- of a string that is not closed and begins at this byte, by the template sequence before it
abbrev pub IsStringIn : List ℕ → ℕ → ℕ → ScanExplanation → Type 0
IsStringIn text opened at e =
    (IsBlamed text opened at × (e ≡ of opened reason.Sequence))
    ⊎ ((IsBlamed text opened at → ⊥) × (e ≡ of at reason.String))

abbrev pub IsStringAfter : List ℕ → ℕ → ScanExplanation → Type 0
IsStringAfter text at e = ByOpen text at (e ≡ of at reason.String)
    (λ opened. HiddenOr text opened e (IsStringIn text opened at e))

-- of a string that is not closed: by the template sequence that is open at the end of its line, or
-- by what is before the string
abbrev pub IsStringExplanation : List ℕ → ℕ → ScanExplanation → Type 0
IsStringExplanation text at e = ByOpen text (line_end text at) (IsStringAfter text at e)
    (λ opened. HiddenOr text opened e (IsStringAfter text at e))

-- of a heredoc that is not closed: the template sequence that is open before the first line that is
-- its marker alone
abbrev pub IsHeredocExplanation : List ℕ → ℕ → ScanExplanation → Type 0
IsHeredocExplanation text at e =
    ByOpen text (closing_place text at) (e ≡ of at reason.Heredoc) (λ opened. e ≡ of opened reason.Foreign)

-- of a comment that is not closed: the template sequence before it, if it does not end in a value,
-- or if it is not closed without the `/*` either
abbrev pub IsCommentAfter : List ℕ → ℕ → ℕ → ScanExplanation → Type 0
IsCommentAfter text opened at e =
    (IsUnclosed text opened at 2 × (e ≡ of opened reason.Sequence))
    ⊎ ((IsUnclosed text opened at 2 → ⊥) × (e ≡ of at reason.Comment))

abbrev pub IsCommentIn : List ℕ → ℕ → ℕ → ScanExplanation → Type 0
IsCommentIn text opened at e =
    (IsEnded text opened at × IsCommentAfter text opened at e)
    ⊎ ((IsEnded text opened at → ⊥) × (e ≡ of opened reason.Foreign))

abbrev pub IsCommentExplanation : List ℕ → ℕ → ScanExplanation → Type 0
IsCommentExplanation text at e =
    ByOpen text at (e ≡ of at reason.Comment) (λ opened. IsCommentIn text opened at e)

-- of a character in a template sequence: that, if it is not closed without the character either
abbrev pub IsByUnclosed : List ℕ → ℕ → ℕ → ScanExplanation → Type 0
IsByUnclosed text opened at e =
    (IsUnclosed text opened at 1 × (e ≡ of opened reason.Sequence))
    ⊎ ((IsUnclosed text opened at 1 → ⊥) × (e ≡ of at (reason.InSequence opened)))

-- or if another line of it begins where it should be closed
abbrev pub IsByLine : List ℕ → ℕ → ℕ → ScanExplanation → Type 0
IsByLine text opened at e =
    (EndsWithLine text opened × (e ≡ of opened reason.Sequence))
    ⊎ ((EndsWithLine text opened → ⊥) × (e ≡ of at (reason.InSequence opened)))

-- of a `${` in a template sequence: that, if it is not closed without the `$` of each one in the
-- line either
abbrev pub IsByDollars : List ℕ → ℕ → ℕ → ScanExplanation → Type 0
IsByDollars text opened at e =
    (IsUnclosedWithoutDollars text opened at × (e ≡ of opened reason.Sequence))
    ⊎ ((IsUnclosedWithoutDollars text opened at → ⊥) × (e ≡ of at (reason.InSequence opened)))

-- or if it ends in a value before the `${`
abbrev pub IsNestedIn : List ℕ → ℕ → ℕ → ScanExplanation → Type 0
IsNestedIn text opened at e =
    (IsEnded text opened at × (e ≡ of opened reason.Sequence))
    ⊎ ((IsEnded text opened at → ⊥) × IsByDollars text opened at e)

-- of another character, by whether it ends in a value before that
abbrev pub IsOtherIn : List ℕ → ℕ → ℕ → ScanExplanation → Type 0
IsOtherIn text opened at e =
    (IsEnded text opened at × IsByUnclosed text opened at e)
    ⊎ ((IsEnded text opened at → ⊥) × IsByLine text opened at e)

-- of a character with which no token begins, in a template sequence
abbrev pub IsCharacterIn : List ℕ → ℕ → ℕ → ScanExplanation → Type 0
IsCharacterIn text opened at e =
    ((is_interpolation (drop at text) ≡ false) × IsOtherIn text opened at e)
    ⊎ ((is_interpolation (drop at text) ≡ true) × IsNestedIn text opened at e)

abbrev pub IsCharacterExplanation : List ℕ → ℕ → ScanExplanation → Type 0
IsCharacterExplanation text at e = ByOpen text at (e ≡ of at reason.Character)
    (λ opened. HiddenOr text opened e (IsCharacterIn text opened at e))

-- of a character with which no token begins: the line in which it is, if that begins as one that git
-- writes where a merge has a conflict
abbrev pub IsMarkerOr : List ℕ → ℕ → ScanExplanation → Type 0
IsMarkerOr text at e =
    ((is_conflict_marker (drop (line_start text at) text) ≡ true)
    × (e ≡ of (line_start text at) reason.Marker))
    ⊎ ((is_conflict_marker (drop (line_start text at) text) ≡ false)
    × IsCharacterExplanation text at e)

-- of any other error: its byte, if it is at one
abbrev pub explanation_of : ScanFault → Option ScanExplanation
explanation_of (fault.NotUtf8 at) = Some (of at reason.NotUtf8)
explanation_of (fault.BadEscape at) = Some (of at reason.Escape)
explanation_of _ = None

-- there is an explanation, and it has this property
abbrev pub IsSomeOf : (ScanExplanation → Type 0) → Option ScanExplanation → Type 0
IsSomeOf is None = ⊥
IsSomeOf is (Some e) = is e

-- where no heredoc before it has an opening that is a mistake
abbrev pub IsExplanationHere : List ℕ → ScanFault → Option ScanExplanation → Type 0
IsExplanationHere text (fault.OpenString at) o = IsSomeOf (IsStringExplanation text at) o
IsExplanationHere text (fault.OpenTemplate at) o = IsSomeOf (IsSequenceExplanation text at) o
IsExplanationHere text (fault.OpenHeredoc at) o = IsSomeOf (IsHeredocExplanation text at) o
IsExplanationHere text (fault.OpenComment at) o = IsSomeOf (IsCommentExplanation text at) o
IsExplanationHere text (fault.BadCharacter at) o = IsSomeOf (IsMarkerOr text at) o
IsExplanationHere text error o = o ≡ explanation_of error

-- the byte of an error that may be in the lines of a heredoc, read as values
abbrev pub place_in_values : ScanFault → Option ℕ
place_in_values (fault.NotUtf8 at) = None
place_in_values error = byte_of_fault error

-- the opening of a heredoc in a line before that byte is named, if it is a mistake; else this is so
abbrev pub OpeningOr : List ℕ → Option ℕ → Option ScanExplanation → Type 0 → Type 0
OpeningOr text None o Else = Else
OpeningOr text (Some at) o Else =
    ((opened : ℕ) × IsOpeningBefore text at opened × (o ≡ Some (of opened reason.Opening)))
    ⊎ (((opened : ℕ) → IsOpeningBefore text at opened → ⊥) × Else)

abbrev pub IsScanExplanation : List ℕ → ScanFault → Option ScanExplanation → Type 0
IsScanExplanation text error o =
    OpeningOr text (place_in_values error) o (IsExplanationHere text error o)
