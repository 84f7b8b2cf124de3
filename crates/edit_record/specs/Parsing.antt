-- How a record of version 2 is read, as functions: what is at the start of a text and the bytes
-- after it, or the first error. They say which error `decode` returns.
use Rattle.std.specs.Prelude.{ℕ, zero, suc, ◌+◌, ◌-◌, ◌*◌, List, [], ◌∷◌, length, take, drop, Option, None}
use Rattle.std.specs.Prelude.{Some, Result, Ok, Err, Bool, true, false, codes, nat_lt, nat_le, ◌==◌, ◌&&◌}
use Rattle.std.specs.Prelude.{if◌then◌else◌}
use Rattle.edit_record.specs.declared.lists.edit.BadEdits.{BadEdits}
use Rattle.edit_record.specs.declared.lists.record.Word.{Word}
use Rattle.edit_record.specs.declared.lists.record.Word.TheVariants.{Fmt, Fix}
use Rattle.edit_record.specs.declared.fault.FaultKind.{FaultKind}
use Rattle.edit_record.specs.declared.fault.FaultKind.TheVariants.{Head, Number, CutShort, Edits, End}
use Rattle.edit_record.specs.declared.fault.TextError.{TextError}
use Rattle.edit_record.specs.Lists.Pieces.{EditEntry, EditList}
use Rattle.edit_record.specs.Lists.Validity.{make_edits}
use Rattle.edit_record.specs.Lists.Journal.{JournalEntry}
use Rattle.edit_record.specs.Text.{space, newline, max_number}

-- the text has an error of this kind, `left` bytes before its end
abbrev pub error : {A : Type 0} → FaultKind → ℕ → Result A TextError
error kind left = Err (record { kind = kind; left = left })

-- the text ends too early: the error is at its end
abbrev pub cut_short : {A : Type 0} → Result A TextError
cut_short = error CutShort 0

infixl 10 ◌>>=◌
abbrev pub ◌>>=◌ : {A B : Type 0} → Result A TextError → (A → Result B TextError)
    → Result B TextError
(Ok x) >>= f = f x
(Err e) >>= f = Err e

-- the bytes after these, if the text begins with them
abbrev pub strip : List ℕ → List ℕ → Option (List ℕ)
strip [] t = Some t
strip (c ∷ p) [] = None
strip (c ∷ p) (b ∷ t) = if c == b then strip p t else None

-- The bytes after `p`. If the text is only a part of `p` it is cut short; if it has other bytes,
-- the error is of the kind that is given, and is where `p` was to begin.
abbrev pub expected : Option (List ℕ) → Option (List ℕ) → FaultKind → ℕ → Result (List ℕ) TextError
expected (Some rest) is_part kind left = Ok rest
expected None (Some more) kind left = cut_short
expected None None kind left = error kind left

abbrev pub expect : List ℕ → FaultKind → List ℕ → Result (List ℕ) TextError
expect p kind t = expected (strip p t) (strip t p) kind (length t)

abbrev pub is_digit : ℕ → Bool
is_digit c = nat_le 48 c && nat_le c 57

-- the value of the digits that were read and this one
abbrev pub with_digit : ℕ → ℕ → ℕ
with_digit value c = value * 10 + (c - 48)

-- A number from `least` to `limit` followed by `stop`. The digits of `value` are read, if `some`.
-- A wrong number is an error where the number begins, which is `left` bytes before the end.
abbrev pub number_on : ℕ → ℕ → ℕ → ℕ → Bool → ℕ → List ℕ → Result (ℕ × List ℕ) TextError
number_on left least limit stop some value [] =
    if some && nat_lt value least then error Number left else cut_short
number_on left least limit stop some value (c ∷ t) =
    if is_digit c
    then (if some && (value == 0) then error Number left
    else (if nat_lt limit (with_digit value c) then error Number left
    else number_on left least limit stop true (with_digit value c) t))
    else (if some && nat_le least value
    then (if c == stop then Ok (value, t) else error Head (length (c ∷ t)))
    else error Number left)

unfoldable pub number_at : ℕ → ℕ → ℕ → List ℕ → Result (ℕ × List ℕ) TextError
number_at least limit stop t = number_on (length t) least limit stop false 0 t

-- `n` bytes
unfoldable pub bytes_at : ℕ → List ℕ → Result (List ℕ × List ℕ) TextError
bytes_at n t = if nat_lt (length t) n then cut_short else Ok (take n t, drop n t)

-- the head of an edit: its place, how many bytes it removes, and how many it adds
unfoldable pub edit_head_at : List ℕ → Result ((ℕ × ℕ × ℕ) × List ℕ) TextError
edit_head_at t = do
  at ← number_at 0 max_number space t
  removed ← number_at 0 max_number space at.1
  added ← number_at 0 max_number newline removed.1
  Ok ((at.0, removed.0, added.0), added.1)

unfoldable pub edit_at : List ℕ → Result (EditEntry × List ℕ) TextError
edit_at t = do
  head ← edit_head_at t
  removed ← bytes_at head.0.1 head.1
  added ← bytes_at head.0.2 removed.1
  rest ← expect (newline ∷ []) End added.1
  Ok (record { at = head.0.0; removed = removed.0; added = added.0 }, rest)

-- `n` of them, one after another
abbrev pub repeat_at : {X : Type 0} → (List ℕ → Result (X × List ℕ) TextError) → ℕ → List ℕ
    → Result (List X × List ℕ) TextError
repeat_at p zero t = Ok ([], t)
repeat_at p (suc n) t =
    p t >>= λ first. repeat_at p n first.1 >>= λ others. Ok (first.0 ∷ others.0, others.1)

unfoldable pub edits_at : ℕ → List ℕ → Result (List EditEntry × List ℕ) TextError
edits_at n t = repeat_at edit_at n t

-- the edits as a list, if they are one
abbrev pub if_valid : ℕ → Result EditList BadEdits → List ℕ → Result (EditList × List ℕ) TextError
if_valid left (Ok e) t = Ok (e, t)
if_valid left (Err d) t = error Edits left

-- the head of a list of edits: the length of the texts that they apply to, and how many they are
unfoldable pub list_head_at : List ℕ → Result ((ℕ × ℕ) × List ℕ) TextError
list_head_at t = do
  old_len ← number_at 0 max_number space t
  count ← number_at 0 max_number newline old_len.1
  Ok ((old_len.0, count.0), count.1)

-- A list of edits. If these are no list, the error is where the record begins, which is `left`
-- bytes before the end.
unfoldable pub edit_list_at : ℕ → List ℕ → Result (EditList × List ℕ) TextError
edit_list_at left t = do
  head ← list_head_at t
  edits ← edits_at head.0.1 head.1
  if_valid left (make_edits head.0.0 edits.0) edits.1

-- what follows the one word, or the other; or, of a text that is a part of a word, that it is cut
-- short
abbrev pub word_of : Option (List ℕ) → Option (List ℕ) → Option (List ℕ) → Option (List ℕ) → ℕ
    → Result (Word × List ℕ) TextError
word_of (Some t) fix fmt_part fix_part left = Ok (Fmt, t)
word_of None (Some t) fmt_part fix_part left = Ok (Fix, t)
word_of None None (Some more) fix_part left = cut_short
word_of None None None (Some more) left = cut_short
word_of None None None None left = error Head left

abbrev pub bare_word_at : List ℕ → Result (Word × List ℕ) TextError
bare_word_at t =
    word_of (strip (codes "fmt") t) (strip (codes "fix") t) (strip t (codes "fmt"))
    (strip t (codes "fix")) (length t)

unfoldable pub word_at : List ℕ → Result (Word × List ℕ) TextError
word_at t = do
  word ← bare_word_at t
  rest ← expect (space ∷ []) Head word.1
  Ok (word.0, rest)

unfoldable pub record_at : List ℕ → Result (JournalEntry × List ℕ) TextError
record_at t = do
  a ← expect (codes "tfrec 2 ") Head t
  word ← word_at a
  edits ← edit_list_at (length t) word.1
  rest ← expect (codes "end\n") End edits.1
  Ok (record { word = word.0; edits = edits.0 }, rest)
