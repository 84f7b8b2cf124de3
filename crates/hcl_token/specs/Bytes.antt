-- The bytes of ASCII that the definitions of tokens name.
use Rattle.std.specs.Prelude.{ℕ}
use Rattle.std.specs.Str.{byte}

abbrev pub tab : ℕ
tab = byte "\t"

abbrev pub line_feed : ℕ
line_feed = byte "\n"

abbrev pub carriage_return : ℕ
carriage_return = byte "\r"

abbrev pub space : ℕ
space = byte " "

abbrev pub quote : ℕ
quote = byte "\""

abbrev pub dollar : ℕ
dollar = byte "$"

abbrev pub percent : ℕ
percent = byte "%"

abbrev pub star : ℕ
star = byte "*"

abbrev pub minus : ℕ
minus = byte "-"

abbrev pub slash : ℕ
slash = byte "/"

abbrev pub colon : ℕ
colon = byte ":"

abbrev pub equals : ℕ
equals = byte "="

abbrev pub greater : ℕ
greater = byte ">"

abbrev pub backslash : ℕ
backslash = byte "\\"

abbrev pub underscore : ℕ
underscore = byte "_"

abbrev pub open_brace : ℕ
open_brace = byte "{"

abbrev pub tilde : ℕ
tilde = byte "~"

-- ---- letters

abbrev pub capital_e : ℕ
capital_e = byte "E"

abbrev pub capital_u : ℕ
capital_u = byte "U"

abbrev pub letter_e : ℕ
letter_e = byte "e"

abbrev pub letter_n : ℕ
letter_n = byte "n"

abbrev pub letter_r : ℕ
letter_r = byte "r"

abbrev pub letter_t : ℕ
letter_t = byte "t"

abbrev pub letter_u : ℕ
letter_u = byte "u"
