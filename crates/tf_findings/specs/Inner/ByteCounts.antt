-- For proofs: what a comment silences as the code reads it, by how many bytes of a class a text
-- begins with. Comments says it by words; CommentForms of the proofs joins both.
use Rattle.std.specs.Prelude.{ℕ, ◌-◌, nat_le, nat_lt, not, ◌&&◌, ◌||◌, ◌==◌, Bool, List, [], ◌∷◌, take, drop}
use Rattle.std.specs.Prelude.{length, slice_index, codes, if◌then◌else◌}
use Rattle.std.specs.List.{prefix_len, list_all, list_any}
use Rattle.std.specs.Str.{byte, bytes_eq}
use Rattle.tf_rules.specs.declared.rule.Rule.{Rule}
use Rattle.tf_rules.specs.Table.{name_of}
use Rattle.tf_findings.specs.declared.silencing.class.ByteClass.{ByteClass}
use Rattle.tf_findings.specs.declared.silencing.class.ByteClass.TheVariants.{Whitespace, NameByte, NotComma}
use Rattle.tf_findings.specs.declared.silencing.class.ByteClass.TheVariants.{NotHash}

-- a space or a tab; an ASCII letter, a digit, `_` or `-`; anything but a comma; anything but `#`
abbrev pub is_in_class : ByteClass → ℕ → Bool
is_in_class Whitespace b = b == byte " " || b == byte "\t"
is_in_class NameByte b = (nat_le (byte "a") b && nat_le b (byte "z"))
    || ((nat_le (byte "A") b && nat_le b (byte "Z"))
    || ((nat_le (byte "0") b && nat_le b (byte "9")) || (b == byte "_" || b == byte "-")))
is_in_class NotComma b = not (b == byte ",")
is_in_class NotHash b = not (b == byte "#")

-- how many bytes at the start are of the class
abbrev pub class_prefix_len : ByteClass → List ℕ → ℕ
class_prefix_len class = prefix_len (is_in_class class)

abbrev pub skip_whitespace : List ℕ → List ℕ
skip_whitespace t = drop (class_prefix_len Whitespace t) t

abbrev pub is_all_whitespace : List ℕ → Bool
is_all_whitespace t = class_prefix_len Whitespace t == length t

abbrev pub ends_in_whitespace : List ℕ → Bool
ends_in_whitespace t = nat_lt 0 (length t) && is_in_class Whitespace (slice_index t (length t - 1))

abbrev pub cons_to_first : ℕ → List (List ℕ) → List (List ℕ)
cons_to_first b [] = []
cons_to_first b (p ∷ ps) = (b ∷ p) ∷ ps

-- the parts of a text between its commas
abbrev pub split_commas : List ℕ → List (List ℕ)
split_commas [] = [] ∷ []
split_commas (b ∷ bs) =
    if b == byte "," then [] ∷ split_commas bs else cons_to_first b (split_commas bs)

-- the name at the start of a part, after whitespace
abbrev pub leading_name : List ℕ → List ℕ
leading_name part = take (class_prefix_len NameByte (skip_whitespace part)) (skip_whitespace part)

-- whether a part is a name, with or without whitespace around it
abbrev pub is_name : List ℕ → Bool
is_name part = nat_lt 0 (class_prefix_len NameByte (skip_whitespace part))
    && is_all_whitespace
    (drop (class_prefix_len NameByte (skip_whitespace part)) (skip_whitespace part))

-- whether a part names the rule, or all
abbrev pub names_rule : Rule → List ℕ → Bool
names_rule rule part =
    bytes_eq (leading_name part) (name_of rule) || bytes_eq (leading_name part) (codes "all")

-- the text before the first `#`
abbrev pub list_part : List ℕ → List ℕ
list_part t = take (class_prefix_len NotHash t) t

-- The list after `tflint-ignore:`: names separated by commas, of which one means the rule. A reason
-- may follow, after whitespace and `#`.
abbrev pub list_names : Rule → List ℕ → Bool
list_names rule t =
    (class_prefix_len NotHash t == length t || ends_in_whitespace (list_part t))
    && (list_all is_name (split_commas (list_part t))
    && list_any (names_rule rule) (split_commas (list_part t)))

abbrev pub begins_with : List ℕ → List ℕ → Bool
begins_with word t = bytes_eq (take (length word) t) word

abbrev pub ignore_word : List ℕ
ignore_word = codes "tflint-ignore:"

-- the body of a comment silences a rule: whitespace, `tflint-ignore:`, and the list
abbrev pub body_silences : Rule → List ℕ → Bool
body_silences rule t = begins_with ignore_word (skip_whitespace t)
    && list_names rule (drop (length ignore_word) (skip_whitespace t))
