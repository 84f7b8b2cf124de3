-- What a comment says that silences rules, as `# tflint-ignore: terraform_deprecated_index,
-- terraform_typed_variables # why`.
-- TFLint, Annotations.
use Rattle.std.specs.Prelude.{ℕ, ◌-◌, nat_le, nat_lt, not, ◌&&◌, ◌||◌, ◌==◌, Bool, false, List, [], ◌∷◌, take}
use Rattle.std.specs.Prelude.{drop, length, map, slice_index, codes, Option, Some, None, if◌then◌else◌}
use Rattle.std.specs.List.{list_all, list_any, before_first, slice_split}
use Rattle.std.specs.Str.{byte, bytes_eq}
use Rattle.hcl_scan.specs.Characters.{is_whitespace}
use Rattle.hcl_token.specs.declared.kind.Kind.{Kind}
use Rattle.hcl_token.specs.declared.kind.Kind.TheVariants.{LineComment, InlineComment}
use Rattle.tf_rules.specs.declared.rule.Rule.{Rule}
use Rattle.tf_rules.specs.Table.{name_of}

-- an ASCII letter, a digit, `_` or `-`
abbrev pub is_name_byte : ℕ → Bool
is_name_byte b = (nat_le (byte "a") b && nat_le b (byte "z"))
    || ((nat_le (byte "A") b && nat_le b (byte "Z"))
    || ((nat_le (byte "0") b && nat_le b (byte "9")) || (b == byte "_" || b == byte "-")))

-- a text without the whitespace that it begins with
abbrev pub trimmed_start : List ℕ → List ℕ
trimmed_start [] = []
trimmed_start (b ∷ bs) = if is_whitespace b then trimmed_start bs else b ∷ bs

-- a text without the whitespace that it ends in
abbrev pub trimmed_end : List ℕ → List ℕ
trimmed_end [] = []
trimmed_end (b ∷ bs) = if list_all is_whitespace (b ∷ bs) then [] else b ∷ trimmed_end bs

abbrev pub trimmed : List ℕ → List ℕ
trimmed t = trimmed_end (trimmed_start t)

-- whether the last byte of a text is whitespace
abbrev pub ends_in_whitespace : List ℕ → Bool
ends_in_whitespace t = nat_lt 0 (length t) && is_whitespace (slice_index t (length t - 1))

-- what follows a word that a text begins with
abbrev pub strip_prefix : List ℕ → List ℕ → Option (List ℕ)
strip_prefix [] t = Some t
strip_prefix (w ∷ word) [] = None
strip_prefix (w ∷ word) (b ∷ bs) = if b == w then strip_prefix word bs else None

-- the text before the first `#`, or all of it
abbrev pub before_hash : List ℕ → List ℕ
before_hash t = before_first (λ (b : ℕ). b == byte "#") t

abbrev pub has_hash : List ℕ → Bool
has_hash t = list_any (λ (b : ℕ). b == byte "#") t

-- the parts of a text between its commas
abbrev pub split_at_commas : List ℕ → List (List ℕ)
split_at_commas t = slice_split (λ (b : ℕ). b == byte ",") t

-- one or more bytes of a name
abbrev pub is_name : List ℕ → Bool
is_name [] = false
is_name (b ∷ bs) = list_all is_name_byte (b ∷ bs)

-- whether a name is the rule's, or `all`
abbrev pub means_rule : Rule → List ℕ → Bool
means_rule rule name = bytes_eq name (name_of rule) || bytes_eq name (codes "all")

-- the names in a list: what is between its commas, without whitespace around it
abbrev pub listed_names : List ℕ → List (List ℕ)
listed_names t = map trimmed (split_at_commas t)

-- The list after `tflint-ignore:`: names separated by commas, and one of them means the rule. A
-- reason may follow, after whitespace and `#`.
abbrev pub list_silences : Rule → List ℕ → Bool
list_silences rule t =
    (not (has_hash t) || ends_in_whitespace (before_hash t))
    && (list_all is_name (listed_names (before_hash t))
    && list_any (means_rule rule) (listed_names (before_hash t)))

abbrev pub rest_silences : Rule → Option (List ℕ) → Bool
rest_silences rule None = false
rest_silences rule (Some rest) = list_silences rule rest

-- the text of a comment silences a rule: whitespace, `tflint-ignore:`, and the list
abbrev pub text_silences : Rule → List ℕ → Bool
text_silences rule t = rest_silences rule (strip_prefix (codes "tflint-ignore:") (trimmed_start t))

-- a comment without what opens and closes it; other tokens hold nothing
abbrev pub comment_body : Kind → List ℕ → List ℕ
comment_body LineComment spelling =
    if slice_index spelling 0 == byte "#" then drop 1 spelling else drop 2 spelling
comment_body InlineComment spelling = take (length spelling - 4) (drop 2 spelling)
comment_body _ spelling = []

-- whether a token is a comment that silences the rule
abbrev pub silences : Kind → List ℕ → Rule → Bool
silences kind spelling rule = text_silences rule (comment_body kind spelling)
