-- The edits that fix comments which begin with `//`.
use Rattle.std.specs.Prelude.{ℕ, List, [], length, take, unwrap_or, codes}
use Rattle.edit_record.specs.Lists.Pieces.{EditEntry}
use Rattle.hcl_token.specs.TokenizedText.{gap_of}
use Rattle.hcl_token.specs.Tokens.{Pair, whole_text}
use Rattle.tf_rules.specs.declared.finding.Finding.{Finding}

-- how many bytes are before the token of this number
abbrev pub start_of : List Pair → ℕ → ℕ
start_of pairs i = length (whole_text (take i pairs) (unwrap_or (gap_of pairs i) []))

-- the edit that fixes a comment: its `//` becomes `#`
abbrev pub comment_edit : List Pair → Finding → EditEntry
comment_edit pairs finding =
    record { at = start_of pairs finding.first; removed = codes "//"; added = codes "#" }
