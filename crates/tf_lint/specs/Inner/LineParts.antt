-- The parts of a line of a report before an issue's text, and after it; and before the name that it
-- quotes.
use Rattle.std.specs.Prelude.{ℕ, List, ◌++◌, Option, codes}
use Rattle.std.specs.Fmt.{decimal}
use Rattle.hcl_token.specs.declared.place.Place.{Place}
use Rattle.tf_lint.specs.Messages.{kind_word}
use Rattle.tf_rules.specs.declared.finding.NameKind.{NameKind}
use Rattle.tf_rules.specs.declared.rule.Rule.{Rule}
use Rattle.tf_rules.specs.Table.{info_of, name_of, severity_of, label_of}

-- NAME:LINE:COLUMN
abbrev pub place_words : List ℕ → Place → List ℕ
place_words name place = name ++ (codes ":" ++ (decimal place.line ++ (codes ":" ++ decimal place.column)))

-- : SEVERITY -
abbrev pub severity_words : Rule → List ℕ
severity_words rule = codes ": " ++ (label_of (severity_of rule) ++ codes " - ")

abbrev pub line_prefix : List ℕ → Place → Rule → List ℕ
line_prefix name place rule =
    name ++ (codes ":" ++
    (decimal place.line ++ (codes ":" ++ (decimal place.column ++ (codes ": "
    ++ (label_of (severity_of rule) ++ codes " - "))))))

abbrev pub line_suffix : Rule → List ℕ
line_suffix rule = codes " (" ++ (name_of rule ++ codes ")")

-- : SEVERITY - KIND BEFORE
abbrev pub line_opening : Rule → Option NameKind → List ℕ
line_opening rule kind = severity_words rule ++ (kind_word kind ++ (info_of rule).before)
