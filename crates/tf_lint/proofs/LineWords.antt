-- A line of a report by the words of its rule.
use Rattle.std.proofs.Common.{◌≡◌, ◌∙◌, ℕ, List, [], ◌∷◌, ◌++◌, Result, Ok, Err, OnOk, is_ok, if◌then◌else◌, append_assoc}
use Rattle.std.specs.Prelude.{codes}
use Rattle.std.specs.Fmt.{decimal}
use Rattle.hcl_token.specs.Place.{place_of}
use Rattle.hcl_token.specs.Tokens.{Pair}
use Rattle.hcl_token.specs.declared.place.Place.{Place}
use Rattle.tf_lint.specs.Inner.LineParts.{place_words, line_opening}
use Rattle.tf_lint.specs.Messages.{kind_word}
use Rattle.tf_lint.specs.Reports.{report_line, report_of}
use Rattle.tf_rules.specs.Spelling.{name_text}
use Rattle.tf_rules.specs.Table.{info_of, name_of, severity_of, label_of, line_closing_of}
use Rattle.tf_rules.specs.declared.finding.Finding.{Finding}
use Rattle.tf_rules.specs.declared.finding.Message.{Message}
use Rattle.tf_rules.specs.declared.rule.Rule.{Rule}

-- the words of a line, in other groups
regrouped : (old name colon line more column sep label dash kind before quoted after paren rule close end : List ℕ)
    → (((old ++ (name ++ (colon ++ (line ++ (more ++ column))))) ++ ((sep ++ (label ++ dash)) ++ (kind ++ before))) ++ quoted) ++ (after ++ (paren ++ (rule ++ (close ++ end))))
    ≡ (old ++ (name ++ (colon ++ (line ++ (more ++ (column ++ (sep ++ (label ++ (dash ++ ((kind ++ (before ++ (quoted ++ after))) ++ (paren ++ (rule ++ close)))))))))))) ++ end
regrouped old name colon line more column sep label dash kind before quoted after paren rule close end = simp append_assoc

pub ok_pushed : {T E : Type 0} (r : Result T E) (old new more whole : List ℕ) → new ≡ (if is_ok r then old ++ more else old) → old ++ more ≡ whole → OnOk r (new ≡ whole)
ok_pushed (Ok x) old new more whole is e = is ∙ e
ok_pushed (Err x) old new more whole is e = tt

-- the parts that are appended are the line
pub whole_line : (pairs : List Pair) (name : List ℕ) (f : Finding) (place : Place) (rule : Rule) (message : Message) (old a b c end : List ℕ) → place ≡ place_of pairs f.first
    → rule ≡ f.rule → message ≡ f.message
    → a ≡ old ++ place_words name place → b ≡ a ++ line_opening rule message.kind → c ≡ b ++ name_text pairs message.name → end ≡ line_closing_of rule
    → c ++ end ≡ old ++ report_line name (report_of pairs f) ++ 10 ∷ []
whole_line pairs name f place rule message old a b c end at of_rule of_message is_a is_b is_c is_end =
    rw (is_end, is_c, is_b, is_a, at, of_rule, of_message) (regrouped old name (codes ":") (decimal (place_of pairs f.first).line) (codes ":") (decimal (place_of pairs f.first).column) (codes ": ") (label_of (severity_of f.rule)) (codes " - ")
    (kind_word f.message.kind) (info_of f.rule).before (name_text pairs f.message.name) (info_of f.rule).after (codes " (") (name_of f.rule) (codes ")") (10 ∷ []))
