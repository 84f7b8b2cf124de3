-- Findings that are not silenced.
use Rattle.std.proofs.Common.{◌≡◌, ◌==◌, ℕ, Bool, true, false, not, List, [], ◌∷◌, length, filter, refl, ap, sym, ◌∙◌, arith}
use Rattle.std.proofs.lemmas.Bool.Decides.{nat_tests}
use Rattle.std.proofs.lemmas.List.{nil_from_length}
use Rattle.std.proofs.lemmas.List.Elements.{filter_agree}
use Rattle.hcl_token.specs.Place.{line_of}
use Rattle.hcl_token.specs.Tokens.{Pair}
use Rattle.tf_rules.specs.declared.finding.Finding.{Finding}
use Rattle.tf_rules.specs.declared.rule.Rule.{Rule}
use Rattle.tf_findings.specs.declared.silencing.annotation.Annotation.{Annotation}
use Rattle.tf_findings.specs.Silencing.{is_silenced, is_silenced_on}
use Rattle.tf_findings.specs.Inner.Annotations.{is_silenced_by, silences_among}

stays : (pairs : List Pair) (found : List Finding) → ((f : Finding) → is_silenced pairs f ≡ false) → found ≡ filter (λ f. not (is_silenced pairs f)) found
stays pairs [] never = refl
stays pairs (f ∷ found) never = rw (never f) (ap (λ (l : List Finding). f ∷ l) (stays pairs found never))

pub is_empty : (xs : List ℕ) (b : Bool) → b ≡ (length xs == 0) → b ≡ true → xs ≡ []
is_empty xs b is none = nil_from_length xs (grind (arith, nat_tests))

-- where no token silences anything, all are left
pub all_left : (pairs : List Pair) (found : List Finding) (silencing_tokens : List ℕ) → silencing_tokens ≡ []
    → ((rule : Rule) (line : ℕ) → silences_among pairs rule line silencing_tokens ≡ is_silenced_on pairs rule line)
    → found ≡ filter (λ f. not (is_silenced pairs f)) found
all_left pairs found silencing_tokens none silence =
    stays pairs found (λ f. sym (silence f.rule (line_of pairs f.first)) ∙ ap (silences_among pairs f.rule (line_of pairs f.first)) none)

-- what no mark hits is left
pub unsilenced_left : (pairs there : List Pair) (found list : List Finding) (marks slice : List Annotation) → there ≡ pairs → list ≡ found → slice ≡ marks
    → ((rule : Rule) (line : ℕ) → is_silenced_by rule line marks ≡ is_silenced_on pairs rule line)
    → filter (λ f. not (is_silenced_by f.rule (line_of there f.first) slice)) list ≡ filter (λ f. not (is_silenced pairs f)) found
unsilenced_left pairs there found list marks slice e l s hit =
    ap (λ (ps : List Pair). filter (λ (f : Finding). not (is_silenced_by f.rule (line_of ps f.first) slice)) list) e
    ∙ ap (λ (ms : List Annotation). filter (λ (f : Finding). not (is_silenced_by f.rule (line_of pairs f.first) ms)) list) s
    ∙ ap (λ (fs : List Finding). filter (λ (f : Finding). not (is_silenced_by f.rule (line_of pairs f.first) marks)) fs) l
    ∙ filter_agree _ _ (λ (f : Finding). ap not (hit f.rule (line_of pairs f.first))) found
