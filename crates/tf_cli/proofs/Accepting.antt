-- The rules that are chosen, and whether the FILEs are accepted.
use Rattle.std.proofs.Common.{◌≡◌, ◌∙◌, ◌≤◌, ◌⊎◌, ◌↔◌, ℕ, Bool, true, false, List, Bor, length, refl, sym, subst}
use Rattle.std.specs.List.{list_any}
use Rattle.std.proofs.lemmas.Bool.{false≢true}
use Rattle.tf_rules.specs.declared.rule_set.RuleSet.{RuleSet}
use Rattle.tf_cli.specs.Arguments.{is_dash}
use Rattle.tf_cli.specs.Tasks.{AreChosen, IsAccepted}
use Rattle.tf_cli.specs.declared.options.FileCount.{FileCount}
use Rattle.tf_cli.specs.declared.rule_choice.Choice.{Choice}

-- lists that are lent are the lists
pub chosen_of : (disabled enabled lent_disabled lent_enabled : List Choice) (rules : RuleSet) → lent_disabled ≡ disabled → lent_enabled ≡ enabled
    → AreChosen lent_disabled lent_enabled rules → AreChosen disabled enabled rules
chosen_of disabled enabled lent_disabled lent_enabled rules is_disabled is_enabled chosen =
    subst (λ (choices : List Choice). AreChosen choices enabled rules) is_disabled
    (subst (λ (choices : List Choice). AreChosen lent_disabled choices rules) is_enabled chosen)

abbrev HasDash : List (Bor (List ℕ)) → Bool → Type 0
HasDash files has = list_any (λ (file : Bor (List ℕ)). is_dash file.now) files ≡ has

-- what `accepts` says of these files
abbrev pub Says : FileCount → List (Bor (List ℕ)) → Bool → Type 0
Says count files answer =
    (count ≡ FileCount.Several → ((answer ≡ true) ↔ ((length files ≤ 1) ⊎ HasDash files false)))
    × (count ≡ FileCount.One → ((answer ≡ true) ↔ HasDash files false))

said : (count : FileCount) (files : List (Bor (List ℕ))) (answer : Bool) → Says count files answer → ((answer ≡ true) ↔ IsAccepted count files)
said FileCount.Several files answer says = says.0 refl
said FileCount.One files answer says = says.1 refl

said_of : (count lent_count : FileCount) (files lent : List (Bor (List ℕ))) (answer : Bool) → lent_count ≡ count → lent ≡ files → Says lent_count lent answer
    → ((answer ≡ true) ↔ IsAccepted count files)
said_of count lent_count files lent answer is_count is_files says =
    said count files answer (subst (λ (n : FileCount). Says n files answer) is_count (subst (λ (fs : List (Bor (List ℕ))). Says lent_count fs answer) is_files says))

pub accepted : (count lent_count : FileCount) (files lent : List (Bor (List ℕ))) (answer : Bool) → lent_count ≡ count → lent ≡ files → Says lent_count lent answer
    → answer ≡ true → IsAccepted count files
accepted count lent_count files lent answer is_count is_files says so =
    (said_of count lent_count files lent answer is_count is_files says).0 so

pub not_accepted : (count lent_count : FileCount) (files lent : List (Bor (List ℕ))) (answer : Bool) → lent_count ≡ count → lent ≡ files → Says lent_count lent answer
    → answer ≡ false → ¬ (IsAccepted count files)
not_accepted count lent_count files lent answer is_count is_files says not_so = λ is.
    false≢true (sym not_so ∙ (said_of count lent_count files lent answer is_count is_files says).1 is)
