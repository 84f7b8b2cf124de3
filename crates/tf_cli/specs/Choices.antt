-- Which rules the options of the command line choose. Options of TFLint.
use Rattle.std.specs.Prelude.{◌≡◌, ◌==◌, ◌≤◌, ◌<◌, ◌⊎◌, ◌||◌, ℕ, Bool, true, List, [], ◌∷◌, ◌++◌, ⊤}
use Rattle.std.specs.Prelude.{codes, string_bytes, length, nat_eq, Option, Some, None, if◌then◌else◌}
use Rattle.std.specs.List.{list_any}
use Rattle.std.specs.Str.{byte}
use Rattle.std.specs.Str.{chars}
use Rattle.strsim.specs.Edits.{levenshtein_row}
use Rattle.tf_rules.specs.declared.rule.Rule.{Rule}
use Rattle.tf_rules.specs.Table.{index_of, name_of}
use Rattle.tf_cli.specs.declared.exits.Exit.{Exit}
use Rattle.tf_cli.specs.declared.exits.Exit.TheVariants.{Help, UsageError, Memory}
use Rattle.tf_cli.specs.declared.rule_choice.Choice.{Choice}
use Rattle.tf_cli.specs.declared.rule_choice.Choice.TheVariants.{All, One}

-- whether a choice names the rule: `all` names every rule
abbrev pub choice_names : Choice → Rule → Bool
choice_names All rule = true
choice_names (One one) rule = index_of rule == index_of one

-- whether one of the choices does
abbrev pub is_chosen : List Choice → Rule → Bool
is_chosen choices rule = list_any (λ choice. choice_names choice rule) choices

-- the name of a choice
abbrev pub IsName : Choice → List ℕ → Type 0
IsName All name = name ≡ codes "all"
IsName (One rule) name = name ≡ name_of rule

-- one choice for each name, in order
abbrev pub AreNames : List Choice → List (List ℕ) → Type 0
AreNames [] [] = ⊤
AreNames (choice ∷ choices) (name ∷ names) = IsName choice name × AreNames choices names
AreNames choices names = ⊥

-- how many characters have to be inserted, removed or replaced, at least (Levenshtein)
abbrev pub distance : List ℕ → List ℕ → ℕ
distance from to = levenshtein_row nat_eq (chars from) (chars to) (length (chars to))

-- a name is similar to that of the rule, also without `terraform_` before it
abbrev pub IsSimilar : List ℕ → Rule → Type 0
IsSimilar name rule =
    (distance name (name_of rule) ≤ 3) ⊎ (distance (codes "terraform_" ++ name) (name_of rule) ≤ 3)

-- the first rule with a similar name, if there is one
abbrev pub IsSimilarRule : List ℕ → Option Rule → Type 0
IsSimilarRule name (Some rule) =
    IsSimilar name rule
    × ((other : Rule) → index_of other < index_of rule → ¬ (IsSimilar name other))
IsSimilarRule name None = (rule : Rule) → ¬ (IsSimilar name rule)

-- a name that is rather one of a FILE: it has a dot or a slash
abbrev pub is_like_file : List ℕ → Bool
is_like_file name = list_any (λ b. b == byte ".") name || list_any (λ b. b == byte "/") name

-- what is said of a name that no rule has, by the rule with a similar name
abbrev pub unknown_rule_text : List ℕ → Option Rule → List ℕ
unknown_rule_text name (Some rule) =
    codes "tfk: unknown rule "
    ++ (name ++ (codes ": did you mean "
    ++ (name_of rule ++ codes "? tfk lint --help lists them\n")))
unknown_rule_text name None =
    codes "tfk: unknown rule "
    ++ (name ++ (if is_like_file name
    then codes ": if it is a FILE, name a rule before it; tfk lint --help lists the rules\n"
    else codes ": tfk lint --help lists them; one for each option\n"))

abbrev pub SaysUnknownRule : List ℕ → List ℕ → Type 0
SaysUnknownRule name text =
    (similar : Option Rule) × IsSimilarRule name similar × (text ≡ unknown_rule_text name similar)

-- no rule has this name, and the error says so; or there is no memory for that
abbrev pub IsUnknownRule : List ℕ → Exit → Type 0
IsUnknownRule name (UsageError text) =
    ((choice : Choice) → ¬ (IsName choice name)) × SaysUnknownRule name (string_bytes text)
IsUnknownRule name Memory = ⊤
IsUnknownRule name (Help text) = ⊥

-- that is said of the first name that is none
abbrev pub HasUnknownRule : List (List ℕ) → Exit → Type 0
HasUnknownRule names exit =
    (before : List (List ℕ)) × (name : List ℕ) × (after : List (List ℕ))
    × (names ≡ before ++ (name ∷ after))
    × ((known : List Choice) × AreNames known before) × IsUnknownRule name exit
