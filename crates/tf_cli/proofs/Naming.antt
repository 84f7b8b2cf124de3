-- Names of rules, read one after another.
use Rattle.std.proofs.Common.{◌≡◌, ◌∙◌, ◌<◌, ◌+◌, ℕ, zero, suc, List, [], ◌∷◌, ◌++◌, length, take, drop, map, get_or, refl, ap, sym, subst, arith}
use Rattle.std.proofs.lemmas.List.{take_more, map-append}
use Rattle.tf_cli.specs.declared.exits.Exit.{Exit}
use Rattle.tf_cli.specs.declared.exits.Exit.TheVariants.{Memory}
use Rattle.tf_cli.specs.declared.rule_choice.Choice.{Choice}
use Rattle.tf_cli.specs.Choices.{IsName, AreNames, IsUnknownRule, HasUnknownRule}

mapped : {Y : Type 0} (f : Y → List ℕ) (ys : List Y) (i : ℕ) (d : Y) → i < length ys
    → map f (take (i + 1) ys) ≡ map f (take i ys) ++ f (get_or ys i d) ∷ []
mapped f ys i d below = ap (map f) (take_more ys i d below) ∙ map-append f (take i ys) (get_or ys i d ∷ [])

pushed : (choices : List Choice) (names : List (List ℕ)) (choice : Choice) (name : List ℕ)
    → AreNames choices names → IsName choice name → AreNames (choices ++ choice ∷ []) (names ++ name ∷ [])
pushed [] [] choice name are is = (is, tt)
pushed [] (n ∷ names) choice name are is = absurd are
pushed (c ∷ choices) [] choice name are is = absurd are
pushed (c ∷ choices) (n ∷ names) choice name are is = (are.0, pushed choices names choice name are.1 is)

pub one_more_name : {X : Type 0} (shown : X → List ℕ) (names : List X) (i : ℕ) (d : X) (choices extended : List Choice) (choice : Choice)
    → i < length names → AreNames choices (map shown (take i names)) → IsName choice (shown (get_or names i d))
    → extended ≡ choices ++ choice ∷ [] → AreNames extended (map shown (take (i + 1) names))
one_more_name shown names i d choices extended choice below are is push =
    subst (λ (l : List (List ℕ)). AreNames extended l) (sym (mapped shown names i d below))
    (subst (λ (l : List Choice). AreNames l (map shown (take i names) ++ shown (get_or names i d) ∷ [])) (sym push)
    (pushed choices (map shown (take i names)) choice (shown (get_or names i d)) are is))

-- names, cut before one of them
split_at : {X : Type 0} (shown : X → List ℕ) (names : List X) (i : ℕ) (d : X) → i < length names
    → map shown names ≡ map shown (take i names) ++ (shown (get_or names i d) ∷ map shown (drop (suc i) names))
split_at shown [] i d below = absurd (omega arith)
split_at shown (x ∷ names) zero d below = refl
split_at shown (x ∷ names) (suc i) d below = ap (λ (l : List (List ℕ)). shown x ∷ l) (split_at shown names i d (omega arith))

pub unknown_here : {X : Type 0} (shown : X → List ℕ) (names : List X) (i : ℕ) (d : X) (known : List Choice) (exit : Exit)
    → i < length names → AreNames known (map shown (take i names)) → IsUnknownRule (shown (get_or names i d)) exit
    → HasUnknownRule (map shown names) exit
unknown_here shown names i d known exit below are is = (
  map shown (take i names),
  shown (get_or names i d),
  map shown (drop (suc i) names),
  split_at shown names i d below,
  (known, are),
  is,
)

pub no_memory_here : {X : Type 0} (shown : X → List ℕ) (names : List X) (i : ℕ) (known : List Choice)
    → i < length names → AreNames known (map shown (take i names)) → HasUnknownRule (map shown names) Memory
no_memory_here shown [] i known below are = absurd (omega arith)
no_memory_here shown (x ∷ names) i known below are =
    unknown_here shown (x ∷ names) i x known Memory below are tt
