-- What holds of each element of a list.
use Rattle.std.proofs.Common.{List, [], ◌∷◌, ◌++◌}
use Rattle.std.specs.List.{AllByRecursion}
use Rattle.tf_rules.specs.Preorder as nodes
use Rattle.tf_rules.specs.Preorder.{Node, IsPreorder, children}

first_all : {X : Type 0} (P : X → Type 0) (xs ys : List X) → AllByRecursion P (xs ++ ys) → AllByRecursion P xs
first_all P [] ys a = tt
first_all P (x ∷ xs) ys a = (a.0, first_all P xs ys a.1)

last_all : {X : Type 0} (P : X → Type 0) (xs ys : List X) → AllByRecursion P (xs ++ ys) → AllByRecursion P ys
last_all P [] ys a = a
last_all P (x ∷ xs) ys a = last_all P xs ys a.1

pub both_all : {X : Type 0} (P : X → Type 0) (xs ys : List X) → AllByRecursion P xs → AllByRecursion P ys → AllByRecursion P (xs ++ ys)
both_all P [] ys a b = b
both_all P (x ∷ xs) ys a b = (a.0, both_all P xs ys a.1 b)

pub all_implies : {X : Type 0} (P Q : X → Type 0) → ((x : X) → P x → Q x) → (xs : List X) → AllByRecursion P xs → AllByRecursion Q xs
all_implies P Q t [] a = tt
all_implies P Q t (x ∷ xs) a = (t x a.0, all_implies P Q t xs a.1)

-- what holds of each node in some nodes holds of these
pub all_roots : (P : Node → Type 0) {rs ns : List Node} → IsPreorder rs ns → AllByRecursion P ns → AllByRecursion P rs
all_roots P nodes.no_nodes a = tt
all_roots P (nodes.visit {inside} {others} s r) a = (a.0, all_roots P r (last_all P inside others a.1))

-- and of what is directly in them
pub all_children : (P : Node → Type 0) {rs ns : List Node} → IsPreorder rs ns → AllByRecursion P ns → AllByRecursion (λ n. AllByRecursion P (children n)) rs
all_children P nodes.no_nodes a = tt
all_children P (nodes.visit {inside} {others} s r) a = (all_roots P s (first_all P inside others a.1), all_children P r (last_all P inside others a.1))
