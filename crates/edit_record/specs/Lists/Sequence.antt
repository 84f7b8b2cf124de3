-- Changes one after another, for any kind of change.
use Rattle.std.specs.Prelude.{◌≡◌, ℕ, List, [], ◌∷◌, Result, Ok, Err}
use Rattle.edit_record.specs.declared.lists.change.Refused.{Refused}

-- the changes turn t into u: there is a text between each two of them
abbrev pub TransformsInOrder : {C : Type 0} → (C → List ℕ → List ℕ → Type 0) → List C → List ℕ
    → List ℕ
    → Type 0
TransformsInOrder turns [] t u = t ≡ u
TransformsInOrder turns (c ∷ cs) t u =
    (between : List ℕ) × turns c t between × TransformsInOrder turns cs between u

-- the result of one more change after a result
infixl 10 ◌>>=◌
abbrev pub ◌>>=◌ : Result (List ℕ) Refused → (List ℕ → Result (List ℕ) Refused)
    → Result (List ℕ) Refused
(Ok x) >>= f = f x
(Err e) >>= f = Err e

-- from the first to the last; the first that has no new text refuses
abbrev pub forward_all : {C : Type 0} → (C → List ℕ → Result (List ℕ) Refused) → List C → List ℕ
    → Result (List ℕ) Refused
forward_all forward [] t = Ok t
forward_all forward (c ∷ cs) t = forward c t >>= forward_all forward cs

-- from the last to the first; the first in that order that has no old text refuses
abbrev pub backward_all : {C : Type 0} → (C → List ℕ → Result (List ℕ) Refused) → List C → List ℕ
    → Result (List ℕ) Refused
backward_all backward [] u = Ok u
backward_all backward (c ∷ cs) u = backward_all backward cs u >>= backward c
