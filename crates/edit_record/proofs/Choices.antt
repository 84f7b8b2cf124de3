-- Tests and results.
use Rattle.std.proofs.Common.{◌≡◌, ℕ, List, ◌++◌, Bool, true, false, cond, Result, Ok, Err, refl, ap, ◌∙◌, ◌⊎◌, inl, inr, ◌&&◌}
use Rattle.edit_record.specs.declared.fault.TextError.{TextError}
use Rattle.edit_record.specs.Parsing.{◌>>=◌}

pub chosen : {A : Type 0} (b : Bool) (x y z : A) → cond b x y ≡ z → ((b ≡ true) × (x ≡ z)) ⊎ ((b ≡ false) × (y ≡ z))
chosen true x y z e = inl (refl, e)
chosen false x y z e = inr (refl, e)

pub err_else : {A : Type 0} (b : Bool) (f : TextError) (y : Result A TextError) (z : A) → cond b (Err f) y ≡ Ok z → (b ≡ false) × (y ≡ Ok z)
err_else true f y z e = absurd cc
err_else false f y z e = (refl, e)

pub ok_if : {A : Type 0} (b : Bool) (f : TextError) (y : Result A TextError) (z : A) → cond b y (Err f) ≡ Ok z → (b ≡ true) × (y ≡ Ok z)
ok_if true f y z e = (refl, e)
ok_if false f y z e = absurd cc

pub both_true : (a b : Bool) → (a && b) ≡ true → (a ≡ true) × (b ≡ true)
both_true true b e = (refl, e)
both_true false b e = absurd cc

pub ok_is : {A : Type 0} (x y : A) → ◌≡◌ {A = Result A TextError} (Ok x) (Ok y) → x ≡ y
ok_is x y e = cc

pub err_ok : {A : Type 0} (f : TextError) (x : A) → ◌≡◌ {A = Result A TextError} (Err f) (Ok x) → ⊥
err_ok f x e = absurd cc

-- what a chain that is read went through
pub through : {A B P : Type 0} (r : Result (A × List ℕ) TextError) (f : A × List ℕ → Result B TextError) (y : B) → (r >>= f) ≡ Ok y → ((a : A) (rest : List ℕ) → r ≡ Ok (a, rest) → f (a, rest) ≡ Ok y → P) → P
through (Ok x) f y e k = k x.0 x.1 refl e
through (Err g) f y e k = absurd cc

pub through_one : {A B P : Type 0} (r : Result A TextError) (f : A → Result B TextError) (y : B) → (r >>= f) ≡ Ok y → ((a : A) → r ≡ Ok a → f a ≡ Ok y → P) → P
through_one (Ok x) f y e k = k x refl e
through_one (Err g) f y e k = absurd cc

-- and how it goes on
pub continues_with : {A B : Type 0} (r : Result A TextError) (f : A → Result B TextError) (a : A) (y : Result B TextError) → r ≡ Ok a → f a ≡ y → (r >>= f) ≡ y
continues_with (Ok x) f a y e h = ap f (ok_is x a e) ∙ h
continues_with (Err g) f a y e h = absurd cc

-- parts of a text one after another
pub part : (a t t' rest : List ℕ) → t ≡ a ++ t' → t' ≡ rest → t ≡ a ++ rest
part a t t' rest e h = e ∙ ap (λ (y : List ℕ). a ++ y) h
