-- For proofs: the steps of a parser over the numbers of tokens.
use Rattle.std.specs.Prelude.{◌≡◌, ◌≢◌, ℕ, zero, suc, Bool, if◌then◌else◌, List, Option, Some, None, Result}
use Rattle.std.specs.Prelude.{Ok, Err}
use Rattle.hcl_token.specs.declared.kind.Kind.{Kind}
use Rattle.hcl_grammar.specs.declared.fault.TokenFault.{TokenFault}
use Rattle.hcl_grammar.specs.declared.fault.TokenFault.TheVariants.{Syntax, TooDeep, Memory}
use Rattle.hcl_grammar.specs.Tokens.{Token, next_index, next_token, next_kind, after_next, is_kind, is_word}

-- what is read and the place after it, or why nothing is
abbrev pub Outcome : Type 0 → Type 0
Outcome A = Result (A × ℕ) TokenFault

-- one step of reading, from the place where it begins
abbrev pub Step : Type 0 → Type 0
Step A = ℕ → Outcome A

-- the next step begins after what was read; where nothing was, there is none
abbrev pub and_then : {A B : Type 0} → Outcome A → (A → Step B) → Outcome B
and_then (Ok read) next_kind = next_kind read.0 read.1
and_then (Err fault) next_kind = Err fault

infixl 10 ◌>>=◌
abbrev pub ◌>>=◌ : {A B : Type 0} → Step A → (A → Step B) → Step B
first >>= next_kind = λ from. and_then (first from) next_kind

infixl 10 ◌>>◌
abbrev pub ◌>>◌ : {A B : Type 0} → Step A → Step B → Step B
first >> second = first >>= (λ _. second)

-- reads nothing
abbrev pub pure : {A : Type 0} → A → Step A
pure value = λ from. Ok (value, from)

-- where the step begins
abbrev pub position : Step ℕ
position = λ from. Ok (from, from)

module _ (ts : List Token) where
  -- the number of the next token
  abbrev pub peek_index : Bool → Step ℕ
  peek_index skip_newlines = λ i. Ok (next_index ts skip_newlines i, i)

  -- the next token fits nothing
  abbrev pub syntax_fault : {A : Type 0} → Bool → Step A
  syntax_fault skip_newlines = λ i. Err (Syntax (next_index ts skip_newlines i))

  -- the kind of the next token, which is not taken
  abbrev pub peek_kind : Bool → Step (Option Kind)
  peek_kind skip_newlines = λ i. Ok (next_kind ts skip_newlines i, i)

  -- whether a token of this kind comes next
  unfoldable pub next_is : Bool → Kind → ℕ → Bool
  next_is skip_newlines kind i = is_kind (next_kind ts skip_newlines i) kind

  -- the place after a token of this kind, if one comes next
  unfoldable pub after_if_next : Bool → Kind → ℕ → ℕ
  after_if_next skip_newlines kind i =
      if next_is skip_newlines kind i then after_next ts skip_newlines i else i

  -- takes a token of this kind, if one comes next
  abbrev pub eat : Bool → Kind → Step Bool
  eat skip_newlines kind = λ i. Ok (next_is skip_newlines kind i, after_if_next skip_newlines kind i)

  -- takes a token of this kind, which must come next
  unfoldable pub expect : Bool → Kind → Step (Unit {0})
  expect skip_newlines kind =
      λ i. if next_is skip_newlines kind i then Ok (tt, after_next ts skip_newlines i)
      else syntax_fault skip_newlines i

  -- takes the next token, which was looked at
  abbrev pub bump_known : Bool → Step (Unit {0})
  bump_known skip_newlines = λ i. Ok (tt, after_next ts skip_newlines i)

  -- whether this word comes next
  unfoldable pub next_is_word : Bool → List ℕ → ℕ → Bool
  next_is_word skip_newlines w i = is_word w (next_token ts skip_newlines i)

  -- the same, as a step
  abbrev pub peek_is_word : Bool → List ℕ → Step Bool
  peek_is_word skip_newlines w = λ i. Ok (next_is_word skip_newlines w i, i)

  -- takes this word, which must come next
  unfoldable pub expect_word : Bool → List ℕ → Step (Unit {0})
  expect_word skip_newlines w =
      λ i. if next_is_word skip_newlines w i then Ok (tt, after_next ts skip_newlines i)
      else syntax_fault skip_newlines i

-- opens a construct at this token, if one more may nest
abbrev pub enter : ℕ → ℕ → Step (Unit {0})
enter zero opening = λ i. Err (TooDeep opening)
enter (suc depth) opening = λ i. Ok (tt, i)

-- opens two, one in the other
abbrev pub enter_two : ℕ → ℕ → Step (Unit {0})
enter_two zero opening = λ i. Err (TooDeep opening)
enter_two (suc zero) opening = λ i. Err (TooDeep opening)
enter_two (suc (suc depth)) opening = λ i. Ok (tt, i)

-- what a function that parses ensures: the parser's outcome, unless memory fails
abbrev pub Reads : {A : Type 0} → Outcome A → Result A TokenFault → ℕ → Type 0
Reads outcome (Ok a) new = outcome ≡ Ok (a, new)
Reads outcome (Err e) new = e ≢ Memory → outcome ≡ Err e

-- what a step answers that takes no memory: the parser's outcome, whatever it is
abbrev pub ReadsExactly : {A : Type 0} → Outcome A → Result A TokenFault → ℕ → Type 0
ReadsExactly outcome (Ok a) new = outcome ≡ Ok (a, new)
ReadsExactly outcome (Err e) new = outcome ≡ Err e
