-- What is shown of each thing that the scanner finds, and of each lexeme.
use Rattle.std.proofs.Common.{◌≡◌, ℕ, ◌<◌, ◌≤◌, ◌⊎◌, List, ◌++◌, length, IsUtf8, Some, None, refl, inl, inr, arith}
use Rattle.std.proofs.lemmas.Bool.{cases_lt}
use Rattle.hcl_token.specs.declared.kind.Kind.{Kind}
use Rattle.hcl_scan.specs.Modes.{Mode}
use Rattle.hcl_scan.specs.Lexeme.{IsLexeme}
use Rattle.hcl_scan.specs.Inner.LexemeStarts.{LexedToken}

-- the text begins with a lexeme of the kind, of n bytes
pub record IsFound (mode : Mode) (t : List ℕ) (kind : Kind) (n : ℕ) : Type 0 where
  pub spelling : List ℕ
  pub rest : List ℕ
  pub text_is : t ≡ spelling ++ rest
  pub len : length spelling ≡ n
  pub lexeme : IsLexeme mode kind spelling rest
  pub some : 0 < n
  pub utf8 : IsUtf8 rest

-- what is found is a lexeme
abbrev pub Sound : Mode → List ℕ → LexedToken → Type 0
Sound mode t None = Unit {0}
Sound mode t (Some f) = IsFound mode t f.0 f.1

-- what is found is longer than this lexeme, or it is this lexeme
abbrev pub Beats : LexedToken → Kind → ℕ → Type 0
Beats None kind n = ⊥
Beats (Some f) kind n = (n < f.1) ⊎ ((n ≡ f.1) × (kind ≡ f.0))

pub same_kind : (kind : Kind) (n m : ℕ) → n ≤ m → Beats (Some (kind, m)) kind n
same_kind kind n m h = elim (cases_lt n m) [ inl less ↦ inl less | inr more ↦ inr (omega arith, refl) ]
