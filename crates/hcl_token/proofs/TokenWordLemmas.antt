-- A token and its word.
use Rattle.std.proofs.Common.{◌≡◌, ℕ, ◌+◌, ◌-◌, ◌*◌, ◌%◌, ◌^◌, ◌<◌, ◌≤◌, List, [], ◌∷◌, get_or, refl, sym, ap, ◌∙◌, arith}
use Rattle.hcl_token.specs.declared.kind.Kind.{Kind}
use Rattle.hcl_token.specs.declared.kind.Kind.TheVariants.{Mark, LineEnd, LineComment, InlineComment, Identifier, Number, DotIndex, Plus, Minus, Star, Slash, Percent, And, Or, Bang, DoubleEqual, NotEqual, Less, Greater, LessEqual, GreaterEqual, Question, Colon, DoubleColon, Equal, FatArrow, OpenBracket, CloseBracket, OpenParen, CloseParen, Comma, Dot, Ellipsis, QuoteLit, OpenBrace, CloseBrace, QuoteOpen, HereOpen, SeqClose, QuoteClose, InterpOpen, DirectiveOpen, HereClose, HereLit}
use Rattle.hcl_token.specs.declared.limit.TheConstants.{MAX_TEXT}
use Rattle.hcl_token.specs.Inner.TokenWord.{number_of}

-- the kinds in the order of their numbers
abbrev kinds : List Kind
kinds =
    Mark ∷ LineEnd ∷ LineComment ∷ InlineComment ∷ Identifier ∷ Number ∷ DotIndex ∷ Plus ∷
    Minus ∷ Star ∷ Slash ∷ Percent ∷ And ∷ Or ∷ Bang ∷ DoubleEqual ∷ NotEqual ∷ Less ∷ Greater ∷
    LessEqual ∷ GreaterEqual ∷ Question ∷ Colon ∷ DoubleColon ∷ Equal ∷ FatArrow ∷ OpenBracket ∷
    CloseBracket ∷ OpenParen ∷ CloseParen ∷ Comma ∷ Dot ∷ Ellipsis ∷ QuoteLit ∷ OpenBrace ∷
    CloseBrace ∷ QuoteOpen ∷ HereOpen ∷ SeqClose ∷ QuoteClose ∷ InterpOpen ∷ DirectiveOpen ∷
    HereClose ∷ HereLit ∷ []

abbrev kind_at : ℕ → Kind
kind_at number = get_or kinds number Mark

kind_again : (kind : Kind) → kind_at (number_of kind) ≡ kind
kind_again Mark = refl
kind_again kind = refl

pub number_below : (kind : Kind) → number_of kind < 44
number_below Mark = omega arith
number_below kind = omega arith

pub kind_same : (kind other : Kind) → number_of kind ≡ number_of other → kind ≡ other
kind_same kind other e = sym (kind_again kind) ∙ ap kind_at e ∙ kind_again other

-- ---- two words that are as far apart as their tokens

pub words_alike : (n m s t p q i j : ℕ) → n < 256 → m < 256 → i ≤ s → s ≤ p → p ≤ MAX_TEXT → j ≤ t → t ≤ q → q ≤ MAX_TEXT
    → (n + 256 * s + 4294967296 * p + 2 ^ 64 - (m + 256 * t + 4294967296 * q)) % 2 ^ 64 ≡ (4294967552 * i + 2 ^ 64 - 4294967552 * j) % 2 ^ 64
    → (n ≡ m) × (s + j ≡ t + i) × (p + j ≡ q + i)
words_alike n m s t p q i j n8 m8 is sp ps jt tq qs apart =
    let even : n + 256 * s + 4294967296 * p + 4294967552 * j ≡ m + 256 * t + 4294967296 * q + 4294967552 * i = omega arith in
    let kind : n ≡ m = omega arith in
    let start : s + j ≡ t + i = omega arith in
    let stop : p + j ≡ q + i = omega arith in
    (kind, start, stop)

pub words_apart : (n s t p q i j : ℕ) → n < 256 → i ≤ s → s ≤ p → p ≤ MAX_TEXT → j ≤ t → t ≤ q → q ≤ MAX_TEXT → s + j ≡ t + i → p + j ≡ q + i
    → (n + 256 * s + 4294967296 * p + 2 ^ 64 - (n + 256 * t + 4294967296 * q)) % 2 ^ 64 ≡ (4294967552 * i + 2 ^ 64 - 4294967552 * j) % 2 ^ 64
words_apart n s t p q i j n8 is sp ps jt tq qs start stop =
    let even : n + 256 * s + 4294967296 * p + 4294967552 * j ≡ n + 256 * t + 4294967296 * q + 4294967552 * i = omega arith in
    let same : n + 256 * s + 4294967296 * p + 2 ^ 64 - (n + 256 * t + 4294967296 * q) ≡ 4294967552 * i + 2 ^ 64 - 4294967552 * j = omega arith in
    ap (λ x. x % 2 ^ 64) same
