-- The tokens of a text as `Scanned` holds them.
use Rattle.std.proofs.Common.{◌≡◌, ℕ, ◌≤◌, List, length, drop, refl, sym, subst}
use Rattle.hcl_token.specs.declared.span.Span.{Span}
use Rattle.hcl_token.specs.Pairs.{InOrder, IsWellFormed, pairs_of, tokenized_text}
use Rattle.hcl_token.specs.TokenizedText.{TokenizedText, AreUtf8}
use Rattle.hcl_scan.specs.declared.token_list.TokenList.{TokenList}
use Rattle.hcl_scan.specs.Tokenization.{IsTokenization}
use Rattle.hcl_scan.specs.TokenLists.{IsTokenListOf}
use Rattle.hcl_scan.proofs.Utf8Pairs.{tokenization_utf8}

-- the invariant: the tokens are in order, and those of the text
abbrev pub AreTokensOf : List ℕ → List Span → ℕ → Type 0
AreTokensOf text tokens last_gap_at = IsWellFormed text tokens last_gap_at × IsTokenization text (pairs_of text tokens) (drop last_gap_at text)

pub tokenization_is : (text : List ℕ) (tokens : List Span) (last_gap_at : ℕ) (value : TokenizedText) → tokenized_text text tokens last_gap_at ≡ value → AreTokensOf text tokens last_gap_at
    → IsTokenization value.text value.pairs value.last
tokenization_is text tokens last_gap_at value e are = subst (λ (x : TokenizedText). IsTokenization x.text x.pairs x.last) e are.1

pub utf8_is : (text : List ℕ) (tokens : List Span) (last_gap_at : ℕ) (value : TokenizedText) → tokenized_text text tokens last_gap_at ≡ value → AreTokensOf text tokens last_gap_at
    → AreUtf8 value.pairs
utf8_is text tokens last_gap_at value e are = subst (λ (x : TokenizedText). AreUtf8 x.pairs) e are.0.utf8

-- with the place of the last gap in 32 bits
pub made : (text : List ℕ) (tokens : List Span) (last_gap_at place : ℕ) → place ≡ last_gap_at → InOrder 0 tokens last_gap_at → last_gap_at ≤ length text
    → IsTokenization text (pairs_of text tokens) (drop last_gap_at text) → AreTokensOf text tokens place
made text tokens last_gap_at place e order within tokenization =
    let formed : IsWellFormed text tokens last_gap_at = record {
      order = order;
      within = within;
      short = tokenization.short;
      utf8 = tokenization_utf8 text (pairs_of text tokens) (drop last_gap_at text) tokenization;
    } in
    let both : AreTokensOf text tokens last_gap_at = (formed, tokenization) in
    subst (λ n. AreTokensOf text tokens n) (sym e) both

-- ---- without the text, and with it again

pub detached : (text : List ℕ) (list : TokenList) (value : TokenizedText) → tokenized_text text list.tokens.items list.last_gap_at ≡ value
    → IsWellFormed text list.tokens.items list.last_gap_at → IsTokenListOf value list
detached text list value e formed =
    let own : IsTokenListOf (tokenized_text text list.tokens.items list.last_gap_at) list = record { are = refl; order = formed } in
    subst (λ (x : TokenizedText). IsTokenListOf x list) e own

pub attached : (text : List ℕ) (list : TokenList)
    → ((tokenized : TokenizedText) × (tokenized.text ≡ text) × IsTokenListOf tokenized list × IsTokenization tokenized.text tokenized.pairs tokenized.last)
    → AreTokensOf text list.tokens.items list.last_gap_at
attached text list (tokenized, e, listed, tokenization) =
    let own : IsTokenization tokenized.text (pairs_of tokenized.text list.tokens.items) (drop list.last_gap_at tokenized.text) =
    subst (λ (x : TokenizedText). IsTokenization x.text x.pairs x.last) (sym listed.are) tokenization in
    let both : AreTokensOf tokenized.text list.tokens.items list.last_gap_at = (listed.order, own) in
    subst (λ (t : List ℕ). AreTokensOf t list.tokens.items list.last_gap_at) e both
