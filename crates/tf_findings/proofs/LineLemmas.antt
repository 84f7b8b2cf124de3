-- The lines of tokens, one after another.
use Rattle.std.proofs.Common.{◌≡◌, ℕ, zero, suc, ◌+◌, ◌<◌, ◌≤◌, ◌||◌, ◌&&◌, Bool, false, List, [], ◌∷◌, drop, Some, add-one, sym, ap, ◌∙◌, inl, inr, arith}
use Rattle.std.specs.Prelude.{unwrap_or, count_by, length}
use Rattle.std.specs.Option.{option_map}
use Rattle.std.specs.List.{concat}
use Rattle.std.proofs.lemmas.Option.{slice_get_cases}
use Rattle.std.proofs.lemmas.List.{drop_more}
use Rattle.std.proofs.lemmas.List.Sums.{sum_by-append}
use Rattle.hcl_token.specs.TokenizedText.{kind_of, spelling_of}
use Rattle.hcl_token.specs.declared.kind.Kind.{Kind}
use Rattle.hcl_token.specs.Place.{line_of, pieces_before, is_lf, counted_bytes}
use Rattle.hcl_token.specs.Tokens.{Pair}
use Rattle.tf_rules.specs.declared.rule.Rule.{Rule}
use Rattle.tf_findings.specs.Comments.{silences}
use Rattle.tf_findings.specs.Silencing.{silenced_from, covers_line}
use Rattle.tf_findings.specs.Inner.Annotations.{silences_at}

abbrev lines_in : List (List ℕ) → ℕ
lines_in pieces = count_by is_lf (concat pieces)

more : (x : List ℕ) (xs ys : List (List ℕ)) → lines_in xs ≤ lines_in ys → lines_in (x ∷ xs) ≤ lines_in (x ∷ ys)
more x xs ys h = simp sum_by-append (omega (arith, h))

further : (x : List ℕ) (xs : List (List ℕ)) → lines_in (x ∷ []) ≤ lines_in (x ∷ xs)
further x xs = more x [] xs (omega arith)

before : (pairs : List Pair) (i : ℕ) → lines_in (pieces_before pairs i) ≤ lines_in (pieces_before pairs (suc i))
before [] i = omega arith
before (p ∷ ps) zero = further p.gap (counted_bytes p ∷ pieces_before ps 0)
before (p ∷ ps) (suc i) =
    let here = pieces_before ps i in
    let next = pieces_before ps (suc i) in
    more p.gap (counted_bytes p ∷ here) (counted_bytes p ∷ next) (more (counted_bytes p) here next (before ps i))

-- the line of a token is not before that of the token before it
pub line_next : (pairs : List Pair) (i : ℕ) → line_of pairs i ≤ line_of pairs (i + 1)
line_next pairs i = rw (add-one) (omega (arith, before pairs i))

pub silenced_step : (pairs : List Pair) (rule : Rule) (line i : ℕ) → i < length pairs
    → silenced_from pairs rule line i (drop i pairs) ≡ (silences_at pairs rule line i || silenced_from pairs rule line (i + 1) (drop (i + 1) pairs))
silenced_step pairs rule line i within =
    let test = λ (p : Pair). silences p.kind p.spelling rule && covers_line line (line_of pairs i) in
    elim (slice_get_cases pairs i).1 [
      | inl (x, below, found, same) ↦
          let split : drop i pairs ≡ x ∷ drop (i + 1) pairs = rw (← same) (drop_more pairs i x below) in
          let now : silences_at pairs rule line i ≡ test x = ap (λ o. unwrap_or (option_map test o) false) found in
          ap (silenced_from pairs rule line i) split ∙ ap (λ b. b || silenced_from pairs rule line (i + 1) (drop (i + 1) pairs)) (sym now)
      | inr (past, none) ↦ absurd (omega arith)
    ]

-- what is known of each kind and spelling of a token is known of its own
abbrev pub IsQuiet : List Pair → Rule → ℕ → Type 0
IsQuiet pairs rule i = (kind : Kind) (spelling : List ℕ) → Some kind ≡ kind_of pairs i → Some spelling ≡ spelling_of pairs i → silences kind spelling rule ≡ false

-- a token that is no silencing comment
pub quiet : (pairs : List Pair) (rule : Rule) (line i : ℕ) → IsQuiet pairs rule i → silences_at pairs rule line i ≡ false
quiet pairs rule line i none_said =
    let test = λ (p : Pair). silences p.kind p.spelling rule && covers_line line (line_of pairs i) in
    elim (slice_get_cases pairs i).1 [
      | inl (x, below, found, same) ↦
          let off : silences x.kind x.spelling rule ≡ false =
          none_said x.kind x.spelling (sym (ap (option_map (λ (p : Pair). p.kind)) found)) (sym (ap (option_map (λ (p : Pair). p.spelling)) found)) in
          ap (λ o. unwrap_or (option_map test o) false) found ∙ ap (λ b. b && covers_line line (line_of pairs i)) off
      | inr (past, none) ↦ ap (λ o. unwrap_or (option_map test o) false) none
    ]

-- a token of a kind that silences nothing
pub quiet_kind : (pairs : List Pair) (rule : Rule) (line i : ℕ) (kind : Kind) → Some kind ≡ kind_of pairs i → ((spelling : List ℕ) → silences kind spelling rule ≡ false)
    → silences_at pairs rule line i ≡ false
quiet_kind pairs rule line i kind is_kind none_said =
    quiet pairs rule line i (λ k spelling same _. let e : k ≡ kind = cc (same, is_kind) in ap (λ x. silences x spelling rule) e ∙ none_said spelling)

-- a token that silences nothing as it is spelled
pub quiet_spelling : (pairs : List Pair) (rule : Rule) (line i : ℕ) (kind : Kind) (spelling : List ℕ) → Some kind ≡ kind_of pairs i → Some spelling ≡ spelling_of pairs i
    → silences kind spelling rule ≡ false → silences_at pairs rule line i ≡ false
quiet_spelling pairs rule line i kind spelling is_kind is_spelling none_said =
    quiet pairs rule line i (λ k t same_kind same_spelling.
    let e : k ≡ kind = cc (same_kind, is_kind) in
    let f : t ≡ spelling = cc (same_spelling, is_spelling) in
    ap (λ x. silences x t rule) e ∙ (ap (λ x. silences kind x rule) f ∙ none_said))

-- whether a token silences the rule, as it is spelled, is whether it does so on the lines that it covers
pub spelled : (pairs : List Pair) (rule : Rule) (line i : ℕ) (kind : Kind) (spelling : List ℕ) (does : Bool) → i < length pairs → Some kind ≡ kind_of pairs i
    → Some spelling ≡ spelling_of pairs i → silences kind spelling rule ≡ does → silences_at pairs rule line i ≡ (does && covers_line line (line_of pairs i))
spelled pairs rule line i kind spelling does within is_kind is_spelling said =
    let test = λ (p : Pair). silences p.kind p.spelling rule && covers_line line (line_of pairs i) in
    elim (slice_get_cases pairs i).1 [
      | inl (x, below, found, same) ↦
          let same_kind : Some x.kind ≡ kind_of pairs i = sym (ap (option_map (λ (p : Pair). p.kind)) found) in
          let same_spelling : Some x.spelling ≡ spelling_of pairs i = sym (ap (option_map (λ (p : Pair). p.spelling)) found) in
          let e : x.kind ≡ kind = cc (same_kind, is_kind) in
          let f : x.spelling ≡ spelling = cc (same_spelling, is_spelling) in
          let own : silences x.kind x.spelling rule ≡ does = ap (λ k. silences k x.spelling rule) e ∙ (ap (λ t. silences kind t rule) f ∙ said) in
          ap (λ o. unwrap_or (option_map test o) false) found ∙ ap (λ b. b && covers_line line (line_of pairs i)) own
      | inr (past, none) ↦ absurd (omega arith)
    ]

-- a token that is no silencing comment can be skipped
pub quiet_step : (pairs : List Pair) (rule : Rule) (line i : ℕ) → i < length pairs → silences_at pairs rule line i ≡ false
    → silenced_from pairs rule line (i + 1) (drop (i + 1) pairs) ≡ silenced_from pairs rule line i (drop i pairs)
quiet_step pairs rule line i within none_said =
    sym (silenced_step pairs rule line i within ∙ ap (λ b. b || silenced_from pairs rule line (i + 1) (drop (i + 1) pairs)) none_said)
