-- Template sequences that tokens open and close.
use Rattle.std.proofs.Common.{◌≡◌, true, ℕ, zero, suc, ◌+◌, ◌%◌, ◌^◌, ◌<◌, ◌≤◌, List, [], ◌∷◌, ◌++◌, length, take, drop, get_or, slice_range, Some, refl, ap, subst, ◌∙◌, arith, take_all}
use Rattle.std.proofs.lemmas.Bool.{cond_both}
use Rattle.std.proofs.lemmas.List.Folds.{drop_split}
use Rattle.hcl_token.specs.declared.span.Span.{Span}
use Rattle.hcl_token.specs.declared.kind.Kind.{Kind}
use Rattle.hcl_token.specs.declared.kind.Kind.TheVariants.{LineEnd, OpenBrace, CloseBrace, QuoteOpen, QuoteClose, HereOpen, HereClose, HereLit, InterpOpen, DirectiveOpen, SeqClose}
use Rattle.hcl_token.specs.TokenizedText.{TokenizedText, kind_of}
use Rattle.hcl_token.specs.Pairs.{spans_from}
use Rattle.hcl_token.specs.Tokens.{Pair}
use Rattle.hcl_scan.specs.Modes.{Mode, mode_of, is_in_sequence, is_braces, after_literal, clear_line_start, modes_after}
use Rattle.hcl_scan.specs.Modes.Mode.{Expression, Sequence, Braces, Quoted, Heredoc}
use Rattle.hcl_scan.specs.Lexeme.{is_allowed_in}
use Rattle.hcl_scan.specs.Follows.{FollowsFrom}
use Rattle.hcl_rescan.specs.Inner.WholeLines.{IsLineStart}
use Rattle.hcl_rescan.specs.Inner.Sequences.{opens, closes, opened, closed}
use Rattle.hcl_scan.proofs.PairLemmas.{modes_after_pairs}
use Rattle.hcl_rescan.proofs.LineLemmas.{one_at, pair_there, kind_is}
use Rattle.hcl_rescan.proofs.MovedLemmas.{stretch_is}

-- ---- the loop over tokens

pub opened_more : (tokens : List Span) (k : ℕ) (d : Span) → k < length tokens → opened (take (suc k) tokens) ≡ opened (take k tokens) + opens (get_or tokens k d).kind
opened_more [] k d h = absurd (omega arith)
opened_more (x ∷ tokens) zero d h = omega arith
opened_more (x ∷ tokens) (suc k) d h = omega (arith, opened_more tokens k d (omega arith))

pub closed_more : (tokens : List Span) (k : ℕ) (d : Span) → k < length tokens → closed (take (suc k) tokens) ≡ closed (take k tokens) + closes (get_or tokens k d).kind
closed_more [] k d h = absurd (omega arith)
closed_more (x ∷ tokens) zero d h = omega arith
closed_more (x ∷ tokens) (suc k) d h = omega (arith, closed_more tokens k d (omega arith))

opens_one : (kind : Kind) → opens kind ≤ 1
opens_one InterpOpen = omega arith
opens_one DirectiveOpen = omega arith
opens_one kind = omega arith

closes_one : (kind : Kind) → closes kind ≤ 1
closes_one SeqClose = omega arith
closes_one kind = omega arith

opened_few : (tokens : List Span) → opened tokens ≤ length tokens
opened_few [] = omega arith
opened_few (x ∷ tokens) = omega (arith, opens_one x.kind, opened_few tokens)

closed_few : (tokens : List Span) → closed tokens ≤ length tokens
closed_few [] = omega arith
closed_few (x ∷ tokens) = omega (arith, closes_one x.kind, closed_few tokens)

pub sum_more : (sum change k closed opened close begun : ℕ) → (sum + closed) % 2 ^ 64 ≡ (k + opened) % 2 ^ 64 → change + close ≡ 1 + begun
    → ((sum + change) % 2 ^ 64 + (closed + close)) % 2 ^ 64 ≡ (k + 1 + (opened + begun)) % 2 ^ 64
sum_more sum change k closed opened close begun h e = omega arith

pub sum_all : (tokens : List Span) (k sum : ℕ) → length tokens ≤ k → k ≤ length tokens → length tokens < 2 ^ 64 → sum ≡ length tokens → (sum + closed (take k tokens)) % 2 ^ 64 ≡ (k + opened (take k tokens)) % 2 ^ 64 → opened tokens ≡ closed tokens
sum_all tokens k sum all same fits is h =
    let whole : take k tokens ≡ tokens = take_all k tokens all in
    let more : (sum + closed tokens) % 2 ^ 64 ≡ (k + opened tokens) % 2 ^ 64 = subst (λ (x : List Span). (sum + closed x) % 2 ^ 64 ≡ (k + opened x) % 2 ^ 64) whole h in
    omega (arith, opened_few tokens, closed_few tokens)

-- ---- the modes

-- each mode is that of an opening, and a brace is in a template sequence
abbrev AreNested : List Mode → Type 0
AreNested [] = Unit {0}
AreNested (Expression ∷ modes) = ⊥
AreNested (Braces ∷ modes) = (is_in_sequence (mode_of modes) ≡ true) × AreNested modes
AreNested (mode ∷ modes) = AreNested modes

-- how many template sequences are open
abbrev sequences : List Mode → ℕ
sequences [] = 0
sequences (Sequence ∷ modes) = suc (sequences modes)
sequences (mode ∷ modes) = sequences modes

drop_nested : (modes : List Mode) → AreNested modes → AreNested (drop 1 modes)
drop_nested [] h = tt
drop_nested (Expression ∷ modes) h = absurd h
drop_nested (Sequence ∷ modes) h = h
drop_nested (Braces ∷ modes) h = h.1
drop_nested (Quoted ∷ modes) h = h
drop_nested (Heredoc name at_line_start ∷ modes) h = h

within_nested : (modes : List Mode) → AreNested modes → AreNested (clear_line_start modes)
within_nested [] h = tt
within_nested (Expression ∷ modes) h = absurd h
within_nested (Sequence ∷ modes) h = h
within_nested (Braces ∷ modes) h = h
within_nested (Quoted ∷ modes) h = h
within_nested (Heredoc name at_line_start ∷ modes) h = h

read_nested : (piece : List ℕ) (mode : Mode) (modes : List Mode) → AreNested (mode ∷ modes) → AreNested (after_literal piece mode ∷ modes)
read_nested piece Expression modes h = absurd h
read_nested piece Sequence modes h = h
read_nested piece Braces modes h = h
read_nested piece Quoted modes h = h
read_nested piece (Heredoc name at_line_start) modes h = h

nested_after : (kind : Kind) (s : List ℕ) (modes : List Mode) → AreNested modes → AreNested (modes_after kind s modes)
nested_after QuoteOpen s modes h = h
nested_after HereOpen s modes h = h
nested_after InterpOpen s modes h = within_nested modes h
nested_after DirectiveOpen s modes h = within_nested modes h
nested_after QuoteClose s modes h = drop_nested modes h
nested_after HereClose s modes h = drop_nested modes h
nested_after SeqClose s modes h = drop_nested modes h
nested_after OpenBrace s modes h = cond_both (is_in_sequence (mode_of modes)) (Braces ∷ modes) modes AreNested (λ e. (e, h)) (λ _. h)
nested_after CloseBrace s modes h = cond_both (is_braces (mode_of modes)) (drop 1 modes) modes AreNested (λ _. drop_nested modes h) (λ _. h)
nested_after HereLit s [] h = tt
nested_after HereLit s (mode ∷ modes) h = read_nested s mode modes h
nested_after kind s modes h = h

within_sequences : (modes : List Mode) → sequences (clear_line_start modes) ≡ sequences modes
within_sequences [] = refl
within_sequences (Expression ∷ modes) = refl
within_sequences (Sequence ∷ modes) = refl
within_sequences (Braces ∷ modes) = refl
within_sequences (Quoted ∷ modes) = refl
within_sequences (Heredoc name at_line_start ∷ modes) = refl

read_sequences : (piece : List ℕ) (mode : Mode) (modes : List Mode) → sequences (after_literal piece mode ∷ modes) ≡ sequences (mode ∷ modes)
read_sequences piece Expression modes = refl
read_sequences piece Sequence modes = refl
read_sequences piece Braces modes = refl
read_sequences piece Quoted modes = refl
read_sequences piece (Heredoc name at_line_start) modes = refl

-- one token more
sequences_are : (kind : Kind) (s : List ℕ) (modes : List Mode) → is_allowed_in (mode_of modes) kind ≡ true → AreNested modes → sequences (modes_after kind s modes) + closes kind ≡ sequences modes + opens kind
sequences_are InterpOpen s modes st h = omega (arith, within_sequences modes)
sequences_are DirectiveOpen s modes st h = omega (arith, within_sequences modes)
sequences_are QuoteClose s [] st h = absurd (cc)
sequences_are QuoteClose s (Expression ∷ modes) st h = absurd h
sequences_are QuoteClose s (Sequence ∷ modes) st h = absurd (cc)
sequences_are QuoteClose s (Braces ∷ modes) st h = absurd (cc)
sequences_are QuoteClose s (Quoted ∷ modes) st h = refl
sequences_are QuoteClose s (Heredoc name at_line_start ∷ modes) st h = absurd (cc)
sequences_are HereClose s [] st h = absurd (cc)
sequences_are HereClose s (Expression ∷ modes) st h = absurd h
sequences_are HereClose s (Sequence ∷ modes) st h = absurd (cc)
sequences_are HereClose s (Braces ∷ modes) st h = absurd (cc)
sequences_are HereClose s (Quoted ∷ modes) st h = absurd (cc)
sequences_are HereClose s (Heredoc name at_line_start ∷ modes) st h = refl
sequences_are SeqClose s [] st h = absurd (cc)
sequences_are SeqClose s (Expression ∷ modes) st h = absurd h
sequences_are SeqClose s (Sequence ∷ modes) st h = omega arith
sequences_are SeqClose s (Braces ∷ modes) st h = absurd (cc)
sequences_are SeqClose s (Quoted ∷ modes) st h = absurd (cc)
sequences_are SeqClose s (Heredoc name at_line_start ∷ modes) st h = absurd (cc)
sequences_are OpenBrace s [] st h = refl
sequences_are OpenBrace s (Expression ∷ modes) st h = absurd h
sequences_are OpenBrace s (Sequence ∷ modes) st h = refl
sequences_are OpenBrace s (Braces ∷ modes) st h = refl
sequences_are OpenBrace s (Quoted ∷ modes) st h = absurd (cc)
sequences_are OpenBrace s (Heredoc name at_line_start ∷ modes) st h = absurd (cc)
sequences_are CloseBrace s [] st h = refl
sequences_are CloseBrace s (Expression ∷ modes) st h = absurd h
sequences_are CloseBrace s (Sequence ∷ modes) st h = absurd (cc)
sequences_are CloseBrace s (Braces ∷ modes) st h = refl
sequences_are CloseBrace s (Quoted ∷ modes) st h = absurd (cc)
sequences_are CloseBrace s (Heredoc name at_line_start ∷ modes) st h = absurd (cc)
sequences_are HereLit s [] st h = refl
sequences_are HereLit s (mode ∷ modes) st h = omega (arith, read_sequences s mode modes)
sequences_are kind s modes st h = refl

-- all tokens of a stretch
sequences_after : (ps rest : List Pair) (at : ℕ) (modes : List Mode) (last : List ℕ) → AreNested modes → FollowsFrom modes (ps ++ rest) last [] → sequences (modes_after_pairs modes ps) + closed (spans_from at ps) ≡ sequences modes + opened (spans_from at ps)
sequences_after [] rest at modes last h f = refl
sequences_after (p ∷ ps) rest at modes last h f =
    omega (
      arith,
      sequences_are p.kind p.spelling modes f.2.0 h,
      sequences_after ps rest (at + length p.gap + length p.spelling) (modes_after p.kind p.spelling modes) last (nested_after p.kind p.spelling modes h) f.4,
    )

nested_after_pairs : (ps : List Pair) (modes : List Mode) → AreNested modes → AreNested (modes_after_pairs modes ps)
nested_after_pairs [] modes h = h
nested_after_pairs (p ∷ ps) modes h = nested_after_pairs ps (modes_after p.kind p.spelling modes) (nested_after p.kind p.spelling modes h)

allowed_after : (ps : List Pair) (q : Pair) (qs : List Pair) (modes : List Mode) (last : List ℕ) → FollowsFrom modes (ps ++ q ∷ qs) last [] → is_allowed_in (mode_of (modes_after_pairs modes ps)) q.kind ≡ true
allowed_after [] q qs modes last f = f.2.0
allowed_after (p ∷ ps) q qs modes last f = allowed_after ps q qs (modes_after p.kind p.spelling modes) last f.4

-- ---- a line end where no sequence is open is in no opening

some_open : (modes : List Mode) → AreNested modes → is_in_sequence (mode_of modes) ≡ true → 0 < sequences modes
some_open [] h e = absurd (cc)
some_open (Expression ∷ modes) h e = absurd h
some_open (Sequence ∷ modes) h e = omega arith
some_open (Braces ∷ modes) h e = some_open modes h.1 h.0
some_open (Quoted ∷ modes) h e = absurd (cc)
some_open (Heredoc name at_line_start ∷ modes) h e = absurd (cc)

no_opening : (modes : List Mode) → AreNested modes → is_allowed_in (mode_of modes) LineEnd ≡ true → sequences modes ≡ 0 → modes ≡ []
no_opening [] h st none = refl
no_opening (Expression ∷ modes) h st none = absurd h
no_opening (Sequence ∷ modes) h st none = absurd (omega arith)
no_opening (Braces ∷ modes) h st none = absurd (omega (arith, some_open modes h.1 h.0))
no_opening (Quoted ∷ modes) h st none = absurd (cc)
no_opening (Heredoc name at_line_start ∷ modes) h st none = absurd (cc)

pub none_open_at : (tokenized : TokenizedText) (from at i : ℕ) (kind : Kind) (spans : List Span) → IsLineStart tokenized from at → spans ≡ spans_from 0 tokenized.pairs → from ≤ i → i < length tokenized.pairs → Some kind ≡ kind_of tokenized.pairs i → kind ≡ LineEnd
    → opened (slice_range spans from i) ≡ closed (slice_range spans from i) → modes_after_pairs [] (slice_range tokenized.pairs from i) ≡ []
none_open_at tokenized from at i kind spans f e le within is end same =
    let there = pair_there tokenized.pairs i within in
    let p : Pair = there.0 in
    let before : List Pair = slice_range tokenized.pairs from i in
    let rest : List Pair = drop (suc i) tokenized.pairs in
    let split : drop from tokenized.pairs ≡ before ++ p ∷ rest = drop_split tokenized.pairs from i le ∙ ap (λ (x : List Pair). before ++ x) (one_at tokenized.pairs i p there.1) in
    let follow : FollowsFrom [] (before ++ p ∷ rest) tokenized.last [] = subst (λ (x : List Pair). FollowsFrom [] x tokenized.last []) split f.rest.follow in
    let tokens : slice_range spans from i ≡ spans_from (at + 0) before = stretch_is tokenized from at i spans f e in
    let balance : opened (spans_from (at + 0) before) ≡ closed (spans_from (at + 0) before) = subst (λ (x : List Span). opened x ≡ closed x) tokens same in
    let count = sequences_after before (p ∷ rest) (at + 0) [] tokenized.last tt follow in
    let none : sequences (modes_after_pairs [] before) ≡ 0 = omega (arith, count, balance) in
    let allowed = subst (λ k. is_allowed_in (mode_of (modes_after_pairs [] before)) k ≡ true) (kind_is tokenized.pairs i p kind there.1 is ∙ end) (allowed_after before p rest [] tokenized.last follow) in
    no_opening (modes_after_pairs [] before) (nested_after_pairs before [] tt) allowed none
