-- How many openings are open depends on kinds alone.
use Rattle.std.proofs.Common.{◌≡◌, true, ℕ, ◌+◌, ◌<◌, ◌≤◌, List, [], ◌∷◌, ◌++◌, length, drop, slice_range, Some, refl, sym, ap, ap₂, subst, ◌∙◌, arith, suc, length-drop}
use Rattle.std.proofs.lemmas.Bool.{cond_both}
use Rattle.std.proofs.lemmas.List.Folds.{drop_split}
use Rattle.hcl_token.specs.declared.kind.Kind.{Kind}
use Rattle.hcl_token.specs.declared.kind.Kind.TheVariants.{OpenBrace, CloseBrace, QuoteOpen, QuoteClose, HereOpen, HereClose, HereLit, InterpOpen, DirectiveOpen, SeqClose}
use Rattle.hcl_token.specs.TokenizedText.{TokenizedText, kind_of}
use Rattle.hcl_token.specs.Tokens.{Pair}
use Rattle.hcl_scan.specs.Modes.{Mode, mode_of, is_in_sequence, is_braces, after_literal, clear_line_start, modes_after}
use Rattle.hcl_scan.specs.Modes.Mode.{Expression, Sequence, Braces, Quoted, Heredoc}
use Rattle.hcl_scan.specs.Lexeme.{is_allowed_in}
use Rattle.hcl_scan.specs.Follows.{FollowsFrom}
use Rattle.hcl_rescan.specs.Inner.WholeLines.{IsLineStart, openings_after}
use Rattle.hcl_scan.proofs.PairLemmas.{modes_after_pairs}
use Rattle.hcl_rescan.proofs.LineLemmas.{modes_more, one_at, range_more, pair_there, kind_is}

-- each mode is that of an opening
abbrev AreOpened : List Mode → Type 0
AreOpened [] = Unit {0}
AreOpened (Expression ∷ modes) = ⊥
AreOpened (mode ∷ modes) = AreOpened modes

drop_opened : (modes : List Mode) → AreOpened modes → AreOpened (drop 1 modes)
drop_opened [] h = tt
drop_opened (Expression ∷ modes) h = absurd h
drop_opened (Sequence ∷ modes) h = h
drop_opened (Braces ∷ modes) h = h
drop_opened (Quoted ∷ modes) h = h
drop_opened (Heredoc name at_line_start ∷ modes) h = h

within_opened : (modes : List Mode) → AreOpened modes → AreOpened (clear_line_start modes)
within_opened [] h = tt
within_opened (Expression ∷ modes) h = absurd h
within_opened (Sequence ∷ modes) h = h
within_opened (Braces ∷ modes) h = h
within_opened (Quoted ∷ modes) h = h
within_opened (Heredoc name at_line_start ∷ modes) h = h

read_opened : (piece : List ℕ) (mode : Mode) (modes : List Mode) → AreOpened (mode ∷ modes) → AreOpened (after_literal piece mode ∷ modes)
read_opened piece Expression modes h = absurd h
read_opened piece Sequence modes h = h
read_opened piece Braces modes h = h
read_opened piece Quoted modes h = h
read_opened piece (Heredoc name at_line_start) modes h = h

opened_after : (kind : Kind) (s : List ℕ) (modes : List Mode) → AreOpened modes → AreOpened (modes_after kind s modes)
opened_after QuoteOpen s modes h = h
opened_after HereOpen s modes h = h
opened_after InterpOpen s modes h = within_opened modes h
opened_after DirectiveOpen s modes h = within_opened modes h
opened_after QuoteClose s modes h = drop_opened modes h
opened_after HereClose s modes h = drop_opened modes h
opened_after SeqClose s modes h = drop_opened modes h
opened_after OpenBrace s modes h = cond_both (is_in_sequence (mode_of modes)) (Braces ∷ modes) modes AreOpened (λ _. h) (λ _. h)
opened_after CloseBrace s modes h = cond_both (is_braces (mode_of modes)) (drop 1 modes) modes AreOpened (λ _. drop_opened modes h) (λ _. h)
opened_after HereLit s [] h = tt
opened_after HereLit s (mode ∷ modes) h = read_opened s mode modes h
opened_after kind s modes h = h

within_length : (modes : List Mode) → length (clear_line_start modes) ≡ length modes
within_length [] = refl
within_length (Expression ∷ modes) = refl
within_length (Sequence ∷ modes) = refl
within_length (Braces ∷ modes) = refl
within_length (Quoted ∷ modes) = refl
within_length (Heredoc name at_line_start ∷ modes) = refl

depth_is : (kind : Kind) (s : List ℕ) (modes : List Mode) → is_allowed_in (mode_of modes) kind ≡ true → AreOpened modes → length (modes_after kind s modes) ≡ openings_after kind (length modes)
depth_is QuoteOpen s modes st h = omega arith
depth_is HereOpen s modes st h = omega arith
depth_is InterpOpen s modes st h = omega (arith, within_length modes)
depth_is DirectiveOpen s modes st h = omega (arith, within_length modes)
depth_is QuoteClose s modes st h = length-drop {A = Mode} 1 modes
depth_is HereClose s modes st h = length-drop {A = Mode} 1 modes
depth_is SeqClose s modes st h = length-drop {A = Mode} 1 modes
depth_is OpenBrace s [] st h = refl
depth_is OpenBrace s (Expression ∷ modes) st h = absurd h
depth_is OpenBrace s (Sequence ∷ modes) st h = omega arith
depth_is OpenBrace s (Braces ∷ modes) st h = omega arith
depth_is OpenBrace s (Quoted ∷ modes) st h = absurd (cc)
depth_is OpenBrace s (Heredoc name at_line_start ∷ modes) st h = absurd (cc)
depth_is CloseBrace s [] st h = refl
depth_is CloseBrace s (Expression ∷ modes) st h = absurd h
depth_is CloseBrace s (Sequence ∷ modes) st h = absurd (cc)
depth_is CloseBrace s (Braces ∷ modes) st h = omega arith
depth_is CloseBrace s (Quoted ∷ modes) st h = absurd (cc)
depth_is CloseBrace s (Heredoc name at_line_start ∷ modes) st h = absurd (cc)
depth_is HereLit s [] st h = refl
depth_is HereLit s (mode ∷ modes) st h = refl
depth_is kind s modes st h = refl

opened_after_pairs : (ps : List Pair) (modes : List Mode) → AreOpened modes → AreOpened (modes_after_pairs modes ps)
opened_after_pairs [] modes h = h
opened_after_pairs (p ∷ ps) modes h = opened_after_pairs ps (modes_after p.kind p.spelling modes) (opened_after p.kind p.spelling modes h)

allowed_after : (ps : List Pair) (q : Pair) (qs : List Pair) (modes : List Mode) (last : List ℕ) → FollowsFrom modes (ps ++ q ∷ qs) last [] → is_allowed_in (mode_of (modes_after_pairs modes ps)) q.kind ≡ true
allowed_after [] q qs modes last f = f.2.0
allowed_after (p ∷ ps) q qs modes last f = allowed_after ps q qs (modes_after p.kind p.spelling modes) last f.4

-- after one more token
pub depth_more : (tokenized : TokenizedText) (from at i depth : ℕ) (kind : Kind) → IsLineStart tokenized from at → from ≤ i → i < length tokenized.pairs → Some kind ≡ kind_of tokenized.pairs i
    → depth ≡ length (modes_after_pairs [] (slice_range tokenized.pairs from i)) → openings_after kind depth ≡ length (modes_after_pairs [] (slice_range tokenized.pairs from (i + 1)))
depth_more tokenized from at i depth kind f le within is so_far =
    let there = pair_there tokenized.pairs i within in
    let p : Pair = there.0 in
    let before : List Pair = slice_range tokenized.pairs from i in
    let rest : List Pair = drop (suc i) tokenized.pairs in
    let split : drop from tokenized.pairs ≡ before ++ p ∷ rest = drop_split tokenized.pairs from i le ∙ ap (λ (x : List Pair). before ++ x) (one_at tokenized.pairs i p there.1) in
    let follow : FollowsFrom [] (before ++ p ∷ rest) tokenized.last [] = subst (λ (x : List Pair). FollowsFrom [] x tokenized.last []) split f.rest.follow in
    let modes : List Mode = modes_after_pairs [] before in
    let one : length (modes_after p.kind p.spelling modes) ≡ openings_after p.kind (length modes) = depth_is p.kind p.spelling modes (allowed_after before p rest [] tokenized.last follow) (opened_after_pairs before [] tt) in
    let more : modes_after_pairs [] (slice_range tokenized.pairs from (i + 1)) ≡ modes_after p.kind p.spelling modes = ap (modes_after_pairs []) (range_more tokenized.pairs from i p le there.1) ∙ modes_more before p [] in
    ap₂ openings_after (sym (kind_is tokenized.pairs i p kind there.1 is)) so_far ∙ sym one ∙ ap length (sym more)

-- where none is open
pub none_open : (modes : List Mode) (depth : ℕ) → depth ≡ length modes → depth ≡ 0 → modes ≡ []
none_open [] depth e none = refl
none_open (mode ∷ modes) depth e none = absurd (omega arith)
