-- Below a heredoc no literal text is open: it opens outside of literal text alone.
use Rattle.std.proofs.Common.{◌≡◌, true, false, List, [], ◌∷◌, drop, ℕ}
use Rattle.std.proofs.lemmas.Bool.{cond_both, not-true}
use Rattle.hcl_token.specs.declared.kind.Kind.{Kind}
use Rattle.hcl_token.specs.declared.kind.Kind.TheVariants.{OpenBrace, CloseBrace, QuoteOpen, QuoteClose, HereOpen, HereClose, HereLit, InterpOpen, DirectiveOpen, SeqClose}
use Rattle.hcl_scan.specs.Modes.{Mode, mode_of, is_literal, is_in_sequence, is_braces, after_literal, clear_line_start, modes_after}
use Rattle.hcl_scan.specs.Modes.Mode.{Expression, Sequence, Braces, Quoted, Heredoc}
use Rattle.hcl_scan.specs.Lexeme.{is_allowed_in}

abbrev pub AreNested : List Mode → Type 0
AreNested [] = Unit {0}
AreNested (Heredoc name at_line_start ∷ modes) = (is_literal (mode_of modes) ≡ false) × AreNested modes
AreNested (mode ∷ modes) = AreNested modes

below : (mode : Mode) (modes : List Mode) → AreNested (mode ∷ modes) → AreNested modes
below Expression modes h = h
below Sequence modes h = h
below Braces modes h = h
below Quoted modes h = h
below (Heredoc name at_line_start) modes h = h.1

drop_keeps : (modes : List Mode) → AreNested modes → AreNested (drop 1 modes)
drop_keeps [] h = tt
drop_keeps (mode ∷ modes) h = below mode modes h

within_keeps : (modes : List Mode) → AreNested modes → AreNested (clear_line_start modes)
within_keeps [] h = tt
within_keeps (Heredoc name at_line_start ∷ modes) h = h
within_keeps (Expression ∷ modes) h = h
within_keeps (Sequence ∷ modes) h = h
within_keeps (Braces ∷ modes) h = h
within_keeps (Quoted ∷ modes) h = h

read_keeps : (piece : List ℕ) (mode : Mode) (modes : List Mode) → AreNested (mode ∷ modes) → AreNested (after_literal piece mode ∷ modes)
read_keeps piece (Heredoc name at_line_start) modes h = h
read_keeps piece Expression modes h = h
read_keeps piece Sequence modes h = h
read_keeps piece Braces modes h = h
read_keeps piece Quoted modes h = h

pub nested_after : (kind : Kind) (s : List ℕ) (modes : List Mode) → is_allowed_in (mode_of modes) kind ≡ true → AreNested modes → AreNested (modes_after kind s modes)
nested_after QuoteOpen s modes st h = h
nested_after HereOpen s modes st h = (not-true (is_literal (mode_of modes)) st, h)
nested_after InterpOpen s modes st h = within_keeps modes h
nested_after DirectiveOpen s modes st h = within_keeps modes h
nested_after QuoteClose s modes st h = drop_keeps modes h
nested_after HereClose s modes st h = drop_keeps modes h
nested_after SeqClose s modes st h = drop_keeps modes h
nested_after OpenBrace s modes st h = cond_both (is_in_sequence (mode_of modes)) (Braces ∷ modes) modes AreNested (λ _. h) (λ _. h)
nested_after CloseBrace s modes st h = cond_both (is_braces (mode_of modes)) (drop 1 modes) modes AreNested (λ _. drop_keeps modes h) (λ _. h)
nested_after HereLit s [] st h = tt
nested_after HereLit s (mode ∷ modes) st h = read_keeps s mode modes h
nested_after kind s modes st h = h
