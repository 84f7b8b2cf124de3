-- The markers of the heredocs that are open are identifiers: each token keeps it so.
use Rattle.std.proofs.Common.{◌≡◌, ℕ, suc, ◌<◌, ◌≤◌, Bool, true, false, not, ◌||◌, ◌==◌, List, [], ◌∷◌, ◌++◌, length, take, drop, slice_index, refl, sym, ap, subst, ◌∙◌, ◌⊎◌, inl, inr, arith, take_at, codes}
use Rattle.std.proofs.lemmas.Bool.{cond_both, and_parts, cases_lt, ne_eqb}
use Rattle.std.proofs.lemmas.Bool.Decides.{nat_tests}
use Rattle.std.proofs.lemmas.Str.{encodes-chars, NoCharPasses-byte}
use Rattle.std.specs.Cmp.Derive.{both_true}
use Rattle.std.specs.List.{list_all, prefix_len}
use Rattle.std.specs.Str.{chars, NonePass}
use Rattle.unicode_ident.proofs.IdentLemmas.{is_xid_start-ascii, is_xid_continue-ascii}
use Rattle.hcl_token.specs.declared.kind.Kind.{Kind}
use Rattle.hcl_token.specs.declared.kind.Kind.TheVariants.{OpenBrace, CloseBrace, QuoteOpen, QuoteClose, HereOpen, HereClose, HereLit, InterpOpen, DirectiveOpen, SeqClose}
use Rattle.hcl_scan.specs.Characters.{is_id_start, is_id_continue}
use Rattle.hcl_scan.specs.Modes.{Mode, mode_of, is_in_sequence, is_braces, marker_of, after_literal, clear_line_start, modes_after}
use Rattle.hcl_scan.specs.Modes.Mode.{Expression, Sequence, Braces, Quoted, Heredoc}
use Rattle.hcl_scan.specs.Lexeme.{is_identifier, IsIdentifier, IsLineEnd, Spells}
use Rattle.hcl_scan.specs.Inner.Markers.{HasMarker}
use Rattle.hcl_scan.proofs.OpenMarkers.{HaveMarkers}
use Rattle.hcl_scan.proofs.HeredocLemmas.{prefix_adds, identifier_some}

-- ---- bytes that are in no identifier

all_bytes : (p : ℕ → Bool) (t : List ℕ) → ((i : ℕ) → i < length t → p (slice_index t i) ≡ true) → list_all p t ≡ true
all_bytes p [] each = refl
all_bytes p (b ∷ t) each = both_true (each 0 (omega arith)) (all_bytes p t (λ i h. each (suc i) (omega arith)))

module _ (p : ℕ → Bool)
    (ascii : (b : ℕ) → 128 ≤ b → p b ≡ false)
    (no_start : (b : ℕ) → b < 128 → is_id_start b ≡ true → p b ≡ false)
    (no_continue : (b : ℕ) → b < 128 → is_id_continue b ≡ true → p b ≡ false) where
  none_continue : (cs : List ℕ) → list_all is_id_continue cs ≡ true → NonePass p cs
  none_continue [] h = tt
  none_continue (c ∷ cs) h =
      let both = and_parts (is_id_continue c) (list_all is_id_continue cs) h in
      (elim (cases_lt c 128) [ inl low ↦ no_continue c low both.0 | inr high ↦ ascii c high ], none_continue cs both.1)

  none_in : (cs : List ℕ) → is_identifier cs ≡ true → NonePass p cs
  none_in [] h = absurd (cc)
  none_in (c ∷ cs) h =
      let both = and_parts (is_id_start c) (list_all is_id_continue cs) h in
      (elim (cases_lt c 128) [ inl low ↦ no_start c low both.0 | inr high ↦ ascii c high ], none_continue cs both.1)

  byte_of : (name : List ℕ) → IsIdentifier name → (i : ℕ) → i < length name → p (slice_index name i) ≡ false
  byte_of name (u, h) i within =
      elim (cases_lt (slice_index name i) 128) [
        | inl low ↦ NoCharPasses-byte p name i (chars name, encodes-chars name u, none_in (chars name) h) within low
        | inr high ↦ ascii (slice_index name i) high
      ]

  -- ASCII bytes that neither start nor continue an identifier
  pub identifier_avoids : (name : List ℕ) → IsIdentifier name → list_all (λ b. not (p b)) name ≡ true
  identifier_avoids name ident = all_bytes (λ b. not (p b)) name (λ i h. ap not (byte_of name ident i h))

-- ---- the marker of an opening

-- LF or CR
abbrev ends : ℕ → Bool
ends b = b == 10 || b == 13

ends_ascii : (b : ℕ) → 128 ≤ b → ends b ≡ false
ends_ascii b h = grind (arith, nat_tests)

ends_no_start : (b : ℕ) → b < 128 → is_id_start b ≡ true → ends b ≡ false
ends_no_start b low h = let e = rw (is_xid_start-ascii b low) at h in grind (arith, nat_tests)

ends_no_continue : (b : ℕ) → b < 128 → is_id_continue b ≡ true → ends b ≡ false
ends_no_continue b low h = let e = rw (is_xid_continue-ascii b low) at h in grind (arith, nat_tests)

-- before LF or CR
abbrev on_line : ℕ → Bool
on_line b = not (ends b)

-- an identifier is before the first LF or CR
identifier_line : (name : List ℕ) → IsIdentifier name → list_all on_line name ≡ true
identifier_line name ident = identifier_avoids ends ends_ascii ends_no_start ends_no_continue name ident

line_end_stops : (end : List ℕ) → IsLineEnd end → prefix_len on_line end ≡ 0
line_end_stops end (inl e) = rw e refl
line_end_stops end (inr e) = rw e refl

name_before : (name end : List ℕ) → IsIdentifier name → IsLineEnd end → take (prefix_len on_line (name ++ end)) (name ++ end) ≡ name
name_before name end ident line =
    let count : prefix_len on_line (name ++ end) ≡ length name =
    prefix_adds on_line name end (identifier_line name ident) ∙ omega (arith, line_end_stops end line) in
    rw count (take_at name end (length name) refl)

-- the marker is the one that the opening spells
pub marker_spelt : (dash name end : List ℕ) → (dash ≡ []) ⊎ (dash ≡ codes "-") → IsIdentifier name → IsLineEnd end
    → marker_of (codes "<<" ++ (dash ++ (name ++ end))) ≡ name
marker_spelt dash name end (inl e) ident line =
    let word = identifier_some name ident in
    let first : slice_index (name ++ end) 0 ≡ slice_index name 0 = mark_prefix name end word.0 in
    let no_dash : (slice_index (name ++ end) 0 == 45) ≡ false =
    ne_eqb (slice_index (name ++ end) 0) 45 (λ k. let b : ℕ = slice_index name 0 in let same : b ≡ 45 = sym first ∙ k in absurd (grind (arith, nat_tests))) in
    rw (e, no_dash) (name_before name end ident line)
  where
    mark_prefix : (xs ys : List ℕ) → 0 < length xs → slice_index (xs ++ ys) 0 ≡ slice_index xs 0
    mark_prefix [] ys h = absurd (omega arith)
    mark_prefix (x ∷ xs) ys h = refl
marker_spelt dash name end (inr e) ident line = rw e (name_before name end ident line)

-- ---- each token keeps it

drop_keeps : (modes : List Mode) → HaveMarkers modes → HaveMarkers (drop 1 modes)
drop_keeps [] h = tt
drop_keeps (mode ∷ modes) h = h.1

within_keeps : (modes : List Mode) → HaveMarkers modes → HaveMarkers (clear_line_start modes)
within_keeps [] h = tt
within_keeps (Heredoc name at_line_start ∷ modes) h = h
within_keeps (Expression ∷ modes) h = h
within_keeps (Sequence ∷ modes) h = h
within_keeps (Braces ∷ modes) h = h
within_keeps (Quoted ∷ modes) h = h

read_keeps : (piece : List ℕ) (mode : Mode) → HasMarker mode → HasMarker (after_literal piece mode)
read_keeps piece (Heredoc name at_line_start) h = h
read_keeps piece Expression h = h
read_keeps piece Sequence h = h
read_keeps piece Braces h = h
read_keeps piece Quoted h = h

pub markers_after : (kind : Kind) (s rest : List ℕ) (modes : List Mode) → Spells (mode_of modes) kind s rest → HaveMarkers modes → HaveMarkers (modes_after kind s modes)
markers_after QuoteOpen s rest modes spells h = (tt, h)
markers_after HereOpen s rest modes (dash, name, end, e, is, ident, line) h =
    (subst IsIdentifier (sym (ap marker_of e ∙ marker_spelt dash name end is ident line)) ident, h)
markers_after InterpOpen s rest modes spells h = (tt, within_keeps modes h)
markers_after DirectiveOpen s rest modes spells h = (tt, within_keeps modes h)
markers_after QuoteClose s rest modes spells h = drop_keeps modes h
markers_after HereClose s rest modes spells h = drop_keeps modes h
markers_after SeqClose s rest modes spells h = drop_keeps modes h
markers_after OpenBrace s rest modes spells h =
    cond_both (is_in_sequence (mode_of modes)) (Braces ∷ modes) modes HaveMarkers (λ _. (tt, h)) (λ _. h)
markers_after CloseBrace s rest modes spells h =
    cond_both (is_braces (mode_of modes)) (drop 1 modes) modes HaveMarkers (λ _. drop_keeps modes h) (λ _. h)
markers_after HereLit s rest [] spells h = tt
markers_after HereLit s rest (mode ∷ modes) spells h = (read_keeps s mode h.0, h.1)
markers_after kind s rest modes spells h = h

-- of the innermost opening
pub marker_of_mode : (modes : List Mode) → HaveMarkers modes → HasMarker (mode_of modes)
marker_of_mode [] h = tt
marker_of_mode (mode ∷ modes) h = h.0
