-- Going forward over the tokens gives the lines and the columns.
use Rattle.std.proofs.Common.{◌≡◌, ℕ, zero, suc, ◌+◌, true, false, List, [], ◌∷◌, ◌++◌, take, slice_get, Some, sum_by, count_by, ◌==◌, refl, sym, ap, ◌∙◌, arith}
use Rattle.std.specs.List.{list_any, concat}
use Rattle.std.proofs.lemmas.Bool.{and_parts, or_parts, or_right}
use Rattle.std.proofs.lemmas.List.Folds.{list_any-append}
use Rattle.std.proofs.lemmas.List.Sums.{sum_by-cons}
use Rattle.hcl_token.specs.declared.place.Place.{Place}
use Rattle.hcl_token.specs.Tokens.{Pair}
use Rattle.hcl_token.specs.Place.{clusters, is_lf, is_mark, counted_bytes, pieces_before, last_line, last_line_pieces, place_of}
use Rattle.hcl_token.specs.Inner.AsciiText.{is_ascii_without_cr}
use Rattle.hcl_token.specs.Inner.LineColumn.{place_after_piece, place_after_pair, place_after_pairs, first_place}
use Rattle.hcl_token.proofs.ClusterLemmas.{ascii-append, clusters-ascii, clusters-append}
use Rattle.hcl_token.proofs.LineLemmas.{count-append, count_none, count_some, last_line-none, last_line-append_some, last_line-append_none, any-append_none}

-- a place is its line and its column
pub place_is : (l l' c c' : ℕ) → l ≡ l' → c ≡ c' → let p : Place = record { line = l; column = c } in let q : Place = record { line = l'; column = c' } in p ≡ q
place_is l l' c c' e f = cc

-- the column after a piece, where it has no LF, and where it has one
pub column-none : (at : Place) (piece : List ℕ) → list_any is_lf piece ≡ false → (place_after_piece at piece).column ≡ at.column + clusters piece
column-none at piece h = rw (count_none piece h) refl

pub column-some : (at : Place) (piece : List ℕ) → list_any is_lf piece ≡ true → (place_after_piece at piece).column ≡ 1 + clusters (last_line piece)
column-some at piece h =
    let some : (count_by is_lf piece == 0) ≡ false = grind (arith, count_some piece h) in
    rw some refl

-- the place after consecutive pieces
abbrev pub after_pieces : Place → List (List ℕ) → Place
after_pieces at [] = at
after_pieces at (piece ∷ pieces) = after_pieces (place_after_piece at piece) pieces

pub line-pieces : (at : Place) (pieces : List (List ℕ)) → (after_pieces at pieces).line ≡ at.line + count_by is_lf (concat pieces)
line-pieces at [] = omega arith
line-pieces at (piece ∷ pieces) = omega (arith, line-pieces (place_after_piece at piece) pieces, count-append piece (concat pieces))

column-pieces_none : (at : Place) (pieces : List (List ℕ)) → list_any is_lf (concat pieces) ≡ false → (after_pieces at pieces).column ≡ at.column + sum_by clusters pieces
column-pieces_none at [] h = omega arith
column-pieces_none at (piece ∷ pieces) h =
    let parts = or_parts (list_any is_lf piece) (list_any is_lf (concat pieces)) (sym (list_any-append is_lf piece (concat pieces)) ∙ h) in
    omega (arith, column-pieces_none (place_after_piece at piece) pieces parts.1, column-none at piece parts.0, sum_by-cons clusters piece pieces)

pub column-pieces_some : (at : Place) (pieces : List (List ℕ)) → list_any is_lf (concat pieces) ≡ true → (after_pieces at pieces).column ≡ 1 + sum_by clusters (last_line_pieces pieces)
column-pieces_some at [] h = absurd (cc)
column-pieces_some at (piece ∷ pieces) h =
    elim (list_any is_lf (concat pieces)) as (λ v. list_any is_lf (concat pieces) ≡ v → (after_pieces at (piece ∷ pieces)).column ≡ 1 + sum_by clusters (last_line_pieces (piece ∷ pieces))) [
      | true ↦ λ e. rw e (column-pieces_some (place_after_piece at piece) pieces e)
      | false ↦ λ e.
          let any : list_any is_lf piece ≡ true = sym (any-append_none piece (concat pieces) e) ∙ h in
          rw e (omega (arith, column-pieces_none (place_after_piece at piece) pieces e, column-some at piece any, sum_by-cons clusters (last_line piece) pieces))
    ] refl

last_line_pieces-none : (pieces : List (List ℕ)) → list_any is_lf (concat pieces) ≡ false → last_line_pieces pieces ≡ pieces
last_line_pieces-none [] h = refl
last_line_pieces-none (piece ∷ pieces) h =
    let parts = or_parts (list_any is_lf piece) (list_any is_lf (concat pieces)) (sym (list_any-append is_lf piece (concat pieces)) ∙ h) in
    rw parts.1 (ap (λ (x : List ℕ). x ∷ pieces) (last_line-none piece parts.0))

-- from the start of the text on
column-start : (pieces : List (List ℕ)) → (after_pieces first_place pieces).column ≡ 1 + sum_by clusters (last_line_pieces pieces)
column-start pieces =
    elim (list_any is_lf (concat pieces)) as (λ v. list_any is_lf (concat pieces) ≡ v → (after_pieces first_place pieces).column ≡ 1 + sum_by clusters (last_line_pieces pieces)) [
      | true ↦ λ e. column-pieces_some first_place pieces e
      | false ↦ λ e. column-pieces_none first_place pieces e ∙ ap (λ x. 1 + sum_by clusters x) (sym (last_line_pieces-none pieces e))
    ] refl

-- an empty piece leaves the place as it is
pub place_after_piece-nil : (at : Place) → place_after_piece at [] ≡ at
place_after_piece-nil at = place_is _ _ _ _ (omega arith) (omega (arith, clusters-ascii [] refl))

pub place_after_pair-pieces : (at : Place) (p : Pair) → place_after_pair at p ≡ place_after_piece (place_after_piece at p.gap) (counted_bytes p)
place_after_pair-pieces at p =
    elim (is_mark p.kind) as (λ v. is_mark p.kind ≡ v → place_after_pair at p ≡ place_after_piece (place_after_piece at p.gap) (counted_bytes p)) [
      | true ↦ λ e. rw e (sym (place_after_piece-nil (place_after_piece at p.gap)))
      | false ↦ λ e. rw e refl
    ] refl

place_after_pairs-pieces : (at : Place) (pairs : List Pair) (i : ℕ) (p : Pair) → slice_get pairs i ≡ Some p → place_after_piece (place_after_pairs at (take i pairs)) p.gap ≡ after_pieces at (pieces_before pairs i)
place_after_pairs-pieces at [] i p h = absurd (cc)
place_after_pairs-pieces at (q ∷ pairs) zero p h =
    let same : q ≡ p = cc in
    ap (λ (x : Pair). place_after_piece at x.gap) (sym same)
place_after_pairs-pieces at (q ∷ pairs) (suc i) p h =
    place_after_pairs-pieces (place_after_pair at q) pairs i p h ∙ ap (λ (x : Place). after_pieces x (pieces_before pairs i)) (place_after_pair-pieces at q)

-- after the gap of a token, from the start of the text, is its place
pub place_found : (pairs : List Pair) (i : ℕ) (p : Pair) → slice_get pairs i ≡ Some p → place_after_piece (place_after_pairs first_place (take i pairs)) p.gap ≡ place_of pairs i
place_found pairs i p h =
    let pieces : List (List ℕ) = pieces_before pairs i in
    place_after_pairs-pieces first_place pairs i p h ∙ place_is _ _ _ _ (line-pieces first_place pieces) (column-start pieces)

-- the last line goes on over a second piece without an LF
ascii_parts : (s t : List ℕ) → list_any is_lf t ≡ false → is_ascii_without_cr (last_line (s ++ t)) ≡ true → (is_ascii_without_cr (last_line s) ≡ true) × (is_ascii_without_cr t ≡ true)
ascii_parts s t e plain = and_parts (is_ascii_without_cr (last_line s)) (is_ascii_without_cr t) (sym (ascii-append (last_line s) t) ∙ ap is_ascii_without_cr (sym (last_line-append_none s t e)) ∙ plain)

-- where the last line of two pieces is plain, that of the second is
pub ascii_last_line : (s t : List ℕ) → is_ascii_without_cr (last_line (s ++ t)) ≡ true → is_ascii_without_cr (last_line t) ≡ true
ascii_last_line s t plain =
    elim (list_any is_lf t) as (λ v. list_any is_lf t ≡ v → is_ascii_without_cr (last_line t) ≡ true) [
      | true ↦ λ e. ap is_ascii_without_cr (sym (last_line-append_some s t e)) ∙ plain
      | false ↦ λ e. ap is_ascii_without_cr (last_line-none t e) ∙ (ascii_parts s t e plain).1
    ] refl

column-append_none : (at : Place) (s t : List ℕ) → list_any is_lf t ≡ false → is_ascii_without_cr (last_line (s ++ t)) ≡ true → (place_after_piece at s).column + clusters t ≡ (place_after_piece at (s ++ t)).column
column-append_none at s t e plain =
    let same : list_any is_lf (s ++ t) ≡ list_any is_lf s = any-append_none s t e in
    let parts = ascii_parts s t e plain in
    let both = clusters-append (last_line s) t parts.0 parts.1 in
    elim (list_any is_lf s) as (λ v. list_any is_lf s ≡ v → (place_after_piece at s).column + clusters t ≡ (place_after_piece at (s ++ t)).column) [
      | true ↦ λ any. omega (arith, column-some at s any, column-some at (s ++ t) (same ∙ any), ap clusters (last_line-append_none s t e), both)
      | false ↦ λ none.
          let whole : last_line s ≡ s = last_line-none s none in
          omega (arith, column-none at s none, column-none at (s ++ t) (same ∙ none), both, ap clusters whole, ap (λ x. clusters (x ++ t)) whole)
    ] refl

-- two pieces are as one if their last line is plain
pub place_after_piece-append : (at : Place) (s t : List ℕ) → is_ascii_without_cr (last_line (s ++ t)) ≡ true → place_after_piece (place_after_piece at s) t ≡ place_after_piece at (s ++ t)
place_after_piece-append at s t plain =
    place_is _ _ _ _
    (omega (arith, count-append s t))
    (elim (list_any is_lf t) as (λ v. list_any is_lf t ≡ v → (place_after_piece (place_after_piece at s) t).column ≡ (place_after_piece at (s ++ t)).column) [
      | true ↦ λ e.
          let any : list_any is_lf (s ++ t) ≡ true = list_any-append is_lf s t ∙ or_right (list_any is_lf s) (list_any is_lf t) e in
          column-some (place_after_piece at s) t e ∙ ap (λ x. 1 + clusters x) (sym (last_line-append_some s t e)) ∙ sym (column-some at (s ++ t) any)
      | false ↦ λ e. column-none (place_after_piece at s) t e ∙ column-append_none at s t e plain
    ] refl)
