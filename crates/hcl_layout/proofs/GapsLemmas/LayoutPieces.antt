-- The layout in pieces: which texts its edits turn into each other, and what `make` answers about them.
use Rattle.std.proofs.Common.{◌≡◌, ℕ, ◌+◌, ◌≤◌, ◌<◌, Bool, true, false, List, [], ◌∷◌, ◌++◌, length, Result, Ok, Err, if◌then◌else◌, refl, sym, ap, ap₂, subst, ◌∙◌, arith, nat_lt}
use Rattle.std.specs.Str.{bytes_eq}
use Rattle.std.proofs.lemmas.Bool.{and_parts, ltb-true, false≢true}
use Rattle.std.proofs.lemmas.List.{append-nil}
use Rattle.std.proofs.lemmas.Slice.Eq.{bytes_eq-Decides}
use Rattle.edit_record.specs.Lists.Pieces.{EditEntry, EditList, Piece, Transforms, old_text, new_text, changed_entries}
use Rattle.edit_record.specs.Lists.Pieces.Piece.{Kept, Changed}
use Rattle.edit_record.specs.Lists.Validity.{make_edits}
use Rattle.edit_record.specs.Lists.PieceEdits.{ChangesAreNonempty, PiecesMakeValidEdits}
use Rattle.edit_record.specs.declared.lists.edits.TheConstants.{MAX_TEXT}
use Rattle.edit_record.specs.declared.lists.edit.BadEdits.{BadEdits}
use Rattle.edit_record.specs.declared.lists.edit.BadEdits.TheVariants.{TooLong}
use Rattle.hcl_scan.specs.Tokenization.{IsTokenization}
use Rattle.hcl_token.specs.TokenizedText.{TokenizedText}
use Rattle.hcl_token.specs.Tokens.{Pair, whole_text}
use Rattle.hcl_token.specs.Place.{is_mark}
use Rattle.hcl_layout.specs.Gaps.Layout.{gap_piece, pieces, layout_pairs, layout_body, layout_text, layout_edits}
use Rattle.hcl_layout.specs.Gaps.Inner.Stages.{unchanged}
use Rattle.hcl_layout.proofs.GapsLemmas.TokensKept.{SameTokens, body_tokens, body_again}

pub same_is : (old new : List ℕ) → bytes_eq old new ≡ true → old ≡ new
same_is old new = (bytes_eq-Decides old new).0

pub same_self_bytes : (old : List ℕ) → bytes_eq old old ≡ true
same_self_bytes old = (bytes_eq-Decides old old).1 refl

not_both_empty : (old new : List ℕ) → bytes_eq old new ≡ false → 0 < length old + length new
not_both_empty [] [] h = absurd (false≢true (sym h))
not_both_empty [] (b ∷ new) h = omega arith
not_both_empty (a ∷ old) new h = omega arith

gap_changes : (old new : List ℕ) (ps : List Piece) → ChangesAreNonempty ps → ChangesAreNonempty (gap_piece old new ∷ ps)
gap_changes old new ps h = elim (bytes_eq old new) as (λ b. bytes_eq old new ≡ b → ChangesAreNonempty ((if b then Kept old else Changed old new) ∷ ps)) [ true ↦ λ e. h | false ↦ λ e. (not_both_empty old new e, h) ] refl

gap_old : (old new : List ℕ) (ps : List Piece) → old_text (gap_piece old new ∷ ps) ≡ old ++ old_text ps
gap_old old new ps = elim (bytes_eq old new) as (λ b. old_text ((if b then Kept old else Changed old new) ∷ ps) ≡ old ++ old_text ps) [ true ↦ refl | false ↦ refl ]

gap_new : (old new : List ℕ) (ps : List Piece) → new_text (gap_piece old new ∷ ps) ≡ new ++ new_text ps
gap_new old new ps = elim (bytes_eq old new) as (λ b. bytes_eq old new ≡ b → new_text ((if b then Kept old else Changed old new) ∷ ps) ≡ new ++ new_text ps) [
  | true ↦ λ e. ap (λ (t : List ℕ). t ++ new_text ps) (same_is old new e)
  | false ↦ λ e. refl
] refl

pub pieces_change : (ps qs : List Pair) (last : List ℕ) → SameTokens qs ps → ChangesAreNonempty (pieces ps qs last)
pieces_change [] [] last h = gap_changes last [] [] tt
pieces_change [] (q ∷ qs) last h = absurd h
pieces_change (p ∷ ps) [] last h = absurd h
pieces_change (p ∷ ps) (q ∷ qs) last h = gap_changes p.gap q.gap (Kept p.spelling ∷ pieces ps qs last) (pieces_change ps qs last h.2)

pub pieces_old : (ps qs : List Pair) (last : List ℕ) → SameTokens qs ps → old_text (pieces ps qs last) ≡ whole_text ps last
pieces_old [] [] last h = gap_old last [] [] ∙ append-nil last
pieces_old [] (q ∷ qs) last h = absurd h
pieces_old (p ∷ ps) [] last h = absurd h
pieces_old (p ∷ ps) (q ∷ qs) last h = gap_old p.gap q.gap (Kept p.spelling ∷ pieces ps qs last) ∙ ap (λ t. p.gap ++ (p.spelling ++ t)) (pieces_old ps qs last h.2)

pub pieces_new : (ps qs : List Pair) (last : List ℕ) → SameTokens qs ps → new_text (pieces ps qs last) ≡ whole_text qs []
pieces_new [] [] last h = gap_new last [] []
pieces_new [] (q ∷ qs) last h = absurd h
pieces_new (p ∷ ps) [] last h = absurd h
pieces_new (p ∷ ps) (q ∷ qs) last h =
    gap_new p.gap q.gap (Kept p.spelling ∷ pieces ps qs last) ∙ ap₂ (λ (s : List ℕ) (t : List ℕ). q.gap ++ (s ++ t)) (sym h.1) (pieces_new ps qs last h.2)

-- what `make` answers of the pieces of a text
abbrev pub PiecesAreMade : Type 0
PiecesAreMade = (ps : List Piece) → ChangesAreNonempty ps → length (old_text ps) ≤ MAX_TEXT → PiecesMakeValidEdits ps

-- ---- the layout of a text

layout_tokens_if : (p : Pair) (ps : List Pair) (b : Bool) → SameTokens (if b then p ∷ layout_body ps else layout_body (p ∷ ps)) (p ∷ ps)
layout_tokens_if p ps true = (refl, refl, body_tokens ps)
layout_tokens_if p ps false = body_tokens (p ∷ ps)

-- the layout keeps the tokens
pub layout_tokens : (pairs : List Pair) → SameTokens (layout_pairs pairs) pairs
layout_tokens [] = tt
layout_tokens (p ∷ ps) = layout_tokens_if p ps (is_mark p.kind)

unmarked : (p : Pair) (ps qs : List Pair) → is_mark p.kind ≡ false → SameTokens qs (p ∷ ps) → layout_pairs qs ≡ layout_body qs
unmarked p ps [] e h = absurd h
unmarked p ps (q ∷ qs) e h = let other : is_mark q.kind ≡ false = ap is_mark h.0 ∙ e in rw other refl

again_if : (p : Pair) (ps : List Pair) (b : Bool) → is_mark p.kind ≡ b → layout_pairs (if b then p ∷ layout_body ps else layout_body (p ∷ ps)) ≡ (if b then p ∷ layout_body ps else layout_body (p ∷ ps))
again_if p ps true e = rw e (ap (λ qs. p ∷ qs) (body_again ps))
again_if p ps false e = unmarked p ps (layout_body (p ∷ ps)) e (body_tokens (p ∷ ps)) ∙ body_again (p ∷ ps)

-- and a layout is its own layout
pub layout_again : (pairs : List Pair) → layout_pairs (layout_pairs pairs) ≡ layout_pairs pairs
layout_again [] = refl
layout_again (p ∷ ps) = again_if p ps (is_mark p.kind) refl

pub layout_turns : (tokenized : TokenizedText) → IsTokenization tokenized.text tokenized.pairs tokenized.last → Transforms (layout_edits tokenized) tokenized.text (layout_text tokenized)
layout_turns tokenized is = record {
  len = refl;
  pieces = pieces tokenized.pairs (layout_pairs tokenized.pairs) tokenized.last;
  old_is = pieces_old tokenized.pairs (layout_pairs tokenized.pairs) tokenized.last (layout_tokens tokenized.pairs) ∙ sym is.tokenizes.text_is;
  new_is = pieces_new tokenized.pairs (layout_pairs tokenized.pairs) tokenized.last (layout_tokens tokenized.pairs);
  edits_are = refl;
}

IsMade : (old new : List ℕ) (es : List EditEntry) → Type 0
IsMade old new es = make_edits (length old) es ≡ (if nat_lt MAX_TEXT (length new) then Err TooLong else Ok (record { old_len = length old; entries = es }))

made_from : PiecesAreMade → (ps : List Piece) (old new : List ℕ) → ChangesAreNonempty ps → old_text ps ≡ old → new_text ps ≡ new → length (old_text ps) ≤ MAX_TEXT → IsMade old new (changed_entries 0 ps)
unfolding IsMade
made_from pieces_make ps old new are o n short =
    let whole : IsMade (old_text ps) (new_text ps) (changed_entries 0 ps) = pieces_make ps are short in
    let P : List ℕ → Type 0 = λ t. IsMade t (new_text ps) (changed_entries 0 ps) in
    let Q : List ℕ → Type 0 = λ t. IsMade old t (changed_entries 0 ps) in
    subst Q n (subst P o whole)

-- what `make` answers about the edits of the layout
pub layout_made : PiecesAreMade → (tokenized : TokenizedText) → IsTokenization tokenized.text tokenized.pairs tokenized.last
    → make_edits (length tokenized.text) (layout_edits tokenized).entries ≡ (if nat_lt MAX_TEXT (length (layout_text tokenized)) then Err TooLong else Ok (layout_edits tokenized))
unfolding IsMade
layout_made pieces_make tokenized is =
    let ps : List Piece = pieces tokenized.pairs (layout_pairs tokenized.pairs) tokenized.last in
    let old : old_text ps ≡ tokenized.text = pieces_old tokenized.pairs (layout_pairs tokenized.pairs) tokenized.last (layout_tokens tokenized.pairs) ∙ sym is.tokenizes.text_is in
    let short : length (old_text ps) ≤ MAX_TEXT = omega (arith, ap length old, is.short) in
    made_from pieces_make ps tokenized.text (layout_text tokenized) (pieces_change tokenized.pairs (layout_pairs tokenized.pairs) tokenized.last (layout_tokens tokenized.pairs)) old (pieces_new tokenized.pairs (layout_pairs tokenized.pairs) tokenized.last (layout_tokens tokenized.pairs)) short

-- ---- what is known of the results of calls

answer_if : (over : Bool) (list : EditList) (answer : Result EditList BadEdits) (k : ℕ) → nat_lt MAX_TEXT k ≡ over → answer ≡ (if over then Err TooLong else Ok list)
    → elim answer as (λ r. Type 0) [ Ok e ↦ e ≡ list | Err e ↦ MAX_TEXT < k ]
answer_if true list answer k is same = rw same (ltb-true MAX_TEXT k is)
answer_if false list answer k is same = rw same refl

pub made_list : PiecesAreMade → (tokenized : TokenizedText) (answer : Result EditList BadEdits) → IsTokenization tokenized.text tokenized.pairs tokenized.last → make_edits (length tokenized.text) (layout_edits tokenized).entries ≡ answer
    → elim answer as (λ r. Type 0) [ Ok e ↦ e ≡ layout_edits tokenized | Err e ↦ MAX_TEXT < length (layout_text tokenized) ]
made_list pieces_make tokenized answer is same = answer_if (nat_lt MAX_TEXT (length (layout_text tokenized))) (layout_edits tokenized) answer (length (layout_text tokenized)) refl (sym same ∙ layout_made pieces_make tokenized is)

-- what is read of the call of `make`
pub read_made : (text read : List ℕ) (es given : List EditEntry) (answer other : Result EditList BadEdits)
    → answer ≡ make_edits (length read) given → read ≡ text → given ≡ es → answer ≡ other → make_edits (length text) es ≡ other
read_made text read es given answer other called t e is = sym (ap (λ x. make_edits (length x) given) t ∙ ap (make_edits (length text)) e) ∙ (sym called ∙ is)

pub unchanged_is : (ps qs : List Pair) (last : List ℕ) → SameTokens qs ps → unchanged ps qs last ≡ true → (qs ≡ ps) × (last ≡ [])
unchanged_is [] [] last h k = (refl, same_is last [] k)
unchanged_is [] (q ∷ qs) last h k = absurd h
unchanged_is (p ∷ ps) [] last h k = absurd h
unchanged_is (p ∷ ps) (q ∷ qs) last h k =
    let both = and_parts (bytes_eq p.gap q.gap) (unchanged ps qs last) k in
    let rest = unchanged_is ps qs last h.2 both.1 in
    let gap : q.gap ≡ p.gap = sym (same_is p.gap q.gap both.0) in
    let one : q ≡ p = ap₂ (λ k s. record { gap = q.gap; kind = k; spelling = s }) h.0 h.1 ∙ ap (λ g. record { gap = g; kind = p.kind; spelling = p.spelling }) gap in
    (ap₂ (λ (x : Pair) (xs : List Pair). x ∷ xs) one rest.0, rest.1)

unchanged_self : (ps : List Pair) → unchanged ps ps [] ≡ true
unchanged_self [] = refl
unchanged_self (p ∷ ps) = rw (same_self_bytes p.gap) (unchanged_self ps)

pub is_unchanged : (ps qs : List Pair) (last : List ℕ) → qs ≡ ps → last ≡ [] → unchanged ps qs last ≡ true
is_unchanged ps qs last h k = ap₂ (λ (x : List Pair) (l : List ℕ). unchanged ps x l) h k ∙ unchanged_self ps
