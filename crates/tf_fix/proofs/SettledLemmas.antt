-- Settling parts: piece by piece, and where nothing is to be settled.
use Rattle.std.proofs.Common.{◌≡◌, ℕ, ◌-◌, Bool, true, false, List, [], ◌∷◌, ◌++◌, length, take, drop, slice_range, Some, None, if◌then◌else◌, refl, sym, ap, subst, ◌∙◌, append_assoc}
use Rattle.std.proofs.lemmas.List.{append-nil, take-append-drop}
use Rattle.std.proofs.lemmas.List.Folds.{drop_split}
use Rattle.edit_record.specs.Lists.Pieces.{old_text, new_text}
use Rattle.hcl_token.specs.declared.kind.Kind.{Kind}
use Rattle.hcl_token.specs.Tokens.{Pair, whole_text}
use Rattle.hcl_scan.specs.Follows.{IsApart, AreApart}
use Rattle.tf_fix.specs.Edits.Parts.{TextPart, parts_of, text_of_parts}
use Rattle.tf_fix.specs.Edits.Parts.TextPart.{Gap, Token}
use Rattle.tf_fix.specs.JoinedTokens.{Prev, joins_prev, one_space}
use Rattle.tf_fix.specs.Edits.SettledSpaces.{prev_of_parts, settled, is_glued}
use Rattle.tf_fix.specs.Edits.Replacements.{Replacement, AreReplacementsInOrder, replaced_from, replaced_text, stays_until, space_before, pieces_from, replaced_pieces}

pub written-append : (xs ys : List TextPart) → text_of_parts (xs ++ ys) ≡ text_of_parts xs ++ text_of_parts ys
written-append [] ys = refl
written-append (Gap b ∷ xs) ys = ap (λ t. b ++ t) (written-append xs ys) ∙ sym (append_assoc b (text_of_parts xs) (text_of_parts ys))
written-append (Token k s ∷ xs) ys = ap (λ t. s ++ t) (written-append xs ys) ∙ sym (append_assoc s (text_of_parts xs) (text_of_parts ys))

pub after-append : (prev : Prev) (xs ys : List TextPart) → prev_of_parts prev (xs ++ ys) ≡ prev_of_parts (prev_of_parts prev xs) ys
after-append prev [] ys = refl
after-append prev (Gap [] ∷ xs) ys = after-append prev xs ys
after-append prev (Gap (b ∷ g) ∷ xs) ys = after-append None xs ys
after-append prev (Token k s ∷ xs) ys = after-append (Some (k, s)) xs ys

settled_if : (met : Bool) (k : Kind) (s : List ℕ) (all leading back : List TextPart) → all ≡ leading ++ back
    → (if met then Gap one_space ∷ Token k s ∷ all else Token k s ∷ all) ≡ (if met then Gap one_space ∷ Token k s ∷ leading else Token k s ∷ leading) ++ back
settled_if true k s all leading back e = ap (λ t. Gap one_space ∷ Token k s ∷ t) e
settled_if false k s all leading back e = ap (λ t. Token k s ∷ t) e

pub settled-append : (prev : Prev) (xs ys : List TextPart) → settled prev (xs ++ ys) ≡ settled prev xs ++ settled (prev_of_parts prev xs) ys
settled-append prev [] ys = refl
settled-append prev (Gap [] ∷ xs) ys = ap (λ t. Gap [] ∷ t) (settled-append prev xs ys)
settled-append prev (Gap (b ∷ g) ∷ xs) ys = ap (λ t. Gap (b ∷ g) ∷ t) (settled-append None xs ys)
settled-append prev (Token k s ∷ xs) ys = settled_if (joins_prev prev k s) k s _ _ _ (settled-append (Some (k, s)) xs ys)

-- ---- where nothing joins

-- no two tokens that join have nothing between them
abbrev pub Apart : Prev → List TextPart → Type 0
Apart prev [] = Unit {0}
Apart prev (Gap [] ∷ parts) = Apart prev parts
Apart prev (Gap (b ∷ bytes) ∷ parts) = Apart None parts
Apart prev (Token kind spelling ∷ parts) = (joins_prev prev kind spelling ≡ false) × Apart (Some (kind, spelling)) parts

pub apart_alone : (prev : Prev) (xs : List TextPart) → Apart prev xs → Apart None xs
apart_alone prev [] a = tt
apart_alone prev (Gap [] ∷ xs) a = apart_alone prev xs a
apart_alone prev (Gap (b ∷ g) ∷ xs) a = a
apart_alone prev (Token k s ∷ xs) a = (refl, a.1)

pub apart_parts : (prev : Prev) (xs ys : List TextPart) → Apart prev (xs ++ ys) → Apart prev xs × Apart (prev_of_parts prev xs) ys
apart_parts prev [] ys a = (tt, a)
apart_parts prev (Gap [] ∷ xs) ys a = apart_parts prev xs ys a
apart_parts prev (Gap (b ∷ g) ∷ xs) ys a = apart_parts None xs ys a
apart_parts prev (Token k s ∷ xs) ys a = let both = apart_parts (Some (k, s)) xs ys a.1 in ((a.0, both.0), both.1)

pub apart_join : (prev : Prev) (xs ys : List TextPart) → Apart prev xs → Apart (prev_of_parts prev xs) ys → Apart prev (xs ++ ys)
apart_join prev [] ys a b = b
apart_join prev (Gap [] ∷ xs) ys a b = apart_join prev xs ys a b
apart_join prev (Gap (c ∷ g) ∷ xs) ys a b = apart_join None xs ys a b
apart_join prev (Token k s ∷ xs) ys a b = (a.0, apart_join (Some (k, s)) xs ys a.1 b)

pub apart_take : (n : ℕ) (xs : List TextPart) → Apart None xs → Apart None (take n xs)
apart_take n xs a = (apart_parts None (take n xs) (drop n xs) (subst (Apart None) (sym (take-append-drop n xs)) a)).0

pub apart_drop : (n : ℕ) (xs : List TextPart) → Apart None xs → Apart None (drop n xs)
apart_drop n xs a =
    apart_alone (prev_of_parts None (take n xs)) (drop n xs) (apart_parts None (take n xs) (drop n xs) (subst (Apart None) (sym (take-append-drop n xs)) a)).1

pub apart_range : (from to : ℕ) (xs : List TextPart) → Apart None xs → Apart None (slice_range xs from to)
apart_range from to xs a = apart_take (to - from) (drop from xs) (apart_drop from xs a)

pub stays_same : (prev : Prev) (xs : List TextPart) → Apart prev xs → settled prev xs ≡ xs
stays_same prev [] a = refl
stays_same prev (Gap [] ∷ xs) a = ap (λ t. Gap [] ∷ t) (stays_same prev xs a)
stays_same prev (Gap (b ∷ g) ∷ xs) a = ap (λ t. Gap (b ∷ g) ∷ t) (stays_same None xs a)
stays_same prev (Token k s ∷ xs) a = rw a.0 (ap (λ t. Token k s ∷ t) (stays_same (Some (k, s)) xs a.1))

stretch_if : (met : Bool) (k : Kind) (s : List ℕ) (rest same : List TextPart) → rest ≡ same
    → text_of_parts (if met then Gap one_space ∷ Token k s ∷ rest else Token k s ∷ rest) ≡ (if met then one_space else []) ++ (s ++ text_of_parts same)
stretch_if true k s rest same e = ap (λ t. one_space ++ (s ++ text_of_parts t)) e
stretch_if false k s rest same e = ap (λ t. s ++ text_of_parts t) e

-- what stays, after any neighbor: a space more at most, right at its start
pub stretch_settled : (prev : Prev) (xs : List TextPart) → Apart None xs → text_of_parts (settled prev xs) ≡ space_before prev xs ++ text_of_parts xs
stretch_settled prev [] a = refl
stretch_settled prev (Gap [] ∷ xs) a = stretch_settled prev xs a
stretch_settled prev (Gap (b ∷ g) ∷ xs) a = ap (λ t. (b ∷ g) ++ text_of_parts t) (stays_same None xs a)
stretch_settled prev (Token k s ∷ xs) a = stretch_if (joins_prev prev k s) k s _ xs (stays_same (Some (k, s)) xs a.1)

-- ---- the pieces are the text before and after

pub pieces_old : (prev : Prev) (at : ℕ) (xs : List TextPart) (rs : List Replacement) → AreReplacementsInOrder at rs (length xs)
    → old_text (pieces_from prev at xs rs) ≡ text_of_parts (drop at xs)
pieces_old prev at xs [] o = append-nil (text_of_parts (drop at xs))
pieces_old prev at xs (r ∷ rs) o =
    let stay = slice_range xs at r.from in
    let slice_written = slice_range xs r.from r.to in
    let rest = pieces_old (prev_of_parts (prev_of_parts prev stay) r.inserted_parts) r.to xs rs o.2 in
    let inner : drop r.from xs ≡ slice_written ++ drop r.to xs = drop_split xs r.from r.to o.1 in
    let outer : drop at xs ≡ stay ++ drop r.from xs = drop_split xs at r.from o.0 in
    ap (λ t. text_of_parts stay ++ (text_of_parts slice_written ++ t)) rest
    ∙ ap (λ t. text_of_parts stay ++ t) (sym (ap text_of_parts inner ∙ written-append slice_written (drop r.to xs)))
    ∙ sym (ap text_of_parts outer ∙ written-append stay (drop r.from xs))

pub pieces_new : (prev : Prev) (at : ℕ) (xs : List TextPart) (rs : List Replacement) → Apart None xs
    → space_before prev (stays_until at xs rs) ++ new_text (pieces_from prev at xs rs) ≡ text_of_parts (settled prev (replaced_from at xs rs))
pieces_new prev at xs [] a =
    ap (λ t. space_before prev (drop at xs) ++ t) (append-nil (text_of_parts (drop at xs))) ∙ sym (stretch_settled prev (drop at xs) (apart_drop at xs a))
pieces_new prev at xs (r ∷ rs) a =
    let stay = slice_range xs at r.from in
    let there = prev_of_parts prev stay in
    let following = prev_of_parts there r.inserted_parts in
    let more = replaced_from r.to xs rs in
    let leading = space_before prev stay in
    let inserted_text = text_of_parts (settled there r.inserted_parts) in
    let gap = space_before following (stays_until r.to xs rs) in
    let news = new_text (pieces_from following r.to xs rs) in
    let rest : gap ++ news ≡ text_of_parts (settled following more) = pieces_new following r.to xs rs a in
    let kept : text_of_parts (settled prev stay) ≡ leading ++ text_of_parts stay = stretch_settled prev stay (apart_range at r.from xs a) in
    let first : text_of_parts (settled prev (stay ++ (r.inserted_parts ++ more))) ≡ text_of_parts (settled prev stay) ++ text_of_parts (settled there (r.inserted_parts ++ more)) =
    ap text_of_parts (settled-append prev stay (r.inserted_parts ++ more)) ∙ written-append (settled prev stay) _ in
    let second : text_of_parts (settled there (r.inserted_parts ++ more)) ≡ inserted_text ++ text_of_parts (settled following more) =
    ap text_of_parts (settled-append there r.inserted_parts more) ∙ written-append (settled there r.inserted_parts) _ in
    ap (λ t. leading ++ (text_of_parts stay ++ t)) (append_assoc inserted_text gap news ∙ ap (λ t. inserted_text ++ t) rest ∙ sym second)
    ∙ sym (append_assoc leading (text_of_parts stay) _)
    ∙ ap (λ t. t ++ text_of_parts (settled there (r.inserted_parts ++ more))) (sym kept)
    ∙ sym first

no_neighbour : (xs : List TextPart) → is_glued None xs ≡ false
no_neighbour [] = refl
no_neighbour (Gap [] ∷ xs) = no_neighbour xs
no_neighbour (Gap (b ∷ g) ∷ xs) = refl
no_neighbour (Token k s ∷ xs) = refl

pub replaced_is : (xs : List TextPart) (rs : List Replacement) → Apart None xs → new_text (replaced_pieces xs rs) ≡ replaced_text xs rs
replaced_is xs rs a =
    let none : space_before None (stays_until 0 xs rs) ≡ [] = rw (no_neighbour (stays_until 0 xs rs)) refl in
    ap (λ t. t ++ new_text (replaced_pieces xs rs)) (sym none) ∙ pieces_new None 0 xs rs a

-- ---- the parts of a text

pub parts_written : (pairs : List Pair) (last : List ℕ) → text_of_parts (parts_of pairs last) ≡ whole_text pairs last
parts_written [] last = append-nil last
parts_written (p ∷ ps) last = ap (λ t. p.gap ++ (p.spelling ++ t)) (parts_written ps last)

apart_pair : (prev : Prev) (gap : List ℕ) (k : Kind) (s : List ℕ) (parts : List TextPart) → (gap ≡ [] → joins_prev prev k s ≡ false)
    → Apart (Some (k, s)) parts → Apart prev (Gap gap ∷ Token k s ∷ parts)
apart_pair prev [] k s parts apart rest = (apart refl, rest)
apart_pair prev (b ∷ gap) k s parts apart rest = (refl, rest)

apart_last : (prev : Prev) (last : List ℕ) → Apart prev (Gap last ∷ [])
apart_last prev [] = tt
apart_last prev (b ∷ last) = tt

apart_after : (kind : Kind) (spelling : List ℕ) (ps : List Pair) (last : List ℕ) → IsApart kind spelling ps → AreApart ps → Apart (Some (kind, spelling)) (parts_of ps last)
apart_after kind spelling [] last here all = apart_last (Some (kind, spelling)) last
apart_after kind spelling (p ∷ ps) last here all =
    apart_pair (Some (kind, spelling)) p.gap p.kind p.spelling (parts_of ps last) here (apart_after p.kind p.spelling ps last all.0 all.1)

pub apart_text : (pairs : List Pair) (last : List ℕ) → AreApart pairs → Apart None (parts_of pairs last)
apart_text [] last all = apart_last None last
apart_text (p ∷ ps) last all = apart_pair None p.gap p.kind p.spelling (parts_of ps last) (λ e. refl) (apart_after p.kind p.spelling ps last all.0 all.1)
