-- Each token of a text has a byte, so no replacement changes nothing into nothing.
use Rattle.std.proofs.Common.{◌≡◌, ℕ, zero, suc, ◌+◌, ◌-◌, ◌*◌, ◌≤◌, ◌<◌, true, false, Bool, Option, List, [], ◌∷◌, ◌++◌, length, slice_range, slice_get, Some, None, if◌then◌else◌, refl, sym, ap, subst, ◌∙◌, arith, length-append}
use Rattle.std.specs.List.{flat_map}
use Rattle.std.specs.Option.{option_map}
use Rattle.std.specs.Prelude.{unwrap_or}
use Rattle.edit_record.specs.Lists.PieceEdits.{ChangesAreNonempty}
use Rattle.hcl_token.specs.declared.kind.Kind.{Kind}
use Rattle.hcl_token.specs.Tokens.{Pair, whole_text}
use Rattle.hcl_scan.proofs.FollowingText.{lexeme_filled}
use Rattle.hcl_scan.proofs.MarkerLemmas.{markers_after, marker_of_mode}
use Rattle.hcl_scan.proofs.OpenMarkers.{HaveMarkers}
use Rattle.hcl_scan.specs.Characters.{is_prefix_of}
use Rattle.hcl_scan.specs.Tokenization.{TokenizesFrom, IsTokenization, byte_order_mark, mark_prefix}
use Rattle.hcl_scan.specs.Modes.{Mode, mode_of, modes_after}
use Rattle.tf_rules.specs.ValidFindings.{ChangesSomething, ChangesEnd, AreInOrder}
use Rattle.tf_rules.specs.declared.finding.Finding.{Finding}
use Rattle.tf_rules.specs.declared.fix.Fix.{Fix}
use Rattle.tf_rules.specs.declared.fix.Fix.TheVariants.{CommentMarker, Tokens}
use Rattle.tf_rules.specs.declared.fix.Insertion.{Insertion}
use Rattle.tf_rules.specs.declared.fix.Insertion.TheVariants.{Nothing}
use Rattle.tf_rules.specs.declared.fix.KeptTokens.{KeptTokens}
use Rattle.tf_fix.specs.Inner.Nonempty.{AreNonempty, HasValidFix}
use Rattle.tf_fix.specs.Inner.Views.{HasByte}
use Rattle.tf_fix.specs.Insertions.{spelling_at, inserted}
use Rattle.tf_fix.specs.Edits.FindingReplacements.{inserted_parts, replacements_from, fix_replacements, finding_replacements}
use Rattle.tf_fix.specs.Edits.Parts.{TextPart, parts_of, text_of_parts, boundary_index}
use Rattle.tf_fix.specs.Edits.Parts.TextPart.{Gap, Token}
use Rattle.tf_fix.specs.Edits.Replacements.{Replacement, stays_until, space_before, pieces_from}
use Rattle.tf_fix.specs.JoinedTokens.{Prev, joins_prev, one_space}
use Rattle.tf_fix.specs.Edits.SettledSpaces.{prev_of_parts, settled}
use Rattle.tf_fix.specs.declared.boundary.Boundary.{Boundary}
use Rattle.tf_fix.specs.declared.boundary.Boundary.TheVariants.{Gap as BeforeGap, Token as BeforeToken}
use Rattle.tf_fix.proofs.PartLemmas.{known, token_first, range_first, length_written}
use Rattle.tf_fix.proofs.SelectionLemmas.{AreTaken, kept_le}

-- ---- tokens

pairs_nonempty : (ps : List Pair) (modes left : List Mode) (rest : List ℕ) → HaveMarkers modes
    → TokenizesFrom modes ps rest left → AreNonempty ps
pairs_nonempty [] modes left rest n c = tt
pairs_nonempty (p ∷ ps) modes left rest n c =
    let after = markers_after p.kind p.spelling (whole_text ps rest) modes c.1.0.1 n in (
      lexeme_filled (mode_of modes) p.kind p.spelling (whole_text ps rest) (marker_of_mode modes n) c.1.0,
      pairs_nonempty ps (modes_after p.kind p.spelling modes) left rest after c.2,
    )

mark_nonempty : (text : List ℕ) (body : List Pair) → AreNonempty body → AreNonempty (mark_prefix text ++ body)
mark_nonempty text body are =
    elim (is_prefix_of byte_order_mark text) as (λ b. is_prefix_of byte_order_mark text ≡ b → AreNonempty (mark_prefix text ++ body)) [
      | true ↦ λ h. rw h (omega arith, are)
      | false ↦ λ h. rw h are
    ] refl

pub tokens_nonempty : (text : List ℕ) (pairs : List Pair) (last : List ℕ) → IsTokenization text pairs last → AreNonempty pairs
tokens_nonempty text pairs last c = subst AreNonempty (sym c.tokenizes.prefix) (mark_nonempty text c.tokenizes.body (pairs_nonempty c.tokenizes.body [] [] last tt c.tokenizes.tokenizes))

nonempty_at : (pairs : List Pair) (i : ℕ) (p : Pair) → AreNonempty pairs → slice_get pairs i ≡ Some p → 0 < length p.spelling
nonempty_at [] i p are found = absurd (cc found)
nonempty_at (q ∷ pairs) zero p are found = let same : q ≡ p = cc found in subst (λ (x : Pair). 0 < length x.spelling) same are.0
nonempty_at (q ∷ pairs) (suc i) p are found = nonempty_at pairs i p are.1 found

pub has_byte : (pairs : List Pair) (i : ℕ) → AreNonempty pairs → i < length pairs → HasByte pairs i
has_byte pairs i are lt =
    let (p, found, leading) = known pairs i lt in
    let some = nonempty_at pairs i p are found in
    let same : spelling_at pairs i ≡ p.spelling = ap (λ o. unwrap_or (option_map (λ (q : Pair). q.spelling) o) []) found in
    (lt, omega (arith, some, ap length same))

-- ---- each replacement takes something away or brings something

abbrev pub AreReal : List TextPart → List Replacement → Type 0
AreReal xs [] = Unit {0}
AreReal xs (r ∷ rs) = (0 < length (text_of_parts (slice_range xs r.from r.to)) + length (text_of_parts r.inserted_parts)) × AreReal xs rs

both_real : (xs : List TextPart) (rs ss : List Replacement) → AreReal xs rs → AreReal xs ss → AreReal xs (rs ++ ss)
both_real xs [] ss a b = b
both_real xs (r ∷ rs) ss a b = (a.0, both_real xs rs ss a.1 b)

-- the number of the token at a place
abbrev token_at : Boundary → ℕ
token_at (BeforeGap i) = i
token_at (BeforeToken i) = i

index_le : (b : Boundary) → boundary_index b ≤ 2 * token_at b + 1
index_le (BeforeGap i) = omega arith
index_le (BeforeToken i) = omega arith

-- what is removed between two places has a byte, if the second is after more tokens
removed_nonempty : (pairs : List Pair) (last : List ℕ) (n : ℕ) (from : Boundary) (to : ℕ) → AreNonempty pairs
    → token_at from < n → n ≤ length pairs → 2 * n ≤ to
    → 0 < length (text_of_parts (slice_range (parts_of pairs last) (boundary_index from) to))
removed_nonempty pairs last n from to are lt within past =
    let xs = parts_of pairs last in
    let i = token_at from in
    let (p, found, leading) = known pairs i (omega (arith, lt, within)) in
    let some = nonempty_at pairs i p are found in
    let first = range_first xs (2 * i + 1) (2 * i + 2) _ _ (omega arith) (token_first pairs last i p found) in
    let size = ap (λ t. length (text_of_parts t)) first ∙ length-append p.spelling _ in
    let start = index_le from in
    let gap = length_written xs (boundary_index from) (2 * i + 1) start in
    let token = length_written xs (2 * i + 1) (2 * i + 2) (omega arith) in
    let rest = length_written xs (2 * i + 2) to (omega (arith, lt, past)) in
    let all = length_written xs (boundary_index from) to (omega (arith, start, lt, past)) in
    omega (arith, some, size, gap, token, rest, all)

-- an insertion that is not Nothing adds text
brings : (pairs : List Pair) (first : ℕ) (w : Insertion) (from to : Boundary) (n : ℕ) → (w ≡ Nothing → ⊥) → 0 < n + length (text_of_parts (inserted_parts from to (inserted pairs first w)))
brings pairs first Nothing from to n some = absurd (some refl)
brings pairs first w (BeforeGap i) to n some = omega arith
brings pairs first w (BeforeToken i) to n some = omega arith

real_one : (pairs : List Pair) (last : List ℕ) (first n : ℕ) (from to : Boundary) (w : Insertion) → AreNonempty pairs
    → ChangesSomething w (token_at from) n → n ≤ length pairs → 2 * n ≤ boundary_index to
    → 0 < length (text_of_parts (slice_range (parts_of pairs last) (boundary_index from) (boundary_index to))) + length (text_of_parts (inserted_parts from to (inserted pairs first w)))
real_one pairs last first n from to Nothing are some within past = omega (arith, removed_nonempty pairs last n from (boundary_index to) are some within past)
real_one pairs last first n from to w are some within past = brings pairs first w from to _ (λ same. absurd (cc same))

something : (first at past : ℕ) (w : Insertion) → ChangesEnd first w at past → ChangesSomething w at past
something first at past Nothing end = end.1
something first at past w end = end

kept_real : (pairs : List Pair) (last : List ℕ) (first past : ℕ) (from : Boundary) (w : Insertion) (kept : List (Option KeptTokens)) → AreNonempty pairs → past ≤ length pairs → AreInOrder first past (token_at from) w kept
    → AreReal (parts_of pairs last) (replacements_from pairs first from w kept past)
kept_real pairs last first past from w [] are le o =
    (real_one pairs last first past from (BeforeGap past) w are (something first (token_at from) past w o) le (omega arith), tt)
kept_real pairs last first past from w (None ∷ kept) are le o = kept_real pairs last first past from w kept are le o
kept_real pairs last first past from w (Some k ∷ kept) are le o =
    let end = kept_le first past k.to k.after kept o.2 in (
      real_one pairs last first k.from from (BeforeToken k.from) w are o.0 (omega (arith, o.1, end, le)) (omega arith),
      kept_real pairs last first past (BeforeGap k.to) k.after kept are le o.2,
    )

fixed_real : (pairs : List Pair) (last : List ℕ) (first past : ℕ) (fix : Option Fix) → AreNonempty pairs → past ≤ length pairs → HasValidFix first past fix
    → AreReal (parts_of pairs last) (fix_replacements pairs first past fix)
fixed_real pairs last first past None are le fits = tt
fixed_real pairs last first past (Some CommentMarker) are le fits = tt
fixed_real pairs last first past (Some (Tokens before kept)) are le fits =
    kept_real pairs last first past (BeforeToken first) before kept are le fits

pub selected_real : (pairs : List Pair) (last : List ℕ) (at : ℕ) (fs : List Finding) → AreNonempty pairs → AreTaken at pairs fs
    → AreReal (parts_of pairs last) (flat_map (finding_replacements pairs) fs)
selected_real pairs last at [] are following = tt
selected_real pairs last at (f ∷ fs) are following =
    both_real (parts_of pairs last) (finding_replacements pairs f) (flat_map (finding_replacements pairs) fs)
    (fixed_real pairs last f.first f.past f.fix are following.1.0 following.1.1) (selected_real pairs last f.past fs are following.2)

-- ---- so each changed piece is an edit

longer_if : (met : Bool) (k : Kind) (s : List ℕ) (rest : List TextPart) (n : ℕ) → n ≤ length (text_of_parts rest)
    → length s + n ≤ length (text_of_parts (if met then Gap one_space ∷ Token k s ∷ rest else Token k s ∷ rest))
longer_if true k s rest n le = omega (arith, le, length-append s (text_of_parts rest))
longer_if false k s rest n le = omega (arith, le, length-append s (text_of_parts rest))

settled_longer : (prev : Prev) (xs : List TextPart) → length (text_of_parts xs) ≤ length (text_of_parts (settled prev xs))
settled_longer prev [] = omega arith
settled_longer prev (Gap [] ∷ xs) = settled_longer prev xs
settled_longer prev (Gap (b ∷ g) ∷ xs) =
    omega (arith, settled_longer None xs, length-append (b ∷ g) (text_of_parts xs), length-append (b ∷ g) (text_of_parts (settled None xs)))
settled_longer prev (Token k s ∷ xs) =
    let more = longer_if (joins_prev prev k s) k s (settled (Some (k, s)) xs) (length (text_of_parts xs)) (settled_longer (Some (k, s)) xs) in
    omega (arith, more, length-append s (text_of_parts xs))

pub real_changes : (prev : Prev) (at : ℕ) (xs : List TextPart) (rs : List Replacement) → AreReal xs rs → ChangesAreNonempty (pieces_from prev at xs rs)
real_changes prev at xs [] are = tt
real_changes prev at xs (r ∷ rs) are =
    let there = prev_of_parts prev (slice_range xs at r.from) in
    let more = settled_longer there r.inserted_parts in
    let whole = length-append (text_of_parts (settled there r.inserted_parts)) (space_before (prev_of_parts there r.inserted_parts) (stays_until r.to xs rs)) in
    (omega (arith, are.0, more, whole), real_changes (prev_of_parts there r.inserted_parts) r.to xs rs are.1)
