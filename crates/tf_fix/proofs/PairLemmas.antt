-- The step by pairs is the step by parts.
use Rattle.std.proofs.Common.{◌≡◌, ℕ, zero, suc, ◌+◌, ◌-◌, ◌*◌, ◌≤◌, ◌<◌, ◌&&◌, Bool, true, false, List, [], ◌∷◌, ◌++◌, length, take, drop, slice_range, Option, Some, None, if◌then◌else◌, refl, sym, ap, subst, ◌∙◌, arith, append_assoc, length-drop}
use Rattle.std.specs.List.{flat_map}
use Rattle.std.specs.Prelude.{unwrap_or}
use Rattle.std.specs.Option.{option_map}
use Rattle.std.proofs.lemmas.Bool.{false≢true}
use Rattle.std.proofs.lemmas.List.{append-nil, drop-drop, drop-take}
use Rattle.hcl_token.specs.declared.kind.Kind.{Kind}
use Rattle.hcl_token.specs.TokenizedText.{TokenizedText}
use Rattle.hcl_token.specs.Tokens.{Pair, whole_text}
use Rattle.tf_rules.specs.declared.finding.Finding.{Finding}
use Rattle.tf_rules.specs.declared.fix.Fix.{Fix}
use Rattle.tf_rules.specs.declared.fix.Fix.TheVariants.{CommentMarker, Tokens}
use Rattle.tf_rules.specs.declared.fix.Insertion.{Insertion}
use Rattle.tf_rules.specs.declared.fix.Insertion.TheVariants.{Nothing}
use Rattle.tf_rules.specs.declared.fix.KeptTokens.{KeptTokens}
use Rattle.tf_rules.specs.declared.rule.Rule.{Rule}
use Rattle.tf_fix.specs.StepText.{gap_at, with_first_gap, inserted_and_kept_pairs, fixed_pairs, fixed_pairs_from, settled_pair, settled_pairs, fix_step_text}
use Rattle.tf_rules.specs.ValidFindings.{AreValidFindings, ChangesEnd, AreInOrder}
use Rattle.tf_fix.specs.Inner.Nonempty.{HasValidFix}
use Rattle.tf_rules.specs.declared.rule.Rule.TheVariants.{CommentSyntax}
use Rattle.tf_fix.specs.Insertions.{inserted}
use Rattle.tf_fix.specs.Edits.FindingReplacements.{pairs_parts, inserted_parts, replacements_from, fix_replacements, finding_replacements, step_replacements}
use Rattle.tf_fix.specs.OfRule.{IsOfRule, AreOfRule}
use Rattle.tf_rules.specs.Fixes.{is_comment_fix}
use Rattle.tf_rules.specs.Table.{is_comment_rule}
use Rattle.tf_fix.specs.Edits.Parts.{TextPart, parts_of, parts, text_of_parts, boundary_index}
use Rattle.tf_fix.specs.Edits.Parts.TextPart.{Gap, Token}
use Rattle.tf_fix.specs.Edits.Replacements.{Replacement, replaced_from, replaced_text}
use Rattle.tf_fix.specs.JoinedTokens.{Prev, joins_prev, one_space}
use Rattle.tf_fix.specs.Edits.SettledSpaces.{settled}
use Rattle.tf_fix.specs.Selection.{selected}
use Rattle.tf_fix.specs.declared.boundary.Boundary.{Boundary}
use Rattle.tf_fix.specs.declared.boundary.Boundary.TheVariants.{Gap as BeforeGap, Token as BeforeToken}
use Rattle.tf_fix.proofs.PartLemmas.{known, range_first, range_last, range_none, gap_and_token_first, parts_drop}
use Rattle.tf_fix.proofs.SelectionLemmas.{AreTaken, selected_are, selected_of, kept_le}

body_append : (ps qs : List Pair) → pairs_parts (ps ++ qs) ≡ pairs_parts ps ++ pairs_parts qs
body_append [] qs = refl
body_append (p ∷ ps) qs = ap (λ t. Gap p.gap ∷ Token p.kind p.spelling ∷ t) (body_append ps qs)

pub parts_append : (ps qs : List Pair) (last : List ℕ) → parts_of (ps ++ qs) last ≡ pairs_parts ps ++ parts_of qs last
parts_append [] qs last = refl
parts_append (p ∷ ps) qs last = ap (λ t. Gap p.gap ∷ Token p.kind p.spelling ∷ t) (parts_append ps qs last)

body_take : (k : ℕ) (ps : List Pair) (last : List ℕ) → k ≤ length ps → take (2 * k) (parts_of ps last) ≡ pairs_parts (take k ps)
body_take zero ps last le = refl
body_take (suc k) [] last le = absurd (omega (arith, le))
body_take (suc k) (p ∷ ps) last le =
    let two : 2 * suc k ≡ suc (suc (2 * k)) = omega arith in
    ap (λ n. take n (parts_of (p ∷ ps) last)) two ∙ ap (λ t. Gap p.gap ∷ Token p.kind p.spelling ∷ t) (body_take k ps last (omega (arith, le)))

-- three runs of pairs
three : (ps qs ss : List Pair) (more : List TextPart) → pairs_parts (ps ++ (qs ++ ss)) ++ more ≡ pairs_parts ps ++ (pairs_parts qs ++ (pairs_parts ss ++ more))
three ps qs ss more =
    ap (λ t. t ++ more) (body_append ps (qs ++ ss) ∙ ap (λ t. pairs_parts ps ++ t) (body_append qs ss))
    ∙ append_assoc (pairs_parts ps) (pairs_parts qs ++ pairs_parts ss) more ∙ ap (λ t. pairs_parts ps ++ t) (append_assoc (pairs_parts qs) (pairs_parts ss) more)

-- whole pairs
whole_range : (pairs : List Pair) (last : List ℕ) (a b : ℕ) → a ≤ b → b ≤ length pairs → slice_range (parts_of pairs last) (2 * a) (2 * b) ≡ pairs_parts (slice_range pairs a b)
whole_range pairs last a b le within =
    let count : 2 * b - 2 * a ≡ 2 * (b - a) = omega (arith, le) in
    let left = length-drop a pairs in
    ap (λ t. take (2 * b - 2 * a) t) (parts_drop pairs last a (omega (arith, le, within)))
    ∙ ap (λ n. take n (parts_of (drop a pairs) last)) count ∙ body_take (b - a) (drop a pairs) last (omega (arith, left, le, within))

-- up to a token, with its gap
open_range : (pairs : List Pair) (last : List ℕ) (a b : ℕ) → a ≤ b → b < length pairs → slice_range (parts_of pairs last) (2 * a) (2 * b + 1) ≡ pairs_parts (slice_range pairs a b) ++ Gap (gap_at pairs b) ∷ []
open_range pairs last a b le within =
    let (p, found, leading) = known pairs b within in
    let gap : p.gap ≡ gap_at pairs b = ap (λ o. unwrap_or (option_map (λ (q : Pair). q.gap) o) []) (sym found) in
    range_last (parts_of pairs last) (2 * a) (2 * b) (Gap p.gap) _ (omega (arith, le)) (gap_and_token_first pairs last b p found)
    ∙ ap (λ t. t ++ Gap p.gap ∷ []) (whole_range pairs last a b le (omega (arith, within)))
    ∙ ap (λ g. pairs_parts (slice_range pairs a b) ++ Gap g ∷ []) gap

-- from a token on, after another gap
inner_range : (pairs : List Pair) (last gap : List ℕ) (a b : ℕ) → a < b → b ≤ length pairs → Gap gap ∷ slice_range (parts_of pairs last) (2 * a + 1) (2 * b) ≡ pairs_parts (with_first_gap gap (slice_range pairs a b))
inner_range pairs last gap a b lt within =
    let (p, found, leading) = known pairs a (omega (arith, lt, within)) in
    let xs = parts_of pairs last in
    let side = range_first pairs a b p _ lt leading in
    let count : 2 * b - 2 * a ≡ 1 + (2 * b - (2 * a + 1)) = omega (arith, lt) in
    let whole : drop 1 (slice_range xs (2 * a) (2 * b)) ≡ slice_range xs (2 * a + 1) (2 * b) =
    ap (λ n. drop 1 (take n (drop (2 * a) xs))) count ∙ drop-take 1 (2 * b - (2 * a + 1)) (drop (2 * a) xs)
    ∙ ap (take (2 * b - (2 * a + 1))) (drop-drop 1 (2 * a) xs) in
    let pairs_are = whole_range pairs last a b (omega (arith, lt)) within ∙ ap pairs_parts side in
    ap (λ t. Gap gap ∷ t) (sym whole ∙ ap (drop 1) pairs_are)
    ∙ sym (ap (λ t. pairs_parts (with_first_gap gap t)) side)

-- from a place on, what is before the first that is kept stays
from_place : (pairs : List Pair) (last : List ℕ) (first a : ℕ) (from : Boundary) (w : Insertion) (kept : List (Option KeptTokens)) (past : ℕ) (rs : List Replacement)
    → replaced_from a (parts_of pairs last) (replacements_from pairs first from w kept past ++ rs)
    ≡ slice_range (parts_of pairs last) a (boundary_index from) ++ replaced_from (boundary_index from) (parts_of pairs last) (replacements_from pairs first from w kept past ++ rs)
from_place pairs last first a from w [] past rs =
    let xs = parts_of pairs last in
    let place = boundary_index from in
    ap (λ t. slice_range xs a place ++ (t ++ (inserted_parts from (BeforeGap past) (inserted pairs first w) ++ replaced_from (2 * past) xs rs))) (sym (range_none xs place place (omega arith)))
from_place pairs last first a from w (None ∷ kept) past rs = from_place pairs last first a from w kept past rs
from_place pairs last first a from w (Some k ∷ kept) past rs =
    let xs = parts_of pairs last in
    let place = boundary_index from in
    ap (λ t. slice_range xs a place ++ (t ++ (inserted_parts from (BeforeToken k.from) (inserted pairs first w) ++ replaced_from (2 * k.from + 1) xs (replacements_from pairs first (BeforeGap k.to) k.after kept past ++ rs))))
    (sym (range_none xs place place (omega arith)))

-- a range that is kept, and what follows it
kept_one : (pairs : List Pair) (last gap : List ℕ) (first past : ℕ) (k : KeptTokens) (kept : List (Option KeptTokens)) (rs : List Replacement) (following : List TextPart) → k.from < k.to → k.to ≤ length pairs
    → replaced_from (2 * k.to) (parts_of pairs last) (replacements_from pairs first (BeforeGap k.to) k.after kept past ++ rs) ≡ following
    → Gap gap ∷ replaced_from (2 * k.from + 1) (parts_of pairs last) (replacements_from pairs first (BeforeGap k.to) k.after kept past ++ rs) ≡ pairs_parts (with_first_gap gap (slice_range pairs k.from k.to)) ++ following
kept_one pairs last gap first past k kept rs following some within rest =
    let xs = parts_of pairs last in
    ap (λ t. Gap gap ∷ t) (from_place pairs last first (2 * k.from + 1) (BeforeGap k.to) k.after kept past rs)
    ∙ ap (λ t. t ++ replaced_from (2 * k.to) xs (replacements_from pairs first (BeforeGap k.to) k.after kept past ++ rs)) (inner_range pairs last gap k.from k.to some within)
    ∙ ap (λ t. pairs_parts (with_first_gap gap (slice_range pairs k.from k.to)) ++ t) rest

-- what follows a range that is kept
kept_body : (pairs : List Pair) (last : List ℕ) (first past at : ℕ) (w : Insertion) (kept : List (Option KeptTokens)) (rs : List Replacement) → AreInOrder first past at w kept → past ≤ length pairs
    → replaced_from (2 * at) (parts_of pairs last) (replacements_from pairs first (BeforeGap at) w kept past ++ rs) ≡ pairs_parts (inserted_and_kept_pairs pairs first w kept) ++ replaced_from (2 * past) (parts_of pairs last) rs
kept_body pairs last first past at w [] rs o le =
    let xs = parts_of pairs last in
    ap (λ t. t ++ ((pairs_parts (inserted pairs first w) ++ []) ++ replaced_from (2 * past) xs rs)) (range_none xs (2 * at) (2 * at) (omega arith))
    ∙ ap (λ t. t ++ replaced_from (2 * past) xs rs) (append-nil (pairs_parts (inserted pairs first w)))
kept_body pairs last first past at w (None ∷ kept) rs o le = kept_body pairs last first past at w kept rs o le
kept_body pairs last first past at w (Some k ∷ kept) rs o le =
    let xs = parts_of pairs last in
    let ins = inserted pairs first w in
    let more = replaced_from (2 * past) xs rs in
    let following = replaced_from (2 * k.from + 1) xs (replacements_from pairs first (BeforeGap k.to) k.after kept past ++ rs) in
    let range = with_first_gap [] (slice_range pairs k.from k.to) in
    let rest = inserted_and_kept_pairs pairs first k.after kept in
    let end = kept_le first past k.to k.after kept o.2 in
    ap (λ t. t ++ ((pairs_parts ins ++ (Gap [] ∷ [])) ++ following)) (range_none xs (2 * at) (2 * at) (omega arith))
    ∙ append_assoc (pairs_parts ins) (Gap [] ∷ []) following
    ∙ ap (λ t. pairs_parts ins ++ t) (kept_one pairs last [] first past k kept rs _ o.1 (omega (arith, end, le)) (kept_body pairs last first past k.to k.after kept rs o.2 le))
    ∙ sym (three ins range rest more)

-- the gap of the first token goes to the first that is written or kept
gap_twice : (pairs : List Pair) (gap : List ℕ) (a b : ℕ) (rest : List Pair) → a < b → b ≤ length pairs
    → with_first_gap gap (with_first_gap [] (slice_range pairs a b) ++ rest) ≡ with_first_gap gap (slice_range pairs a b) ++ rest
gap_twice pairs gap a b rest lt within =
    let (p, found, leading) = known pairs a (omega (arith, lt, within)) in
    rw (range_first pairs a b p _ lt leading) refl

-- what is written first
data Written (pairs : List Pair) (first : ℕ) (w : Insertion) : Type 0 where
  not_written : w ≡ Nothing → Written pairs first w
  is_written : (p : Pair) (ps : List Pair) → inserted pairs first w ≡ p ∷ ps → Written pairs first w

written_is : (pairs : List Pair) (first : ℕ) (w : Insertion) → Written pairs first w
written_is pairs first Nothing = not_written refl
written_is pairs first w = is_written _ _ refl

written_prefix_end : (pairs : List Pair) (gap : List ℕ) (first past : ℕ) (w : Insertion) (more : List TextPart) → Written pairs first w → ChangesEnd first w first past
    → Gap gap ∷ (drop 1 (pairs_parts (inserted pairs first w) ++ []) ++ more) ≡ pairs_parts (with_first_gap gap (inserted pairs first w)) ++ more
written_prefix_end pairs gap first past w more (not_written is) end = let both = subst (λ (x : Insertion). ChangesEnd first x first past) is end in absurd (omega (arith, both.0))
written_prefix_end pairs gap first past w more (is_written p ps is) end = rw is (ap (λ t. t ++ more) (ap (λ t. Gap gap ∷ Token p.kind p.spelling ∷ t) (append-nil (pairs_parts ps))))

prefix_kept : (pairs : List Pair) (gap : List ℕ) (first a b : ℕ) (w : Insertion) (rest : List Pair) (following more : List TextPart) → Written pairs first w → a < b → b ≤ length pairs
    → ((g : List ℕ) → Gap g ∷ following ≡ pairs_parts (with_first_gap g (slice_range pairs a b)) ++ (pairs_parts rest ++ more))
    → Gap gap ∷ (drop 1 (pairs_parts (inserted pairs first w) ++ (Gap [] ∷ [])) ++ following) ≡ pairs_parts (with_first_gap gap (inserted pairs first w ++ (with_first_gap [] (slice_range pairs a b) ++ rest))) ++ more
prefix_kept pairs gap first a b w rest following more (not_written is) lt within here =
    rw is (here gap ∙ sym (append_assoc (pairs_parts (with_first_gap gap (slice_range pairs a b))) (pairs_parts rest) more)
    ∙ ap (λ t. t ++ more) (sym (body_append (with_first_gap gap (slice_range pairs a b)) rest) ∙ ap pairs_parts (sym (gap_twice pairs gap a b rest lt within))))
prefix_kept pairs gap first a b w rest following more (is_written p ps is) lt within here =
    let leading : List Pair = record p { gap = gap } ∷ ps in
    rw is (append_assoc (pairs_parts leading) (Gap [] ∷ []) following ∙ ap (λ t. pairs_parts leading ++ t) (here []) ∙ sym (three leading (with_first_gap [] (slice_range pairs a b)) rest more))

start_body : (pairs : List Pair) (last gap : List ℕ) (first past : ℕ) (w : Insertion) (kept : List (Option KeptTokens)) (rs : List Replacement) → AreInOrder first past first w kept → past ≤ length pairs
    → Gap gap ∷ replaced_from (2 * first + 1) (parts_of pairs last) (replacements_from pairs first (BeforeToken first) w kept past ++ rs)
    ≡ pairs_parts (with_first_gap gap (inserted_and_kept_pairs pairs first w kept)) ++ replaced_from (2 * past) (parts_of pairs last) rs
start_body pairs last gap first past w [] rs o le =
    let xs = parts_of pairs last in
    let more = replaced_from (2 * past) xs rs in
    ap (λ t. Gap gap ∷ (t ++ (drop 1 (pairs_parts (inserted pairs first w) ++ []) ++ more))) (range_none xs (2 * first + 1) (2 * first + 1) (omega arith))
    ∙ written_prefix_end pairs gap first past w more (written_is pairs first w) o
start_body pairs last gap first past w (None ∷ kept) rs o le = start_body pairs last gap first past w kept rs o le
start_body pairs last gap first past w (Some k ∷ kept) rs o le =
    let xs = parts_of pairs last in
    let more = replaced_from (2 * past) xs rs in
    let end = kept_le first past k.to k.after kept o.2 in
    let following = replaced_from (2 * k.from + 1) xs (replacements_from pairs first (BeforeGap k.to) k.after kept past ++ rs) in
    ap (λ t. Gap gap ∷ (t ++ (drop 1 (pairs_parts (inserted pairs first w) ++ (Gap [] ∷ [])) ++ following))) (range_none xs (2 * first + 1) (2 * first + 1) (omega arith))
    ∙ prefix_kept pairs gap first k.from k.to w (inserted_and_kept_pairs pairs first k.after kept) following more (written_is pairs first w) o.1 (omega (arith, end, le))
    (λ g. kept_one pairs last g first past k kept rs _ o.1 (omega (arith, end, le)) (kept_body pairs last first past k.to k.after kept rs o.2 le))

-- one finding: what is before it, its tokens, and what follows it
one_fixed : (pairs : List Pair) (last : List ℕ) (at first past : ℕ) (fix : Option Fix) (rs : List Replacement) → is_comment_fix fix ≡ false → at ≤ first → first < past → past ≤ length pairs → HasValidFix first past fix
    → replaced_from (2 * at) (parts_of pairs last) (fix_replacements pairs first past fix ++ rs)
    ≡ pairs_parts (slice_range pairs at first) ++ (pairs_parts (fixed_pairs pairs first past fix) ++ replaced_from (2 * past) (parts_of pairs last) rs)
one_fixed pairs last at first past (Some (Tokens w kept)) rs other le some within fits =
    let before = pairs_parts (slice_range pairs at first) in
    let gap = gap_at pairs first in
    let more = replaced_from (2 * first + 1) (parts_of pairs last) (replacements_from pairs first (BeforeToken first) w kept past ++ rs) in
    from_place pairs last first (2 * at) (BeforeToken first) w kept past rs
    ∙ ap (λ t. t ++ more) (open_range pairs last at first le (omega (arith, some, within)))
    ∙ append_assoc before (Gap gap ∷ []) more
    ∙ ap (λ t. before ++ t) (start_body pairs last gap first past w kept rs fits within)
one_fixed pairs last at first past (Some CommentMarker) rs other le some within fits = absurd (false≢true (sym other))
one_fixed pairs last at first past None rs other le some within fits = absurd fits

of_other : (rule : Rule) (pairs : List Pair) (f : Finding) → is_comment_rule rule ≡ false → IsOfRule rule pairs f → is_comment_fix f.fix ≡ false
of_other CommentSyntax pairs f other of = absurd (false≢true (sym other))
of_other rule pairs f other of = of

all_fixed : (rule : Rule) (pairs : List Pair) (last : List ℕ) (at : ℕ) (fs : List Finding) → is_comment_rule rule ≡ false → AreOfRule rule pairs fs → AreTaken at pairs fs
    → replaced_from (2 * at) (parts_of pairs last) (flat_map (finding_replacements pairs) fs) ≡ parts_of (fixed_pairs_from at pairs fs) last
all_fixed rule pairs last at [] other of are = parts_drop pairs last at are
all_fixed rule pairs last at (f ∷ fs) other of are =
    let mid = fixed_pairs pairs f.first f.past f.fix in
    let more = fixed_pairs_from f.past pairs fs in
    one_fixed pairs last at f.first f.past f.fix (flat_map (finding_replacements pairs) fs) (of_other rule pairs f other of.0) are.0 are.1.2 are.1.0 are.1.1
    ∙ ap (λ t. pairs_parts (slice_range pairs at f.first) ++ (pairs_parts mid ++ t)) (all_fixed rule pairs last f.past fs other of.1 are.2)
    ∙ ap (λ t. pairs_parts (slice_range pairs at f.first) ++ t) (sym (parts_append mid more last))
    ∙ sym (parts_append (slice_range pairs at f.first) (mid ++ more) last)

-- settling pair by pair
abbrev given : Bool → Kind → List ℕ → Pair
given met k s = if met then record { gap = one_space; kind = k; spelling = s } else record { gap = []; kind = k; spelling = s }

settle_if : (met : Bool) (k : Kind) (s rest : List ℕ) (more : List TextPart) → text_of_parts (settled (Some (k, s)) more) ≡ rest
    → text_of_parts (if met then Gap one_space ∷ Token k s ∷ settled (Some (k, s)) more else Token k s ∷ settled (Some (k, s)) more)
    ≡ (given met k s).gap ++ ((given met k s).spelling ++ rest)
settle_if true k s rest more e = ap (λ t. one_space ++ (s ++ t)) e
settle_if false k s rest more e = ap (λ t. s ++ t) e

settle_last : (prev : Prev) (last : List ℕ) → text_of_parts (settled prev (Gap last ∷ [])) ≡ last
settle_last prev [] = refl
settle_last prev (b ∷ last) = append-nil (b ∷ last)

abbrev settled_one : Prev → List ℕ → Kind → List ℕ → Pair
settled_one prev gap k s = settled_pair prev (record { gap = gap; kind = k; spelling = s })

settle_one : (prev : Prev) (gap : List ℕ) (k : Kind) (s rest : List ℕ) (more : List TextPart)
    → text_of_parts (settled (Some (k, s)) more) ≡ rest
    → text_of_parts (settled prev (Gap gap ∷ Token k s ∷ more))
    ≡ (settled_one prev gap k s).gap ++ ((settled_one prev gap k s).spelling ++ rest)
settle_one prev [] k s rest more e = settle_if (joins_prev prev k s) k s rest more e
settle_one prev (b ∷ gap) k s rest more e = ap (λ t. (b ∷ gap) ++ (s ++ t)) e

pub pairs_settled : (prev : Prev) (ps : List Pair) (last : List ℕ) → text_of_parts (settled prev (parts_of ps last)) ≡ whole_text (settled_pairs prev ps) last
pairs_settled prev [] last = settle_last prev last
pairs_settled prev (p ∷ ps) last =
    settle_one prev p.gap p.kind p.spelling _ (parts_of ps last)
    (pairs_settled (Some (p.kind, p.spelling)) ps last)

-- the text of a step, by pairs
pub by_pairs : (rule : Rule) (tokenized : TokenizedText) (findings : List Finding) → is_comment_rule rule ≡ false → AreOfRule rule tokenized.pairs findings → AreValidFindings (length tokenized.pairs) findings
    → fix_step_text tokenized findings ≡ replaced_text (parts tokenized) (step_replacements tokenized.pairs findings)
by_pairs rule tokenized findings other of valid =
    let all = all_fixed rule tokenized.pairs tokenized.last 0 (selected findings) other (selected_of rule tokenized.pairs 0 findings of) (selected_are tokenized.pairs 0 findings (omega arith) valid) in
    sym (ap (λ t. text_of_parts (settled None t)) all ∙ pairs_settled None (fixed_pairs_from 0 tokenized.pairs (selected findings)) tokenized.last)
