-- Taking findings, and what each of them is replaced by.
use Rattle.std.proofs.Common.{◌≡◌, ℕ, ◌+◌, ◌*◌, ◌≤◌, ◌<◌, ◌&&◌, not, nat_lt, Bool, true, false, List, [], ◌∷◌, ◌++◌, length, drop, filter, get_or, Option, Some, None, if◌then◌else◌, refl, subst, arith}
use Rattle.std.specs.List.{flat_map}
use Rattle.std.proofs.lemmas.List.{drop_more}
use Rattle.std.proofs.lemmas.Bool.{and_parts, ltb-false}
use Rattle.hcl_token.specs.Tokens.{Pair}
use Rattle.tf_findings.specs.RuleFilter.{is_found_by}
use Rattle.tf_rules.specs.declared.finding.Finding.{Finding}
use Rattle.tf_rules.specs.declared.fix.Fix.{Fix}
use Rattle.tf_rules.specs.declared.fix.Fix.TheVariants.{CommentMarker, Tokens}
use Rattle.tf_rules.specs.declared.fix.Insertion.{Insertion}
use Rattle.tf_rules.specs.declared.fix.Insertion.TheVariants.{Nothing}
use Rattle.tf_rules.specs.declared.fix.KeptTokens.{KeptTokens}
use Rattle.tf_rules.specs.declared.rule.Rule.{Rule}
use Rattle.tf_rules.specs.Findings.{is_fixable}
use Rattle.tf_rules.specs.ValidFindings.{IsFixValid, AreValidFindings, AreInOrder}
use Rattle.tf_fix.specs.Inner.Nonempty.{IsFixableWithin, HasValidFix}
use Rattle.tf_fix.specs.Edits.FindingReplacements.{replacements_from, fix_replacements, finding_replacements}
use Rattle.tf_fix.specs.OfRule.{IsOfRule, AreOfRule}
use Rattle.tf_fix.specs.Edits.Parts.{boundary_index}
use Rattle.tf_fix.specs.Edits.Replacements.{Replacement, AreReplacementsInOrder}
use Rattle.tf_fix.specs.Selection.{selected_from}
use Rattle.tf_fix.specs.Inner.Views.{HasByte, HaveBytes}
use Rattle.tf_fix.specs.declared.boundary.Boundary.{Boundary}
use Rattle.tf_fix.specs.declared.boundary.Boundary.TheVariants.{Gap as BeforeGap, Token as BeforeToken}
use Rattle.tf_fix.specs.declared.splice.Replacement.{Replacement as Replacing}

-- ---- the loops over findings

pub bytes_push : (pairs : List Pair) (rs : List Replacing) (r : Replacing) → HaveBytes pairs rs → HasByte pairs r.first → HaveBytes pairs (rs ++ r ∷ [])
bytes_push pairs [] r are is = (is, tt)
bytes_push pairs (x ∷ rs) r are is = (are.0, bytes_push pairs rs r are.1 is)

-- where there is a fix, what it keeps is in order
is_fixable_within : (first past : ℕ) (fix : Option Fix) → is_fixable fix ≡ true → IsFixValid first past fix → HasValidFix first past fix
is_fixable_within first past None e fits = absurd (cc e)
is_fixable_within first past (Some fix) e fits = fits

valid_if : (count : ℕ) (f : Finding) (rest : List Finding) (here : Bool) → AreValidFindings count (if here then f ∷ rest else rest)
    → (here ≡ true → is_fixable f.fix ≡ true → IsFixableWithin count f) × AreValidFindings count rest
valid_if count f rest true are = (λ of fixable. (are.0.1, is_fixable_within _ _ _ fixable are.0.2, are.0.0), are.1)
valid_if count f rest false are = (λ of. absurd (cc of), are)

-- a finding of the rule that can be fixed is within the text, and those of the rule after it are
-- valid
pub is_valid : (pairs : List Pair) (rule : Rule) (findings : List Finding) (i : ℕ) (d : Finding) → i < length findings → AreValidFindings (length pairs) (filter (is_found_by rule) (drop i findings))
    → (is_found_by rule (get_or findings i d) ≡ true → is_fixable (get_or findings i d).fix ≡ true → IsFixableWithin (length pairs) (get_or findings i d)) × AreValidFindings (length pairs) (filter (is_found_by rule) (drop (i + 1) findings))
is_valid pairs rule findings i d lt are =
    valid_if (length pairs) (get_or findings i d) (filter (is_found_by rule) (drop (i + 1) findings)) (is_found_by rule (get_or findings i d))
    (subst (λ fs. AreValidFindings (length pairs) (filter (is_found_by rule) fs)) (drop_more findings i d lt) are)

-- ---- what is taken

-- findings of a text, in order
abbrev pub AreTaken : ℕ → List Pair → List Finding → Type 0
AreTaken at pairs [] = at ≤ length pairs
AreTaken at pairs (f ∷ fs) = (at ≤ f.first) × IsFixableWithin (length pairs) f × AreTaken f.past pairs fs

not_true : (b : Bool) → not b ≡ true → b ≡ false
not_true true e = absurd (cc e)
not_true false e = refl

selected_if : (pairs : List Pair) (past : ℕ) (f : Finding) (here : Bool) (xs ys : List Finding) → (is_fixable f.fix && not (nat_lt f.first past)) ≡ here
    → (is_fixable f.fix ≡ true → IsFixableWithin (length pairs) f) → (IsFixableWithin (length pairs) f → AreTaken f.past pairs xs) → AreTaken past pairs ys → AreTaken past pairs (if here then f ∷ xs else ys)
selected_if pairs past f true xs ys test valid a b =
    let both = and_parts (is_fixable f.fix) (not (nat_lt f.first past)) test in
    (ltb-false f.first past (not_true (nat_lt f.first past) both.1), valid both.0, a (valid both.0))
selected_if pairs past f false xs ys test valid a b = b

pub selected_are : (pairs : List Pair) (past : ℕ) (findings : List Finding) → past ≤ length pairs → AreValidFindings (length pairs) findings → AreTaken past pairs (selected_from past findings)
selected_are pairs past [] le valid = le
selected_are pairs past (f ∷ fs) le valid =
    selected_if pairs past f _ (selected_from f.past fs) (selected_from past fs) refl (λ fixable. (valid.0.1, is_fixable_within _ _ _ fixable valid.0.2, valid.0.0)) (λ fits. selected_are pairs f.past fs fits.0 valid.1) (selected_are pairs past fs le valid.1)

of_if : (rule : Rule) (pairs : List Pair) (f : Finding) (here : Bool) (xs ys : List Finding) → IsOfRule rule pairs f → AreOfRule rule pairs xs → AreOfRule rule pairs ys → AreOfRule rule pairs (if here then f ∷ xs else ys)
of_if rule pairs f true xs ys of a b = (of, a)
of_if rule pairs f false xs ys of a b = b

pub selected_of : (rule : Rule) (pairs : List Pair) (past : ℕ) (findings : List Finding) → AreOfRule rule pairs findings → AreOfRule rule pairs (selected_from past findings)
selected_of rule pairs past [] of = tt
selected_of rule pairs past (f ∷ fs) of = of_if rule pairs f _ (selected_from f.past fs) (selected_from past fs) of.0 (selected_of rule pairs f.past fs of.1) (selected_of rule pairs past fs of.1)

-- ---- the replacements are in order

join_order : (at mid end : ℕ) (rs ss : List Replacement) → AreReplacementsInOrder at rs mid → AreReplacementsInOrder mid ss end → AreReplacementsInOrder at (rs ++ ss) end
join_order at mid end [] [] o p = omega (arith, o, p)
join_order at mid end [] (s ∷ ss) o p = (omega (arith, o, p.0), p.1, p.2)
join_order at mid end (r ∷ rs) ss o p = (o.0, o.1, join_order r.to mid end rs ss o.2 p)

later_order : (at from end : ℕ) (rs : List Replacement) → at ≤ from → AreReplacementsInOrder from rs end → AreReplacementsInOrder at rs end
later_order at from end [] le o = omega (arith, le, o)
later_order at from end (r ∷ rs) le o = (omega (arith, le, o.0), o.1, o.2)

-- what is kept after a place ends before the finding does
pub kept_le : (first past at : ℕ) (written : Insertion) (kept : List (Option KeptTokens)) → AreInOrder first past at written kept → at ≤ past
kept_le first past at Nothing [] o = omega (arith, o.1)
kept_le first past at written [] o = o
kept_le first past at written (None ∷ kept) o = kept_le first past at written kept o
kept_le first past at Nothing (Some k ∷ kept) o = let rest = kept_le first past k.to k.after kept o.2 in omega (arith, o.0, o.1, rest)
kept_le first past at written (Some k ∷ kept) o = let rest = kept_le first past k.to k.after kept o.2 in omega (arith, o.0, o.1, rest)

-- a place before number at, or right before its token, is no later than the next that is kept
pub next_le : (first past at : ℕ) (written : Insertion) (k : KeptTokens) (kept : List (Option KeptTokens)) → AreInOrder first past at written (Some k ∷ kept) → at ≤ k.from
next_le first past at Nothing k kept o = omega (arith, o.0)
next_le first past at written k kept o = o.0

kept_order : (pairs : List Pair) (first past at : ℕ) (from : Boundary) (written : Insertion) (kept : List (Option KeptTokens)) → AreInOrder first past at written kept
    → boundary_index from ≤ 2 * at + 1 → boundary_index from ≤ 2 * past → AreReplacementsInOrder (boundary_index from) (replacements_from pairs first from written kept past) (2 * past)
kept_order pairs first past at from written [] o prev le = (omega arith, le, omega arith)
kept_order pairs first past at from written (None ∷ kept) o prev le = kept_order pairs first past at from written kept o prev le
kept_order pairs first past at from written (Some k ∷ kept) o prev le =
    let next = next_le first past at written k kept o in
    let end = kept_le first past k.to k.after kept o.2 in
    let some = o.1 in (
      omega arith,
      omega (arith, prev, next),
      later_order (2 * k.from + 1) (2 * k.to) (2 * past) _ (omega (arith, some))
          (kept_order pairs first past k.to (BeforeGap k.to) k.after kept o.2 (omega arith) (omega (arith, end))),
    )

-- those of a finding are within its tokens
fixed_order : (pairs : List Pair) (first past : ℕ) (fix : Option Fix) → first < past → HasValidFix first past fix → AreReplacementsInOrder (2 * first) (fix_replacements pairs first past fix) (2 * past)
fixed_order pairs first past None some fits = absurd fits
fixed_order pairs first past (Some CommentMarker) some fits = omega (arith, some)
fixed_order pairs first past (Some (Tokens before kept)) some fits =
    later_order (2 * first) (2 * first + 1) (2 * past) _ (omega arith) (kept_order pairs first past first (BeforeToken first) before kept fits (omega arith) (omega (arith, some)))

pub selected_order : (pairs : List Pair) (at : ℕ) (fs : List Finding) → AreTaken at pairs fs → AreReplacementsInOrder (2 * at) (flat_map (finding_replacements pairs) fs) (2 * length pairs)
selected_order pairs at [] are = omega (arith, are)
selected_order pairs at (f ∷ fs) are =
    later_order (2 * at) (2 * f.first) (2 * length pairs) _ (omega (arith, are.0))
    (join_order (2 * f.first) (2 * f.past) (2 * length pairs) (finding_replacements pairs f) (flat_map (finding_replacements pairs) fs)
    (fixed_order pairs f.first f.past f.fix are.1.2 are.1.1) (selected_order pairs f.past fs are.2))

pub step_order : (pairs : List Pair) (findings : List Finding) → AreValidFindings (length pairs) findings
    → AreReplacementsInOrder 0 (flat_map (finding_replacements pairs) (selected_from 0 findings)) (2 * length pairs)
step_order pairs findings valid = selected_order pairs 0 (selected_from 0 findings) (selected_are pairs 0 findings (omega arith) valid)

-- ---- how many are taken

count_selected : (pairs : List Pair) (at : ℕ) (fs : List Finding) → AreTaken at pairs fs → at + length fs ≤ length pairs
count_selected pairs at [] are = omega (arith, are)
count_selected pairs at (f ∷ fs) are = omega (arith, are.0, are.1.2, count_selected pairs f.past fs are.2)

pub selected_few : (pairs : List Pair) (findings : List Finding) → AreValidFindings (length pairs) findings → length (selected_from 0 findings) ≤ length pairs
selected_few pairs findings valid = omega (arith, count_selected pairs 0 (selected_from 0 findings) (selected_are pairs 0 findings (omega arith) valid))
