-- Tokens that are no comments are passed by without a look at each.
use Rattle.std.proofs.Common.{◌≡◌, ℕ, zero, suc, ◌+◌, ◌-◌, ◌<◌, ◌≤◌, not, ◌&&◌, Bool, true, false, List, [], length, drop, Some, None, refl, ap, sym, subst, ◌∙◌, inl, inr, arith}
use Rattle.std.proofs.lemmas.Bool.{cases_lt}
use Rattle.std.proofs.lemmas.Option.{slice_get_cases, slice_get_past}
use Rattle.std.specs.Option.{option_map}
use Rattle.hcl_token.specs.TokenizedText.{kind_of}
use Rattle.hcl_token.specs.Tokens.{Pair}
use Rattle.hcl_token.specs.declared.kind.Kind.{Kind}
use Rattle.tf_rules.specs.Findings.{valid_findings}
use Rattle.tf_rules.specs.declared.rule.Rule.{Rule}
use Rattle.tf_rules.specs.declared.rule_set.RuleSet.{RuleSet}
use Rattle.hcl_token.specs.Kinds.{is_comment}
use Rattle.tf_findings.specs.Silencing.{silenced_from}
use Rattle.tf_findings.specs.Inner.NextComment.{IsNoComment, AreNoComments, HasComment}
use Rattle.tf_findings.proofs.CommentLemmas.{found_from, found_step, other_adds}
use Rattle.tf_findings.proofs.LineLemmas.{quiet_kind, quiet_step}

pub both_hold : (a b : Bool) → (a && not b) ≡ true → (a ≡ true) × (b ≡ false)
both_hold true true h = absurd (cc)
both_hold true false h = (refl, refl)
both_hold false b h = absurd (cc)

pub some_inj : (a b : Kind) → Some a ≡ Some b → a ≡ b
some_inj a b e = cc e

pub none_from_end : (pairs : List Pair) (i : ℕ) (kind : Kind) → length pairs ≤ i → Some kind ≡ kind_of pairs i → is_comment kind ≡ true
none_from_end pairs i kind past is =
    let none : kind_of pairs i ≡ None = ap (option_map (λ (q : Pair). q.kind)) (slice_get_past pairs i past) in
    absurd cc

-- one token more
pub none_more : (pairs : List Pair) (from i : ℕ) → AreNoComments pairs from i → ((kind : Kind) → Some kind ≡ kind_of pairs i → IsNoComment kind) → AreNoComments pairs from (i + 1)
none_more pairs from i h here = record { each = λ n below above kind is. by_place n below above kind is }
  where
    by_place : (n : ℕ) → from ≤ n → n < i + 1 → (kind : Kind) → Some kind ≡ kind_of pairs n → IsNoComment kind
    by_place n below above kind is = elim (cases_lt n i) [
      | inl l ↦ h.each n below l kind is
      | inr more ↦ let e : n ≡ i = omega (arith, above, more) in here kind (subst (λ (m : ℕ). Some kind ≡ kind_of pairs m) e is)
    ]

-- one token more: a comment is among those before, or is this one
pub has_more : (pairs : List Pair) (from i : ℕ) (kind : Kind) (free here : Bool) → (free && not here) ≡ false → from ≤ i
    → (free ≡ false → HasComment pairs from i) → Some kind ≡ kind_of pairs i → is_comment kind ≡ here → HasComment pairs from (i + 1)
has_more pairs from i kind false here h below before is comment =
    let b = before refl in
    record { place = b.place; later = b.later; before = omega (arith, b.before); kind = b.kind; here = b.here; comment = b.comment }
has_more pairs from i kind true true h below before is comment =
    record { place = i; later = below; before = omega arith; kind = kind; here = is; comment = comment }
has_more pairs from i kind true false h below before is comment = absurd (cc)

-- tokens, and those after them
pub none_joined : (pairs : List Pair) (from middle to : ℕ) → AreNoComments pairs from middle → AreNoComments pairs middle to → AreNoComments pairs from to
none_joined pairs from middle to a b = record {
  each = λ n below above kind is. elim (cases_lt n middle) [
    | inl l ↦ a.each n below l kind is
    | inr more ↦ b.each n (omega (arith, more)) above kind is
  ];
}

-- at a token, or after the last
pub comment_or_end : (pairs : List Pair) (i : ℕ) → (i < length pairs → (kind : Kind) → Some kind ≡ kind_of pairs i → is_comment kind ≡ true) → (kind : Kind) → Some kind ≡ kind_of pairs i → is_comment kind ≡ true
comment_or_end pairs i there kind is = elim (cases_lt i (length pairs)) [
  | inl l ↦ there l kind is
  | inr more ↦ none_from_end pairs i kind (omega (arith, more)) is
]

-- at and after the two places the same is found and silenced
pub record ContinuesAt (pairs : List Pair) (i j : ℕ) : Type 0 where
  pub found : (rules : RuleSet) → valid_findings (length pairs) (found_from rules i (drop i pairs)) ≡ valid_findings (length pairs) (found_from rules j (drop j pairs))
  pub silence : (rule : Rule) (line : ℕ) → silenced_from pairs rule line i (drop i pairs) ≡ silenced_from pairs rule line j (drop j pairs)

kind_there : (pairs : List Pair) (i : ℕ) → i < length pairs → (kind : Kind) × (Some kind ≡ kind_of pairs i)
kind_there pairs i below = elim (slice_get_cases pairs i).1 [
  | inl (p, within, found, same) ↦ (p.kind, sym (ap (option_map (λ (q : Pair). q.kind)) found))
  | inr (past, none) ↦ absurd (omega arith)
]

one_on : (pairs : List Pair) (i : ℕ) → i < length pairs → ((kind : Kind) → Some kind ≡ kind_of pairs i → IsNoComment kind) → ContinuesAt pairs i (i + 1)
one_on pairs i below none =
    let k = kind_there pairs i below in
    let quiet = none k.0 k.1 in
    record {
      found = λ rules. sym (found_step rules pairs i [] [] (valid_findings (length pairs) (found_from rules i (drop i pairs))) below (other_adds rules pairs i k.0 [] k.1 quiet.other) refl);
      silence = λ rule line. sym (quiet_step pairs rule line i below (quiet_kind pairs rule line i k.0 k.1 (λ spelling. quiet.silences_none spelling rule)));
    }

on_by : (pairs : List Pair) (from k : ℕ) → from + k ≤ length pairs → AreNoComments pairs from (from + k) → ContinuesAt pairs from (from + k)
on_by pairs from zero fits h =
    let e : from ≡ from + zero = omega arith in
    subst (λ (j : ℕ). ContinuesAt pairs from j) e (record { found = λ rules. refl; silence = λ rule line. refl })
on_by pairs from (suc k) fits h =
    let e : (from + k) + 1 ≡ from + suc k = omega arith in
    let before = on_by pairs from k (omega (arith, fits)) (record { each = λ n below above kind is. h.each n below (omega (arith, above)) kind is }) in
    let last = one_on pairs (from + k) (omega (arith, fits)) (λ kind is. h.each (from + k) (omega arith) (omega arith) kind is) in
    subst (λ (j : ℕ). ContinuesAt pairs from j) e (record {
      found = λ rules. before.found rules ∙ last.found rules;
      silence = λ rule line. before.silence rule line ∙ last.silence rule line;
    })

pub comments_continue : (pairs : List Pair) (from to : ℕ) → from ≤ to → to ≤ length pairs → AreNoComments pairs from to → ContinuesAt pairs from to
comments_continue pairs from to order fits h =
    let e : from + (to - from) ≡ to = omega (arith, order) in
    subst (λ (j : ℕ). ContinuesAt pairs from j) e (on_by pairs from (to - from) (omega (arith, e, fits)) (subst (λ (j : ℕ). AreNoComments pairs from j) (sym e) h))
