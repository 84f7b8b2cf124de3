-- Of findings in order, those that begin after all that were selected before are those that share no
-- token with one of these.
use Rattle.std.proofs.Common.{◌≡◌, ℕ, suc, ◌<◌, ◌≤◌, ◌&&◌, ◌||◌, not, nat_lt, nat_le, Bool, true, false, List, [], ◌∷◌, if◌then◌else◌, refl, sym, ap, subst, arith}
use Rattle.std.specs.List.Sorted.{IsNonDecreasingBy}
use Rattle.std.proofs.lemmas.Bool.{and_parts, ltb-true, ltb-false}
use Rattle.std.proofs.lemmas.Bool.Decides.{nat_tests}
use Rattle.tf_rules.specs.declared.finding.Finding.{Finding}
use Rattle.tf_rules.specs.Findings.{is_fixable}
use Rattle.tf_rules.specs.ValidFindings.{AreValidFindings}
use Rattle.tf_fix.specs.Selection.{are_apart, is_apart_from, selected_from, selected_apart}

-- ---- tests

no_more : (a b : ℕ) → a ≤ b → nat_le a b ≡ true
no_more a b le = grind (arith, nat_tests)

more : (a b : ℕ) → b < a → nat_le a b ≡ false
more a b lt = grind (arith, nat_tests)

either : (a b : Bool) → b ≡ true → (a || b) ≡ true
either true b e = refl
either false b e = e

neither : (a b c : Bool) → a ≡ false → b ≡ false → ((a || b) && c) ≡ false
neither true b c e f = absurd (cc)
neither false true c e f = absurd (cc)
neither false false c e f = refl

both : (a b : Bool) → a ≡ true → b ≡ true → (a && b) ≡ true
both true b e f = f
both false b e f = absurd (cc)

not_true : (b : Bool) → not b ≡ true → b ≡ false
not_true true e = absurd (cc)
not_true false e = refl

-- ---- what was selected

-- all of these end by number `past`
abbrev EndBy : ℕ → List Finding → Type 0
EndBy past [] = Unit {0}
EndBy past (g ∷ gs) = (g.past ≤ past) × EndBy past gs

-- the last selected is the first of these: it ends just there, and begins by number `first`
abbrev LastEndsAt : ℕ → ℕ → List Finding → Type 0
LastEndsAt past first [] = past ≡ 0
LastEndsAt past first (g ∷ gs) = (g.past ≡ past) × (g.first ≤ first)

end_later : (past later : ℕ) (before : List Finding) → past ≤ later → EndBy past before → EndBy later before
end_later past later [] le ends = tt
end_later past later (g ∷ gs) le ends = (omega (arith, le, ends.0), end_later past later gs le ends.1)

last_later : (past first later : ℕ) (before : List Finding) → first ≤ later → LastEndsAt past first before → LastEndsAt past later before
last_later past first later [] le last = last
last_later past first later (g ∷ gs) le last = (last.0, omega (arith, le, last.1))

-- a finding that begins after all of them shares no token with any
all_apart : (f : Finding) (past : ℕ) (before : List Finding) → past ≤ f.first → EndBy past before → is_apart_from f before ≡ true
all_apart f past [] le ends = refl
all_apart f past (g ∷ gs) le ends =
    both (are_apart f g) (is_apart_from f gs)
    (either (nat_le f.past g.first) (nat_le g.past f.first) (no_more g.past f.first (omega (arith, le, ends.0))))
    (all_apart f past gs le ends.1)

-- one that begins before the last of them ends, and not before it begins, shares a token with it
shares : (f : Finding) (past first : ℕ) (before : List Finding) → f.first < f.past → first ≤ f.first → f.first < past → LastEndsAt past first before → is_apart_from f before ≡ false
shares f past first [] some le lt last = absurd (omega (arith, lt, last))
shares f past first (g ∷ gs) some le lt last =
    neither (nat_le f.past g.first) (nat_le g.past f.first) (is_apart_from f gs)
    (more f.past g.first (omega (arith, some, le, last.1))) (more g.past f.first (omega (arith, lt, last.0)))

same_if : (f : Finding) (past first : ℕ) (before : List Finding) (is_before : Bool) → nat_lt f.first past ≡ is_before → f.first < f.past → first ≤ f.first → EndBy past before → LastEndsAt past first before
    → is_apart_from f before ≡ not is_before
same_if f past first before true e some le ends last = shares f past first before some le (ltb-true f.first past e) last
same_if f past first before false e some le ends last = all_apart f past before (ltb-false f.first past e) ends

-- ---- both selections

agree_if : (f : Finding) (here : Bool) (xs us ys vs : List Finding) → (here ≡ true → xs ≡ us) → ys ≡ vs → (if here then f ∷ xs else ys) ≡ (if here then f ∷ us else vs)
agree_if f true xs us ys vs a b = ap (λ (zs : List Finding). f ∷ zs) (a refl)
agree_if f false xs us ys vs a b = b

-- each begins where the one before it begins, or later
abbrev Rise : ℕ → List Finding → Type 0
Rise at [] = Unit {0}
Rise at (f ∷ fs) = (at ≤ f.first) × Rise f.first fs

agree : (count past first : ℕ) (before findings : List Finding) → AreValidFindings count findings → Rise first findings → EndBy past before → LastEndsAt past first before
    → selected_from past findings ≡ selected_apart before findings
agree count past first before [] valid rise ends last = refl
agree count past first before (f ∷ fs) valid rise ends last =
    let after = not (nat_lt f.first past) in
    let same = same_if f past first before (nat_lt f.first past) refl valid.0.0 rise.0 ends last in
    let P : Bool → Type 0 = λ b. (if is_fixable f.fix && after then f ∷ selected_from f.past fs else selected_from past fs) ≡ (if is_fixable f.fix && b then f ∷ selected_apart (f ∷ before) fs else selected_apart before fs) in
    subst P (sym same)
    (agree_if f (is_fixable f.fix && after) (selected_from f.past fs) (selected_apart (f ∷ before) fs) (selected_from past fs) (selected_apart before fs)
    (λ taken.
    let le = ltb-false f.first past (not_true (nat_lt f.first past) (and_parts (is_fixable f.fix) after taken).1) in
    agree count f.past f.first (f ∷ before) fs valid.1 rise.1 (omega arith, end_later past f.past before (omega (arith, le, valid.0.0)) ends) (refl, omega arith))
    (agree count past f.first before fs valid.1 rise.1 ends (last_later past first f.first before rise.0 last)))

-- ---- the order of findings

rise_after : (f : Finding) (fs : List Finding) → IsNonDecreasingBy (λ (g : Finding). g.first) (f ∷ fs) → Rise f.first fs
rise_after f [] up = tt
rise_after f (g ∷ gs) up = (up 0 (suc 0) f (omega arith) (omega arith), rise_after g gs (λ i j d le lt. up (suc i) (suc j) d (omega arith) (omega arith)))

rise_all : (fs : List Finding) → IsNonDecreasingBy (λ (g : Finding). g.first) fs → Rise 0 fs
rise_all [] up = tt
rise_all (f ∷ fs) up = (omega arith, rise_after f fs up)

pub selection_is_apart : (count : ℕ) (findings : List Finding) → AreValidFindings count findings → IsNonDecreasingBy (λ (g : Finding). g.first) findings → selected_from 0 findings ≡ selected_apart [] findings
selection_is_apart count findings valid up = agree count 0 0 [] findings valid (rise_all findings up) tt refl
