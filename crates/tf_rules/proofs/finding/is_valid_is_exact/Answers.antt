use Rattle.std.proofs.Common.{◌≡◌, ℕ, ◌+◌, ◌<◌, ◌≤◌, Bool, true, false, ◌&&◌, nat_lt, nat_le, ◌==◌, List, [], ◌∷◌, Option, Some, None, refl, arith}
use Rattle.std.proofs.lemmas.Bool.Decides.{nat_tests}
use Rattle.tf_rules.specs.declared.fix.Fix.{Fix}
use Rattle.tf_rules.specs.declared.fix.Fix.TheVariants.{CommentMarker, Tokens}
use Rattle.tf_rules.specs.declared.fix.Insertion.{Insertion}
use Rattle.tf_rules.specs.declared.fix.Insertion.TheVariants.{Nothing}
use Rattle.tf_rules.specs.declared.fix.KeptTokens.{KeptTokens}
use Rattle.tf_rules.specs.Findings.{is_fix_valid}
use Rattle.tf_rules.specs.ValidFindings.{IsFixValid, ChangesSomething, ChangesEnd, AreInOrder}
use Rattle.tf_rules.specs.Fixes.{changes_something, changes_end, are_in_order}
use Rattle.tf_rules.proofs.finding.is_valid_is_exact.Goals as goal

left : (a b : Bool) → (a && b) ≡ true → a ≡ true
left true b e = refl
left false b e = e

right : (a b : Bool) → (a && b) ≡ true → b ≡ true
right true b e = e
right false b e = absurd (cc)

below : (a b : ℕ) → nat_lt a b ≡ true → a < b
below a b e = grind (arith, nat_tests)

within : (a b : ℕ) → nat_le a b ≡ true → a ≤ b
within a b e = grind (arith, nat_tests)

same : (a b : ℕ) → (a == b) ≡ true → a ≡ b
same a b e = grind (arith, nat_tests)

something : (written : Insertion) (at to : ℕ) → changes_something written at to ≡ true → ChangesSomething written at to
something Nothing at to e = below _ _ e
something written at to e = within _ _ e

ending : (first : ℕ) (written : Insertion) (at past : ℕ) → changes_end first written at past ≡ true → ChangesEnd first written at past
ending first Nothing at past e = (below _ _ (left _ _ e), below _ _ (right _ _ e))
ending first written at past e = within _ _ e

in_order : (first past at : ℕ) (written : Insertion) (kept : List (Option KeptTokens)) → are_in_order first past at written kept ≡ true → AreInOrder first past at written kept
in_order first past at written [] e = ending first written at past e
in_order first past at written (None ∷ kept) e = in_order first past at written kept e
in_order first past at written (Some k ∷ kept) e =
    let a = right _ _ e in
    (something written at k.from (left _ _ e), below _ _ (left _ _ a), in_order first past k.to k.after kept (right _ _ a))

fix_fits : (first past : ℕ) (fix : Option Fix) → is_fix_valid first past fix ≡ true → IsFixValid first past fix
fix_fits first past None e = tt
fix_fits first past (Some CommentMarker) e = same _ _ e
fix_fits first past (Some (Tokens before kept)) e = in_order first past first before kept e

pub returns-clause-valid : goal.returns-clause-valid
returns-clause-valid c = λ count f e.
    let rest = right _ _ e in
    let fits = right (nat_le f.past count) (is_fix_valid f.first f.past f.fix) rest in
    (below _ _ (left _ _ e), within _ _ (left _ _ rest), fix_fits f.first f.past f.fix fits)

-- ---- what is valid passes

both : (a b : Bool) → a ≡ true → b ≡ true → (a && b) ≡ true
both true b e f = f
both false b e f = e

less : (a b : ℕ) → a < b → nat_lt a b ≡ true
less a b h = grind (arith, nat_tests, h)

no_more : (a b : ℕ) → a ≤ b → nat_le a b ≡ true
no_more a b h = grind (arith, nat_tests, h)

equal : (a b : ℕ) → a ≡ b → (a == b) ≡ true
equal a b h = grind (arith, nat_tests, h)

something_is : (written : Insertion) (at to : ℕ) → ChangesSomething written at to → changes_something written at to ≡ true
something_is Nothing at to h = less at to h
something_is written at to h = no_more at to h

ending_is : (first : ℕ) (written : Insertion) (at past : ℕ) → ChangesEnd first written at past → changes_end first written at past ≡ true
ending_is first Nothing at past h = both (nat_lt first at) (nat_lt at past) (less first at h.0) (less at past h.1)
ending_is first written at past h = no_more at past h

order_is : (first past at : ℕ) (written : Insertion) (kept : List (Option KeptTokens)) → AreInOrder first past at written kept → are_in_order first past at written kept ≡ true
order_is first past at written [] h = ending_is first written at past h
order_is first past at written (None ∷ kept) h = order_is first past at written kept h
order_is first past at written (Some k ∷ kept) h =
    both (changes_something written at k.from) (nat_lt k.from k.to && are_in_order first past k.to k.after kept) (something_is written at k.from h.0)
    (both (nat_lt k.from k.to) (are_in_order first past k.to k.after kept) (less k.from k.to h.1) (order_is first past k.to k.after kept h.2))

fix_is : (first past : ℕ) (fix : Option Fix) → IsFixValid first past fix → is_fix_valid first past fix ≡ true
fix_is first past None h = refl
fix_is first past (Some CommentMarker) h = equal past (first + 1) h
fix_is first past (Some (Tokens before kept)) h = order_is first past first before kept h

pub returns-clause-passes : goal.returns-clause-passes
returns-clause-passes c = λ count f h.
    both (nat_lt f.first f.past) (nat_le f.past count && is_fix_valid f.first f.past f.fix) (less f.first f.past h.0)
    (both (nat_le f.past count) (is_fix_valid f.first f.past f.fix) (no_more f.past count h.1) (fix_is f.first f.past f.fix h.2))
