-- Marks, by line.
use Rattle.std.proofs.Common.{◌≡◌, ℕ, ◌+◌, ◌<◌, ◌≤◌, Result, Ok, Err, OnOk, Bool, true, false, ◌||◌, nat_lt, List, [], ◌∷◌, ◌++◌, take, refl, subst, sym, ap, ◌∙◌, arith}
use Rattle.std.proofs.lemmas.Bool.Decides.{nat_tests}
use Rattle.tf_rules.specs.declared.rule.Rule.{Rule}
use Rattle.tf_findings.specs.declared.silencing.annotation.Annotation.{Annotation}
use Rattle.tf_findings.specs.Silencing.{covers_line}
use Rattle.tf_findings.specs.Inner.Annotations.{covers, is_silenced_by, AreLinesIncreasing, CanSilence}

-- ---- marks in order

pub lines_increase_more : (a : ℕ) (ms : List Annotation) (b c : ℕ) → AreLinesIncreasing a ms b → b ≤ c → AreLinesIncreasing a ms c
lines_increase_more a [] b c h le = omega (arith, h)
lines_increase_more a (m ∷ ms) b c h le = (h.0, lines_increase_more m.line ms b c h.1 le)

pub lines_increase_from : (a d : ℕ) (ms : List Annotation) (b : ℕ) → AreLinesIncreasing a ms b → d ≤ a → AreLinesIncreasing d ms b
lines_increase_from a d [] b h le = omega (arith, h)
lines_increase_from a d (m ∷ ms) b h le = (omega (arith, h.0), h.1)

pub lines_increase_push : (a : ℕ) (ms : List Annotation) (m : Annotation) (b : ℕ) → AreLinesIncreasing a ms b → b < m.line → AreLinesIncreasing a (ms ++ m ∷ []) m.line
lines_increase_push a [] m b h less = (omega (arith, h), omega arith)
lines_increase_push a (n ∷ ms) m b h less = (h.0, lines_increase_push n.line ms m b h.1 less)

-- the last one in the place of another of its line
pub lines_increase_put : (a : ℕ) (ms : List Annotation) (l m : Annotation) (b : ℕ) → AreLinesIncreasing a (ms ++ l ∷ []) b → l.line ≡ m.line → AreLinesIncreasing a (ms ++ m ∷ []) m.line
lines_increase_put a [] l m b h e = (omega (arith, h.0, e), omega arith)
lines_increase_put a (n ∷ ms) l m b h e = (h.0, lines_increase_put n.line ms l m b h.1 e)

-- ---- which of them silence

covers_not : (line at : ℕ) → line < at → covers_line line at ≡ false
covers_not line at h = grind (arith, nat_tests)

covers_no_later : (line at : ℕ) → at + 1 < line → covers_line line at ≡ false
covers_no_later line at h = grind (arith, nat_tests)

-- none that is after the line
pub far : (rule : Rule) (line a : ℕ) (ms : List Annotation) (b : ℕ) → AreLinesIncreasing a ms b → line ≤ a → is_silenced_by rule line ms ≡ false
far rule line a [] b h le = refl
far rule line a (m ∷ ms) b h le =
    let less : line < m.line = omega (arith, h.0, le) in
    rw (covers_not line m.line less) (far rule line m.line ms b h.1 (omega (arith, less)))

-- of those after the first, the next alone
pub two_alone : (rule : Rule) (line : ℕ) (a : ℕ) (ms : List Annotation) (b : ℕ) → AreLinesIncreasing a ms b → line ≤ a + 1 → is_silenced_by rule line ms ≡ is_silenced_by rule line (take 1 ms)
two_alone rule line a [] b h le = refl
two_alone rule line a (n ∷ ms) b h le = ap (λ x. covers rule line n || x) (far rule line n.line ms b h.1 (omega (arith, h.0, le)))

-- a mark that lies too far before the line does nothing
pub passed : (rule : Rule) (line : ℕ) (m : Annotation) (ms : List Annotation) → m.line + 1 < line → is_silenced_by rule line (m ∷ ms) ≡ is_silenced_by rule line ms
passed rule line m ms h = rw (covers_no_later line m.line h) refl

pub nat_lt_is : (a b : ℕ) → nat_lt a b ≡ true → a < b
nat_lt_is a b e = grind (arith, nat_tests)

pub or_assoc : (a b c : Bool) → ((a || b) || c) ≡ (a || (b || c))
or_assoc true b c = refl
or_assoc false b c = refl

pub or_false : (a : Bool) → (a || false) ≡ a
or_false true = refl
or_false false = refl

last_below : (a : ℕ) (ms : List Annotation) (l : Annotation) (b : ℕ) → AreLinesIncreasing a (ms ++ l ∷ []) b → l.line ≤ b
last_below a [] l b h = omega (arith, h.1)
last_below a (n ∷ ms) l b h = last_below n.line ms l b h.1

-- ---- one more mark

pub put_in : (old leading new : List Annotation) (last mark : Annotation) → old ≡ leading ++ last ∷ [] → AreLinesIncreasing 0 old mark.line → last.line ≡ mark.line → new ≡ leading ++ mark ∷ [] → AreLinesIncreasing 0 new mark.line
put_in old leading new last mark is h e new_is = subst (λ l. AreLinesIncreasing 0 l mark.line) (sym new_is) (lines_increase_put 0 leading last mark mark.line (subst (λ l. AreLinesIncreasing 0 l mark.line) is h) e)

pub put_after : (old leading back new : List Annotation) (last mark : Annotation) → old ≡ leading ++ last ∷ [] → AreLinesIncreasing 0 old mark.line → (last.line ≡ mark.line → ⊥)
    → back ≡ leading ++ last ∷ [] → new ≡ back ++ mark ∷ [] → AreLinesIncreasing 0 new mark.line
put_after old leading back new last mark is h other back_is new_is =
    let here = subst (λ l. AreLinesIncreasing 0 l mark.line) is h in
    let tokenized = lines_increase_put 0 leading last last mark.line here refl in
    let below : last.line < mark.line = omega (arith, last_below 0 leading last mark.line here, other) in
    subst (λ l. AreLinesIncreasing 0 l mark.line) (sym new_is) (lines_increase_push 0 back mark last.line (subst (λ l. AreLinesIncreasing 0 l last.line) (sym back_is) tokenized) below)

-- ---- the marks that are left

pub silenced_after : (rule : Rule) (line : ℕ) (marks others : List Annotation) (m : Annotation) (answer : Bool) → marks ≡ m ∷ others → CanSilence line marks → covers rule line m ≡ false
    → answer ≡ is_silenced_by rule line (take 1 others) → answer ≡ is_silenced_by rule line marks
silenced_after rule line marks others m answer is next off result_is =
    let n = subst (CanSilence line) is next in
    result_is ∙ (sym (two_alone rule line m.line others n.1.0 n.1.1 n.0) ∙ (ap (λ b. b || is_silenced_by rule line others) (sym off) ∙ ap (is_silenced_by rule line) (sym is)))

pub order_left : (rest others : List Annotation) (m : Annotation) → rest ≡ m ∷ others → (b : ℕ) × AreLinesIncreasing 0 rest b → (b : ℕ) × AreLinesIncreasing 0 others b
order_left rest others m is (b, h) = (b, lines_increase_from m.line 0 others b (subst (λ l. AreLinesIncreasing 0 l b) is h).1 (omega arith))

pub same_left : (rule : Rule) (line at : ℕ) (rest others : List Annotation) (m : Annotation) → rest ≡ m ∷ others → m.line + 1 < line → line ≤ at
    → is_silenced_by rule at others ≡ is_silenced_by rule at rest
same_left rule line at rest others m is past le = sym (ap (is_silenced_by rule at) is ∙ passed rule at m others (omega (arith, past, le)))

pub ok_map : {T E : Type 0} (r : Result T E) {P Q : Type 0} → (P → Q) → OnOk r P → OnOk r Q
ok_map (Ok x) f h = f h
ok_map (Err e) f h = tt
