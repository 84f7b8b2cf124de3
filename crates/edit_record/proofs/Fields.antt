-- Bytes and edits: what is read is written so, and what is written so is read.
use Rattle.std.proofs.Common.{◌≡◌, ℕ, ◌≤◌, List, [], ◌∷◌, ◌++◌, length, take, drop, Bool, true, false, cond, Option, None, Some, Ok, refl, sym, ap, subst, ◌∙◌, append_assoc, length-append, arith, eq-eqb}
use Rattle.std.specs.Prelude.{nat_lt, ◌==◌, ◌≢◌, MatchOption, option_map}
use Rattle.std.specs.Borrow.{Bor}
use Rattle.std.specs.List.{flat_map, AllByRecursion}
use Rattle.std.proofs.lemmas.Bool.{eqb-true, ltb-false, le-ltb}
use Rattle.std.proofs.lemmas.List.{take-append-drop, length-take}
use Rattle.std.proofs.Math.Seq.{take-append_seam, drop-append_seam}
use Rattle.edit_record.specs.Lists.Pieces.{EditEntry}
use Rattle.edit_record.specs.Text.{newline, NumbersFit, edit_head, edit_text}
use Rattle.edit_record.specs.declared.fault.FaultKind.{FaultKind}
use Rattle.edit_record.specs.declared.fault.FaultKind.TheVariants.{End}
use Rattle.edit_record.specs.Parsing.{strip, expected, expect, bytes_at, edit_head_at, edit_at, edits_at}
use Rattle.edit_record.proofs.Choices.{err_else, ok_is, through, through_one, continues_with, part}
use Rattle.edit_record.proofs.Many.{many_take, many_again}
use Rattle.edit_record.proofs.Heads.{edit_head_takes, edit_head_again}

some_if : {A : Type 0} (b : Bool) (y : Option A) (z : A) → cond b y None ≡ Some z → (b ≡ true) × (y ≡ Some z)
some_if true y z e = (refl, e)
some_if false y z e = absurd cc

some_is : {A : Type 0} (x y : A) → Some x ≡ Some y → x ≡ y
some_is x y e = cc

pub after_takes : (p t rest : List ℕ) → strip p t ≡ Some rest → t ≡ p ++ rest
after_takes [] t rest e = some_is t rest e
after_takes (c ∷ p) [] rest e = absurd cc
after_takes (c ∷ p) (b ∷ t) rest e =
    let s = some_if (c == b) (strip p t) rest e in
    let same : c ≡ b = eqb-true c b s.0 in
    let i = after_takes p t rest s.1 in
    cc

pub after_again : (p rest : List ℕ) → strip p (p ++ rest) ≡ Some rest
after_again [] rest = refl
after_again (c ∷ p) rest = rw (eq-eqb c c refl) (after_again p rest)

expected_is : (found part : Option (List ℕ)) (kind : FaultKind) (left : ℕ) (rest : List ℕ) → expected found part kind left ≡ Ok rest → found ≡ Some rest
expected_is (Some x) part kind left rest e = ap (λ (y : List ℕ). Some y) (ok_is x rest e)
expected_is None (Some more) kind left rest e = absurd cc
expected_is None None kind left rest e = absurd cc

pub expect_takes : (p : List ℕ) (kind : FaultKind) (t rest : List ℕ) → expect p kind t ≡ Ok rest → t ≡ p ++ rest
expect_takes p kind t rest e = after_takes p t rest (expected_is (strip p t) (strip t p) kind (length t) rest e)

pub bytes_take : (n : ℕ) (t s rest : List ℕ) → bytes_at n t ≡ Ok (s, rest) → (t ≡ s ++ rest) × (length s ≡ n)
unfolding bytes_at
bytes_take n t s rest e =
    let f = err_else (nat_lt (length t) n) _ _ (s, rest) e in
    let le : n ≤ length t = ltb-false (length t) n f.0 in
    subst (λ (x : List ℕ × List ℕ). (t ≡ x.0 ++ x.1) × (length x.0 ≡ n)) (ok_is (take n t, drop n t) (s, rest) f.1)
    (sym (take-append-drop n t), omega (arith, length-take n t))

pub bytes_again : (s rest : List ℕ) → bytes_at (length s) (s ++ rest) ≡ Ok (s, rest)
unfolding bytes_at
bytes_again s rest =
    let lt : nat_lt (length (s ++ rest)) (length s) ≡ false = le-ltb (length (s ++ rest)) (length s) (omega (arith, length-append s rest)) in
    rw (lt, take-append_seam s rest, drop-append_seam s rest) refl

regroup : (a b c d rest : List ℕ) → (a ++ b ++ c ++ d) ++ rest ≡ a ++ (b ++ (c ++ (d ++ rest)))
regroup a b c d rest = simp append_assoc

-- and its numbers are within their limits
pub edit_takes : (t : List ℕ) (x : EditEntry) (rest : List ℕ) → edit_at t ≡ Ok (x, rest) → (t ≡ edit_text x ++ rest) × NumbersFit x
unfolding edit_at
edit_takes t x rest e =
    through (edit_head_at t) _ (x, rest) e λ n t1 n_is e1.
    through (bytes_at n.1 t1) _ (x, rest) e1 λ removed t2 removed_is e2.
    through (bytes_at n.2 t2) _ (x, rest) e2 λ added t3 added_is e3.
    through_one (expect (newline ∷ []) End t3) _ (x, rest) e3 λ t4 end_is e4.
    let found : EditEntry × List ℕ = (record { at = n.0; removed = removed; added = added }, t4) in
    let h = edit_head_takes t n t1 n_is in
    let p1 = bytes_take n.1 t1 removed t2 removed_is in
    let p2 = bytes_take n.2 t2 added t3 added_is in
    let head = edit_head n.0 (length removed) (length added) in
    let head_is : t ≡ head ++ t1 = h.text ∙ ap (λ (k : ℕ). edit_head n.0 k n.2 ++ t1) (sym p1.1) ∙ ap (λ (k : ℕ). edit_head n.0 (length removed) k ++ t1) (sym p2.1) in
    let bytes_are = part removed t1 t2 _ p1.0 (part added t2 t3 _ p2.0 (expect_takes (newline ∷ []) End t3 t4 end_is)) in
    let whole = part head t t1 _ head_is bytes_are ∙ sym (regroup head removed added (newline ∷ []) t4) in
    let h1 = h.removed in
    let h2 = h.added in
    let fits : NumbersFit found.0 = record { at = h.at; removed = omega (arith, p1.1, h1); added = omega (arith, p2.1, h2) } in
    subst (λ (y : EditEntry × List ℕ). (t ≡ edit_text y.0 ++ y.1) × NumbersFit y.0) (ok_is found (x, rest) e4) (whole, fits)

pub edit_again : (e : EditEntry) (rest : List ℕ) → NumbersFit e → edit_at (edit_text e ++ rest) ≡ Ok (e, rest)
unfolding edit_at
edit_again e rest fits =
    let t3 = newline ∷ rest in
    let t2 = e.added ++ t3 in
    let t1 = e.removed ++ t2 in
    let head = edit_head e.at (length e.removed) (length e.added) in
    let read : edit_at (head ++ t1) ≡ Ok (e, rest) =
    continues_with (edit_head_at (head ++ t1)) _ ((e.at, length e.removed, length e.added), t1) _ (edit_head_again e.at (length e.removed) (length e.added) t1 fits.at fits.removed fits.added)
    (continues_with (bytes_at (length e.removed) t1) _ (e.removed, t2) _ (bytes_again e.removed t2)
    (continues_with (bytes_at (length e.added) t2) _ (e.added, t3) _ (bytes_again e.added t3)
    refl)) in
    ap edit_at (regroup head e.removed e.added (newline ∷ []) rest) ∙ read

pub edits_take : (n : ℕ) (t : List ℕ) (es : List EditEntry) (rest : List ℕ) → edits_at n t ≡ Ok (es, rest) → (t ≡ flat_map edit_text es ++ rest) × (length es ≡ n)
unfolding edits_at
edits_take n t es rest e = let m = many_take edit_at edit_text NumbersFit edit_takes n t es rest e in (m.0, m.1)

pub edits_again : (es : List EditEntry) (rest : List ℕ) → AllByRecursion NumbersFit es → edits_at (length es) (flat_map edit_text es ++ rest) ≡ Ok (es, rest)
unfolding edits_at
edits_again = many_again edit_at edit_text NumbersFit edit_again

-- what std says of strip_prefix
pub stripped : (p t : List ℕ) (r : Option (Bor (List ℕ))) → MatchOption r ((rest : List ℕ) → t ≢ p ++ rest) (λ x. t ≡ p ++ x.now) → option_map (λ x. x.now) r ≡ strip p t
stripped p t (Some x) h = sym (ap (strip p) h ∙ after_again p x.now)
stripped p t None h =
    elim (strip p t) as (λ o. strip p t ≡ o → None ≡ o) [ Some rest ↦ λ e. absurd (h rest (after_takes p t rest e)) | None ↦ λ e. refl ] refl
