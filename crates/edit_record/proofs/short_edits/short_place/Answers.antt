use Rattle.std.proofs.Common.{◌≡◌, ℕ, ◌+◌, ◌^◌, ◌<◌, ◌≤◌, ◌∷◌, List, length, drop, true, Ok, get_or, refl, ap, sym, ◌∙◌, arith}
use Rattle.std.proofs.Math.Nat.{pow-le-pow_right}
use Rattle.std.proofs.lemmas.Bool.{le-leb}
use Rattle.std.proofs.lemmas.Grind.{pow_more}
use Rattle.std.proofs.lemmas.List.{drop_more}
use Rattle.edit_record.specs.declared.columns.TheConstants.{QUICK_DIGITS}
use Rattle.edit_record.specs.declared.digits.TheConstants.{EIGHT_DIGITS}
use Rattle.edit_record.specs.Text.{max_number, space}
use Rattle.edit_record.specs.Parsing.{is_digit, with_digit, number_on, number_at}
use Rattle.edit_record.proofs.Numbers.{one_digit, not_zero, digit_bounds}
use Rattle.edit_record.proofs.short_edits.short_place.Goals as goal

-- the number ends
stop_read : (left value : ℕ) (rest : List ℕ) → number_on left 0 max_number space true value (space ∷ rest) ≡ Ok (value, rest)
stop_read left value rest = rw (le-leb 0 value (omega arith)) refl

-- the digits that are read at once are no number over the limit
small_more : (value d i : ℕ) → value < 10 ^ i → d ≤ 57 → with_digit value d < 10 ^ (i + 1)
small_more value d i small high = omega (arith, small, high, pow_more 10 i)

below : (n i : ℕ) → n < 10 ^ i → i ≤ QUICK_DIGITS → n < EIGHT_DIGITS
below n i small le =
    let p : 10 ^ i ≤ EIGHT_DIGITS = pow-le-pow_right {n = 10} (omega arith) le in
    omega (arith, small, p)

within_limit : (n i : ℕ) → n < 10 ^ i → i ≤ QUICK_DIGITS → n ≤ max_number
within_limit n i small le = omega (arith, below n i small le)

pub returns-then-digit-eq32-clause-read : goal.returns-then-digit-eq32-clause-read
unfolding number_at
returns-then-digit-eq32-clause-read c =
    let text = c.args.text.now in
    let left = length text in
    let value = c.loop-i.value in
    let i = c.loop-i.i in
    let split = drop_more text i 0 (omega (arith, c.loop-i-test.true, c.if-text-lt-QUICK_BYTES.false)) in
    sym c.loop-i.invariant.same
    ∙ ap (number_on left 0 max_number space true value) (split ∙ ap (λ d. d ∷ drop (i + 1) text) c.if-digit-eq32.true)
    ∙ stop_read left value (drop (i + 1) text)

pub loop-i-preserved : goal.loop-i-preserved
unfolding number_at
loop-i-preserved c =
    let text = c.args.text.now in
    let left = length text in
    let value = c.loop-i.value in
    let i = c.loop-i.i in
    let d = get_or text i 0 in
    let split = drop_more text i 0 (omega (arith, c.loop-i-test.true, c.if-text-lt-QUICK_BYTES.false)) in
    let digit : is_digit d ≡ true = sym c.is_ascii_digit-in-loop-i.ensures.value ∙ c.if-not-is_ascii_digit-2.false in
    let small = small_more value d i c.loop-i.invariant.small (digit_bounds d digit).1 in
    let step = one_digit left 0 max_number space value (with_digit value d) d true (drop (i + 1) text) digit (not_zero value c.loop-i.invariant.positive) refl (within_limit (with_digit value d) (i + 1) small (omega (arith, c.loop-i-test.true))) in
    record {
      same = sym step ∙ ap (number_on left 0 max_number space true value) (sym split) ∙ c.loop-i.invariant.same;
      positive = omega (arith, c.loop-i.invariant.positive);
      small = small;
      most = omega (arith, c.loop-i-test.true);
    }

pub returns-clause-read : goal.returns-clause-read
unfolding number_at
returns-clause-read c =
    let text = c.args.text.now in
    let left = length text in
    let value = c.loop-i.value in
    let last : c.loop-i.i ≡ QUICK_DIGITS = omega (arith, c.loop-i-test.false, c.loop-i.invariant.most) in
    let split = drop_more text QUICK_DIGITS 0 (omega (arith, c.if-text-lt-QUICK_BYTES.false)) in
    sym (rw last at c.loop-i.invariant.same)
    ∙ ap (number_on left 0 max_number space true value) (split ∙ ap (λ d. d ∷ drop (QUICK_DIGITS + 1) text) c.if-text-ne32.false)
    ∙ stop_read left value (drop (QUICK_DIGITS + 1) text)

pub returns-then-digit-eq32-clause-near : goal.returns-then-digit-eq32-clause-near
returns-then-digit-eq32-clause-near c = below c.loop-i.value c.loop-i.i c.loop-i.invariant.small c.loop-i.invariant.most

pub returns-clause-near : goal.returns-clause-near
returns-clause-near c = below c.loop-i.value c.loop-i.i c.loop-i.invariant.small c.loop-i.invariant.most
