-- Tokens among which no line ends, and that they have no line break.
use Rattle.std.proofs.Common.{◌≡◌, ℕ, ◌<◌, ◌≤◌, ◌+◌, ◌-◌, suc, zero, Bool, true, false, ◌||◌, ◌&&◌, ◌==◌, List, Some, refl, sym, ap, ◌∙◌, inl, inr, arith}
use Rattle.std.specs.Option.{option_map}
use Rattle.std.proofs.lemmas.Bool.{false≢true, cases_lt}
use Rattle.std.proofs.lemmas.List.{drop_all}
use Rattle.std.proofs.lemmas.Option.{slice_get_cases}
use Rattle.hcl_token.specs.TokenizedText.{kind_of}
use Rattle.hcl_token.specs.declared.kind.Kind.{Kind}
use Rattle.hcl_token.specs.declared.kind.Kind.TheVariants as k
use Rattle.hcl_token.specs.Tokens.{Pair}
use Rattle.tf_rules.specs.Trivia.{token_range, is_line_break, depth_after, has_line_break}
use Rattle.tf_rules.specs.Unbroken.{AreUnbroken}
use Rattle.tf_rules.proofs.TriviaLemmas.{break_step}

-- what is no line break with comments is none without
none_without : (comments : Bool) (kind : Kind) → is_line_break true kind ≡ false → is_line_break comments kind ≡ false
none_without comments k.LineEnd none = absurd (false≢true (sym none))
none_without comments k.LineComment none = absurd (false≢true (sym none))
none_without comments _ none = refl

neither : (a b c : Bool) → b ≡ false → c ≡ false → ((a && b) || c) ≡ false
neither true b c first second = rw (first, second) refl
neither false b c first second = second

pub one_more : (pairs : List Pair) (first i : ℕ) (kind : Kind) → AreUnbroken pairs first i → Some kind ≡ kind_of pairs i
    → is_line_break true kind ≡ false → AreUnbroken pairs first (i + 1)
one_more pairs first i kind before kind_is none =
    record {
      each = λ j low high other here. elim (cases_lt j i) [
        | inl less ↦ before.each j low less other here
        | inr same ↦
            let at : j ≡ i = omega (arith, high, same) in
            let one : Some other ≡ Some kind = here ∙ (ap (kind_of pairs) at ∙ sym kind_is) in
            let kinds : other ≡ kind = cc (one) in
            ap (is_line_break true) kinds ∙ none
      ];
    }

-- fewer of the tokens
pub fewer : (pairs : List Pair) (first past from to : ℕ) → first ≤ from → to ≤ past → AreUnbroken pairs first past → AreUnbroken pairs from to
fewer pairs first past from to low high all =
    record { each = λ i above below kind here. all.each i (omega (arith, low, above)) (omega (arith, high, below)) kind here }

pub has_none : (n : ℕ) (comments : Bool) (depth : ℕ) (pairs : List Pair) (i past : ℕ) → past - i ≡ n → AreUnbroken pairs i past
    → has_line_break comments depth (token_range pairs i past) ≡ false
has_none zero comments depth pairs i past left all = rw left refl
has_none (suc n) comments depth pairs i past left all = elim (slice_get_cases pairs i).1 [
  | inl (x, within, found, same) ↦
      let below : i < past = omega (arith, left) in
      let kind_is : Some x.kind ≡ kind_of pairs i = sym (ap (option_map (λ (p : Pair). p.kind)) found) in
      let here = none_without comments x.kind (all.each i (omega arith) below x.kind kind_is) in
      let following = has_none n comments (depth_after x.kind depth) pairs (i + 1) past (omega (arith, left)) (fewer pairs i past (i + 1) past (omega arith) (omega arith) all) in
      break_step comments depth pairs i past x.kind below kind_is ∙ neither (depth == 0) (is_line_break comments x.kind) (has_line_break comments (depth_after x.kind depth) (token_range pairs (i + 1) past)) here following
  | inr (beyond, missing) ↦ rw (left, drop_all i pairs beyond) refl
]
