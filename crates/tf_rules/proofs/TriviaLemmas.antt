-- Some of a text's tokens, from one to the next.
use Rattle.std.proofs.Common.{◌≡◌, ℕ, ◌<◌, ◌+◌, ◌-◌, suc, Bool, ◌||◌, ◌&&◌, ◌==◌, List, ◌∷◌, drop, Some, refl, sym, ap, ◌∙◌, inl, inr, arith}
use Rattle.std.specs.Option.{option_map}
use Rattle.std.proofs.lemmas.List.{drop_more}
use Rattle.std.proofs.lemmas.Option.{slice_get_cases}
use Rattle.hcl_token.specs.TokenizedText.{kind_of}
use Rattle.hcl_token.specs.declared.kind.Kind.{Kind}
use Rattle.hcl_token.specs.Tokens.{Pair}
use Rattle.tf_rules.specs.Trivia.{token_range, is_trivia, is_line_break, depth_after, has_trivia, has_line_break}

-- the token at a role, and those after it
pub tokens_more : (pairs : List Pair) (i past : ℕ) (kind : Kind) → i < past → Some kind ≡ kind_of pairs i
    → (p : Pair) × (token_range pairs i past ≡ p ∷ token_range pairs (i + 1) past) × (kind ≡ p.kind)
tokens_more pairs i past kind below kind_is = elim (slice_get_cases pairs i).1 [
  | inl (x, within, found, same) ↦
      let split : drop i pairs ≡ x ∷ drop (i + 1) pairs = rw (← same) (drop_more pairs i x within) in
      let more : past - i ≡ suc (past - (i + 1)) = omega (arith, below) in
      (x, rw (more, split) refl, cc (kind_is, ap (option_map (λ (p : Pair). p.kind)) found))
  | inr (past, none) ↦ absurd (cc (kind_is, ap (option_map (λ (p : Pair). p.kind)) none))
]

pub trivia_step : (pairs : List Pair) (i past : ℕ) (kind : Kind) → i < past → Some kind ≡ kind_of pairs i
    → has_trivia (token_range pairs i past) ≡ (is_trivia kind || has_trivia (token_range pairs (i + 1) past))
trivia_step pairs i past kind below kind_is =
    let m = tokens_more pairs i past kind below kind_is in
    ap has_trivia m.1 ∙ ap (λ k. is_trivia k || has_trivia (token_range pairs (i + 1) past)) (sym m.2)

pub break_step : (comments : Bool) (depth : ℕ) (pairs : List Pair) (i past : ℕ) (kind : Kind) → i < past → Some kind ≡ kind_of pairs i
    → has_line_break comments depth (token_range pairs i past) ≡ ((depth == 0 && is_line_break comments kind) || has_line_break comments (depth_after kind depth) (token_range pairs (i + 1) past))
break_step comments depth pairs i past kind below kind_is =
    let m = tokens_more pairs i past kind below kind_is in
    ap (has_line_break comments depth) m.1
    ∙ ap (λ k. (depth == 0 && is_line_break comments k) || has_line_break comments (depth_after k depth) (token_range pairs (i + 1) past)) (sym m.2)
