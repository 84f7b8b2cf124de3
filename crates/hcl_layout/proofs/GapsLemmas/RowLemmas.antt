-- What the table needs to know of the tokens before.
use Rattle.std.proofs.Common.{◌≡◌, ℕ, ◌-◌, ◌<◌, Bool, true, false, ◌||◌, List, [], ◌∷◌, length, take, Some, refl, sym, ap, ap₂, ◌∙◌, arith}
use Rattle.std.specs.Option.{option_map}
use Rattle.hcl_token.specs.declared.kind.Kind.{Kind}
use Rattle.hcl_token.specs.declared.kind.Kind.TheVariants.{Star, Dot, Minus}
use Rattle.hcl_token.specs.Tokens.{Pair}
use Rattle.hcl_token.specs.TokenizedText.{kind_of, spelling_of}
use Rattle.hcl_layout.specs.Gaps.Kinds.{among}
use Rattle.hcl_layout.specs.Gaps.Space.{is_splat_star, is_in_keyword, is_spaced}
use Rattle.hcl_layout.specs.Gaps.Inner.Stages.{token}
use Rattle.hcl_layout.specs.Gaps.Inner.SpacingFlags.{is_star, needs_context, spaced_at}
use Rattle.hcl_layout.proofs.GapsLemmas.LineLemmas.{token_here, kind_is, spelling_is}
use Rattle.hcl_layout.proofs.GapsLemmas.NearLemmas.{space_same, kept_near}

-- ---- what needs to be known of the tokens before

record NeedsNoContext (a : Pair) : Type 0 where
  minus : among (Minus ∷ []) a.kind ≡ false
  star : is_star a.kind ≡ false
  is_in : is_in_keyword a ≡ false

needs_no_context : (a : Pair) → needs_context a ≡ false → NeedsNoContext a
needs_no_context a h = three (among (Minus ∷ []) a.kind) (is_star a.kind) (is_in_keyword a) refl refl refl h
  where
    three : (x y z : Bool) → among (Minus ∷ []) a.kind ≡ x → is_star a.kind ≡ y → is_in_keyword a ≡ z → (x || (y || z)) ≡ false → NeedsNoContext a
    three true y z e f g i = absurd (cc)
    three false true z e f g i = absurd (cc)
    three false false true e f g i = absurd (cc)
    three false false false e f g i = record { minus = e; star = f; is_in = g }

pub no_splat : (before : List Kind) (k : Kind) → is_star k ≡ false → is_splat_star before k ≡ false
no_splat [] k h = refl
no_splat (Dot ∷ before) Star h = absurd (cc)
no_splat (x ∷ before) k h = refl

spacing_without_context : (before : List Kind) (a b : Pair) → needs_context a ≡ false → is_spaced before a b ≡ is_spaced [] a b
spacing_without_context before a b h =
    let n = needs_no_context a h in
    rw (n.minus, n.is_in, no_splat before a.kind n.star) refl

-- ---- the table's answer, by fewer rows

-- a token's kind and spelling
there_spaced : (before : List Kind) (pairs : List Pair) (i : ℕ) (j : Kind) (s : List ℕ) (k : Kind) → 0 < i → i < length pairs → Some j ≡ kind_of pairs (i - 1) → Some s ≡ spelling_of pairs (i - 1)
    → Some (is_spaced before (token j s) (token k [])) ≡ spaced_at before pairs i k
there_spaced before pairs i j s k some within j_is s_is =
    let t = token_here pairs (i - 1) (length pairs) (omega arith) (omega arith) in
    ap₂ (λ x (y : List ℕ). Some (is_spaced before (token x y) (token k []))) (kind_is pairs (i - 1) (length pairs) j t j_is) (spelling_is pairs (i - 1) (length pairs) s t s_is)
    ∙ sym (ap (option_map (λ (x : Pair). is_spaced before (token x.kind x.spelling) (token k []))) t.at)

pub near_spaced : (before near : List Kind) (pairs : List Pair) (i : ℕ) (j : Kind) (s : List ℕ) (k : Kind) (r : Bool) → 0 < i → i < length pairs → Some j ≡ kind_of pairs (i - 1) → Some s ≡ spelling_of pairs (i - 1)
    → near ≡ take 2 before → r ≡ is_spaced near (token j s) (token k []) → Some r ≡ spaced_at before pairs i k
near_spaced before near pairs i j s k r some within j_is s_is near_is r_is =
    ap Some (r_is ∙ space_same near before (token j s) (token k []) (kept_near near before near_is)) ∙ there_spaced before pairs i j s k some within j_is s_is

pub unasked_spaced : (before : List Kind) (pairs : List Pair) (i : ℕ) (j : Kind) (s : List ℕ) (k : Kind) (r : Bool) → 0 < i → i < length pairs → Some j ≡ kind_of pairs (i - 1) → Some s ≡ spelling_of pairs (i - 1)
    → needs_context (token j s) ≡ false → r ≡ is_spaced [] (token j s) (token k []) → Some r ≡ spaced_at before pairs i k
unasked_spaced before pairs i j s k r some within j_is s_is h r_is =
    ap Some (r_is ∙ sym (spacing_without_context before (token j s) (token k []) h)) ∙ there_spaced before pairs i j s k some within j_is s_is
