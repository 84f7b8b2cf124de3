-- What two kinds alone say of the gap between them. For speed alone.
use Rattle.std.proofs.Common.{◌≡◌, ℕ, ◌-◌, ◌<◌, Bool, true, false, not, nat_eq, bit_and, cond, ◌&&◌, ◌||◌, List, [], ◌∷◌, length, Some, codes, if◌then◌else◌, refl, sym, ap, ap₂, subst, ◌∙◌, arith}
use Rattle.std.specs.Prelude.{slice_get}
use Rattle.std.specs.Str.{bytes_eq}
use Rattle.std.specs.Option.{option_map, option_and_then}
use Rattle.std.proofs.lemmas.Bool.Decides.{nat_tests}
use Rattle.hcl_token.specs.declared.kind.Kind.{Kind}
use Rattle.hcl_token.specs.declared.kind.Kind.TheVariants.{Mark, Star, Dot, Identifier, Number, DotIndex, Minus, Bang, DoubleColon, OpenBrace, CloseBrace, OpenBracket, CloseBracket, OpenParen, CloseParen, Comma, Ellipsis, SeqClose, QuoteClose, InterpOpen, DirectiveOpen}
use Rattle.hcl_token.specs.Tokens.{Pair}
use Rattle.hcl_token.specs.TokenizedText.{kind_of}
use Rattle.hcl_token.specs.Joins.{joins_with}
use Rattle.hcl_token.specs.Kinds.{is_line_end, is_line_comment}
use Rattle.hcl_scan.specs.Follows.{has_no_gap_before}
use Rattle.hcl_layout.specs.Gaps.Kinds.{among, is_identifier}
use Rattle.hcl_layout.specs.Gaps.Space.{is_after_identifier, is_after_operand, is_splat_star}
use Rattle.hcl_layout.specs.Gaps.Inner.Stages.{space_len, space_len_at}
use Rattle.hcl_layout.specs.Gaps.Inner.SpacingFlags.{is_star, flags_after, flags_before}
use Rattle.hcl_layout.proofs.GapsLemmas.LineLemmas.{token_here, kind_is}
use Rattle.hcl_layout.proofs.GapsLemmas.RowLemmas.{no_splat}

-- the table, by what it needs to know of spellings and of the tokens before
abbrev by_rest : Bool → Bool → Bool → Kind → Kind → Bool
by_rest in_for splat operand a b =
    if is_line_end b then false
    else (if is_line_comment b then true
    else (if is_identifier a && among (OpenParen ∷ []) b then false
    else (if among (DoubleColon ∷ []) a || among (DoubleColon ∷ []) b then false
    else (if among (Dot ∷ []) a || among (Dot ∷ DotIndex ∷ []) b then false
    else (if among (Comma ∷ Ellipsis ∷ []) b then false
    else (if among (Comma ∷ []) a then true
    else (if in_for then true
    else (if among (OpenBracket ∷ []) b && (among (Identifier ∷ Number ∷ DotIndex ∷ QuoteClose ∷ CloseParen ∷ CloseBracket ∷ CloseBrace ∷ []) a || splat) then false
    else (if among (Bang ∷ []) a then false
    else (if among (Minus ∷ []) a && not operand then false
    else (if among (OpenBrace ∷ []) a && among (CloseBrace ∷ []) b then false
    else (if among (OpenBrace ∷ []) a || among (CloseBrace ∷ []) b then true
    else (if (among (InterpOpen ∷ DirectiveOpen ∷ []) a && among (OpenBrace ∷ []) b) || (among (CloseBrace ∷ []) a && among (SeqClose ∷ []) b) then true
    else (if among (OpenParen ∷ OpenBracket ∷ InterpOpen ∷ DirectiveOpen ∷ []) a || among (CloseParen ∷ CloseBracket ∷ SeqClose ∷ []) b then false else true))))))))))))))

abbrev flags_decide : Kind → Kind → ℕ
flags_decide a b = bit_and (flags_after a) (flags_before b)

-- if two kinds share a flag, the flags that they share determine the gap
abbrev HasFlagsOf : Bool → Bool → Bool → List ℕ → List ℕ → Kind → Kind → Type 0
HasFlagsOf named splat operand s t a b =
    ◌≡◌ {A = ℕ}
    (cond (nat_eq (flags_decide a b) 0) 0 (if has_no_gap_before b then 0 else (if by_rest (is_identifier a && named) (is_star a && splat) operand a b || joins_with a s b t then 1 else 0)))
    (cond (nat_eq (flags_decide a b) 0) 0 (cond (nat_eq (bit_and (flags_decide a b) 7) 0) 0 1))

flags_decide_by : (named splat operand : Bool) (s t : List ℕ) (a b : Kind) → HasFlagsOf named splat operand s t a b
flags_decide_by true splat operand s t Mark b = elim b as (λ k. HasFlagsOf true splat operand s t Mark k) [ Mark ↦ refl | _ ↦ refl ]
flags_decide_by false splat operand s t Mark b = elim b as (λ k. HasFlagsOf false splat operand s t Mark k) [ Mark ↦ refl | _ ↦ refl ]
flags_decide_by named splat operand s t a b = elim b as (λ k. HasFlagsOf named splat operand s t a k) [ Mark ↦ refl | _ ↦ refl ]

and_both : (x y z : Bool) → (x && y) && z ≡ x && (y && z)
and_both true y z = refl
and_both false y z = refl

star_splat : (before : List Kind) (k : Kind) → is_splat_star before k ≡ (is_star k && is_splat_star before k)
star_splat before Star = refl
star_splat before k = no_splat before k refl

by_flags : (flags spaced len : ℕ) → 0 < flags → 0 < spaced → cond (nat_eq flags 0) 0 len ≡ cond (nat_eq flags 0) 0 (cond (nat_eq spaced 0) 0 1) → len ≡ 1
by_flags flags spaced len h g e =
    let some : nat_eq flags 0 ≡ false = grind (arith, nat_tests) in
    let space : nat_eq spaced 0 ≡ false = grind (arith, nat_tests) in
    rw (some, space) at e

flags_decide_pair : (before : List Kind) (p q : Pair) → 0 < flags_decide p.kind q.kind → 0 < bit_and (flags_decide p.kind q.kind) 7 → space_len before p q ≡ 1
flags_decide_pair before p q h g =
    let named : Bool = bytes_eq p.spelling (codes "in") && is_after_identifier before in
    let len : Bool → Bool → ℕ = λ u v. if has_no_gap_before q.kind then 0 else (if by_rest u v (is_after_operand before) p.kind q.kind || joins_with p.kind p.spelling q.kind q.spelling then 1 else 0) in
    let rows : space_len before p q ≡ len (is_identifier p.kind && named) (is_star p.kind && is_splat_star before p.kind) =
    ap₂ len (and_both (is_identifier p.kind) (bytes_eq p.spelling (codes "in")) (is_after_identifier before)) (star_splat before p.kind) in
    rows ∙ by_flags (flags_decide p.kind q.kind) (bit_and (flags_decide p.kind q.kind) 7) (len (is_identifier p.kind && named) (is_star p.kind && is_splat_star before p.kind)) h g (flags_decide_by named (is_splat_star before p.kind) (is_after_operand before) p.spelling q.spelling p.kind q.kind)

pub flags_decide_space : (before : List Kind) (pairs : List Pair) (i : ℕ) (a b : Kind) → 0 < i → i < length pairs → Some a ≡ kind_of pairs (i - 1) → Some b ≡ kind_of pairs i
    → 0 < bit_and (flags_after a) (flags_before b) → 0 < bit_and (bit_and (flags_after a) (flags_before b)) 7 → Some 1 ≡ space_len_at before pairs i
flags_decide_space before pairs i a b some within a_is b_is h g =
    let s = token_here pairs (i - 1) (length pairs) (omega arith) (omega arith) in
    let t = token_here pairs i (length pairs) within (omega arith) in
    let same = ap₂ flags_decide (kind_is pairs (i - 1) (length pairs) a s a_is) (kind_is pairs i (length pairs) b t b_is) in
    let len = flags_decide_pair before s.pair t.pair (subst (λ n. 0 < n) same h) (subst (λ n. 0 < bit_and n 7) same g) in
    sym (
    ap (option_and_then (λ (x : Pair). option_map (λ (y : Pair). space_len before x y) (slice_get pairs i))) s.at
    ∙ ap (option_map (λ (y : Pair). space_len before s.pair y)) t.at
    ∙ ap Some len
    )

by_no_flag : (flags spaced len : ℕ) → 0 < flags → spaced ≡ 0 → cond (nat_eq flags 0) 0 len ≡ cond (nat_eq flags 0) 0 (cond (nat_eq spaced 0) 0 1) → len ≡ 0
by_no_flag flags spaced len h g e =
    let some : nat_eq flags 0 ≡ false = grind (arith, nat_tests) in
    let none : nat_eq spaced 0 ≡ true = ap (λ n. nat_eq n 0) g in
    rw (some, none) at e

flags_decide_no_pair : (before : List Kind) (p q : Pair) → 0 < flags_decide p.kind q.kind → bit_and (flags_decide p.kind q.kind) 7 ≡ 0 → space_len before p q ≡ 0
flags_decide_no_pair before p q h g =
    let named : Bool = bytes_eq p.spelling (codes "in") && is_after_identifier before in
    let len : Bool → Bool → ℕ = λ u v. if has_no_gap_before q.kind then 0 else (if by_rest u v (is_after_operand before) p.kind q.kind || joins_with p.kind p.spelling q.kind q.spelling then 1 else 0) in
    let rows : space_len before p q ≡ len (is_identifier p.kind && named) (is_star p.kind && is_splat_star before p.kind) =
    ap₂ len (and_both (is_identifier p.kind) (bytes_eq p.spelling (codes "in")) (is_after_identifier before)) (star_splat before p.kind) in
    rows ∙ by_no_flag (flags_decide p.kind q.kind) (bit_and (flags_decide p.kind q.kind) 7) (len (is_identifier p.kind && named) (is_star p.kind && is_splat_star before p.kind)) h g (flags_decide_by named (is_splat_star before p.kind) (is_after_operand before) p.spelling q.spelling p.kind q.kind)

pub flags_decide_no_space : (before : List Kind) (pairs : List Pair) (i : ℕ) (a b : Kind) → 0 < i → i < length pairs → Some a ≡ kind_of pairs (i - 1) → Some b ≡ kind_of pairs i
    → 0 < bit_and (flags_after a) (flags_before b) → bit_and (bit_and (flags_after a) (flags_before b)) 7 ≡ 0 → Some 0 ≡ space_len_at before pairs i
flags_decide_no_space before pairs i a b some within a_is b_is h g =
    let s = token_here pairs (i - 1) (length pairs) (omega arith) (omega arith) in
    let t = token_here pairs i (length pairs) within (omega arith) in
    let same = ap₂ flags_decide (kind_is pairs (i - 1) (length pairs) a s a_is) (kind_is pairs i (length pairs) b t b_is) in
    let len = flags_decide_no_pair before s.pair t.pair (subst (λ n. 0 < n) same h) (subst (λ n. bit_and n 7 ≡ 0) same g) in
    sym (
    ap (option_and_then (λ (x : Pair). option_map (λ (y : Pair). space_len before x y) (slice_get pairs i))) s.at
    ∙ ap (option_map (λ (y : Pair). space_len before s.pair y)) t.at
    ∙ ap Some len
    )
