-- The flags of a line, and what is not searched for where none is set. For speed alone.
use Rattle.std.proofs.Common.{◌≡◌, ℕ, ◌+◌, Bool, true, false, List, [], ◌∷◌, refl, sym, ◌∙◌}
use Rattle.std.specs.Option.{option_map}
use Rattle.hcl_token.specs.declared.kind.Kind.{Kind}
use Rattle.hcl_token.specs.Tokens.{Pair}
use Rattle.hcl_token.specs.Kinds.{is_line_comment, is_comment}
use Rattle.hcl_layout.specs.Gaps.Inner.CodeViews.{are_some}
use Rattle.std.proofs.Common.{◌||◌, ◌&&◌, None}
use Rattle.std.specs.List.{list_any}
use Rattle.hcl_token.specs.Place.{is_lf}
use Rattle.hcl_token.specs.declared.kind.Kind.TheVariants.{LineComment, InlineComment}
use Rattle.hcl_layout.specs.Gaps.Kinds.{is_inline_comment}
use Rattle.hcl_layout.specs.Gaps.Cells.{index_of_first, index_after_first}

pub some_if : (f : Kind → Bool) (p : Pair) (ps : List Pair) (b : Bool) → f p.kind ≡ b → are_some f (p ∷ ps) ≡ (b || are_some f ps)
some_if f p ps true h = rw h refl
some_if f p ps false h = rw h refl

or_first : (a b : Bool) → (a || b) ≡ false → (a ≡ false) × (b ≡ false)
or_first true b h = absurd (cc)
or_first false b h = (refl, h)

quiet_two : (f : Kind → Bool) (p : Pair) (ps : List Pair) → are_some f (p ∷ ps) ≡ false → (f p.kind ≡ false) × (are_some f ps ≡ false)
quiet_two f p ps h = or_first (f p.kind) (are_some f ps) (sym (some_if f p ps (f p.kind) refl) ∙ h)

-- what is not among tokens where there is no comment
no_inline : (k : Kind) → is_comment k ≡ false → is_inline_comment k ≡ false
no_inline InlineComment h = absurd (cc)
no_inline k h = refl

no_closing : (k : Kind) → is_comment k ≡ false → is_line_comment k ≡ false
no_closing LineComment h = absurd (cc)
no_closing k h = refl

pub quiet_breaks : (ps : List Pair) → are_some is_comment ps ≡ false → false ≡ list_any (λ (p : Pair). is_inline_comment p.kind && list_any is_lf p.spelling) ps
quiet_breaks [] h = refl
quiet_breaks (p ∷ ps) h = let (none, rest) = quiet_two is_comment p ps h in rw (no_inline p.kind none) (quiet_breaks ps rest)

pub quiet_comments : (ps : List Pair) → are_some is_comment ps ≡ false → are_some is_line_comment ps ≡ false
quiet_comments [] h = refl
quiet_comments (p ∷ ps) h =
    let (none, rest) = quiet_two is_comment p ps h in
    some_if is_line_comment p ps false (no_closing p.kind none) ∙ quiet_comments ps rest

quiet_first : (f : Kind → Bool) (ps : List Pair) → are_some f ps ≡ false → index_of_first (λ (p : Pair). f p.kind) ps ≡ None
quiet_first f [] h = refl
quiet_first f (p ∷ ps) h = let (none, rest) = quiet_two f p ps h in rw (none, quiet_first f ps rest) refl

pub none_later : (f : Kind → Bool) (at : ℕ) (ps : List Pair) → are_some f ps ≡ false → None ≡ option_map (λ n. at + n) (index_after_first (λ (p : Pair). f p.kind) ps)
none_later f at [] h = refl
none_later f at (p ∷ ps) h = let (none, rest) = quiet_two f p ps h in rw (quiet_first f ps rest) refl
