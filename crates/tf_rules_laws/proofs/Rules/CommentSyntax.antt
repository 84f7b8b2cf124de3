-- Comments that begin with `//`.
use Rattle.std.proofs.Common.{◌≡◌, ◌∙◌, ℕ, ◌+◌, ◌≤◌, ◌==◌, ◌&&◌, suc, Bool, true, false, List, [], ◌∷◌, ◌++◌, drop, length, slice_get, Some, refl, ap, subst, arith, codes}
use Rattle.std.specs.Prelude.{slice_index}
use Rattle.std.specs.Option.{option_map}
use Rattle.std.proofs.lemmas.Bool.{and_parts, eqb-true, false≢true}
use Rattle.hcl_token.specs.Kinds.{is_line_comment}
use Rattle.hcl_token.specs.declared.kind.Kind.{Kind}
use Rattle.hcl_token.specs.declared.kind.Kind.TheVariants.{LineComment}
use Rattle.tf_rules_laws.specs.OneRule.{IsSlashComment}
use Rattle.hcl_token.specs.Tokens.{Pair}
use Rattle.tf_rules.specs.Findings.{plain_message}
use Rattle.tf_rules.specs.Rules.CommentSyntax.{is_slash_comment, comment_findings_from, comment_finding}
use Rattle.tf_rules.specs.declared.fix.Fix.TheVariants.{CommentMarker}
use Rattle.tf_rules.specs.declared.rule.Rule.TheVariants.{CommentSyntax}
use Rattle.tf_rules_laws.proofs.OfRule as found
use Rattle.tf_rules_laws.proofs.OfRule.{From}
use Rattle.tf_rules_laws.proofs.Valid as valid
use Rattle.tf_rules_laws.proofs.Valid.{AreValid}

-- ---- a comment that begins with `//`

line_comment_kind : (k : Kind) → is_line_comment k ≡ true → k ≡ LineComment
line_comment_kind LineComment h = refl
line_comment_kind k h = absurd (false≢true h)

-- two slashes at the start
slashed : (spelling : List ℕ) → (slice_index spelling 0 == 47 && slice_index spelling 1 == 47) ≡ true → spelling ≡ codes "//" ++ drop 2 spelling
slashed [] h = absurd (grind (arith, h))
slashed (a ∷ []) h = absurd (false≢true (and_parts (a == 47) (slice_index (a ∷ []) 1 == 47) h).1)
slashed (a ∷ b ∷ s) h = let parts = and_parts (a == 47) (b == 47) h in rw (eqb-true a 47 parts.0, eqb-true b 47 parts.1) refl

slash_comment_at : (pairs : List Pair) (i : ℕ) (p : Pair) → slice_get pairs i ≡ Some p → is_slash_comment p ≡ true → IsSlashComment pairs i
slash_comment_at pairs i p there h =
    let parts = and_parts (is_line_comment p.kind) (slice_index p.spelling 0 == 47 && slice_index p.spelling 1 == 47) h in (
      ap (option_map (λ (q : Pair). q.kind)) there ∙ ap (λ (k : Kind). Some k) (line_comment_kind p.kind parts.0),
      (drop 2 p.spelling, ap (option_map (λ (q : Pair). q.spelling)) there ∙ ap (λ (t : List ℕ). Some t) (slashed p.spelling parts.1)),
    )

-- ---- what is found is of the rule

-- at token i, if that is a comment that begins with `//`
at_one : (pairs : List Pair) (i : ℕ) (p : Pair) (b : Bool) → slice_get pairs i ≡ Some p → is_slash_comment p ≡ b → From pairs CommentSyntax (comment_finding i b)
at_one pairs i p false there h = found.none
at_one pairs i p true there h = record { are = (record { rule_is = refl; inside = refl; has_slashes = λ e. slash_comment_at pairs i p there h; has_fix = λ e. refl }, tt) }

-- the tokens from number i on
abbrev TokensFrom : List Pair → ℕ → List Pair → Type 0
TokensFrom pairs i ps = (k : ℕ) → slice_get pairs (i + k) ≡ slice_get ps k

comments_here : (pairs : List Pair) (i : ℕ) (ps : List Pair) → TokensFrom pairs i ps → From pairs CommentSyntax (comment_findings_from i ps)
comments_here pairs i [] here = found.none
comments_here pairs i (p ∷ ps) here =
    found.both (at_one pairs i p (is_slash_comment p) (subst (λ (n : ℕ). slice_get pairs n ≡ Some p) (omega arith) (here 0)) refl)
    (comments_here pairs (i + 1) ps (λ k. subst (λ (n : ℕ). slice_get pairs n ≡ slice_get ps k) (omega arith) (here (suc k))))

pub of_rule : (pairs : List Pair) → From pairs CommentSyntax (comment_findings_from 0 pairs)
of_rule pairs = comments_here pairs 0 pairs (λ k. ap (slice_get pairs) (omega arith))

-- ---- over a text that parses, the numbers are in order

pub comments_are_valid : (pairs : List Pair) (i : ℕ) (ps : List Pair) → i + length ps ≤ length pairs → AreValid (length pairs) (comment_findings_from i ps)
comments_are_valid pairs i [] h = valid.none
comments_are_valid pairs i (p ∷ ps) h =
    valid.append (valid.choose (is_slash_comment p) (valid.keep (length pairs) CommentSyntax i (i + 1) plain_message (Some CommentMarker) (omega arith) (omega (arith, h)) (grind arith)) valid.none)
    (comments_are_valid pairs (i + 1) ps (omega (arith, h)))
