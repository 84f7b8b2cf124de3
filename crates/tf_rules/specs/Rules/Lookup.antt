-- Calls of `lookup` with two arguments. TFLint ruleset for the Terraform language,
-- terraform_deprecated_lookup.
use Rattle.std.specs.Prelude.{ℕ, not, ◌&&◌, ◌||◌, Bool, true, false, List, [], Option, Some, None}
use Rattle.std.specs.Prelude.{if◌then◌else◌, codes}
use Rattle.hcl_grammar.specs.declared.tree.Expr.{Expr}
use Rattle.hcl_grammar.specs.declared.tree.ExprKind.{out-ExprKind}
use Rattle.hcl_grammar.specs.declared.tree.ExprKind.TheOpen.{ExprKind-F, Tail-F}
use Rattle.hcl_grammar.specs.declared.tree.Tail.{Tail, out-Tail}
use Rattle.hcl_token.specs.TokenizedText.{spelling_of}
use Rattle.hcl_token.specs.Tokens.{Pair}
use Rattle.std.specs.Str.{bytes_eq}
use Rattle.tf_rules.specs.declared.fix.Insertion.TheVariants.{Nothing, OpenBracket, CloseBracket}
use Rattle.tf_rules.specs.Fixes.{kept, keep_two, when}
use Rattle.tf_rules.specs.declared.rule.Rule.TheVariants.{DeprecatedLookup}
use Rattle.tf_rules.specs.Findings.{plain_message, finding_at}
use Rattle.tf_rules.specs.declared.finding.Finding.{Finding}
use Rattle.std.specs.List.{list_any}
use Rattle.tf_rules.specs.Arguments.{sole_name, two_arguments, is_two}
use Rattle.tf_rules.specs.declared.summary.Count.{Count}
use Rattle.hcl_grammar.specs.TreeLayers.{ExprKindLayer, TailLayer, CallLayer}
use Rattle.tf_rules.specs.Trivia.{token_range, has_trivia, has_line_end_or_comment}

abbrev pub is_splat_tail : TailLayer → Bool
is_splat_tail Tail-F.AttributeSplat = true
is_splat_tail Tail-F.FullSplat = true
is_splat_tail _ = false

abbrev pub is_splat : Tail → Bool
is_splat t = is_splat_tail (out-Tail t)

abbrev pub has_splat : List Tail → Bool
has_splat tails = list_any is_splat tails

-- a term, with tails if any, but no splat
abbrev pub is_indexable_kind : ExprKindLayer → Bool
is_indexable_kind (ExprKind-F.Postfix t tails) = not (has_splat tails)
is_indexable_kind (ExprKind-F.Term t) = true
is_indexable_kind _ = false

-- the name is one token, and is `lookup`
abbrev pub is_lookup_token : Option (List ℕ) → Bool
is_lookup_token None = false
is_lookup_token (Some spelling) = bytes_eq spelling (codes "lookup")

abbrev pub is_lookup_name : List Pair → Option ℕ → Bool
is_lookup_name pairs None = false
is_lookup_name pairs (Some n) = is_lookup_token (spelling_of pairs n)

abbrev pub is_lookup : List Pair → List ℕ → Bool
is_lookup pairs names = is_lookup_name pairs (sole_name names)

-- No comment and no line end is in the call outside of its arguments, and an index can follow the
-- first argument.
abbrev pub is_lookup_fixable : List Pair → ℕ → ℕ → Expr → Expr → Bool
is_lookup_fixable pairs first past a b =
    is_indexable_kind (out-ExprKind a.kind)
    && (not (has_line_end_or_comment (token_range pairs a.first a.past))
    && (not (has_trivia (token_range pairs first a.first))
    && (not (has_trivia (token_range pairs a.past b.first))
    && not (has_trivia (token_range pairs b.past past)))))

abbrev pub pair_findings : List Pair → ℕ → ℕ → Option (Expr × Expr) → List Finding
pair_findings pairs first past None = []
pair_findings pairs first past (Some (a, b)) =
    finding_at DeprecatedLookup first past plain_message
    (when (is_lookup_fixable pairs first past a b)
    (keep_two Nothing (kept a.first a.past OpenBracket) (kept b.first b.past CloseBracket)))

abbrev pub call_findings : List Pair → ℕ → ℕ → CallLayer → List Finding
call_findings pairs first past c =
    if c.expand_final || not (is_lookup pairs c.names) then []
    else pair_findings pairs first past (two_arguments c.arguments)

-- it may find something at a call of this name, if it is one token, with so many arguments
abbrev pub may_find : List Pair → Option ℕ → Count → Bool → Bool
may_find pairs name arguments expands = is_two arguments && (not expands && is_lookup_name pairs name)
