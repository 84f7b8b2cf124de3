-- Quoted text that is one interpolation.
use Rattle.std.proofs.Common.{◌≡◌, ℕ, ◌&&◌, Bool, true, false, not, List, [], ◌∷◌, Option, Some, None, refl, ap, ap₂, length, arith, ◌+◌, ◌-◌, ◌<◌, ◌||◌, nat_lt, nat_le, ◌≤◌}
use Rattle.std.proofs.lemmas.Bool.{leb-true, leb-false}
use Rattle.hcl_grammar.specs.Grammar.{IsTerm}
use Rattle.hcl_grammar.specs.Nodes as node
use Rattle.hcl_grammar.specs.Tokens.{Token}
use Rattle.hcl_grammar.specs.declared.tree.Expr.{Expr}
use Rattle.hcl_grammar.specs.declared.tree.ExprKind.{out-ExprKind, ExprKind}
use Rattle.hcl_grammar.specs.declared.tree.Part.{Part, out-Part}
use Rattle.hcl_grammar.specs.declared.tree.ExprKind.TheOpen.{Primary-F, Part-F}
use Rattle.hcl_grammar.specs.declared.tree.Primary.{out-Primary}
use Rattle.hcl_grammar.specs.declared.tree.Template.{Template}
use Rattle.hcl_grammar.specs.TreeLayers.{PartLayer}
use Rattle.hcl_grammar.specs.declared.tree.Term.{Term}
use Rattle.hcl_grammar_laws.proofs.Opens.{open_conditional, open_chain, open_prefixed, open_tailed, open_plain, open_literal, open_interp, open_if, open_for}
use Rattle.hcl_scan.specs.Follows.{tokens_of}
use Rattle.hcl_token.specs.Tokens.{Pair}
use Rattle.tf_reuse.proofs.MovedParts.{form_of}
use Rattle.tf_reuse.proofs.RenumberedNodes as moved
use Rattle.tf_reuse.proofs.RenumberedNodes.{MovedForm, MovedParts, MovedFilter}
use Rattle.tf_reuse.proofs.RenumberedTrivia.{inner_break_moved}
use Rattle.tf_reuse.proofs.Renumbering as moves
use Rattle.tf_reuse.proofs.Renumbering.{Moves, SameFix}
use Rattle.tf_reuse.proofs.Window.{Here, Same}
use Rattle.tf_reuse.specs.SameTokens.{SameTokens}
use Rattle.tf_rules.specs.Findings.{plain_message, finding_at, is_fix_valid}
use Rattle.tf_rules.specs.Fixes.{kept, keep_one, when, is_in_order}
use Rattle.tf_rules.specs.Rules.Interpolation.{is_post_kind, sole_part, part_interpolation, quoted_findings, may_find, interpolation_findings, is_object_key, is_elsewhere, is_interpolation_fixable}
use Rattle.tf_rules.specs.Summaries.{part_pieces, pieces_of}
use Rattle.tf_rules.specs.declared.fix.Fix.{Fix}
use Rattle.tf_rules.specs.declared.fix.Insertion.TheVariants as insertion
use Rattle.tf_rules.specs.declared.role.Role.{Role}
use Rattle.tf_rules.specs.declared.rule.Rule.TheVariants.{DeprecatedInterpolation}
use Rattle.tf_rules_laws.proofs.Nothing as empty
use Rattle.tf_rules_laws.proofs.Nothing.{Nothing}
use Rattle.tf_rules_laws.proofs.OfRule as found
use Rattle.tf_rules_laws.proofs.OfRule.{From}
use Rattle.tf_rules_laws.proofs.Order.{sole_interpolation, term_sits, five_in}
use Rattle.tf_rules_laws.proofs.Valid as valid
use Rattle.tf_rules_laws.proofs.Valid.{AreValid}

-- ---- what is found is of the rule

pub of_rule : (pairs : List Pair) (role : Role) (first past : ℕ) (o : Option Expr) → From pairs DeprecatedInterpolation (interpolation_findings pairs role first past o)
of_rule pairs role first past None = found.none
of_rule pairs role first past (Some e) =
    found.choose (is_object_key role) found.none (found.maybe (is_interpolation_fixable pairs role first past e) (keep_one insertion.Nothing (kept (first + 2) (past - 2) insertion.Nothing)) refl refl refl)

-- ---- where its tokens are elsewhere too, the same is found

module _ {R T : ℕ → ℕ → Type 0} where
  post_moved : {x x' : ExprKind} → MovedForm R T x x' → is_post_kind (out-ExprKind x') ≡ is_post_kind (out-ExprKind x)
  post_moved (moved.conditional a b c) = simp (open_conditional) refl
  post_moved (moved.chain a b) = simp (open_chain) refl
  post_moved (moved.prefixed op a) = simp (open_prefixed) refl
  post_moved (moved.tailed a b) = simp (open_tailed) refl
  post_moved (moved.plain a) = simp (open_plain) refl

  pub sole_moved : {xs xs' : List Part} → MovedParts R T xs xs' → MovedFilter R T (sole_part xs) (sole_part xs')
  unfolding node.if_part node.for_part
  sole_moved moved.no_parts = moved.no_filter
  sole_moved (moved.parts (moved.literal t) moved.no_parts) = simp (open_literal) moved.no_filter
  sole_moved (moved.parts (moved.interp a) moved.no_parts) = simp (open_interp) (moved.filter a)
  sole_moved (moved.parts (moved.if_directive r s a b c) moved.no_parts) = simp (open_if) moved.no_filter
  sole_moved (moved.parts (moved.for_directive r s a b) moved.no_parts) = simp (open_for) moved.no_filter
  sole_moved (moved.parts a (moved.parts b c)) = moved.no_filter

-- what a fix makes of an interpolation
abbrev inside : ℕ → ℕ → Fix
inside first past = keep_one insertion.Nothing (kept (first + 2) (past - 2) insertion.Nothing)

span_too_short : (i j : ℕ) → j < i + 5 → nat_lt (i + 2) (j - 2) ≡ false
span_too_short i j l = grind arith

not_second : (a b c : Bool) → b ≡ false → (a && (b && c)) ≡ false
not_second true true c e = absurd (cc)
not_second true false c e = refl
not_second false b c e = refl

-- braces that hold nothing
unfit : (i j : ℕ) → j < i + 5 → is_fix_valid i j (Some (inside i j)) ≡ false
unfit i j l = not_second (nat_lt i (i + 2)) (nat_lt (i + 2) (j - 2)) (nat_lt i (j - 2) && nat_lt (j - 2) j) (span_too_short i j l)

module _ (old new : List Pair) {from to count : ℕ} (w : SameTokens (tokens_of old) (tokens_of new) from to count) where
  -- what is between its braces, where there is such
  inside_moved : {i i' j j' : ℕ} → Here w i i' → Here w j j' → i + 5 ≤ j → SameFix old new w (Some (inside i j)) (Some (inside i' j'))
  inside_moved h g l =
      let a : Here w _ _ = record { before = h.before + 2; within = omega (arith, l, h.in_old, g.in_old, g.within); in_old = omega (arith, h.in_old); in_new = omega (arith, h.in_new) } in
      let b : Here w _ _ = record { before = g.before - 2; within = omega (arith, g.within); in_old = omega (arith, l, h.in_old, g.in_old); in_new = omega (arith, l, h.in_old, h.in_new, g.in_old, g.in_new) } in
      moves.tokens insertion.Nothing (moves.keeps insertion.Nothing a b (moves.skip moves.no_kept))

  short_span_moves : {i i' j j' : ℕ} {f f' : Bool} → Here w i i' → Here w j j' → f' ≡ f → j < i + 5
      → Moves old new from to (finding_at DeprecatedInterpolation i j plain_message (when f (inside i j))) (finding_at DeprecatedInterpolation i' j' plain_message (when f' (inside i' j')))
  short_span_moves {i} {i'} {j} {j'} {f = true} {f' = true} h g e l =
      moves.neither_fits DeprecatedInterpolation (unfit i j l) (unfit i' j' (omega (arith, l, h.in_old, h.in_new, g.in_old, g.in_new)))
  short_span_moves {f = false} {f' = false} h g e l = moves.finding_moves old new w DeprecatedInterpolation h g refl moves.no_fix
  short_span_moves {f = true} {f' = false} h g e l = absurd (cc)
  short_span_moves {f = false} {f' = true} h g e l = absurd (cc)

  by_width : (wide : Bool) {i i' j j' : ℕ} {f f' : Bool} → nat_le (i + 5) j ≡ wide → Here w i i' → Here w j j' → f' ≡ f
      → Moves old new from to (finding_at DeprecatedInterpolation i j plain_message (when f (inside i j))) (finding_at DeprecatedInterpolation i' j' plain_message (when f' (inside i' j')))
  by_width true {i} {i'} {j} t h g e = moves.finding_moves old new w DeprecatedInterpolation h g refl (moves.fix_when old new w e (inside_moved h g (leb-true (i + 5) j t)))
  by_width false {i} {i'} {j} t h g e = short_span_moves h g e (leb-false (i + 5) j t)

  pub interpolation_moved : (role : Role) {i i' j j' : ℕ} {o o' : Option Expr} → Here w i i' → Here w j j' → MovedFilter (Here w) (Same w) o o'
      → Moves old new from to (interpolation_findings old role i j o) (interpolation_findings new role i' j' o')
  interpolation_moved role h g moved.no_filter = moves.none
  interpolation_moved role h g (moved.filter a) =
      let x = ap₂ (λ (b : Bool) (c : Bool). not b && (c || not (is_elsewhere role))) (inner_break_moved old new w false 0 h g) (post_moved (form_of a)) in
      moves.either {b = is_object_key role} {b' = is_object_key role} refl moves.none (by_width _ refl h g x)

-- ---- over a text that parses, the numbers are in order

bared : (first past : ℕ) → first + 5 ≤ past → is_in_order first past (keep_one insertion.Nothing (kept (first + 2) (past - 2) insertion.Nothing)) ≡ true
bared first past h =
    valid.and (nat_lt first (first + 2)) (nat_lt (first + 2) (past - 2) && (nat_lt first (past - 2) && nat_lt (past - 2) past)) (grind (arith))
    (valid.and (nat_lt (first + 2) (past - 2)) (nat_lt first (past - 2) && nat_lt (past - 2) past) (grind (arith, h))
    (valid.and (nat_lt first (past - 2)) (nat_lt (past - 2) past) (grind (arith, h)) (grind (arith, h))))

module _ (pairs : List Pair) (ts : List Token) (count : length ts ≡ length pairs) where
  part_is_valid : {d : ℕ} {m : Bool} (role : Role) (t : Term) → IsTerm ts d m t t.first t.past → (o : Option Expr) → sole_interpolation (out-Primary t.kind) ≡ o
      → AreValid (length pairs) (interpolation_findings pairs role t.first t.past o)
  part_is_valid role t w None h = valid.none
  part_is_valid role t w (Some e) h =
      let s = term_sits w in let f = five_in w e h in let writes = is_interpolation_fixable pairs role t.first t.past e in
      valid.choose (is_object_key role) valid.none (valid.keep (length pairs) DeprecatedInterpolation t.first t.past plain_message _ s.some (omega (arith, s.within, count))
      (valid.fits t.first t.past writes (keep_one insertion.Nothing (kept (t.first + 2) (t.past - 2) insertion.Nothing)) (bared t.first t.past f)))

  pub interpolation_is_valid : {d : ℕ} {m : Bool} (role : Role) (t : Term) → IsTerm ts d m t t.first t.past → (text : Template) → out-Primary t.kind ≡ Primary-F.Quoted text
      → AreValid (length pairs) (quoted_findings pairs role t.first t.past text)
  interpolation_is_valid role t w text h = part_is_valid role t w (sole_part text.parts) (ap sole_interpolation h)

-- ---- where the parts are more or fewer than one interpolation, nothing is found

none_by : (pairs : List Pair) (role : Role) (i j : ℕ) (l : PartLayer) → may_find (part_pieces l) ≡ false → Nothing (interpolation_findings pairs role i j (part_interpolation l))
none_by pairs role i j (Part-F.Interp e) h = absurd (cc)
none_by pairs role i j _ h = empty.none

pub nothing_found : (pairs : List Pair) (role : Role) (i j : ℕ) (ps : List Part) → may_find (pieces_of ps) ≡ false → Nothing (interpolation_findings pairs role i j (sole_part ps))
nothing_found pairs role i j [] h = empty.none
nothing_found pairs role i j (x ∷ []) h = none_by pairs role i j (out-Part x) h
nothing_found pairs role i j (x ∷ y ∷ ps) h = empty.none
