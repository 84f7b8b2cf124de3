-- Calls of `lookup`.
use Rattle.std.proofs.Common.{◌≡◌, ℕ, ◌&&◌, Bool, true, false, not, List, [], ◌∷◌, Option, Some, None, refl, ap, length, arith, ◌<◌, ◌||◌, nat_lt, nat_le, ◌≤◌, rules, if◌then◌else◌}
use Rattle.hcl_grammar.specs.Grammar.{IsTerm}
use Rattle.hcl_grammar.specs.Tokens.{Token}
use Rattle.hcl_grammar.specs.TreeLayers.{CallLayer}
use Rattle.hcl_grammar.specs.declared.tree.Call.{out-Call, roll-Call, Call}
use Rattle.hcl_grammar.specs.declared.tree.Expr.{Expr}
use Rattle.hcl_grammar.specs.declared.tree.ExprKind.TheOpen.{Primary-F}
use Rattle.hcl_grammar.specs.declared.tree.ExprKind.TheViews.{the_lemmas}
use Rattle.hcl_grammar.specs.declared.tree.ExprKind.{out-ExprKind, ExprKind}
use Rattle.hcl_grammar.specs.declared.tree.Primary.{out-Primary}
use Rattle.hcl_grammar.specs.declared.tree.Tail.{Tail}
use Rattle.hcl_grammar.specs.declared.tree.Term.{Term}
use Rattle.hcl_grammar_laws.proofs.Opens.{open_conditional, open_chain, open_prefixed, open_tailed, open_plain, open_name, open_legacy, open_index, call_arguments, call_names}
use Rattle.hcl_scan.specs.Follows.{tokens_of}
use Rattle.hcl_token.specs.Tokens.{Pair}
use Rattle.tf_reuse.proofs.MovedParts.{form_of, first_here, past_here}
use Rattle.tf_reuse.proofs.RenumberedNodes as moved
use Rattle.tf_reuse.proofs.RenumberedNodes.{MovedNumbers, MovedExpr, MovedForm, MovedTails, MovedTail, MovedExprs}
use Rattle.tf_reuse.proofs.RenumberedTrivia.{spelling_moved, trivia_moved, break_moved}
use Rattle.tf_reuse.proofs.Renumbering as moves
use Rattle.tf_reuse.proofs.Renumbering.{Moves}
use Rattle.tf_reuse.proofs.Window.{Here, Same}
use Rattle.tf_reuse.specs.SameTokens.{SameTokens}
use Rattle.tf_rules.specs.Arguments.{sole_name, two_arguments}
use Rattle.tf_rules.specs.Findings.{plain_message}
use Rattle.tf_rules.specs.Fixes.{kept, is_in_order, keep_two}
use Rattle.tf_rules.specs.Rules.Lookup.{is_splat, has_splat, is_indexable_kind, is_lookup, is_lookup_token, is_lookup_fixable, pair_findings, call_findings, may_find}
use Rattle.tf_rules.specs.Summaries.{count_of}
use Rattle.tf_rules.specs.declared.fix.Insertion.TheVariants as insertion
use Rattle.tf_rules.specs.declared.rule.Rule.TheVariants.{DeprecatedLookup}
use Rattle.tf_rules_laws.proofs.Nothing as empty
use Rattle.tf_rules_laws.proofs.Nothing.{Nothing}
use Rattle.tf_rules_laws.proofs.OfRule as found
use Rattle.tf_rules_laws.proofs.OfRule.{From}
use Rattle.tf_rules_laws.proofs.Order.{term_sits, call_in}
use Rattle.tf_rules_laws.proofs.Valid as valid
use Rattle.tf_rules_laws.proofs.Valid.{AreValid}

-- ---- what is found is of the rule

pair_of_rule : (pairs : List Pair) (first past : ℕ) (o : Option (Expr × Expr)) → From pairs DeprecatedLookup (pair_findings pairs first past o)
pair_of_rule pairs first past None = found.none
pair_of_rule pairs first past (Some (a, b)) = found.maybe (is_lookup_fixable pairs first past a b)
    (keep_two insertion.Nothing (kept a.first a.past insertion.OpenBracket) (kept b.first b.past insertion.CloseBracket)) refl refl refl

pub of_rule : (pairs : List Pair) (first past : ℕ) (c : CallLayer) → From pairs DeprecatedLookup (call_findings pairs first past c)
of_rule pairs first past c = found.choose (c.expand_final || not (is_lookup pairs c.names)) found.none (pair_of_rule pairs first past (two_arguments c.arguments))

-- ---- where its tokens are elsewhere too, the same is found

module _ {R T : ℕ → ℕ → Type 0} where
  splat_moved : {x x' : Tail} → MovedTail R T x x' → is_splat x' ≡ is_splat x
  splat_moved (moved.by_name t) = simp (open_name) refl
  splat_moved (moved.legacy t) = simp (open_legacy) refl
  splat_moved moved.attribute_splat = refl
  splat_moved moved.full_splat = refl
  splat_moved (moved.index a) = simp (open_index) refl

  has_splat_moved : {xs xs' : List Tail} → MovedTails R T xs xs' → has_splat xs' ≡ has_splat xs
  has_splat_moved moved.no_tails = refl
  has_splat_moved (moved.tails a b) = rw (splat_moved a, has_splat_moved b) refl

  indexable_moved : {x x' : ExprKind} → MovedForm R T x x' → is_indexable_kind (out-ExprKind x') ≡ is_indexable_kind (out-ExprKind x)
  indexable_moved (moved.conditional a b c) = simp (open_conditional) refl
  indexable_moved (moved.chain a b) = simp (open_chain) refl
  indexable_moved (moved.prefixed op a) = simp (open_prefixed) refl
  indexable_moved (moved.tailed a b) = simp (open_tailed) (ap not (has_splat_moved b))
  indexable_moved (moved.plain a) = simp (open_plain) refl

call_spread : (a : List ℕ) (b : List Expr) (c : Bool) → (out-Call (roll-Call (record { names = a; arguments = b; expand_final = c }))).expand_final ≡ c
call_spread a b c = search (rules, the_lemmas)

-- a call with these parts
abbrev pub call_layer : List ℕ → List Expr → Bool → CallLayer
call_layer ns es s = out-Call (roll-Call (record { names = ns; arguments = es; expand_final = s }))

at_call : (pairs : List Pair) (i j : ℕ) (ns : List ℕ) (es : List Expr) (s : Bool)
    → call_findings pairs i j (call_layer ns es s) ≡ (if s || not (is_lookup pairs ns) then [] else pair_findings pairs i j (two_arguments es))
at_call pairs i j ns es s = simp (call_names, call_spread, call_arguments) refl

module _ (old new : List Pair) {from to count : ℕ} (w : SameTokens (tokens_of old) (tokens_of new) from to count) where
  is_lookup_moved : {ns ns' : List ℕ} → MovedNumbers (Here w) (Same w) ns ns' → is_lookup new ns' ≡ is_lookup old ns
  is_lookup_moved moved.no_numbers = refl
  is_lookup_moved (moved.numbers t moved.no_numbers) = ap is_lookup_token (spelling_moved old new w t)
  is_lookup_moved (moved.numbers t (moved.numbers u us)) = refl

  movable_moved : {i i' j j' : ℕ} {a a' b b' : Expr} → Here w i i' → Here w j j' → MovedExpr (Here w) (Same w) a a' → MovedExpr (Here w) (Same w) b b'
      → is_lookup_fixable new i' j' a' b' ≡ is_lookup_fixable old i j a b
  movable_moved h g a b =
      moves.both (indexable_moved (form_of a)) (moves.both (ap not (break_moved old new w true 0 (first_here a) (past_here a)))
      (moves.both (ap not (trivia_moved old new w h (first_here a))) (moves.both (ap not (trivia_moved old new w (past_here a) (first_here b)))
      (ap not (trivia_moved old new w (past_here b) g)))))

  two_moved : {i i' j j' : ℕ} {a a' b b' : Expr} → Here w i i' → Here w j j' → MovedExpr (Here w) (Same w) a a' → MovedExpr (Here w) (Same w) b b'
      → Moves old new from to (pair_findings old i j (Some (a, b))) (pair_findings new i' j' (Some (a', b')))
  two_moved h g m n =
      let kept_two = moves.keeps insertion.OpenBracket (first_here m) (past_here m) (moves.keeps insertion.CloseBracket (first_here n) (past_here n) moves.no_kept) in
      moves.finding_moves old new w DeprecatedLookup h g refl (moves.fix_when old new w (movable_moved h g m n) (moves.tokens insertion.Nothing kept_two))

  pair_moved : {i i' j j' : ℕ} {es es' : List Expr} → Here w i i' → Here w j j' → MovedExprs (Here w) (Same w) es es'
      → Moves old new from to (pair_findings old i j (two_arguments es)) (pair_findings new i' j' (two_arguments es'))
  pair_moved h g moved.no_exprs = moves.none
  pair_moved h g (moved.exprs a moved.no_exprs) = moves.none
  pair_moved h g (moved.exprs a (moved.exprs b moved.no_exprs)) = two_moved h g a b
  pair_moved h g (moved.exprs a (moved.exprs b (moved.exprs c d))) = moves.none

  pub lookup_moved : (s : Bool) {i i' j j' : ℕ} {ns ns' : List ℕ} {es es' : List Expr} → Here w i i' → Here w j j' → MovedNumbers (Here w) (Same w) ns ns' → MovedExprs (Here w) (Same w) es es'
      → Moves old new from to (call_findings old i j (call_layer ns es s)) (call_findings new i' j' (call_layer ns' es' s))
  lookup_moved s {i} {i'} {j} {j'} {ns} {ns'} {es} {es'} h g a b =
      let name = ap (λ (x : Bool). s || not x) (is_lookup_moved a) in
      rw (at_call old i j ns es s, at_call new i' j' ns' es' s) (moves.either name moves.none (pair_moved h g b))

-- ---- over a text that parses, the numbers are in order

looked_up : (first past a b c d : ℕ) → first < a → a < b → b ≤ c → c < d → d ≤ past → is_in_order first past (keep_two insertion.Nothing (kept a b insertion.OpenBracket) (kept c d insertion.CloseBracket)) ≡ true
looked_up first past a b c d p q r s t =
    valid.and (nat_lt first a) (nat_lt a b && (nat_le b c && (nat_lt c d && nat_le d past))) (grind (arith, p))
    (valid.and (nat_lt a b) (nat_le b c && (nat_lt c d && nat_le d past)) (grind (arith, q))
    (valid.and (nat_le b c) (nat_lt c d && nat_le d past) (grind (arith, r))
    (valid.and (nat_lt c d) (nat_le d past) (grind (arith, s)) (grind (arith, t)))))

module _ (pairs : List Pair) (ts : List Token) (count : length ts ≡ length pairs) where
  pair_is_valid : {d : ℕ} {m : Bool} (t : Term) → IsTerm ts d m t t.first t.past → (c : Call) → out-Primary t.kind ≡ Primary-F.Call c → (o : Option (Expr × Expr)) → two_arguments (out-Call c).arguments ≡ o
      → AreValid (length pairs) (pair_findings pairs t.first t.past o)
  pair_is_valid t w c h None e = valid.none
  pair_is_valid t w c h (Some (a, b)) e =
      let s = term_sits w in let o = call_in w c h a b e in let movable = is_lookup_fixable pairs t.first t.past a b in
      valid.keep (length pairs) DeprecatedLookup t.first t.past plain_message _ s.some (omega (arith, s.within, count))
      (valid.fits t.first t.past movable (keep_two insertion.Nothing (kept a.first a.past insertion.OpenBracket) (kept b.first b.past insertion.CloseBracket))
      (looked_up t.first t.past a.first a.past b.first b.past (omega (arith, o.begun)) o.left o.between o.right o.ended))

  pub lookup_is_valid : {d : ℕ} {m : Bool} (t : Term) → IsTerm ts d m t t.first t.past → (c : Call) → out-Primary t.kind ≡ Primary-F.Call c
      → AreValid (length pairs) (call_findings pairs t.first t.past (out-Call c))
  lookup_is_valid t w c h = valid.choose ((out-Call c).expand_final || not (is_lookup pairs (out-Call c).names)) valid.none (pair_is_valid t w c h (two_arguments (out-Call c).arguments) refl)

-- ---- where the name and the number of arguments say so, nothing is found

none_by : (pairs : List Pair) (i j : ℕ) (ns : List ℕ) (es : List Expr) (more : Bool) → may_find pairs (sole_name ns) (count_of es) more ≡ false
    → Nothing (if more || not (is_lookup pairs ns) then [] else pair_findings pairs i j (two_arguments es))
none_by pairs i j ns es true h = empty.none
none_by pairs i j ns (a ∷ b ∷ []) false h = let other : is_lookup pairs ns ≡ false = h in rw other empty.none
none_by pairs i j ns _ false h = empty.choose (not (is_lookup pairs ns)) empty.none empty.none

pub nothing_found : (pairs : List Pair) (i j : ℕ) (c : CallLayer) → may_find pairs (sole_name c.names) (count_of c.arguments) c.expand_final ≡ false → Nothing (call_findings pairs i j c)
nothing_found pairs i j c h = none_by pairs i j c.names c.arguments c.expand_final h
