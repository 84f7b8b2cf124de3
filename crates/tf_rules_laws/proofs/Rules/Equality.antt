-- Comparisons with an empty list.
use Rattle.std.proofs.Common.{◌≡◌, ℕ, ◌==◌, ◌&&◌, Bool, true, false, not, List, [], ◌∷◌, Some, refl, ap, length, arith, ◌+◌, ◌-◌, ◌<◌, nat_lt, nat_le, ◌≤◌}
use Rattle.std.specs.Prelude.{if◌then◌else◌}
use Rattle.std.specs.List.{AllByRecursion}
use Rattle.hcl_grammar.specs.Grammar.{IsExpr}
use Rattle.hcl_grammar.specs.Nodes as node
use Rattle.hcl_grammar.specs.Tokens.{Token}
use Rattle.hcl_grammar.specs.TreeLayers.{ExprKindLayer, PrimaryLayer}
use Rattle.hcl_grammar.specs.declared.tree.BinaryOperator.{BinaryOperator}
use Rattle.hcl_grammar.specs.declared.tree.Expr.{Expr}
use Rattle.hcl_grammar.specs.declared.tree.ExprKind.TheOpen.{ExprKind-F, Primary-F}
use Rattle.hcl_grammar.specs.declared.tree.ExprKind.{out-ExprKind, ExprKind}
use Rattle.hcl_grammar.specs.declared.tree.Operation.{Operation}
use Rattle.hcl_grammar.specs.declared.tree.Primary.{out-Primary, Primary}
use Rattle.hcl_grammar_laws.proofs.Opens.{open_conditional, open_chain, open_prefixed, open_tailed, open_plain, open_call, open_tuple, open_object, open_for_tuple, open_for_object, open_quoted, open_heredoc, open_parens}
use Rattle.hcl_scan.specs.Follows.{tokens_of}
use Rattle.hcl_token.specs.Tokens.{Pair}
use Rattle.tf_reuse.proofs.MovedParts.{form_of, shape_of, first_here, past_here, some_token}
use Rattle.tf_reuse.proofs.RenumberedNodes as moved
use Rattle.tf_reuse.proofs.RenumberedNodes.{MovedExpr, MovedForm, MovedLinks, MovedShape}
use Rattle.tf_reuse.proofs.RenumberedTrivia.{eq_moved, trivia_moved, here_close_moved}
use Rattle.tf_reuse.proofs.Renumbering as moves
use Rattle.tf_reuse.proofs.Renumbering.{Moves, SameFix}
use Rattle.tf_reuse.proofs.Window.{Here, Same}
use Rattle.tf_reuse.specs.SameTokens.{SameTokens}
use Rattle.tf_rules.specs.Findings.{plain_message, finding_at}
use Rattle.tf_rules.specs.Fixes.{when, is_in_order}
use Rattle.tf_rules.specs.Rules.Equality.{is_empty_list, is_empty_list_kind, is_empty_list_primary, chain_findings, may_find, operation_findings, is_double_equal, is_equality, length_fix, list_on_right, list_on_left, is_comparison_fixable}
use Rattle.tf_rules.specs.Summaries.{value_of, kind_value, primary_value}
use Rattle.tf_rules.specs.Trivia.{token_range, has_trivia, is_here_close}
use Rattle.tf_rules.specs.declared.finding.Finding.{Finding}
use Rattle.tf_rules.specs.declared.fix.Insertion.TheVariants as insertion
use Rattle.tf_rules.specs.declared.rule.Rule.TheVariants.{EmptyListEquality}
use Rattle.tf_rules_laws.proofs.Nothing as empty
use Rattle.tf_rules_laws.proofs.Nothing.{Nothing}
use Rattle.tf_rules_laws.proofs.OfRule as found
use Rattle.tf_rules_laws.proofs.OfRule.{From}
use Rattle.tf_rules_laws.proofs.Order.{Rising, expr_sits, chain_in}
use Rattle.tf_rules_laws.proofs.Valid as valid
use Rattle.tf_rules_laws.proofs.Valid.{AreValid}

-- ---- what is found is of the rule

link_of_rule : (pairs : List Pair) (first : ℕ) (is_first : Bool) (left : Expr) (l : Operation) → From pairs EmptyListEquality (operation_findings pairs first is_first left l)
link_of_rule pairs first is_first left l =
    let equal = is_double_equal l.operator in
    found.choose (is_equality l.operator)
    (found.choose (is_empty_list l.operand) (found.maybe (is_comparison_fixable pairs (list_on_right first left l)) (length_fix first left.past equal) refl refl refl)
    (found.choose (is_first && is_empty_list left)
    (found.maybe (is_comparison_fixable pairs (list_on_left left l)) (length_fix l.operand.first l.operand.past equal) refl refl refl) found.none)) found.none

chain_of_rule : (pairs : List Pair) (first : ℕ) (is_first : Bool) (left : Expr) (ls : List Operation) → From pairs EmptyListEquality (chain_findings pairs first is_first left ls)
chain_of_rule pairs first is_first left [] = found.none
chain_of_rule pairs first is_first left (l ∷ ls) = found.both (link_of_rule pairs first is_first left l) (chain_of_rule pairs first false l.operand ls)

pub of_rule : (pairs : List Pair) (first : ℕ) (head : Expr) (ls : List Operation) → From pairs EmptyListEquality (chain_findings pairs first true head ls)
of_rule pairs first head ls = chain_of_rule pairs first true head ls

-- ---- where its tokens are elsewhere too, the same is found

module _ {R T : ℕ → ℕ → Type 0} where
  empty_shape_moved : {x x' : Primary} → MovedShape R T x x' → is_empty_list_primary (out-Primary x') ≡ is_empty_list_primary (out-Primary x)
  unfolding node.call node.for_tuple node.for_object
  empty_shape_moved moved.number = refl
  empty_shape_moved moved.identifier = refl
  empty_shape_moved (moved.call s a b) = simp (open_call) refl
  empty_shape_moved (moved.tuple moved.no_exprs) = refl
  empty_shape_moved (moved.tuple (moved.exprs a b)) = simp (open_tuple) refl
  empty_shape_moved (moved.object a) = simp (open_object) refl
  empty_shape_moved (moved.for_tuple a b c) = simp (open_for_tuple) refl
  empty_shape_moved (moved.for_object s a b c d) = simp (open_for_object) refl
  empty_shape_moved (moved.quoted a) = simp (open_quoted) refl
  empty_shape_moved (moved.heredoc a) = simp (open_heredoc) refl
  empty_shape_moved (moved.parens a) = simp (open_parens) refl

  empty_form_moved : {x x' : ExprKind} → MovedForm R T x x' → is_empty_list_kind (out-ExprKind x') ≡ is_empty_list_kind (out-ExprKind x)
  empty_form_moved (moved.conditional a b c) = simp (open_conditional) refl
  empty_form_moved (moved.chain a b) = simp (open_chain) refl
  empty_form_moved (moved.prefixed op a) = simp (open_prefixed) refl
  empty_form_moved (moved.tailed a b) = simp (open_tailed) refl
  empty_form_moved (moved.plain a) = simp (open_plain) (empty_shape_moved (shape_of a))

  empty_list_moved : {e e' : Expr} → MovedExpr R T e e' → is_empty_list e' ≡ is_empty_list e
  empty_list_moved a = empty_form_moved (form_of a)

-- whether a comparison can be written as a length, by its list and the numbers of tokens
abbrev is_fixable_by : List Pair → Expr → ℕ → ℕ → ℕ → Bool
is_fixable_by pairs empty past from to =
    (empty.past == empty.first + 2)
    && (not (has_trivia (token_range pairs from to)) && not (is_here_close pairs (past - 1)))

module _ (old new : List Pair) {from to count : ℕ} (w : SameTokens (tokens_of old) (tokens_of new) from to count) where
  fixable_moved : {e e' : Expr} {b b' p p' a a' c c' : ℕ} → MovedExpr (Here w) (Same w) e e' → Here w b b' → Here w p p' → b < p → Here w a a' → Here w c c'
      → is_fixable_by new e' p' a' c' ≡ is_fixable_by old e p a c
  fixable_moved {e} {e'} {p} {p'} {a} {a'} {c} {c'} m h g l f k =
      let x : (e'.past == e'.first + 2) ≡ (e.past == e.first + 2) = eq_moved old new w 2 (first_here m) (past_here m) in
      let y : has_trivia (token_range new a' c') ≡ has_trivia (token_range old a c) = trivia_moved old new w f k in
      let z : is_here_close new (p' - 1) ≡ is_here_close old (p - 1) = here_close_moved old new w h g l in
      moves.both x (moves.both (ap not y) (ap not z))

  measured_moved : {a a' b b' : ℕ} (is_zero : Bool) → Here w a a' → Here w b b' → SameFix old new w (Some (length_fix a b is_zero)) (Some (length_fix a' b' is_zero))
  measured_moved true k l = moves.tokens insertion.Length (moves.keeps insertion.IsZero k l (moves.skip moves.no_kept))
  measured_moved false k l = moves.tokens insertion.Length (moves.keeps insertion.IsPositive k l (moves.skip moves.no_kept))

  comparison_moves : {i i' j j' a a' b b' : ℕ} {f f' : Bool} (is_zero : Bool) → Here w i i' → Here w j j' → Here w a a' → Here w b b' → f' ≡ f
      → Moves old new from to (finding_at EmptyListEquality i j plain_message (when f (length_fix a b is_zero))) (finding_at EmptyListEquality i' j' plain_message (when f' (length_fix a' b' is_zero)))
  comparison_moves is_zero h g k l e = moves.finding_moves old new w EmptyListEquality h g refl (moves.fix_when old new w e (measured_moved is_zero k l))

  link_moved : (is_first : Bool) {i i' : ℕ} {left left' : Expr} (op : BinaryOperator) {e e' : Expr} → Here w i i' → MovedExpr (Here w) (Same w) left left'
      → MovedExpr (Here w) (Same w) e e' → Moves old new from to (operation_findings old i is_first left (node.operation op e)) (operation_findings new i' is_first left' (node.operation op e'))
  unfolding node.operation
  link_moved is_first op h a b =
      let p = fixable_moved b (first_here a) (past_here a) (some_token a) (past_here a) (first_here b) in
      let q = fixable_moved a (first_here b) (past_here b) (some_token b) (past_here a) (first_here b) in
      let one = comparison_moves (is_double_equal op) h (past_here b) h (past_here a) p in
      let two_arguments = comparison_moves (is_double_equal op) h (past_here b) (first_here b) (past_here b) q in
      moves.either {b = is_equality op} {b' = is_equality op} refl
      (moves.either (empty_list_moved b) one (moves.either (ap (λ (x : Bool). is_first && x) (empty_list_moved a)) two_arguments moves.none))
      moves.none

  pub chain_moved : (is_first : Bool) {i i' : ℕ} {left left' : Expr} {ls ls' : List Operation} → Here w i i' → MovedExpr (Here w) (Same w) left left'
      → MovedLinks (Here w) (Same w) ls ls' → Moves old new from to (chain_findings old i is_first left ls) (chain_findings new i' is_first left' ls')
  unfolding node.operation
  chain_moved is_first h a moved.no_links = moves.none
  chain_moved is_first h a (moved.links op b c) = moves.append (link_moved is_first op h a b) (chain_moved false h b c)

-- ---- over a text that parses, the numbers are in order

compared : (first past from to : ℕ) (equal : Bool) → first ≤ from → from < to → to ≤ past → is_in_order first past (length_fix from to equal) ≡ true
compared first past from to true a b c =
    valid.and (nat_le first from) (nat_lt from to && nat_le to past) (grind (arith, a)) (valid.and (nat_lt from to) (nat_le to past) (grind (arith, b)) (grind (arith, c)))
compared first past from to false a b c =
    valid.and (nat_le first from) (nat_lt from to && nat_le to past) (grind (arith, a)) (valid.and (nat_lt from to) (nat_le to past) (grind (arith, b)) (grind (arith, c)))

rises : (i : ℕ) (ls : List Operation) (j : ℕ) → Rising i ls j → i ≤ j
rises i [] j r = r
rises i (l ∷ ls) j r = let more = rises l.operand.past ls j r.1.1 in omega (arith, r.0, r.1.0, more)

link_is_valid : (pairs : List Pair) (first : ℕ) (is_first : Bool) (left : Expr) (l : Operation) → first < left.past → left.past ≤ l.operand.first → l.operand.first < l.operand.past
    → l.operand.past ≤ length pairs → AreValid (length pairs) (operation_findings pairs first is_first left l)
link_is_valid pairs first is_first left l a b c d =
    let past = l.operand.past in
    let equal = is_double_equal l.operator in
    let fixes_node = is_comparison_fixable pairs (list_on_right first left l) in
    let right = valid.keep (length pairs) EmptyListEquality first past plain_message (when fixes_node (length_fix first left.past equal)) (omega (arith, a, b, c)) d
    (valid.fits first past fixes_node (length_fix first left.past equal) (compared first past first left.past equal (omega arith) a (omega (arith, b, c)))) in
    let fixes_left = is_comparison_fixable pairs (list_on_left left l) in
    let other = valid.keep (length pairs) EmptyListEquality first past plain_message (when fixes_left (length_fix l.operand.first past equal)) (omega (arith, a, b, c)) d
    (valid.fits first past fixes_left (length_fix l.operand.first past equal) (compared first past l.operand.first past equal (omega (arith, a, b)) c (omega arith))) in
    valid.choose (is_equality l.operator) (valid.choose (is_empty_list l.operand) right (valid.choose (is_first && is_empty_list left) other valid.none)) valid.none

chain_is_valid : (pairs : List Pair) (first : ℕ) (is_first : Bool) (left : Expr) (ls : List Operation) (past : ℕ) → first < left.past → Rising left.past ls past → past ≤ length pairs
    → AreValid (length pairs) (chain_findings pairs first is_first left ls)
chain_is_valid pairs first is_first left [] past a r b = valid.none
chain_is_valid pairs first is_first left (l ∷ ls) past a r b =
    let more = rises l.operand.past ls past r.1.1 in
    valid.append (link_is_valid pairs first is_first left l a r.0 r.1.0 (omega (arith, more, b)))
    (chain_is_valid pairs first false l.operand ls past (omega (arith, a, r.0, r.1.0)) r.1.1 b)

module _ (pairs : List Pair) (ts : List Token) (count : length ts ≡ length pairs) where
  pub equality_is_valid : {d : ℕ} {m : Bool} (e : Expr) → IsExpr ts d m e e.first e.past → (head : Expr) (ls : List Operation) → out-ExprKind e.kind ≡ ExprKind-F.Binary head ls
      → AreValid (length pairs) (chain_findings pairs e.first true head ls)
  equality_is_valid e w head ls h =
      let c = chain_in w head ls h in let s = expr_sits w in
      chain_is_valid pairs e.first true head ls e.past (omega (arith, c.begun, c.some)) c.rise (omega (arith, s.within, count))

-- ---- where no operand is an empty list, nothing is found

not_listed : (l : PrimaryLayer) → may_find (primary_value l) ≡ false → is_empty_list_primary l ≡ false
not_listed (Primary-F.Tuple []) h = h
not_listed _ h = refl

not_list_kind : (l : ExprKindLayer) → may_find (kind_value l) ≡ false → is_empty_list_kind l ≡ false
not_list_kind (ExprKind-F.Term t) h = not_listed (out-Primary t.kind) h
not_list_kind _ h = refl

not_list : (e : Expr) → may_find (value_of e) ≡ false → is_empty_list e ≡ false
not_list e h = not_list_kind (out-ExprKind e.kind) h

none_at_link : (equal a is_first b : Bool) (xs ys : List Finding) → a ≡ false → b ≡ false → Nothing (if equal then (if a then xs else (if is_first && b then ys else [])) else [])
none_at_link false a is_first b xs ys h g = empty.none
none_at_link true true is_first b xs ys h g = absurd (cc)
none_at_link true false false b xs ys h g = empty.none
none_at_link true false true true xs ys h g = absurd (cc)
none_at_link true false true false xs ys h g = empty.none

pub nothing_found : (pairs : List Pair) (first : ℕ) (is_first : Bool) (left : Expr) (ls : List Operation) → may_find (value_of left) ≡ false
    → AllByRecursion (λ (l : Operation). may_find (value_of l.operand) ≡ false) ls → Nothing (chain_findings pairs first is_first left ls)
nothing_found pairs first is_first left [] h all = empty.none
nothing_found pairs first is_first left (l ∷ ls) h all =
    empty.append (none_at_link (is_equality l.operator) (is_empty_list l.operand) is_first (is_empty_list left) _ _ (not_list l.operand all.0) (not_list left h))
    (nothing_found pairs first false l.operand ls all.0 all.1)
