-- The tokens of what the rules name in a derived node are in order, within the text.
use Rattle.std.proofs.Common.{◌≡◌, ℕ, zero, suc, ◌+◌, ◌<◌, ◌≤◌, Bool, true, false, List, [], ◌∷◌, length, slice_get, Option, Some, None, sym, ap, ◌∙◌, subst, arith}
use Rattle.std.specs.Option.{option_map}
use Rattle.hcl_token.specs.declared.kind.Kind.{Kind}
use Rattle.hcl_token.specs.declared.kind.Kind.TheVariants as k
use Rattle.hcl_grammar.specs.declared.tree.Attribute.{Attribute}
use Rattle.hcl_grammar.specs.declared.tree.Block.{Block}
use Rattle.hcl_grammar.specs.declared.tree.Call.{Call, out-Call, roll-Call}
use Rattle.hcl_grammar.specs.declared.tree.Expr.{Expr}
use Rattle.hcl_grammar.specs.declared.tree.ForDirective.{ForDirective, roll-ForDirective}
use Rattle.hcl_grammar.specs.declared.tree.ForObject.{ForObject, roll-ForObject}
use Rattle.hcl_grammar.specs.declared.tree.ForTuple.{ForTuple, roll-ForTuple}
use Rattle.hcl_grammar.specs.declared.tree.ExprKind.{out-ExprKind}
use Rattle.hcl_grammar.specs.declared.tree.ExprKind.TheOpen.{ExprKind-F, Primary-F, Tail-F}
use Rattle.hcl_grammar.specs.declared.tree.IfDirective.{IfDirective, roll-IfDirective}
use Rattle.hcl_grammar.specs.declared.tree.Intro.{Intro}
use Rattle.hcl_grammar.specs.declared.tree.Label.{Label}
use Rattle.hcl_grammar.specs.declared.tree.Operation.{Operation}
use Rattle.hcl_grammar.specs.declared.tree.Member.{Member}
use Rattle.hcl_grammar.specs.declared.tree.Member.TheVariants as member
use Rattle.hcl_grammar.specs.declared.tree.Part.{Part, out-Part}
use Rattle.hcl_grammar.specs.declared.tree.Primary.{out-Primary}
use Rattle.hcl_grammar.specs.declared.tree.Tail.{Tail, out-Tail}
use Rattle.hcl_grammar.specs.declared.tree.Template.{Template}
use Rattle.hcl_grammar.specs.declared.tree.Term.{Term}
use Rattle.hcl_grammar.specs.Bodies.{IsLabels, word_label, text_label, empty_label, IsOneLineBody, nothing, one as just, IsMembers, no_members, blank, attribute, block, line_block}
use Rattle.hcl_grammar.specs.Grammar.{IsExpr, plain, conditional, IsLevel, lowest, level, IsOperations, no_operations, operation, IsUnary, with_operator, post, no_tails, tails, IsTail, by_name, legacy, attribute_splat, full_splat, index, IsTerm, number, identifier, call, tuple, object, for_tuple, for_object, quoted, heredoc, parens, IsArguments, no_arguments, last_argument, spread_argument, argument, IsParts, no_parts, parts, IsPart, quote_text, here_text, interp, if_directive, for_directive}
use Rattle.hcl_grammar.specs.Lookahead.{NextIs}
use Rattle.hcl_grammar.specs.Nodes as node
use Rattle.hcl_grammar.specs.TreeLayers.{PrimaryLayer}
use Rattle.hcl_grammar.specs.Tokens.{Token, next_index, next_token, next_kind, after_next, first_token_in}
use Rattle.hcl_grammar_laws.proofs.Opens.{open_conditional, open_chain, open_prefixed, open_tailed, open_plain, open_number, open_identifier, open_call, open_tuple, open_object, open_for_tuple, open_for_object, open_quoted, open_heredoc, open_parens, open_name, open_legacy, open_attribute_splat, open_full_splat, open_index, open_literal, open_if, open_for, call_arguments}
use Rattle.hcl_grammar_laws.proofs.Placed.{placed_term, placed_level, placed_expr}
use Rattle.hcl_grammar_laws.proofs.Restart.{own_term}
use Rattle.hcl_grammar_laws.proofs.RestartBodies.{some_is, attribute_is, block_is, other_member}
use Rattle.hcl_grammar_laws.proofs.Spans.{Takes, step, loose, both, ahead, span_expr, span_level, span_links, span_unary, span_tails, span_term, span_names, span_labels}
use Rattle.tf_reuse.proofs.MoveExpressions.{begins_term, begins_level, begins_expr}
use Rattle.tf_rules.specs.Rules.Interpolation.{sole_part, part_interpolation}
use Rattle.tf_rules.specs.Arguments.{two_arguments}

-- the expression of the interpolation that is all of a quoted text
abbrev pub sole_interpolation : PrimaryLayer → Option Expr
sole_interpolation (Primary-F.Quoted t) = sole_part t.parts
sole_interpolation _ = None

begins : (ts : List Token) (m : Bool) (i : ℕ) → i ≤ next_index ts m i
unfolding next_index
begins ts m i = omega arith

follows : (ts : List Token) (m : Bool) (i : ℕ) → suc (next_index ts m i) ≤ after_next ts m i
unfolding after_next
follows ts m i = omega arith

-- what is from number `first` up to `past`, among the tokens from place i up to place j
pub record Sits (ts : List Token) (i j first past : ℕ) : Type 0 where
  pub begun : i ≤ first
  pub some : first < past
  pub ended : past ≤ j
  pub within : past ≤ length ts

-- the operands of links, each after the one before it
abbrev pub Rising : ℕ → List Operation → ℕ → Type 0
Rising i [] j = i ≤ j
Rising i (l ∷ ls) j = (i ≤ l.operand.first) × ((l.operand.first < l.operand.past) × Rising l.operand.past ls j)

-- a chain, whose first operand begins where it does
pub record Chained (first past : ℕ) (head : Expr) (ls : List Operation) : Type 0 where
  pub begun : first ≡ head.first
  pub some : head.first < head.past
  pub rise : Rising head.past ls past

-- two expressions, in order
pub record Ordered (i j : ℕ) (a b : Expr) : Type 0 where
  pub begun : i ≤ a.first
  pub left : a.first < a.past
  pub between : a.past ≤ b.first
  pub right : b.first < b.past
  pub ended : b.past ≤ j

-- the kind of a token
abbrev pub kind_at : List Token → ℕ → Option Kind
kind_at ts n = option_map (λ (t : Token). t.0) (slice_get ts n)

-- a tail that is a legacy index has the number of a token of that kind
abbrev pub IsLegacyToken : List Token → Tail → Type 0
IsLegacyToken ts x = (n : ℕ) → out-Tail x ≡ Tail-F.LegacyIndex n → kind_at ts n ≡ Some k.DotIndex

next_kind_at : (ts : List Token) (m : Bool) (t : Kind) (i : ℕ) → NextIs ts m t i → kind_at ts (next_index ts m i) ≡ Some t
unfolding next_kind next_token
next_kind_at ts m t i h = h

-- such a token is one of the text
pub kind_within : (ts : List Token) (n : ℕ) (t : Kind) → kind_at ts n ≡ Some t → n < length ts
kind_within [] n t h = absurd (cc)
kind_within (x ∷ ts) zero t h = omega arith
kind_within (x ∷ ts) (suc n) t h = let l = kind_within ts n t h in omega (arith, l)

abbrev rolled_call : List ℕ → List Expr → Bool → Call
rolled_call names es expand_final = roll-Call (record { names = names; arguments = es; expand_final = expand_final })

abbrev rolled_for_tuple : Intro → Expr → Option Expr → ForTuple
rolled_for_tuple i value filter = roll-ForTuple (record { intro = i; value = value; filter = filter })

abbrev rolled_for_object : Intro → Expr → Expr → Bool → Option Expr → ForObject
rolled_for_object i key value grouped filter = roll-ForObject (record { intro = i; key = key; value = value; grouped = grouped; filter = filter })

abbrev rolled_if : ℕ → ℕ → Expr → Template → Option Template → IfDirective
rolled_if first past c then_branch else_branch = roll-IfDirective (record { first = first; past = past; condition = c; then_branch = then_branch; else_branch = else_branch })

abbrev rolled_for : ℕ → ℕ → Intro → Template → ForDirective
rolled_for first past i body = roll-ForDirective (record { first = first; past = past; intro = i; body = body })

ordered : (i n : ℕ) (e f a b : Expr) → two_arguments (e ∷ f ∷ []) ≡ Some (a, b) → Ordered i n e f → Ordered i n a b
ordered i n e f a b h o =
    let p : e ≡ a = ap (λ (z : Expr × Expr). z.0) (some_is h) in
    let q : f ≡ b = ap (λ (z : Expr × Expr). z.1) (some_is h) in
    subst (λ (z : Expr). Ordered i n z b) p (subst (λ (z : Expr). Ordered i n e z) q o)

module _ {ts : List Token} where
  pub term_sits : {d : ℕ} {m : Bool} {t : Term} {i j : ℕ} → IsTerm ts d m t i j → Sits ts i j t.first t.past
  term_sits {m} {i} w =
      let b = begins ts m i in let f = begins_term w in let g = follows ts m i in let s = span_term w in let p = placed_term w in
      record { begun = omega (arith, b, p.0); some = omega (arith, f, g, p.0, p.1); ended = omega (arith, p.1); within = omega (arith, s.within, p.1) }

  level_sits : {d : ℕ} {m : Bool} {n : ℕ} {e : Expr} {i j : ℕ} → IsLevel ts d m n e i j → Sits ts i j e.first e.past
  level_sits {m} {i} w =
      let b = begins ts m i in let f = begins_level w in let g = follows ts m i in let s = span_level w in let p = placed_level w in
      record { begun = omega (arith, b, p.0); some = omega (arith, f, g, p.0, p.1); ended = omega (arith, p.1); within = omega (arith, b, f, g, s.within, p.1) }

  pub expr_sits : {d : ℕ} {m : Bool} {e : Expr} {i j : ℕ} → IsExpr ts d m e i j → Sits ts i j e.first e.past
  expr_sits {m} {i} w =
      let b = begins ts m i in let f = begins_expr w in let g = follows ts m i in let s = span_expr w in let p = placed_expr w in
      record { begun = omega (arith, b, p.0); some = omega (arith, f, g, p.0, p.1); ended = omega (arith, p.1); within = omega (arith, b, f, g, s.within, p.1) }

  -- ---- a chain

  links_rise : {d : ℕ} {m : Bool} {n : ℕ} {ls : List Operation} {i j : ℕ} → IsOperations ts d m n ls i j → Rising i ls j
  unfolding node.operation
  links_rise (no_operations {i}) = omega arith
  links_rise (operation {m} {links} {i} {j} {l} p o x xs) =
      let b = begins ts m i in let f = follows ts m i in let s = level_sits x in let q = placed_level x in
      (omega (arith, b, f, s.begun), (s.some, subst (λ n. Rising n links l) (sym q.1) (links_rise xs)))

  no_chain_unary : {d : ℕ} {m : Bool} {e : Expr} {i j : ℕ} → IsUnary ts d m e i j → (head : Expr) (ls : List Operation) → out-ExprKind e.kind ≡ ExprKind-F.Binary head ls → ⊥
  unfolding node.expr
  no_chain_unary (with_operator {op} {e = x} p o w) head ls h = let f = open_prefixed op x in absurd (cc)
  no_chain_unary (post {head = t} p no_tails) head ls h = let f = open_plain t in absurd (cc)
  no_chain_unary (post {head = t} p (tails {x} {xs} w ws)) head ls h = let f = open_tailed t (x ∷ xs) in absurd (cc)

  chain_level : {d : ℕ} {m : Bool} {n : ℕ} {e : Expr} {i j : ℕ} → IsLevel ts d m n e i j → (head : Expr) (ls : List Operation) → out-ExprKind e.kind ≡ ExprKind-F.Binary head ls
      → Chained e.first e.past head ls
  unfolding node.expr
  chain_level (lowest p) head ls h = absurd (no_chain_unary p head ls h)
  chain_level (level p no_operations) head ls h = chain_level p head ls h
  chain_level (level {m} {head = x} {i} {l} p (operation {op} {x = y} {links} q o w ws)) head ls h =
      let f = open_chain x (node.operation op y ∷ links) in
      let same : x ≡ head = cc in
      let more : (node.operation op y ∷ links) ≡ ls = cc in
      let s = level_sits p in let b = placed_level p in
      let rise = subst (λ n. Rising n (node.operation op y ∷ links) l) (sym b.1) (links_rise (operation q o w ws)) in
      let here : Chained (next_index ts m i) l x (node.operation op y ∷ links) = record { begun = sym b.0; some = s.some; rise = rise } in
      subst (λ (z : Expr). Chained (next_index ts m i) l z ls) same (subst (λ (zs : List Operation). Chained (next_index ts m i) l x zs) more here)

  pub chain_in : {d : ℕ} {m : Bool} {e : Expr} {i j : ℕ} → IsExpr ts d m e i j → (head : Expr) (ls : List Operation) → out-ExprKind e.kind ≡ ExprKind-F.Binary head ls
      → Chained e.first e.past head ls
  unfolding node.expr
  chain_in (plain p) head ls h = chain_level p head ls h
  chain_in (conditional {c} {then_branch} {else_branch} p q x s y) head ls h = let f = open_conditional c then_branch else_branch in absurd (cc)

  -- ---- tails

  pub tail_legacy : {d : ℕ} {m : Bool} {x : Tail} {i j : ℕ} → IsTail ts d m x i j → IsLegacyToken ts x
  tail_legacy (by_name {m} {i} p q) n h = let f = open_name (next_index ts m (after_next ts m i)) in absurd (cc)
  tail_legacy (legacy {m} {i} p) n h =
      let f = open_legacy (next_index ts m i) in
      let same : next_index ts m i ≡ n = cc in
      subst (λ (z : ℕ). kind_at ts z ≡ Some k.DotIndex) same (next_kind_at ts m k.DotIndex i p)
  tail_legacy (attribute_splat p q) n h = let f = open_attribute_splat in absurd (cc)
  tail_legacy (full_splat p q c) n h = let f = open_full_splat in absurd (cc)
  tail_legacy (index {e} p x q) n h = let f = open_index e in absurd (cc)

  -- ---- a quoted text that is one interpolation

  three : {d : ℕ} {m : Bool} {x : Part} {i j : ℕ} → IsPart ts d m x i j → (e : Expr) → part_interpolation (out-Part x) ≡ Some e → i + 3 ≤ j
  unfolding node.if_part node.for_part
  three (quote_text {m} {i} p) e h = let f = ap part_interpolation (open_literal (next_index ts m i)) in absurd (cc)
  three (here_text {m} {i} p) e h = let f = ap part_interpolation (open_literal (next_index ts m i)) in absurd (cc)
  three (interp {m} {i} {j} p x q) e h =
      let a = step ts m k.InterpOpen i p in let s = expr_sits x in let b = step ts true k.SeqClose j q in
      omega (arith, a.forth, s.begun, s.some, s.ended, b.forth)
  three (if_directive {m} {c} {then_branch} {else_branch} {i} {j} {n} {l} p w y q ps o) e h =
      let f = ap part_interpolation (open_if (rolled_if (next_index ts m i) l c (node.template (first_token_in ts m (after_next ts true j) n) n then_branch) else_branch)) in absurd (cc)
  three (for_directive {m} {x} {body} {i} {j} {n} {l} p y q ps s) e h =
      let f = ap part_interpolation (open_for (rolled_for (next_index ts m i) l x (node.template (first_token_in ts m (after_next ts true j) n) n body))) in absurd (cc)

  three_all : {d : ℕ} {m : Bool} {xs : List Part} {i j : ℕ} → IsParts ts d m xs i j → (e : Expr) → sole_part xs ≡ Some e → i + 3 ≤ j
  three_all no_parts e h = absurd (cc)
  three_all (parts x no_parts) e h = three x e h
  three_all (parts x (parts y ys)) e h = absurd (cc)

  five : {d : ℕ} {m : Bool} {t : Term} {i j : ℕ} → IsTerm ts d m t i j → (e : Expr) → sole_interpolation (out-Primary t.kind) ≡ Some e → i + 5 ≤ j
  unfolding node.term node.call node.for_tuple node.for_object node.template
  five (number p) e h = let f = ap sole_interpolation open_number in absurd (cc)
  five (identifier p q r) e h = let f = ap sole_interpolation open_identifier in absurd (cc)
  five (call {m} {names} {es} {expand_final} {i} p ns q xs) e h = let f = ap sole_interpolation (open_call (rolled_call (next_index ts m i ∷ names) es expand_final)) in absurd (cc)
  five (tuple {es} p w xs) e h = let f = ap sole_interpolation (open_tuple es) in absurd (cc)
  five (object {xs} p w l es) e h = let f = ap sole_interpolation (open_object xs) in absurd (cc)
  five (for_tuple {x} {value} {filter} p y c v f) e h = let g = ap sole_interpolation (open_for_tuple (rolled_for_tuple x value filter)) in absurd (cc)
  five (for_object {x} {key} {value} {grouped} {filter} p y c a w v s f) e h = let g = ap sole_interpolation (open_for_object (rolled_for_object x key value grouped filter)) in absurd (cc)
  five (quoted {m} {ps} {i} {j} p xs q) e h =
      let f = ap sole_interpolation (open_quoted (node.template (first_token_in ts m (after_next ts m i) j) j ps)) in
      let a = step ts m k.QuoteOpen i p in let b = three_all xs e (sym f ∙ h) in let c = step ts m k.QuoteClose j q in
      omega (arith, a.forth, b, c.forth)
  five (heredoc {m} {ps} {i} {j} p xs q) e h = let f = ap sole_interpolation (open_heredoc (node.template (first_token_in ts m (after_next ts m i) j) j ps)) in absurd (cc)
  five (parens {e = x} p w q) e h = let f = ap sole_interpolation (open_parens x) in absurd (cc)

  -- the node's own tokens
  pub five_in : {d : ℕ} {m : Bool} {t : Term} {i j : ℕ} → IsTerm ts d m t i j → (e : Expr) → sole_interpolation (out-Primary t.kind) ≡ Some e → t.first + 5 ≤ t.past
  five_in w e h = five (own_term w) e h

  -- ---- a call with two arguments

  -- what follows two arguments
  closing : {d : ℕ} {s : Bool} {es : List Expr} {j n : ℕ} → IsArguments ts d es s j n → (i : ℕ) (e f a b : Expr) → two_arguments (e ∷ f ∷ es) ≡ Some (a, b) → Ordered i j e f → Ordered i n a b
  closing (no_arguments {i = q} p) i e f a b h o =
      let c = step ts true k.CloseParen q p in
      ordered i (after_next ts true q) e f a b h (record { begun = o.begun; left = o.left; between = o.between; right = o.right; ended = omega (arith, o.ended, c.forth) })
  closing (last_argument u p) i e f a b h o = absurd (cc)
  closing (spread_argument u q p) i e f a b h o = absurd (cc)
  closing (argument u q p) i e f a b h o = absurd (cc)

  second : {d : ℕ} {s : Bool} {e : Expr} {es : List Expr} {i j l n : ℕ} → IsExpr ts d true e i j → j ≤ l → IsArguments ts d es s l n → (a b : Expr) → two_arguments (e ∷ es) ≡ Some (a, b)
      → Ordered i n a b
  second w le (no_arguments p) a b h = absurd (cc)
  second {e} {i} w le (last_argument {e = f} {j = q} v p) a b h =
      let s = expr_sits w in let r = expr_sits v in let c = step ts true k.CloseParen q p in
      ordered i (after_next ts true q) e f a b h
      (record { begun = s.begun; left = s.some; between = omega (arith, s.ended, le, r.begun); right = r.some; ended = omega (arith, r.ended, c.forth) })
  second {e} {i} w le (spread_argument {e = f} {j = q} v o p) a b h =
      let s = expr_sits w in let r = expr_sits v in let c = step ts true k.Ellipsis q o in let d = step ts true k.CloseParen (after_next ts true q) p in
      ordered i (after_next ts true (after_next ts true q)) e f a b h
      (record { begun = s.begun; left = s.some; between = omega (arith, s.ended, le, r.begun); right = r.some; ended = omega (arith, r.ended, c.forth, d.forth) })
  second {e} {i} w le (argument {e = f} {j = q} v o xs) a b h =
      let s = expr_sits w in let r = expr_sits v in let c = step ts true k.Comma q o in
      closing xs i e f a b h
      (record { begun = s.begun; left = s.some; between = omega (arith, s.ended, le, r.begun); right = r.some; ended = omega (arith, r.ended, c.forth) })

  arguments_in : {d : ℕ} {s : Bool} {es : List Expr} {i j : ℕ} → IsArguments ts d es s i j → (a b : Expr) → two_arguments es ≡ Some (a, b) → Ordered i j a b
  arguments_in (no_arguments p) a b h = absurd (cc)
  arguments_in (last_argument w p) a b h = absurd (cc)
  arguments_in (spread_argument w q p) a b h = absurd (cc)
  arguments_in (argument {j} w o xs) a b h = let c = step ts true k.Comma j o in second w (omega (arith, c.forth)) xs a b h

  call_in_term : {d : ℕ} {m : Bool} {t : Term} {i j : ℕ} → IsTerm ts d m t i j → (c : Call) → out-Primary t.kind ≡ Primary-F.Call c → (a b : Expr) → two_arguments (out-Call c).arguments ≡ Some (a, b)
      → Ordered (suc i) j a b
  unfolding node.term node.call node.for_tuple node.for_object node.template
  call_in_term (number p) c h a b g = let f = open_number in absurd (cc)
  call_in_term (identifier p q r) c h a b g = let f = open_identifier in absurd (cc)
  call_in_term (call {m} {names} {es} {expand_final} {i} {j} {l} p ns q xs) c h a b g =
      let f = open_call (rolled_call (next_index ts m i ∷ names) es expand_final) in
      let e = call_arguments (next_index ts m i ∷ names) es expand_final in
      let same : c ≡ rolled_call (next_index ts m i ∷ names) es expand_final = cc in
      let r = step ts m k.Identifier i p in let n = span_names ns in let t = step ts m k.OpenParen j q in
      let is : two_arguments es ≡ Some (a, b) = sym (ap two_arguments (ap (λ (z : Call). (out-Call z).arguments) same ∙ e)) ∙ g in
      let o = arguments_in xs a b is in
      record { begun = omega (arith, r.forth, n.forth, t.forth, o.begun); left = o.left; between = o.between; right = o.right; ended = o.ended }
  call_in_term (tuple {es} p w xs) c h a b g = let f = open_tuple es in absurd (cc)
  call_in_term (object {xs} p w l es) c h a b g = let f = open_object xs in absurd (cc)
  call_in_term (for_tuple {x} {value} {filter} p y v w o) c h a b g = let f = open_for_tuple (rolled_for_tuple x value filter) in absurd (cc)
  call_in_term (for_object {x} {key} {value} {grouped} {filter} p y v w z u s o) c h a b g = let f = open_for_object (rolled_for_object x key value grouped filter) in absurd (cc)
  call_in_term (quoted {m} {ps} {i} {j} p xs q) c h a b g = let f = open_quoted (node.template (first_token_in ts m (after_next ts m i) j) j ps) in absurd (cc)
  call_in_term (heredoc {m} {ps} {i} {j} p xs q) c h a b g = let f = open_heredoc (node.template (first_token_in ts m (after_next ts m i) j) j ps) in absurd (cc)
  call_in_term (parens {e = x} p w q) c h a b g = let f = open_parens x in absurd (cc)

  pub call_in : {d : ℕ} {m : Bool} {t : Term} {i j : ℕ} → IsTerm ts d m t i j → (c : Call) → out-Primary t.kind ≡ Primary-F.Call c → (a b : Expr) → two_arguments (out-Call c).arguments ≡ Some (a, b)
      → Ordered (suc t.first) t.past a b
  call_in w c h a b g = call_in_term (own_term w) c h a b g

  -- ---- labels, words and names

  pub label_within : {l : Label} {i j : ℕ} → IsLabels ts (l ∷ []) i j → Takes ts i j
  label_within (word_label {i} q ls) = ahead (step ts _ k.Identifier i q) (span_labels ls)
  label_within (text_label {i} p q r ls) = ahead (step ts _ k.QuoteOpen i p) (both (loose (step ts _ k.QuoteLit _ q)) (both (loose (step ts _ k.QuoteClose _ r)) (span_labels ls)))
  label_within (empty_label {i} p r ls) = ahead (step ts _ k.QuoteOpen i p) (both (loose (step ts _ k.QuoteClose _ r)) (span_labels ls))

  at_start : (m : Bool) (i : ℕ) → Takes ts i (after_next ts m i) → next_index ts m i < length ts
  at_start m i s = let b = follows ts m i in omega (arith, b, s.within)

  pub name_on_line : {d : ℕ} {o : Option Attribute} {i j : ℕ} → IsOneLineBody ts d o i j → (a : Attribute) → o ≡ Some a → a.name < length ts
  unfolding node.attribute
  name_on_line nothing a h = absurd (cc)
  name_on_line (just {i} p q w) a h = subst (λ (z : Attribute). z.name < length ts) (some_is h) (at_start false i (step ts false k.Identifier i p))

  pub name_within : {d : ℕ} {ms : List Member} {i j : ℕ} → IsMembers ts d ms i j → (a : Attribute) → slice_get ms 0 ≡ Some (member.Attribute a) → a.name < length ts
  unfolding node.attribute node.block
  name_within no_members a h = absurd (cc)
  name_within (blank l r) a h = name_within r a h
  name_within (attribute {i} p q w s r) a h = subst (λ (z : Attribute). z.name < length ts) (attribute_is (some_is h)) (at_start false i (step ts false k.Identifier i p))
  name_within (block p ns b s ms c l r) a h = absurd (other_member a _ (sym (some_is h)))
  name_within (line_block p ns b t c l r) a h = absurd (other_member a _ (sym (some_is h)))

  pub word_within : {d : ℕ} {ms : List Member} {i j : ℕ} → IsMembers ts d ms i j → (b : Block) → slice_get ms 0 ≡ Some (member.Block b) → b.block_type < length ts
  unfolding node.attribute node.block
  word_within no_members b h = absurd (cc)
  word_within (blank l r) b h = word_within r b h
  word_within (attribute p q w s r) b h = absurd (other_member _ b (some_is h))
  word_within (block {i} p ns o s ms c l r) b h = subst (λ (z : Block). z.block_type < length ts) (block_is (some_is h)) (at_start false i (step ts false k.Identifier i p))
  word_within (line_block {i} p ns o t c l r) b h = subst (λ (z : Block). z.block_type < length ts) (block_is (some_is h)) (at_start false i (step ts false k.Identifier i p))
