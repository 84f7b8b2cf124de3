-- The parser answers each derivation of a body, and of a whole text.
use Rattle.std.proofs.Common.{◌≡◌, ◌≢◌, ℕ, zero, suc, ◌+◌, ◌≤◌, ◌<◌, false, List, [], ◌∷◌, ◌++◌, length, Option, Some, None, Ok, refl, sym, ap, ◌∙◌, append_assoc, append-nil, arith}
use Rattle.hcl_token.specs.declared.kind.Kind.{Kind}
use Rattle.hcl_token.specs.declared.kind.Kind.TheVariants as k
use Rattle.hcl_grammar.specs.declared.goal.Goal.TheVariants.{Whole}
use Rattle.hcl_grammar.specs.declared.tree.Attribute.{Attribute}
use Rattle.hcl_grammar.specs.declared.tree.Content.{Content}
use Rattle.hcl_grammar.specs.declared.tree.Content.TheVariants as content
use Rattle.hcl_grammar.specs.declared.tree.Expr.{Expr}
use Rattle.hcl_grammar.specs.declared.tree.Label.{Label}
use Rattle.hcl_grammar.specs.declared.tree.Member.{Member}
use Rattle.hcl_grammar.specs.declared.tree.Member.TheVariants as member
use Rattle.hcl_grammar.specs.declared.tree.Tree.{Tree}
use Rattle.hcl_grammar.specs.Bodies.{IsLabels, no_labels, word_label, text_label, empty_label, IsOneLineBody, nothing, one, IsMembers, no_members, blank, attribute, block, line_block, IsOptionalMark, no_mark, mark, IsFileEnd, at_end, at_comment, IsFile, file}
use Rattle.hcl_grammar.specs.Pure.BodyParser as bodies
use Rattle.hcl_grammar.specs.Pure.BodyParser.{deeper_members}
use Rattle.hcl_grammar.specs.Grammar.{IsExpr}
use Rattle.hcl_grammar.specs.Lookahead.{NextIs, IsNewline, line_end, comment, IsEol, eol_line, eol_end, eol_comment}
use Rattle.hcl_grammar.specs.Nodes as node
use Rattle.hcl_grammar.specs.Pure.NodeMakers.{nodes}
use Rattle.hcl_grammar.specs.Pure.Parser as p
use Rattle.hcl_grammar.specs.Pure.Reading.{next_is, after_if_next}
use Rattle.hcl_grammar.specs.Pure.Steps as steps
use Rattle.hcl_grammar.specs.Tokens.{Token, next_index, next_kind, after_next, first_token_in, same_kind}
use Rattle.hcl_grammar_laws.proofs.Ahead.{Stops, stops_at, sees-not, sees-other}
use Rattle.hcl_grammar_laws.proofs.Complete.{nested, c_expr}
use Rattle.hcl_grammar_laws.proofs.Lines.{NoLine, no_line, line-yes, NoInner, no_inner, no_inner_at, inner-yes}
use Rattle.hcl_grammar_laws.proofs.Spans.{step, span_line, span_eol, span_expr, span_labels, span_on_line, span_members}
use Rattle.hcl_grammar_laws.specs.OneMember.{IsOneMember, attribute as one_attribute, block as one_block, line_block as one_line_block}
use Rattle.hcl_grammar_laws.proofs.Steps.{Answers, found, deep, bind, deeper_found, sees-yes, if_next-yes, if_next-no, expect-yes}

module _ (ts : List Token) where
  pub unlike : (t : Kind) (i : ℕ) → next_kind ts false i ≡ None → next_is ts false t i ≡ false
  unlike t i h = sees-not ts false t i (λ e. let clash : None ≡ Some t = sym h ∙ e in cc)

  no_line_end : (i : ℕ) → next_kind ts false i ≡ None → NoLine ts i
  no_line_end i h = no_line (unlike k.LineComment i h) (unlike k.LineEnd i h)

  no_line_name : (i : ℕ) → NextIs ts false k.Identifier i → NoLine ts i
  unfolding same_kind
  no_line_name i h = no_line (sees-other ts false k.Identifier k.LineComment i h refl) (sees-other ts false k.Identifier k.LineEnd i h refl)

  no_line_brace : (i : ℕ) → NextIs ts false k.CloseBrace i → NoLine ts i
  unfolding same_kind
  no_line_brace i h = no_line (sees-other ts false k.CloseBrace k.LineComment i h refl) (sees-other ts false k.CloseBrace k.LineEnd i h refl)

  no_inner_name : (i : ℕ) → NextIs ts false k.Identifier i → NoInner ts i
  unfolding same_kind
  no_inner_name i h = no_inner (sees-other ts false k.Identifier k.LineComment i h refl) (sees-other ts false k.Identifier k.LineEnd i h refl)

  pub line-no : (i : ℕ) → NextIs ts false k.LineComment i → next_kind ts false (after_next ts false i) ≡ None → steps.eat_newline ts i ≡ Ok (false, i)
  unfolding steps.eat_newline
  line-no i q h = rw (if_next-yes ts false k.LineComment i q, unlike k.LineEnd (after_next ts false i) h)

  eol-yes : {i j : ℕ} → IsEol ts i j → steps.eol ts i ≡ Ok (tt, j)
  unfolding steps.eol
  eol-yes (eol_line q) = rw (line-yes q)
  eol-yes (eol_end {i} h) = let n = unlike k.LineComment i h in rw ((no_line_end i h).is, if_next-no ts false k.LineComment i n, h)
  eol-yes (eol_comment {i} q h) = rw (line-no i q h, if_next-yes ts false k.LineComment i q, h)

  eol_stop : {i j : ℕ} → IsEol ts i j → Stops 8 ts false i
  eol_stop (eol_line (line_end q)) = stops_at 8 k.LineEnd q (omega arith)
  eol_stop (eol_line (comment q n)) = stops_at 8 k.LineComment q (omega arith)
  eol_stop (eol_end h) = record { at_token = λ t e. absurd (let clash : None ≡ Some t = sym h ∙ e in cc) }
  eol_stop (eol_comment q h) = stops_at 8 k.LineComment q (omega arith)

  -- ---- labels

  label-at : (o : Option Kind) (i : ℕ) → next_kind ts false i ≡ o → bodies.label_of nodes ts i ≡ bodies.label_by nodes ts (next_index ts false i) o i
  unfolding bodies.label_of
  label-at o i h = ap (λ o. bodies.label_by nodes ts (next_index ts false i) o i) h

  labels-end : (turns : ℕ) (acc : List Label) (i : ℕ) → NextIs ts false k.OpenBrace i → bodies.labels_from nodes ts turns acc i ≡ Ok (acc, i)
  unfolding bodies.labels_from
  labels-end zero acc i h = refl
  labels-end (suc turns) acc i h = rw (label-at (Some k.OpenBrace) i h)

  labels-more : {x : Label} {j l : ℕ} (ls : List Label) (turns : ℕ) (acc : List Label) (i : ℕ) → bodies.label_of nodes ts i ≡ Ok (Some x, j)
      → bodies.labels_from nodes ts turns (acc ++ x ∷ []) j ≡ Ok ((acc ++ x ∷ []) ++ ls, l)
      → bodies.labels_from nodes ts (suc turns) acc i ≡ Ok (acc ++ x ∷ ls, l)
  unfolding bodies.labels_from
  labels-more {x} {l} ls turns acc i h more = rw h (more ∙ ap (λ xs. Ok (xs, l)) (append_assoc acc (x ∷ []) ls))

  label_text : (i : ℕ) → NextIs ts false k.QuoteOpen i → NextIs ts false k.QuoteLit (after_next ts false i) → NextIs ts false k.QuoteClose (after_next ts false (after_next ts false i))
      → bodies.label_of nodes ts i ≡ Ok (Some (node.label (next_index ts false i) (after_next ts false (after_next ts false (after_next ts false i))) (Some (next_index ts false (after_next ts false i)))), after_next ts false (after_next ts false (after_next ts false i)))
  unfolding bodies.quoted_label
  label_text i a b c =
      rw (label-at (Some k.QuoteOpen) i a, sees-yes ts false k.QuoteLit (after_next ts false i) b, if_next-yes ts false k.QuoteLit (after_next ts false i) b, expect-yes ts false k.QuoteClose (after_next ts false (after_next ts false i)) c)

  label_empty : (i : ℕ) → NextIs ts false k.QuoteOpen i → NextIs ts false k.QuoteClose (after_next ts false i)
      → bodies.label_of nodes ts i ≡ Ok (Some (node.label (next_index ts false i) (after_next ts false (after_next ts false i)) None), after_next ts false (after_next ts false i))
  unfolding bodies.quoted_label same_kind
  label_empty i a c =
      let n = sees-other ts false k.QuoteClose k.QuoteLit (after_next ts false i) c refl in
      rw (label-at (Some k.QuoteOpen) i a, n, if_next-no ts false k.QuoteLit (after_next ts false i) n, expect-yes ts false k.QuoteClose (after_next ts false i) c)

  labels-yes : {ls : List Label} {i j : ℕ} → IsLabels ts ls i j → NextIs ts false k.OpenBrace j → (turns : ℕ) (acc : List Label) → j ≤ turns + i → bodies.labels_from nodes ts turns acc i ≡ Ok (acc ++ ls, j)
  labels-yes (no_labels {i}) s turns acc l = labels-end turns acc i s ∙ ap (λ xs. Ok (xs, i)) (sym (append-nil acc))
  labels-yes (word_label {i} q ls) s zero acc l = absurd (omega (arith, (step ts false k.Identifier i q).forth, (span_labels ls).forth))
  labels-yes (word_label {ls = xs} {i} q ls) s (suc turns) acc l =
      labels-more xs turns acc i (label-at (Some k.Identifier) i q) (labels-yes ls s turns (acc ++ node.label (next_index ts false i) (after_next ts false i) (Some (next_index ts false i)) ∷ []) (omega (arith, (step ts false k.Identifier i q).forth)))
  labels-yes (text_label {i} a b c ls) s zero acc l =
      absurd (omega (arith, (step ts false k.QuoteOpen i a).forth, (step ts false k.QuoteLit (after_next ts false i) b).forth, (step ts false k.QuoteClose (after_next ts false (after_next ts false i)) c).forth, (span_labels ls).forth))
  labels-yes (text_label {ls = xs} {i} a b c ls) s (suc turns) acc l =
      labels-more xs turns acc i (label_text i a b c)
      (labels-yes ls s turns (acc ++ node.label (next_index ts false i) (after_next ts false (after_next ts false (after_next ts false i))) (Some (next_index ts false (after_next ts false i))) ∷ [])
      (omega (arith, (step ts false k.QuoteOpen i a).forth, (step ts false k.QuoteLit (after_next ts false i) b).forth, (step ts false k.QuoteClose (after_next ts false (after_next ts false i)) c).forth)))
  labels-yes (empty_label {i} a c ls) s zero acc l = absurd (omega (arith, (step ts false k.QuoteOpen i a).forth, (step ts false k.QuoteClose (after_next ts false i) c).forth, (span_labels ls).forth))
  labels-yes (empty_label {ls = xs} {i} a c ls) s (suc turns) acc l =
      labels-more xs turns acc i (label_empty i a c)
      (labels-yes ls s turns (acc ++ node.label (next_index ts false i) (after_next ts false (after_next ts false i)) None ∷ []) (omega (arith, (step ts false k.QuoteOpen i a).forth, (step ts false k.QuoteClose (after_next ts false i) c).forth)))

  labels_all : {ls : List Label} {i j : ℕ} → IsLabels ts ls i j → NextIs ts false k.OpenBrace j → bodies.labels_from nodes ts (length ts) [] i ≡ Ok (ls, j)
  labels_all ls s = labels-yes ls s (length ts) [] (omega (arith, (span_labels ls).within))

  not_equals : {ls : List Label} {i j : ℕ} → IsLabels ts ls i j → NextIs ts false k.OpenBrace j → next_is ts false k.Equal i ≡ false
  unfolding same_kind
  not_equals (no_labels {i}) h = sees-other ts false k.OpenBrace k.Equal i h refl
  not_equals (word_label {i} q ls) h = sees-other ts false k.Identifier k.Equal i q refl
  not_equals (text_label {i} q b c ls) h = sees-other ts false k.QuoteOpen k.Equal i q refl
  not_equals (empty_label {i} q c ls) h = sees-other ts false k.QuoteOpen k.Equal i q refl

  -- ---- members

  -- no member comes next
  pub record Ends (i : ℕ) : Type 0 where
    pub no_line : NoLine ts i
    pub no_name : next_is ts false k.Identifier i ≡ false

  ends_brace : (i : ℕ) → NextIs ts false k.CloseBrace i → Ends i
  unfolding same_kind
  ends_brace i h = record { no_line = no_line_brace i h; no_name = sees-other ts false k.CloseBrace k.Identifier i h refl }

  members_end : {d a : ℕ} (turns : ℕ) (acc : List Member) (i : ℕ) → Ends i → Answers d a acc i (bodies.members_from nodes ts a (deeper_members nodes ts a) turns acc i)
  unfolding bodies.members_from bodies.member_of
  members_end zero acc i s = found
  members_end (suc turns) acc i s = rw (s.no_line.is, s.no_name, if_next-no ts false k.Identifier i s.no_name) found

  members_newline : {d a : ℕ} {ys : List Member} {j l : ℕ} (turns : ℕ) (acc : List Member) (i : ℕ) → IsNewline ts i j → Answers d a ys l (bodies.members_from nodes ts a (deeper_members nodes ts a) turns acc j)
      → Answers d a ys l (bodies.members_from nodes ts a (deeper_members nodes ts a) (suc turns) acc i)
  unfolding bodies.members_from
  members_newline turns acc i q r = rw (line-yes q) r

  span_one : {d : ℕ} {x : Member} {i n : ℕ} → IsOneMember ts d x i n → i < n
  span_one (one_attribute {i} q e x el) = omega (arith, (step ts false k.Identifier i q).forth, (step ts false k.Equal (after_next ts false i) e).forth, (span_expr x).forth, (span_eol el).forth)
  span_one (one_block {i} {j} {o} h ls br nl bs cl el) =
      omega (arith, (step ts false k.Identifier i h).forth, (span_labels ls).forth, (step ts false k.OpenBrace j br).forth, (span_line nl).forth, (span_members bs).forth, (step ts false k.CloseBrace o cl).forth, (span_eol el).forth)
  span_one (one_line_block {i} {j} {o} h ls br x cl el) =
      omega (arith, (step ts false k.Identifier i h).forth, (span_labels ls).forth, (step ts false k.OpenBrace j br).forth, (span_on_line x).forth, (step ts false k.CloseBrace o cl).forth, (span_eol el).forth)

  -- the parser answers a member, after its name
  abbrev GivesOne : ℕ → Member → ℕ → ℕ → Type 0
  GivesOne d x i n = (b : ℕ) → Answers d b x n (bodies.attribute_or_block nodes ts b (deeper_members nodes ts b) (next_index ts false i) (after_next ts false i))

  -- a member, and those after it
  members_more : {d b : ℕ} {x : Member} {ys : List Member} {i n l : ℕ} → NextIs ts false k.Identifier i → i < n → n ≤ l
      → Answers d b x n (bodies.attribute_or_block nodes ts b (deeper_members nodes ts b) (next_index ts false i) (after_next ts false i))
      → ((turns : ℕ) (acc : List Member) → l ≤ turns + n → Answers d b (acc ++ ys) l (bodies.members_from nodes ts b (deeper_members nodes ts b) turns acc n))
      → (turns : ℕ) (acc : List Member) → l ≤ turns + i → Answers d b (acc ++ x ∷ ys) l (bodies.members_from nodes ts b (deeper_members nodes ts b) turns acc i)
  unfolding bodies.members_from bodies.member_of
  members_more q f g x more zero acc le = absurd (omega (arith, f, g, le))
  members_more {x = y} {ys} {i} q f g x more (suc turns) acc le =
      rw (← append_assoc acc (y ∷ []) ys, (no_line_name i q).is, sees-yes ts false k.Identifier i q, if_next-yes ts false k.Identifier i q) (bind _ (bind _ x found) (more turns (acc ++ y ∷ []) (omega (arith, f, le))))

  member_attribute : {d a : ℕ} {e : Expr} {j n : ℕ} (first i : ℕ) → NextIs ts false k.Equal i → Answers d a e j ((p.under nodes ts a).expr false Whole (after_next ts false i)) → IsEol ts j n
      → Answers d a (member.Attribute (node.attribute first n e)) n (bodies.attribute_or_block nodes ts a (deeper_members nodes ts a) first i)
  unfolding bodies.attribute_or_block bodies.attribute_by
  member_attribute first i e x l = rw (sees-yes ts false k.Equal i e, if_next-yes ts false k.Equal i e) (bind _ x (rw (eol-yes l) found))

  member_block : {d : ℕ} {ls : List Label} {x : Content} {j o q : ℕ} (first i : ℕ) → IsLabels ts ls i j → NextIs ts false k.OpenBrace j → NextIs ts false k.CloseBrace o → IsEol ts (after_next ts false o) q → (b : ℕ)
      → ((a : ℕ) → Answers d a x o (bodies.block_content nodes ts (suc a) (bodies.members nodes ts a) (after_next ts false j)))
      → Answers (suc d) b (node.block first q ls x) q (bodies.attribute_or_block nodes ts b (deeper_members nodes ts b) first i)
  unfolding bodies.attribute_or_block bodies.block_by
  member_block {j} {o} first i ls br cl el zero x =
      rw (not_equals ls br, if_next-no ts false k.Equal i (not_equals ls br), labels_all ls br, expect-yes ts false k.OpenBrace j br) (deep (omega arith))
  member_block {j} {o} first i ls br cl el (suc a) x =
      rw (not_equals ls br, if_next-no ts false k.Equal i (not_equals ls br), labels_all ls br, expect-yes ts false k.OpenBrace j br)
      (bind _ (deeper_found (x a)) (rw (expect-yes ts false k.CloseBrace o cl, eol-yes el) found))

  content_lines : {d a : ℕ} {bs : List Member} {n o : ℕ} (i : ℕ) → IsNewline ts i n → Answers d a bs o (bodies.members nodes ts a n)
      → Answers d a (content.Body (node.body (first_token_in ts false n o) o bs)) o (bodies.block_content nodes ts (suc a) (bodies.members nodes ts a) i)
  unfolding bodies.block_content bodies.nested_body
  content_lines i l x = rw (inner-yes l) (bind _ x found)

  content_empty : {d a : ℕ} (i : ℕ) → NextIs ts false k.CloseBrace i → Answers d a (content.OneLine None) i (bodies.block_content nodes ts (suc a) (bodies.members nodes ts a) i)
  unfolding bodies.block_content bodies.one_line_body same_kind
  content_empty i h = let n = sees-other ts false k.CloseBrace k.Identifier i h refl in rw ((no_inner_at ts i h).is, n, if_next-no ts false k.Identifier i n) found

  content_one : {d a : ℕ} {e : Expr} {j : ℕ} (i : ℕ) → NextIs ts false k.Identifier i → NextIs ts false k.Equal (after_next ts false i) → Answers d a e j ((p.under nodes ts a).expr false Whole (after_next ts false (after_next ts false i)))
      → Answers d a (content.OneLine (Some (node.attribute (next_index ts false i) j e))) j (bodies.block_content nodes ts (suc a) (bodies.members nodes ts a) i)
  unfolding bodies.block_content bodies.one_line_body
  content_one i h q x = rw ((no_inner_name i h).is, sees-yes ts false k.Identifier i h, if_next-yes ts false k.Identifier i h, expect-yes ts false k.Equal (after_next ts false i) q) (bind _ x found)

  c_on_line : {d : ℕ} {x : Option Attribute} {i j : ℕ} → IsOneLineBody ts d x i j → NextIs ts false k.CloseBrace j → (a : ℕ) → Answers d a (content.OneLine x) j (bodies.block_content nodes ts (suc a) (bodies.members nodes ts a) i)
  c_on_line (nothing {i}) h a = content_empty i h
  c_on_line (one {i} {j} n q x) h a = content_one i n q (nested ts false (after_next ts false (after_next ts false i)) a (c_expr ts x (stops_at 8 k.CloseBrace h (omega arith)) a))

  members-is : (a i : ℕ) → bodies.members nodes ts a i ≡ bodies.members_from nodes ts a (deeper_members nodes ts a) (length ts) [] i
  unfolding bodies.members
  members-is zero i = refl
  members-is (suc a) i = refl

  c_attribute : {d : ℕ} {e : Expr} {j n : ℕ} (i : ℕ) → NextIs ts false k.Identifier i → NextIs ts false k.Equal (after_next ts false i) → IsExpr ts d false e (after_next ts false (after_next ts false i)) j → IsEol ts j n
      → GivesOne d (member.Attribute (node.attribute (next_index ts false i) n e)) i n
  c_attribute i q e x el b = member_attribute (next_index ts false i) (after_next ts false i) e (nested ts false (after_next ts false (after_next ts false i)) b (c_expr ts x (eol_stop el) b)) el

  c_block : {d : ℕ} {ls : List Label} {bs : List Member} {j n o q : ℕ} (i : ℕ) → IsLabels ts ls (after_next ts false i) j → NextIs ts false k.OpenBrace j → IsNewline ts (after_next ts false j) n
      → ((a : ℕ) → Answers d a bs o (bodies.members_from nodes ts a (deeper_members nodes ts a) (length ts) [] n)) → NextIs ts false k.CloseBrace o → IsEol ts (after_next ts false o) q
      → GivesOne (suc d) (node.block (next_index ts false i) q ls (content.Body (node.body (first_token_in ts false n o) o bs))) i q
  c_block {j} {n} i ls br nl bs cl el b = member_block (next_index ts false i) (after_next ts false i) ls br cl el b (λ a. content_lines (after_next ts false j) nl (rw (members-is a n) (bs a)))

  c_line_block : {d : ℕ} {ls : List Label} {x : Option Attribute} {j o q : ℕ} (i : ℕ) → IsLabels ts ls (after_next ts false i) j → NextIs ts false k.OpenBrace j → IsOneLineBody ts d x (after_next ts false j) o
      → NextIs ts false k.CloseBrace o → IsEol ts (after_next ts false o) q → GivesOne (suc d) (node.block (next_index ts false i) q ls (content.OneLine x)) i q
  c_line_block i ls br x cl el b = member_block (next_index ts false i) (after_next ts false i) ls br cl el b (λ a. c_on_line x cl a)

  c_members : {d : ℕ} {ms : List Member} {i j : ℕ} → IsMembers ts d ms i j → Ends j → (b turns : ℕ) (acc : List Member) → j ≤ turns + i
      → Answers d b (acc ++ ms) j (bodies.members_from nodes ts b (deeper_members nodes ts b) turns acc i)
  c_members (no_members {i}) s b turns acc l = rw (append-nil acc) (members_end turns acc i s)
  c_members (blank q ms) s b zero acc l = absurd (omega (arith, (span_line q).forth, (span_members ms).forth))
  c_members (blank {i} q ms) s b (suc turns) acc l = members_newline turns acc i q (c_members ms s b turns acc (omega (arith, (span_line q).forth)))
  c_members (attribute q e x el ms) s b turns acc l = members_more q (span_one (one_attribute q e x el)) (span_members ms).forth (c_attribute _ q e x el b) (c_members ms s b) turns acc l
  c_members (block h ls br nl bs cl el ms) s b turns acc l =
      members_more h (span_one (one_block h ls br nl bs cl el)) (span_members ms).forth (c_block _ ls br nl (λ a. c_members bs (ends_brace _ cl) a (length ts) [] (omega (arith, (span_members bs).within))) cl el b) (c_members ms s b) turns acc l
  c_members (line_block h ls br x cl el ms) s b turns acc l =
      members_more h (span_one (one_line_block h ls br x cl el)) (span_members ms).forth (c_line_block _ ls br x cl el b) (c_members ms s b) turns acc l

  -- ---- one member

  no_newline : {i j : ℕ} → NextIs ts false k.Identifier i → IsNewline ts i j → ⊥
  no_newline {i} h (line_end q) = let clash : Some k.Identifier ≡ Some k.LineEnd = sym h ∙ q in absurd (cc)
  no_newline {i} h (comment q n) = let clash : Some k.Identifier ≡ Some k.LineComment = sym h ∙ q in absurd (cc)

  -- the member that a body begins with, where no line end is before it
  first_member : {d : ℕ} {m : Member} {ms : List Member} {i l : ℕ} → NextIs ts false k.Identifier i → IsMembers ts d (m ∷ ms) i l → (n : ℕ) × IsOneMember ts d m i n
  first_member h (blank q ms) = absurd (no_newline h q)
  first_member h (attribute q e x el ms) = (_, one_attribute q e x el)
  first_member h (block g ls br nl bs cl el ms) = (_, one_block g ls br nl bs cl el)
  first_member h (line_block g ls br x cl el ms) = (_, one_line_block g ls br x cl el)

  c_some : {d : ℕ} {m : Member} {n : ℕ} (b i : ℕ) → NextIs ts false k.Identifier i → Answers d b m n (bodies.attribute_or_block nodes ts b (deeper_members nodes ts b) (next_index ts false i) (after_next ts false i))
      → Answers d b (Some m) n (bodies.member_of nodes ts b (deeper_members nodes ts b) i)
  unfolding bodies.member_of
  c_some b i h x = rw (sees-yes ts false k.Identifier i h, if_next-yes ts false k.Identifier i h) (bind _ x found)

  pub c_one : {d : ℕ} {m : Member} {i n : ℕ} → IsOneMember ts d m i n → (b : ℕ) → Answers d b (Some m) n (bodies.member_of nodes ts b (deeper_members nodes ts b) i)
  c_one (one_attribute q e x el) b = c_some b _ q (c_attribute _ q e x el b)
  c_one (one_block h ls br nl bs cl el) b = c_some b _ h (c_block _ ls br nl (λ a. c_members bs (ends_brace _ cl) a (length ts) [] (omega (arith, (span_members bs).within))) cl el b)
  c_one (one_line_block h ls br x cl el) b = c_some b _ h (c_line_block _ ls br x cl el b)

  pub c_member : {d : ℕ} {m : Member} {ms : List Member} {l : ℕ} (i : ℕ) → NextIs ts false k.Identifier i → IsMembers ts d (m ∷ ms) i l → (b : ℕ)
      → (n : ℕ) × Answers d b (Some m) n (bodies.member_of nodes ts b (deeper_members nodes ts b) i)
  c_member i h x b = let m = first_member h x in (m.0, c_one m.1 b)

  pub c_none : (b i : ℕ) → next_kind ts false i ≢ Some k.Identifier → Answers b b None i (bodies.member_of nodes ts b (deeper_members nodes ts b) i)
  unfolding bodies.member_of
  c_none b i h = let n = sees-not ts false k.Identifier i h in rw (n, if_next-no ts false k.Identifier i n) found

  -- ---- whole texts

  last_ends : (i : ℕ) → IsFileEnd ts i → Ends i
  unfolding same_kind
  last_ends i (at_end h) = record { no_line = no_line_end i h; no_name = unlike k.Identifier i h }
  last_ends i (at_comment q h) = record { no_line = record { is = line-no i q h }; no_name = sees-other ts false k.LineComment k.Identifier i q refl }

  -- there is no byte order mark where a body begins
  no_mark_before : {d : ℕ} {ms : List Member} {i j : ℕ} → IsMembers ts d ms i j → IsFileEnd ts j → next_is ts false k.Mark i ≡ false
  unfolding same_kind
  no_mark_before (no_members {i}) (at_end h) = unlike k.Mark i h
  no_mark_before (no_members {i}) (at_comment q h) = sees-other ts false k.LineComment k.Mark i q refl
  no_mark_before (blank {i} (line_end q) ms) l = sees-other ts false k.LineEnd k.Mark i q refl
  no_mark_before (blank {i} (comment q n) ms) l = sees-other ts false k.LineComment k.Mark i q refl
  no_mark_before (attribute {i} q e x el ms) l = sees-other ts false k.Identifier k.Mark i q refl
  no_mark_before (block {i} q ls br nl bs cl el ms) l = sees-other ts false k.Identifier k.Mark i q refl
  no_mark_before (line_block {i} q ls br x cl el ms) l = sees-other ts false k.Identifier k.Mark i q refl

  -- what the file is parsed from: after a byte order mark
  after-mark : {d : ℕ} {ms : List Member} {i j : ℕ} → IsOptionalMark ts i → IsMembers ts d ms i j → IsFileEnd ts j → after_if_next ts false k.Mark 0 ≡ i
  after-mark no_mark ms l = if_next-no ts false k.Mark 0 (no_mark_before ms l)
  after-mark (mark q) ms l = if_next-yes ts false k.Mark 0 q

  file_by : {d : ℕ} {ms : List Member} {i j : ℕ} (b : ℕ) → after_if_next ts false k.Mark 0 ≡ i → Answers d b ms j (bodies.members nodes ts b i) → IsFileEnd ts j
      → (n : ℕ) × Answers d b (node.tree (length ts) (node.body (first_token_in ts false i j) j ms)) n (bodies.file nodes ts b 0)
  unfolding bodies.file
  file_by {j} b s x (at_end h) = (j, rw s (bind _ x (let n = unlike k.LineComment j h in rw (if_next-no ts false k.LineComment j n, h) found)))
  file_by {j} b s x (at_comment q h) = (after_next ts false j, rw s (bind _ x (rw (if_next-yes ts false k.LineComment j q, h) found)))

  -- each derivation of a whole text is answered
  pub file_answers : (b d : ℕ) (t : Tree) → IsFile ts d t → (n : ℕ) × Answers d b t n (bodies.file nodes ts b 0)
  file_answers b d t (file {i} {j} f ms l) =
      file_by b (after-mark f ms l) (rw (members-is b i) (c_members ms (last_ends j l) b (length ts) [] (omega (arith, (span_members ms).within)))) l
