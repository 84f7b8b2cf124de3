-- A member of a body is derived wherever its tokens are, and so are those in its block: the numbers
-- of tokens differ, and nothing else.
use Rattle.std.proofs.Common.{◌≢◌, ℕ, suc, ◌+◌, ◌<◌, ◌≤◌, false, List, [], ◌∷◌, Option, Some, None, ◌∙◌, arith}
use Rattle.hcl_token.specs.declared.kind.Kind.{Kind}
use Rattle.hcl_token.specs.declared.kind.Kind.TheVariants as k
use Rattle.hcl_grammar.specs.declared.tree.Attribute.{Attribute}
use Rattle.hcl_grammar.specs.declared.tree.Content.TheVariants as content
use Rattle.hcl_grammar.specs.declared.tree.Expr.{Expr}
use Rattle.hcl_grammar.specs.declared.tree.Label.{Label}
use Rattle.hcl_grammar.specs.declared.tree.Member.{Member}
use Rattle.hcl_grammar.specs.declared.tree.Member.TheVariants as member
use Rattle.hcl_grammar.specs.Bodies.{IsLabels, no_labels, word_label, text_label, empty_label, IsOneLineBody, nothing, one, IsMembers, no_members, blank, attribute, block, line_block}
use Rattle.hcl_grammar.specs.Grammar.{IsExpr}
use Rattle.hcl_grammar.specs.Lookahead.{NextIs, IsNewline, line_end, comment, IsEol, eol_line, eol_end, eol_comment}
use Rattle.hcl_grammar.specs.Nodes as node
use Rattle.hcl_grammar.specs.Tokens.{Token, next_index, next_kind, after_next, first_token_in}
use Rattle.hcl_grammar_laws.proofs.BodySound.{member_first}
use Rattle.hcl_grammar_laws.proofs.Spans.{span_line, span_eol, span_expr, span_labels, span_on_line, span_members}
use Rattle.hcl_grammar_laws.specs.OneMember.{IsOneMember}
use Rattle.hcl_grammar_laws.specs.OneMember as alone
use Rattle.tf_reuse.specs.SameTokens.{SameTokens}
use Rattle.tf_reuse.proofs.MoveExpressions.{move_expr}
use Rattle.tf_reuse.proofs.MoveLines.{move_line}
use Rattle.tf_reuse.proofs.RenumberedNodes.{MovedLabels, MovedOnLine, MovedMember, MovedMembers}
use Rattle.tf_reuse.proofs.RenumberedNodes as moved
use Rattle.tf_reuse.proofs.Window.{Here, Same, NextIsWithin, starts, starts_here, afters, nexts, some_next, next_within_end, next_within, earlier, firsts}

-- a line end ends it, not the end of the text
abbrev pub IsLine : {ts : List Token} {i j : ℕ} → IsEol ts i j → Type 0
IsLine (eol_line q) = Unit {0}
IsLine (eol_end e) = ⊥
IsLine (eol_comment p e) = ⊥

abbrev pub EndsLine : {ts : List Token} {d : ℕ} {x : Member} {i j : ℕ} → IsOneMember ts d x i j → Type 0
EndsLine (alone.attribute p q x el) = IsLine el
EndsLine (alone.block p ls br nl bs cl el) = IsLine el
EndsLine (alone.line_block p ls br x cl el) = IsLine el

-- so it is where a token follows
is_line : {ts : List Token} {i j : ℕ} (el : IsEol ts i j) → next_kind ts false j ≢ None → IsLine el
is_line (eol_line q) n = tt
is_line (eol_end e) n = n e
is_line (eol_comment p e) n = n e

ends_line : {ts : List Token} {d : ℕ} {x : Member} {i j : ℕ} (is : IsOneMember ts d x i j) → next_kind ts false j ≢ None → EndsLine is
ends_line (alone.attribute p q x el) n = is_line el n
ends_line (alone.block p ls br nl bs cl el) n = is_line el n
ends_line (alone.line_block p ls br x cl el) n = is_line el n

module _ {old new : List Token} {from to count : ℕ} (w : SameTokens old new from to count) where
  begins : (i : ℕ) → next_index old false i < after_next old false i
  unfolding after_next
  begins i = omega arith

  advances : (i : ℕ) → i < after_next old false i
  unfolding after_next next_index
  advances i = omega arith

  -- the next token is one of the tokens, if the one after it is
  back : (i : ℕ) → NextIsWithin w false (after_next old false i) → NextIsWithin w false i
  back i c = earlier w false i (after_next old false i) (omega (arith, advances i)) c

  at : (t : Kind) {i i' : ℕ} → Here w i i' → NextIsWithin w false i → NextIs old false t i → NextIs new false t i'
  at t h c p = nexts w false h c ∙ p

  -- ---- ends of lines

  eol_next_within : {i j : ℕ} (el : IsEol old i j) → j ≤ from + count → IsLine el → NextIsWithin w false i
  eol_next_within (eol_line (line_end {i} q)) l n = next_within w false i l
  eol_next_within (eol_line (comment {i} p q)) l n = back i (next_within w false (after_next old false i) l)
  eol_next_within (eol_end e) l n = absurd n
  eol_next_within (eol_comment p e) l n = absurd n

  pub move_eol : {i i' j : ℕ} (el : IsEol old i j) → Here w i i' → j ≤ from + count → IsLine el → (j' : ℕ) × Here w j j' × IsEol new i' j'
  move_eol (eol_line q) h l n = let (j', hj, q') = move_line w q h l in (j', hj, eol_line q')
  move_eol (eol_end e) h l n = absurd n
  move_eol (eol_comment p e) h l n = absurd n

  -- ---- labels

  pub move_labels : {ls : List Label} {i i' j : ℕ} → IsLabels old ls i j → Here w i i' → NextIsWithin w false j
      → (ls' : List Label) × (j' : ℕ) × Here w j j' × IsLabels new ls' i' j' × MovedLabels (Here w) (Same w) ls ls'
  move_labels {i'} no_labels h c = ([], i', h, no_labels, moved.no_labels)
  move_labels {i'} (word_label {i} {j} p r) h c =
      let c0 = back i (earlier w false (after_next old false i) j (span_labels r).forth c) in
      let h1 = afters w false h c0 in
      let (ls', j', hj, r', x) = move_labels r h1 c in (
        node.label (next_index new false i') (after_next new false i') (Some (next_index new false i')) ∷ ls',
        j',
        hj,
        word_label {ls = ls'} {j = j'} (at k.Identifier h c0 p) r',
        moved.labels {ls' = ls'} (starts_here w false h c0) h1 (begins i) (moved.one_number (starts w false h c0)) x,
      )
  move_labels {i'} (text_label {i} {j} p q s r) h c =
      let i1 = after_next old false i in
      let i2 = after_next old false i1 in
      let c2 = back i2 (earlier w false (after_next old false i2) j (span_labels r).forth c) in
      let c1 = back i1 c2 in
      let c0 = back i c1 in
      let h1 = afters w false h c0 in
      let h2 = afters w false h1 c1 in
      let h3 = afters w false h2 c2 in
      let (ls', j', hj, r', x) = move_labels r h3 c in (
        node.label (next_index new false i') (after_next new false (after_next new false (after_next new false i'))) (Some (next_index new false (after_next new false i'))) ∷ ls',
        j',
        hj,
        text_label {ls = ls'} {j = j'} (at k.QuoteOpen h c0 p) (at k.QuoteLit h1 c1 q) (at k.QuoteClose h2 c2 s) r',
        moved.labels {ls' = ls'} (starts_here w false h c0) h3 (omega (arith, begins i, advances i1, advances i2)) (moved.one_number (starts w false h1 c1)) x,
      )
  move_labels {i'} (empty_label {i} {j} p q r) h c =
      let i1 = after_next old false i in
      let c1 = back i1 (earlier w false (after_next old false i1) j (span_labels r).forth c) in
      let c0 = back i c1 in
      let h1 = afters w false h c0 in
      let h2 = afters w false h1 c1 in
      let (ls', j', hj, r', x) = move_labels r h2 c in (
        node.label (next_index new false i') (after_next new false (after_next new false i')) None ∷ ls',
        j',
        hj,
        empty_label {ls = ls'} {j = j'} (at k.QuoteOpen h c0 p) (at k.QuoteClose h1 c1 q) r',
        moved.labels {ls' = ls'} (starts_here w false h c0) h2 (omega (arith, begins i, advances i1)) moved.no_number x,
      )

  pub move_on_line : {d : ℕ} {o : Option Attribute} {i i' j : ℕ} → IsOneLineBody old d o i j → Here w i i' → NextIsWithin w false j
      → (o' : Option Attribute) × (j' : ℕ) × Here w j j' × IsOneLineBody new d o' i' j' × MovedOnLine (Here w) (Same w) o o'
  move_on_line {i'} nothing h c = (None, i', h, nothing, moved.nothing)
  move_on_line {i'} (one {i} {j} p q x) h c =
      let i1 = after_next old false i in
      let on = (span_expr x).forth in
      let c1 = back i1 (earlier w false (after_next old false i1) j on c) in
      let c0 = back i c1 in
      let h1 = afters w false h c0 in
      let (e', j', hj, x', m) = move_expr w x (afters w false h1 c1) c in (
        Some (node.attribute (next_index new false i') j' e'),
        j',
        hj,
        one {e = e'} {j = j'} (at k.Identifier h c0 p) (at k.Equal h1 c1 q) x',
        moved.one {j' = j'} {e' = e'} (starts_here w false h c0) hj (omega (arith, begins i, advances i1, on)) m,
      )

  -- ---- members

  abbrev MovesMember : ℕ → Member → ℕ → ℕ → Type 0
  MovesMember d x i' j = (y : Member) × (j' : ℕ) × Here w j j' × IsOneMember new d y i' j' × MovedMember (Here w) (Same w) x y

  abbrev MovesMembers : ℕ → List Member → ℕ → ℕ → Type 0
  MovesMembers d ms i' j = (ns : List Member) × (j' : ℕ) × Here w j j' × IsMembers new d ns i' j' × MovedMembers (Here w) (Same w) ms ns

  move_attribute : {d : ℕ} {e : Expr} {i i' j n : ℕ} → NextIs old false k.Identifier i → NextIs old false k.Equal (after_next old false i) → IsExpr old d false e (after_next old false (after_next old false i)) j → (el : IsEol old j n)
      → Here w i i' → n ≤ from + count → IsLine el → MovesMember d (member.Attribute (node.attribute (next_index old false i) n e)) i' n
  move_attribute {i} {i'} {j} p q x el h l some =
      let i1 = after_next old false i in
      let cj = eol_next_within el l some in
      let on = (span_expr x).forth in
      let c1 = back i1 (earlier w false (after_next old false i1) j on cj) in
      let c0 = back i c1 in
      let h1 = afters w false h c0 in
      let (e', j', hj, x', m) = move_expr w x (afters w false h1 c1) cj in
      let (n', hn, el') = move_eol el hj l some in (
        member.Attribute (node.attribute (next_index new false i') n' e'),
        n',
        hn,
        alone.attribute {e = e'} {j = j'} {n = n'} (at k.Identifier h c0 p) (at k.Equal h1 c1 q) x' el',
        moved.attribute {j' = n'} {e' = e'} (starts_here w false h c0) hn (omega (arith, begins i, advances i1, on, (span_eol el).forth)) m,
      )

  -- a block whose body, as it is in the braces, is moved
  move_block : {d : ℕ} {ls : List Label} {bs : List Member} {i i' j n o q : ℕ} → NextIs old false k.Identifier i → IsLabels old ls (after_next old false i) j → NextIs old false k.OpenBrace j
      → IsNewline old (after_next old false j) n → n ≤ o → (NextIsWithin w false o → (n' : ℕ) → Here w n n' → MovesMembers d bs n' o) → NextIs old false k.CloseBrace o → (el : IsEol old (after_next old false o) q)
      → Here w i i' → q ≤ from + count → IsLine el
      → MovesMember (suc d) (node.block (next_index old false i) q ls (content.Body (node.body (first_token_in old false n o) o bs))) i' q
  move_block {i} {i'} {j} {n} {o} p ls br nl on inner cl el h l some =
      let i1 = after_next old false i in
      let j1 = after_next old false j in
      let co = back o (eol_next_within el l some) in
      let cn = earlier w false n o on co in
      let line = (span_line nl).forth in
      let cj = back j (earlier w false j1 n (omega (arith, line)) cn) in
      let c0 = back i (earlier w false i1 j (span_labels ls).forth cj) in
      let (ls', j', hj, labels', lm) = move_labels ls (afters w false h c0) cj in
      let (n', hn, nl') = move_line w nl (afters w false hj cj) (next_within_end w false n cn) in
      let (bs', o', ho, bs'', bm) = inner co n' hn in
      let (q', hq, el') = move_eol {i' = after_next new false o'} el (afters w false {i' = o'} ho co) l some in (
        node.block (next_index new false i') q' ls' (content.Body (node.body (first_token_in new false n' o') o' bs')),
        q',
        hq,
        alone.block {ls = ls'} {bs = bs'} {j = j'} {n = n'} {o = o'} {q = q'} (at k.Identifier h c0 p) labels' (at k.OpenBrace hj cj br) nl' bs'' (at k.CloseBrace {i' = o'} ho co cl) el',
        moved.block {j' = q'} {ls' = ls'} {x' = content.Body (node.body (first_token_in new false n' o') o' bs')} (starts_here w false h c0) hq
            (omega (arith, begins i, (span_labels ls).forth, advances j, line, on, advances o, (span_eol el).forth)) lm
            (moved.body {i' = first_token_in new false n' o'} {j' = o'} {ms' = bs'} (firsts w false {i' = n'} {j' = o'} hn ho on co) ho bm),
      )

  move_line_block : {d : ℕ} {ls : List Label} {a : Option Attribute} {i i' j o q : ℕ} → NextIs old false k.Identifier i → IsLabels old ls (after_next old false i) j → NextIs old false k.OpenBrace j
      → IsOneLineBody old d a (after_next old false j) o → NextIs old false k.CloseBrace o → (el : IsEol old (after_next old false o) q)
      → Here w i i' → q ≤ from + count → IsLine el → MovesMember (suc d) (node.block (next_index old false i) q ls (content.OneLine a)) i' q
  move_line_block {i} {i'} {j} {o} p ls br x cl el h l some =
      let i1 = after_next old false i in
      let j1 = after_next old false j in
      let co = back o (eol_next_within el l some) in
      let on = (span_on_line x).forth in
      let cj = back j (earlier w false j1 o on co) in
      let c0 = back i (earlier w false i1 j (span_labels ls).forth cj) in
      let (ls', j', hj, labels', lm) = move_labels ls (afters w false h c0) cj in
      let (a', o', ho, x', am) = move_on_line x (afters w false hj cj) co in
      let (q', hq, el') = move_eol {i' = after_next new false o'} el (afters w false {i' = o'} ho co) l some in (
        node.block (next_index new false i') q' ls' (content.OneLine a'),
        q',
        hq,
        alone.line_block {ls = ls'} {a = a'} {j = j'} {o = o'} {q = q'} (at k.Identifier h c0 p) labels' (at k.OpenBrace hj cj br) x' (at k.CloseBrace {i' = o'} ho co cl) el',
        moved.block {j' = q'} {ls' = ls'} {x' = content.OneLine a'} (starts_here w false h c0) hq (omega (arith, begins i, (span_labels ls).forth, advances j, on, advances o, (span_eol el).forth)) lm (moved.on_line {o' = a'} am),
      )

  -- a member that is moved, and those after it
  then : {d : ℕ} {x : Member} {ms : List Member} {i' n l : ℕ} → MovesMember d x i' n → ((n' : ℕ) → Here w n n' → MovesMembers d ms n' l) → MovesMembers d (x ∷ ms) i' l
  then (y, n', hn, y', m) more = let (ns, l', hl, ns', ms) = more n' hn in (y ∷ ns, l', hl, member_first y' ns', moved.members m ms)

  pub move_members : {d : ℕ} {ms : List Member} {i i' j : ℕ} → IsMembers old d ms i j → Here w i i' → NextIsWithin w false j → MovesMembers d ms i' j
  move_members {i'} no_members h c = ([], i', h, no_members, moved.no_members)
  move_members (blank {j} {l} q r) h c =
      let (j', hj, q') = move_line w q h (omega (arith, (span_members r).forth, next_within_end w false l c)) in
      let (ns, l', hl, r', m) = move_members r hj c in
      (ns, l', hl, blank q' r', m)
  move_members (attribute {n} {l} p q x el r) h c =
      let cn = earlier w false n l (span_members r).forth c in
      then (move_attribute p q x el h (next_within_end w false n cn) (is_line el (some_next w false n cn))) (λ n' hn. move_members r hn c)
  move_members (block {q} {l} p ls br nl bs cl el r) h c =
      let cq = earlier w false q l (span_members r).forth c in
      then (move_block p ls br nl (span_members bs).forth (λ co n' hn. move_members bs hn co) cl el h (next_within_end w false q cq) (is_line el (some_next w false q cq))) (λ n' hn. move_members r hn c)
  move_members (line_block {q} {l} p ls br x cl el r) h c =
      let cq = earlier w false q l (span_members r).forth c in
      then (move_line_block p ls br x cl el h (next_within_end w false q cq) (is_line el (some_next w false q cq))) (λ n' hn. move_members r hn c)

  pub move_line_member : {d : ℕ} {x : Member} {i i' j : ℕ} (is : IsOneMember old d x i j) → Here w i i' → j ≤ from + count → EndsLine is
      → (y : Member) × (j' : ℕ) × Here w j j' × IsOneMember new d y i' j' × MovedMember (Here w) (Same w) x y
  move_line_member (alone.attribute p q x el) h l line = move_attribute p q x el h l line
  move_line_member (alone.block p ls br nl bs cl el) h l line = move_block p ls br nl (span_members bs).forth (λ co n' hn. move_members bs hn co) cl el h l line
  move_line_member (alone.line_block p ls br x cl el) h l line = move_line_block p ls br x cl el h l line

  pub move_member : {d : ℕ} {x : Member} {i i' j : ℕ} → IsOneMember old d x i j → Here w i i' → j ≤ from + count → next_kind old false j ≢ None
      → (y : Member) × (j' : ℕ) × Here w j j' × IsOneMember new d y i' j' × MovedMember (Here w) (Same w) x y
  move_member is h l some = move_line_member is h l (ends_line is some)
