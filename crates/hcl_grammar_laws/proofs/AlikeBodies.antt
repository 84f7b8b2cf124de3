-- As Alike, of bodies and of a whole text.
use Rattle.std.proofs.Common.{ℕ, false, List, Option, subst, sym}
use Rattle.hcl_grammar.specs.declared.tree.Attribute.{Attribute}
use Rattle.hcl_grammar.specs.declared.tree.Label.{Label}
use Rattle.hcl_grammar.specs.declared.tree.Member.{Member}
use Rattle.hcl_grammar.specs.declared.tree.Tree.{Tree}
use Rattle.hcl_grammar.specs.Bodies.{IsLabels, no_labels, word_label, text_label, empty_label, IsOneLineBody, nothing, one, IsMembers, no_members, blank, attribute, block, line_block, IsOptionalMark, no_mark, mark, IsFileEnd, at_end, at_comment, IsFile, file}
use Rattle.hcl_grammar.specs.Grammar.{IsExpr}
use Rattle.hcl_grammar.specs.Lookahead.{IsNewline, IsEol}
use Rattle.hcl_grammar.specs.Tokens.{Token}
use Rattle.hcl_grammar_laws.proofs.Alike.{Alike, s0, s1, a1, a2, a3, first0, at0, at1, at2, is0, is1}
use Rattle.hcl_grammar_laws.proofs.AlikeExpressions.{same_expr, same_line, same_eol}

module _ {ts us : List Token} (h : Alike ts us) where
  same_labels : {ls : List Label} {i j : ℕ} → IsLabels ts ls i j → IsLabels us ls i j
  same_labels no_labels = no_labels
  same_labels (word_label {ls} {i} {j} p q) = rw (s0 h false i, a1 h false i) (word_label (at0 h _ _ p) (subst (λ z. IsLabels us ls z j) (a1 h false i) (same_labels q)))
  same_labels (text_label {ls} {i} {j} p q r s) =
      rw (s0 h false i, a3 h false false false i, s1 h false false i)
      (text_label (at0 h _ _ p) (at1 h _ _ _ q) (at2 h _ _ _ _ r) (subst (λ z. IsLabels us ls z j) (a3 h false false false i) (same_labels s)))
  same_labels (empty_label {ls} {i} {j} p q r) =
      rw (s0 h false i, a2 h false false i) (empty_label (at0 h _ _ p) (at1 h _ _ _ q) (subst (λ z. IsLabels us ls z j) (a2 h false false i) (same_labels r)))

  same_on_line : {d : ℕ} {o : Option Attribute} {i j : ℕ} → IsOneLineBody ts d o i j → IsOneLineBody us d o i j
  same_on_line nothing = nothing
  same_on_line {d} (one {e} {i} {j} p q x) = rw (s0 h false i) (one (at0 h _ _ p) (at1 h _ _ _ q) (subst (λ z. IsExpr us d false e z j) (a2 h false false i) (same_expr h x)))

  same_members : {d : ℕ} {ms : List Member} {i j : ℕ} → IsMembers ts d ms i j → IsMembers us d ms i j
  same_members no_members = no_members
  same_members (blank p q) = blank (same_line h p) (same_members q)
  same_members (attribute {d} {e} {ms} {i} {j} {n} {l} p q x y r) =
      rw (s0 h false i) (attribute (at0 h _ _ p) (at1 h _ _ _ q) (subst (λ z. IsExpr us d false e z j) (a2 h false false i) (same_expr h x)) (same_eol h y) (same_members r))
  same_members (block {d} {ls} {bs} {ms} {i} {j} {n} {o} {q} {l} p labels begin first body close end rest) =
      rw (s0 h false i, first0 h false n o)
      (block (at0 h _ _ p) (subst (λ z. IsLabels us ls z j) (a1 h false i) (same_labels labels)) (at0 h _ _ begin) (subst (λ z. IsNewline us z n) (a1 h false j) (same_line h first)) (same_members body)
      (at0 h _ _ close) (subst (λ z. IsEol us z q) (a1 h false o) (same_eol h end)) (same_members rest))
  same_members (line_block {d} {ls} {a} {ms} {i} {j} {o} {q} {l} p labels begin on close end rest) =
      rw (s0 h false i)
      (line_block (at0 h _ _ p) (subst (λ z. IsLabels us ls z j) (a1 h false i) (same_labels labels)) (at0 h _ _ begin) (subst (λ z. IsOneLineBody us d a z o) (a1 h false j) (same_on_line on))
      (at0 h _ _ close) (subst (λ z. IsEol us z q) (a1 h false o) (same_eol h end)) (same_members rest))

  same_mark : {i : ℕ} → IsOptionalMark ts i → IsOptionalMark us i
  same_mark no_mark = no_mark
  same_mark (mark p) = rw (a1 h false 0) (mark (at0 h _ _ p))

  same_last : {i : ℕ} → IsFileEnd ts i → IsFileEnd us i
  same_last (at_end p) = at_end (is0 h _ _ p)
  same_last (at_comment p q) = at_comment (at0 h _ _ p) (is1 h _ _ _ q)

  pub same_file : {d : ℕ} {t : Tree} → IsFile ts d t → IsFile us d t
  same_file (file {ms} {i} {j} p q r) = rw (sym h.lengths, first0 h false i j) (file (same_mark p) (same_members q) (same_last r))
