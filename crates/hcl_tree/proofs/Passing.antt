-- A turn of the pure parser of bodies, given how many are left; and a file, part by part.
use Rattle.std.proofs.Common.{◌≡◌, ◌≢◌, ℕ, zero, suc, Bool, true, false, List, [], ◌∷◌, ◌++◌, length, Some, None, Result, Ok, Err, refl, subst}
use Rattle.hcl_grammar.specs.Nodes as node
use Rattle.hcl_grammar.specs.Pure.BodyParser.{deeper_members, file, member_of, members, members_from}
use Rattle.hcl_grammar.specs.Pure.NodeMakers.{nodes}
use Rattle.hcl_grammar.specs.Pure.Reading.{after_if_next}
use Rattle.hcl_grammar.specs.Pure.Steps.{eat_newline, expect_end}
use Rattle.hcl_grammar.specs.Tokens.{Token, first_token_in, next_kind}
use Rattle.hcl_grammar.specs.declared.fault.TokenFault.{TokenFault}
use Rattle.hcl_grammar.specs.declared.fault.TokenFault.TheVariants.{Memory}
use Rattle.hcl_grammar.specs.declared.tree.Member.{Member}
use Rattle.hcl_grammar.specs.declared.tree.Tree.{Tree}
use Rattle.hcl_token.specs.declared.kind.Kind.TheVariants as k

at_depth : (ts : List Token) (d i : ℕ) → members nodes ts d i ≡ members_from nodes ts d (deeper_members nodes ts d) (length ts) [] i
unfolding members
at_depth ts zero i = refl
at_depth ts (suc d) i = refl

module _ (ts : List Token) (d : ℕ) where
  abbrev pub left : ℕ → List Member → ℕ → Result (List Member × ℕ) TokenFault
  left n ms at = members_from nodes ts d (deeper_members nodes ts d) n ms at

  -- a body's parser begins with no member
  pub begins : (i : ℕ) → members nodes ts d i ≡ left (length ts) [] i
  begins i = at_depth ts d i

  module _ (n : ℕ) (ms : List Member) (at : ℕ) {b : Bool} {following : ℕ} (e : eat_newline ts at ≡ Ok (b, following)) where
    pub at_line : b ≡ true → left (suc n) ms at ≡ left n ms following
    unfolding members_from
    at_line is = rw (e, is) refl

    pub at_member : b ≡ false → {x : Member} {after_if_next : ℕ} → member_of nodes ts d (deeper_members nodes ts d) following ≡ Ok (Some x, after_if_next) → left (suc n) ms at ≡ left n (ms ++ x ∷ []) after_if_next
    unfolding members_from
    at_member is found = rw (e, is, found) refl

    pub at_none : b ≡ false → {after_if_next : ℕ} → member_of nodes ts d (deeper_members nodes ts d) following ≡ Ok (None, after_if_next) → left (suc n) ms at ≡ Ok (ms, after_if_next)
    unfolding members_from
    at_none is found = rw (e, is, found) refl

    pub at_fault : b ≡ false → {f : TokenFault} → member_of nodes ts d (deeper_members nodes ts d) following ≡ Err f → left (suc n) ms at ≡ Err f
    unfolding members_from
    at_fault is found = rw (e, is, found) refl

  pub at_end : (ms : List Member) (at : ℕ) → left 0 ms at ≡ Ok (ms, at)
  unfolding members_from
  at_end ms at = refl

module _ (ts : List Token) (d i : ℕ) where
  unread_body : (f : TokenFault) → members nodes ts d (after_if_next ts false k.Mark i) ≡ Err f → file nodes ts d i ≡ Err f
  unfolding file
  unread_body f e = rw e refl

  unread_end : (ms : List Member) (j : ℕ) (f : TokenFault) → members nodes ts d (after_if_next ts false k.Mark i) ≡ Ok (ms, j)
      → expect_end ts (next_kind ts false (after_if_next ts false k.LineComment j)) (after_if_next ts false k.LineComment j) ≡ Err f → file nodes ts d i ≡ Err f
  unfolding file
  unread_end ms j f e h = rw (e, h) refl

  whole_file : (ms : List Member) (j new : ℕ) → members nodes ts d (after_if_next ts false k.Mark i) ≡ Ok (ms, j)
      → expect_end ts (next_kind ts false (after_if_next ts false k.LineComment j)) (after_if_next ts false k.LineComment j) ≡ Ok (tt, new)
      → file nodes ts d i ≡ Ok (node.tree (length ts) (node.body (first_token_in ts false (after_if_next ts false k.Mark i) j) j ms), new)
  unfolding file
  whole_file ms j new e h = rw (e, h) refl

  -- if the body is refused, its error is the error of the file
  pub body_refused : (f : TokenFault) (at : ℕ) → at ≡ after_if_next ts false k.Mark i → (f ≢ Memory → members nodes ts d at ≡ Err f) → f ≢ Memory → file nodes ts d i ≡ Err f
  body_refused f at is h other = unread_body f (subst (λ n. members nodes ts d n ≡ Err f) is (h other))

  -- and so is the error of what follows the body
  pub end_refused : (ms : List Member) (f : TokenFault) (at j following : ℕ) → at ≡ after_if_next ts false k.Mark i → members nodes ts d at ≡ Ok (ms, j) → following ≡ after_if_next ts false k.LineComment j
      → expect_end ts (next_kind ts false following) following ≡ Err f → file nodes ts d i ≡ Err f
  end_refused ms f at j following is e is_following h =
      unread_end ms j f (subst (λ n. members nodes ts d n ≡ Ok (ms, j)) is e) (subst (λ n. expect_end ts (next_kind ts false n) n ≡ Err f) is_following h)

  -- the tree of these members
  abbrev pub file_tree : List Member → ℕ → Tree
  file_tree ms j = node.tree (length ts) (node.body (first_token_in ts false (after_if_next ts false k.Mark i) j) j ms)

  pub file_read : (ms : List Member) (at j following new : ℕ) → at ≡ after_if_next ts false k.Mark i → members nodes ts d at ≡ Ok (ms, j) → following ≡ after_if_next ts false k.LineComment j
      → expect_end ts (next_kind ts false following) following ≡ Ok (tt, new) → file nodes ts d i ≡ Ok (file_tree ms j, new)
  file_read ms at j following new is e is_following h =
      whole_file ms j new (subst (λ n. members nodes ts d n ≡ Ok (ms, j)) is e) (subst (λ n. expect_end ts (next_kind ts false n) n ≡ Ok (tt, new)) is_following h)
