-- What a parser of whole texts ensures that answers the pure one.
use Rattle.std.proofs.Common.{◌≡◌, ◌≢◌, ℕ, ◌+◌, ◌≤◌, false, List, ◌∷◌, Option, Some, None, Result, Ok, Err, MatchResult, IfOk, IfSome, IfNone, refl, sym, ◌∙◌, arith}
use Rattle.hcl_grammar.specs.declared.fault.TokenFault.{TokenFault}
use Rattle.hcl_grammar.specs.declared.fault.TokenFault.TheVariants.{Syntax, TooDeep, Memory}
use Rattle.hcl_token.specs.declared.kind.Kind.TheVariants.{Identifier}
use Rattle.hcl_grammar.specs.declared.tree.Member.{Member}
use Rattle.hcl_grammar.specs.declared.tree.Tree.{Tree}
use Rattle.hcl_grammar.specs.Bodies.{IsFile, IsMembers}
use Rattle.hcl_grammar.specs.Pure.BodyParser.{deeper_members, file, member_of}
use Rattle.hcl_grammar.specs.Faults.{IsMemory, IsMemoryOrDeep}
use Rattle.hcl_grammar.specs.Pure.NodeMakers.{nodes}
use Rattle.hcl_grammar.specs.Pure.Reading.{Outcome, Reads}
use Rattle.hcl_grammar.specs.Tokens.{Token, next_kind}
use Rattle.hcl_grammar_laws.proofs.BodyComplete.{c_member, c_none, file_answers}
use Rattle.hcl_grammar_laws.proofs.BodySound.{ends_at, member_first, s_file, s_member}
use Rattle.hcl_grammar_laws.specs.Members.{IsMemberResult, member_past}
use Rattle.hcl_grammar_laws.proofs.Gives.{read, given}
use Rattle.hcl_grammar_laws.proofs.Steps.{Answers, found, deep}

deep_or : {A : Type 0} {d b : ℕ} {e : A} {j : ℕ} {o : Outcome A} (r : Result A TokenFault) (new : ℕ) → Answers d b e j o → Reads o r new → MatchResult r (λ x. x ≡ e) IsMemoryOrDeep
deep_or {e} (Ok x) new found h = given {P = λ y _. y ≡ e} (read refl) h
deep_or (Ok x) new (deep l) h = absurd (cc)
deep_or (Err Memory) new a h = tt
deep_or (Err (TooDeep at)) new a h = tt
deep_or (Err (Syntax at)) new found h = let no : Syntax at ≢ Memory = (λ same. cc) in let eq = h no in absurd (cc)
deep_or (Err (Syntax at)) new (deep l) h = let no : Syntax at ≢ Memory = (λ same. cc) in let eq = h no in absurd (cc)

found_or : {A : Type 0} {d b : ℕ} {e : A} {j : ℕ} {o : Outcome A} (r : Result A TokenFault) (new : ℕ) → d ≤ b → Answers d b e j o → Reads o r new → MatchResult r (λ x. x ≡ e) IsMemory
found_or r new s (deep l) h = absurd (omega arith)
found_or {e} (Ok x) new s found h = given {P = λ y _. y ≡ e} (read refl) h
found_or (Err Memory) new s found h = tt
found_or (Err (TooDeep at)) new s found h = let no : TooDeep at ≢ Memory = (λ same. cc) in let eq = h no in absurd (cc)
found_or (Err (Syntax at)) new s found h = let no : Syntax at ≢ Memory = (λ same. cc) in let eq = h no in absurd (cc)

module _ (ts : List Token) (b : ℕ) (r : Result Tree TokenFault) (new : ℕ) (h : Reads (file nodes ts b 0) r new) where
  -- the tree is derived
  pub derived : IfOk r (λ t. IsFile ts b t)
  derived = go r h
    where
      go : (r : Result Tree TokenFault) → Reads (file nodes ts b 0) r new → IfOk r (λ t. IsFile ts b t)
      go (Ok t) h = given (s_file ts b) h
      go (Err f) h = tt

  -- each tree that is derived is found, unless memory fails
  pub only : (t : Tree) → IsFile ts b t → MatchResult r (λ x. x ≡ t) IsMemory
  only t w = found_or r new (omega arith) (file_answers ts b b t w).1 h

  -- at whatever nesting: it is found, or that is the error
  pub deeper_only : (d : ℕ) (t : Tree) → IsFile ts d t → MatchResult r (λ x. x ≡ t) IsMemoryOrDeep
  deeper_only d t w = deep_or r new (file_answers ts b d t w).1 h

-- one member, likewise
module _ (ts : List Token) (b i : ℕ) where
  member_derived : (r : Result (Option Member) TokenFault) (new : ℕ) → Reads (member_of nodes ts b (deeper_members nodes ts b) i) r new
      → IfOk r (λ o. IfSome o (λ m. (ms : List Member) (l : ℕ) → IsMembers ts b ms new l → IsMembers ts b (m ∷ ms) i l))
  member_derived (Ok (Some m)) new h = λ ms l. member_first (given (s_member ts b i) h)
  member_derived (Ok None) new h = tt
  member_derived (Err f) new h = tt

  member_ends : (r : Result (Option Member) TokenFault) (new : ℕ) → Reads (member_of nodes ts b (deeper_members nodes ts b) i) r new
      → IfOk r (λ o. IfSome o (λ m. member_past m ≡ new))
  member_ends (Ok (Some m)) new h = ends_at (given (s_member ts b i) h)
  member_ends (Ok None) new h = tt
  member_ends (Err f) new h = tt

  member_none : (r : Result (Option Member) TokenFault) (new : ℕ) → Reads (member_of nodes ts b (deeper_members nodes ts b) i) r new
      → IfOk r (λ o. IfNone o ((next_kind ts false i ≢ Some Identifier) × (new ≡ i)))
  member_none (Ok (Some m)) new h = tt
  member_none (Ok None) new h = given (s_member ts b i) h
  member_none (Err f) new h = tt

  pub member_is : (r : Result (Option Member) TokenFault) (new : ℕ) → Reads (member_of nodes ts b (deeper_members nodes ts b) i) r new → IsMemberResult ts b i r new
  member_is r new h = record {
    derived = member_derived r new h;
    past = member_ends r new h;
    none = member_none r new h;
    nothing = λ q. found_or r new (omega arith) (c_none ts b i q) h;
    only = λ m ms l q w. found_or r new (omega arith) (c_member ts i q w b).1 h;
    deeper = λ d m ms l q w. deep_or r new (c_member ts i q w b).1 h;
  }

-- a list of tokens has one tree at most
pub found_at : {A : Type 0} {d b : ℕ} {x : A} {j : ℕ} {o : Outcome A} → d ≤ b → Answers d b x j o → o ≡ Ok (x, j)
found_at l found = refl
found_at l (deep h) = absurd (omega arith)

pub one_tree : (ts : List Token) (d e : ℕ) (t u : Tree) → IsFile ts d t → IsFile ts e u → t ≡ u
one_tree ts d e t u x y =
    let p = file_answers ts (d + e) d t x in
    let q = file_answers ts (d + e) e u y in
    let f = found_at {b = d + e} (omega arith) p.1 in
    let g = found_at {b = d + e} (omega arith) q.1 in
    given {P = λ x _. t ≡ x} (read refl) (sym f ∙ g)

-- what nests no deeper than some number nests no deeper than a greater one
pub weaken : (ts : List Token) (d e : ℕ) (t : Tree) → d ≤ e → IsFile ts d t → IsFile ts e t
weaken ts d e t l w = let a = file_answers ts e d t w in given (s_file ts e) (found_at l a.1)
