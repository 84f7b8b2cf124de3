-- What the parser that makes summaries says of the member that the one with nodes makes.
use Rattle.std.proofs.Common.{◌≡◌, ◌≢◌, ℕ, true, false, List, Option, Some, None, Result, Ok, Err, refl, ap, subst}
use Rattle.hcl_grammar.specs.Pure.BodyParser as g
use Rattle.hcl_grammar.specs.Pure.NodeMakers.{nodes}
use Rattle.hcl_grammar.specs.Pure.Reading.{Outcome}
use Rattle.hcl_grammar.specs.declared.bounds.TheConstants.{MAX_NESTING}
use Rattle.hcl_grammar.specs.declared.fault.TokenFault.{TokenFault}
use Rattle.hcl_grammar.specs.declared.fault.TokenFault.TheVariants.{Syntax, TooDeep, Memory}
use Rattle.hcl_parse.proofs.Fold as fold
use Rattle.hcl_parse.specs.Alike.{Alike, read, fault, InSome}
use Rattle.hcl_parse.specs.Rules.{IsOwn, Yields}
use Rattle.hcl_reader.specs.ReaderRules.{ReaderState}
use Rattle.hcl_scan.specs.Follows.{tokens_of}
use Rattle.hcl_token.specs.Tokens.{Pair}
use Rattle.tf_glance.proofs.Bodies.{MemberOf}
use Rattle.tf_glance.proofs.Expressions.{left, right}
use Rattle.tf_glance.proofs.Free.{one, tree_findings}
use Rattle.tf_glance.proofs.Respects.{summarizes, respects}
use Rattle.tf_glance.specs.Inner.SummaryMakers.{summaries}
use Rattle.tf_glance.specs.CleanMember.{IsCleanMember, IsMemberFault}
use Rattle.tf_glance.specs.Inner.Summary.{is_without_findings}
use Rattle.tf_glance.specs.declared.summary.BodyContent.{BodyContent}
use Rattle.tf_glance.specs.declared.block_type.BlockType.{BlockType}
use Rattle.tf_rules.specs.Preorder.{member}

own : (e : TokenFault) → e ≢ Memory → IsOwn true e
own Memory h = absurd (h refl)
own (Syntax at) h = tt
own (TooDeep at) h = tt

pub record Reads {A B : Type 0} (R : A → B → Type 0) (x : A) (past : ℕ) (q : Outcome (Option B)) : Type 0 where
  pub value : B
  pub answer : q ≡ Ok (Some value, past)
  pub related : R x value

module _ {A B : Type 0} (R : A → B → Type 0) where
  there : (x : A) (y : Option B) (i : ℕ) → InSome R (Some x) y → Reads R x i (Ok (y, i))
  there x (Some y) i r = record { value = y; answer = refl; related = r }
  there x None i r = absurd r

  pub passed : {o : Outcome (Option A)} {q : Outcome (Option B)} → Alike (InSome R) o q → (x : A) (past : ℕ) → o ≡ Ok (Some x, past) → Reads R x past q
  passed (read {x = z} {y} {i} h) x past e =
      let pair : (z, i) ≡ (Some x, past) = cc in
      let same : z ≡ Some x = ap (λ (p : Option A × ℕ). p.0) pair in
      let place : i ≡ past = ap (λ (p : Option A × ℕ). p.1) pair in
      subst (λ (j : ℕ). Reads R x j (Ok (y, i))) place (there x y i (subst (λ (z : Option A). InSome R z y) same h))
  passed (fault other) x past e = absurd (cc)

  pub failed : {o : Outcome (Option A)} {q : Outcome (Option B)} → Alike (InSome R) o q → (f : TokenFault) → o ≡ Err f → q ≡ Err f
  failed (read h) f e = absurd (cc)
  failed (fault {e = d} other) f e = let same : d ≡ f = cc in ap (λ (d : TokenFault). Err d) same

module _ (pairs : List Pair) (assumed : BlockType) (from : ℕ) where
  -- what the parser that makes summaries reads
  abbrev summarized : ReaderState → Outcome (Option BodyContent)
  summarized t = g.member_of (summaries pairs assumed) t.tokens t.depth (g.deeper_members (summaries pairs assumed) t.tokens t.depth) from

  -- as a text is read from its start on
  abbrev whole : ReaderState
  whole = record { tokens = tokens_of pairs; skip_newlines = false; depth = MAX_NESTING }

  alike : Alike (InSome (MemberOf pairs assumed)) (summarized whole) (g.member_of nodes (tokens_of pairs) MAX_NESTING (g.deeper_members nodes (tokens_of pairs) MAX_NESTING) from)
  alike = fold.member (summaries pairs assumed) nodes (summarizes pairs assumed) (respects pairs assumed) (tokens_of pairs) MAX_NESTING from

  yields : (t : ReaderState) → t ≡ whole → (r q : Result (Option BodyContent) TokenFault) (past : ℕ) → r ≡ q → Yields true (summarized t) r past → Yields true (summarized whole) q past
  yields t e r q past is h = subst (λ (t : ReaderState). Yields true (summarized t) q past) e (subst (λ (r : Result (Option BodyContent) TokenFault). Yields true (summarized t) r past) is h)

  pub clean : (t : ReaderState) → t ≡ whole → (r : Result (Option BodyContent) TokenFault) (x : BodyContent) (past : ℕ) → r ≡ Ok (Some x) → Yields true (summarized t) r past → is_without_findings x ≡ true → IsCleanMember pairs from past
  clean t e r x past is h w =
      let s = passed (MemberOf pairs assumed) alike x past (yields t e r (Ok (Some x)) past is h) in
      let known = s.related (left x.clean x.complete w) in
      record {
        member = s.value;
        answer = s.answer;
        at_nodes = λ rules. tree_findings rules (one (member s.value) known.0);
        at_block = known.2 (right x.clean x.complete w);
      }

  pub failing : (t : ReaderState) → t ≡ whole → (r : Result (Option BodyContent) TokenFault) (f : TokenFault) (past : ℕ) → r ≡ Err f → Yields true (summarized t) r past → f ≢ Memory → IsMemberFault pairs from f
  failing t e r f past is h other =
      let err : Yields true (summarized whole) (Err f) past = yields t e r (Err f) past is h in
      failed (MemberOf pairs assumed) alike f (err (own f other))
