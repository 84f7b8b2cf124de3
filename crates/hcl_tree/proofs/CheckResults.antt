-- What the answer of the parser that makes nothing says of a text.
use Rattle.std.proofs.Common.{◌≡◌, ◌≢◌, ℕ, ◌<◌, false, subst, List, Result, Ok, Err, IfErr, OnOk, refl, arith}
use Rattle.hcl_grammar.specs.declared.fault.TokenFault.{TokenFault}
use Rattle.hcl_grammar.specs.declared.tree.Tree.{Tree}
use Rattle.hcl_grammar.specs.Bodies.{IsFile}
use Rattle.hcl_grammar.specs.declared.fault.TokenFault.TheVariants.{Syntax, TooDeep, Memory}
use Rattle.hcl_grammar.specs.Pure.Reading.{Outcome}
use Rattle.hcl_grammar.specs.Tokens.{Token}
use Rattle.hcl_grammar_laws.specs.Pure.ParserResults.{FileParserIsExact}
use Rattle.hcl_grammar.specs.declared.bounds.TheConstants.{MAX_NESTING}
use Rattle.hcl_grammar.specs.Pure.BodyParser as bodies
use Rattle.hcl_grammar.specs.Pure.NodeMakers.{nodes}
use Rattle.hcl_reader.specs.ReaderRules.{ReaderState}
use Rattle.hcl_parse.specs.Roots.{Ends}
use Rattle.hcl_tree.specs.CheckResult.{IsTooDeep}
use Rattle.hcl_grammar_laws.proofs.BodyComplete.{file_answers}
use Rattle.hcl_grammar_laws.proofs.Steps.{Answers, found, deep}
use Rattle.hcl_token.specs.TokenizedText.{TokenizedText}
use Rattle.hcl_text_laws.specs.Faults.{to_parse_fault}
use Rattle.hcl_text_laws.specs.declared.fault.ParseFault.TheVariants as byte

-- too much nests
abbrev pub IsDeep : TokenFault → Type 0
IsDeep (TooDeep at) = Unit {0}
IsDeep (Syntax at) = ⊥
IsDeep Memory = ⊥

-- what an answer has to be that says whether there is a tree
pub record IsCheckResult (ts : List Token) (b : ℕ) (answer : Result (Unit {0}) TokenFault) : Type 0 where
  -- where there is no error, a tree is derived
  pub derived : OnOk answer ((t : Tree) × IsFile ts b t)
  -- where a tree is derived, there is no error
  pub only : (t : Tree) → IsFile ts b t → answer ≡ Ok tt
  -- where one is derived with whatever nesting, there is no error, or it nests too deep
  pub deeper : (d : ℕ) (t : Tree) → IsFile ts d t → IfErr answer IsDeep
  -- no memory is taken, so that it does not run out
  pub no_memory : IfErr answer (λ e. e ≢ Memory)
  -- the error is that of the grammar's parser
  pub first : IfErr answer (λ e. bodies.file nodes ts b 0 ≡ Err e)

deep_is : (at : ℕ) (f : TokenFault) (o : Outcome Tree) → o ≡ Err (TooDeep at) → o ≡ Err f → IsDeep f
deep_is at (TooDeep x) o h e = tt
deep_is at (Syntax x) o h e = absurd (cc)
deep_is at Memory o h e = absurd (cc)

-- if a tree is derived, the only error is that it nests deeper than is allowed
refused_deep : {d b : ℕ} {t : Tree} {n : ℕ} {o : Outcome Tree} (f : TokenFault) → Answers d b t n o → o ≡ Err f → (b < d) × IsDeep f
refused_deep f found e = absurd (cc)
refused_deep {o = o} f (deep {at} l) e = (l, deep_is at f o refl e)

module _ (ts : List Token) (b : ℕ) (answers : FileParserIsExact) where
  derived : (r : Result (Unit {0}) TokenFault) (new : ℕ) → Ends (bodies.file nodes ts b 0) r new → OnOk r ((t : Tree) × IsFile ts b t)
  derived (Ok x) new h = (h.0, (answers ts b (Ok h.0) new h.1).derived)
  derived (Err f) new h = tt

  only : (r : Result (Unit {0}) TokenFault) (new : ℕ) → Ends (bodies.file nodes ts b 0) r new → (t : Tree) → IsFile ts b t → r ≡ Ok tt
  only (Ok x) new h t w = refl
  only (Err f) new h t w = absurd (omega (arith, (refused_deep f (file_answers ts b b t w).1 h.0).0))

  deeper : (r : Result (Unit {0}) TokenFault) (new : ℕ) → Ends (bodies.file nodes ts b 0) r new → (d : ℕ) (t : Tree) → IsFile ts d t → IfErr r IsDeep
  deeper (Ok x) new h d t w = tt
  deeper (Err f) new h d t w = (refused_deep f (file_answers ts b d t w).1 h.0).1

  no_memory : (r : Result (Unit {0}) TokenFault) (new : ℕ) → Ends (bodies.file nodes ts b 0) r new → IfErr r (λ e. e ≢ Memory)
  no_memory (Ok x) new h = tt
  no_memory (Err f) new h = h.1

  first : (r : Result (Unit {0}) TokenFault) (new : ℕ) → Ends (bodies.file nodes ts b 0) r new → IfErr r (λ e. bodies.file nodes ts b 0 ≡ Err e)
  first (Ok x) new h = tt
  first (Err f) new h = h.0

  pub result_of : (r : Result (Unit {0}) TokenFault) (new : ℕ) → Ends (bodies.file nodes ts b 0) r new → IsCheckResult ts b r
  result_of r new h = record { derived = derived r new h; only = only r new h; deeper = deeper r new h; no_memory = no_memory r new h; first = first r new h }

-- what is read by a reader of a text is read of the text's own tokens
pub own_result : (ts : List Token) {here : ReaderState} {r s : Result (Unit {0}) TokenFault} (new : ℕ) → FileParserIsExact → here ≡ record { tokens = ts; skip_newlines = false; depth = MAX_NESTING } → r ≡ s
    → Ends (bodies.file nodes here.tokens here.depth 0) r new → IsCheckResult ts MAX_NESTING s
own_result ts {here} {r} {s} new answers e same h =
    result_of ts MAX_NESTING answers s new (subst (λ (h : ReaderState). Ends (bodies.file nodes h.tokens h.depth 0) s new) e (subst (λ (o : Result (Unit {0}) TokenFault). Ends (bodies.file nodes here.tokens here.depth 0) o new) same h))

pub deep_by_bytes : (s : TokenizedText) (f : TokenFault) → IsDeep f → IsTooDeep (to_parse_fault s f)
deep_by_bytes s (TooDeep at) h = tt
deep_by_bytes s (Syntax at) h = elim h [ ]
deep_by_bytes s Memory h = elim h [ ]

pub not_memory_by_bytes : (s : TokenizedText) (f : TokenFault) → f ≢ Memory → to_parse_fault s f ≢ byte.Memory
not_memory_by_bytes s (TooDeep at) h e = cc
not_memory_by_bytes s (Syntax at) h e = cc
not_memory_by_bytes s Memory h e = h refl
