-- The tokens of a text that parses, and errors by numbers of tokens and by bytes.
use Rattle.std.proofs.Common.{◌≡◌, ℕ, Bool, true, false, List, Result, Ok, Err, IfOk, IfErr, MatchResult, ◌≢◌, refl, ap, sym, subst, ◌∙◌}
use Rattle.hcl_reader.specs.ReaderRules.{ReaderState}
use Rattle.hcl_token.specs.TokenizedText.{TokenizedText}
use Rattle.hcl_token.specs.Tokens.{Pair}
use Rattle.hcl_scan.specs.Follows.{tokens_of}
use Rattle.hcl_grammar.specs.declared.fault.TokenFault.{TokenFault}
use Rattle.hcl_grammar.specs.declared.fault.TokenFault.TheVariants as token
use Rattle.hcl_grammar.specs.declared.tree.Tree.{Tree}
use Rattle.hcl_grammar.specs.Bodies.{IsFile}
use Rattle.hcl_grammar.specs.Faults as pure
use Rattle.hcl_grammar.specs.Pure.BodyParser.{file}
use Rattle.hcl_grammar.specs.Pure.NodeMakers.{nodes}
use Rattle.hcl_grammar.specs.Pure.Reading.{Reads}
use Rattle.hcl_grammar.specs.Tokens.{Token}
use Rattle.hcl_grammar.specs.declared.bounds.TheConstants.{MAX_NESTING}
use Rattle.hcl_grammar_laws.specs.Pure.ParserResults.{FileParserIsExact, IsParseResult}
use Rattle.hcl_text_laws.specs.Parses.{Parses}
use Rattle.hcl_text_laws.proofs.FaultPlaces.{at_token}
use Rattle.hcl_text_laws.specs.declared.fault.ParseFault.{ParseFault}
use Rattle.hcl_text_laws.specs.declared.fault.ParseFault.TheVariants as byte
use Rattle.hcl_tree.specs.FirstError.{IsFirstError}
use Rattle.hcl_text_laws.specs.Faults.{IsAtToken, IsMemory, IsMemoryOrDeep, to_parse_fault}

-- what is read by a reader of a text is read of the text's own tokens
pub its_reading : (ts : List Token) {here : ReaderState} {r q : Result Tree TokenFault} (new : ℕ) → here ≡ record { tokens = ts; skip_newlines = false; depth = MAX_NESTING } → r ≡ q
    → Reads (file nodes here.tokens here.depth 0) r new → Reads (file nodes ts MAX_NESTING 0) q new
its_reading ts {here} {r} {q} new e same h = subst (λ (h : ReaderState). Reads (file nodes h.tokens h.depth 0) q new) e (subst (λ (o : Result Tree TokenFault). Reads (file nodes here.tokens here.depth 0) o new) same h)

pub its_answer : (ts : List Token) {here : ReaderState} {r q : Result Tree TokenFault} (new : ℕ) → FileParserIsExact → here ≡ record { tokens = ts; skip_newlines = false; depth = MAX_NESTING } → r ≡ q
    → Reads (file nodes here.tokens here.depth 0) r new → IsParseResult ts MAX_NESTING q
its_answer ts {q = q} new answers e same h = answers ts MAX_NESTING q new (its_reading ts new e same h)

-- ---- errors by bytes

pub memory_to_parse_fault : (s : TokenizedText) (f : TokenFault) → pure.IsMemory f → IsMemory (to_parse_fault s f)
memory_to_parse_fault s token.Memory h = tt
memory_to_parse_fault s (token.Syntax at) h = elim h [ ]
memory_to_parse_fault s (token.TooDeep at) h = elim h [ ]

pub deep_to_parse_fault : (s : TokenizedText) (f : TokenFault) → pure.IsMemoryOrDeep f → IsMemoryOrDeep (to_parse_fault s f)
deep_to_parse_fault s token.Memory h = tt
deep_to_parse_fault s (token.TooDeep at) h = tt
deep_to_parse_fault s (token.Syntax at) h = elim h [ ]

-- what holds of what was read holds of the result, where an error is said by its byte
module _ (s : TokenizedText) where
  pub ok_by_bytes : (P Q : Tree → Type 0) → ((t : Tree) → P t → Q t) → (read : Result Tree TokenFault) (result : Result Tree ParseFault) → IfOk read (λ t. result ≡ Ok t) → IfErr read (λ f. result ≡ Err (to_parse_fault s f))
      → IfOk read P → IfOk result Q
  ok_by_bytes P Q more (Ok t) result tree fault h = rw tree (more t h)
  ok_by_bytes P Q more (Err f) result tree fault h = rw fault tt

  pub match_by_bytes : (P : Tree → Type 0) (M : TokenFault → Type 0) (N : ParseFault → Type 0) → ((f : TokenFault) → M f → N (to_parse_fault s f)) → (read : Result Tree TokenFault) (result : Result Tree ParseFault)
      → IfOk read (λ t. result ≡ Ok t) → IfErr read (λ f. result ≡ Err (to_parse_fault s f)) → MatchResult read P M → MatchResult result P N
  match_by_bytes P M N more (Ok t) result tree fault h = rw tree h
  match_by_bytes P M N more (Err f) result tree fault h = rw fault (more f h)

  pub place_by_bytes : (read : Result Tree TokenFault) (result : Result Tree ParseFault) → IfOk read (λ t. result ≡ Ok t) → IfErr read (λ f. result ≡ Err (to_parse_fault s f)) → IfErr result (λ e. IsAtToken s e)
  place_by_bytes (Ok t) result tree fault = rw tree tt
  place_by_bytes (Err f) result tree fault = rw fault (at_token s f)

  pub first_by_bytes : (read : Result Tree TokenFault) (result : Result Tree ParseFault) (new : ℕ) → IfOk read (λ t. result ≡ Ok t) → IfErr read (λ f. result ≡ Err (to_parse_fault s f)) → Reads (file nodes (tokens_of s.pairs) MAX_NESTING 0) read new
      → IfErr result (λ e. e ≢ byte.Memory → IsFirstError s e)
  first_by_bytes (Ok t) result new tree fault h = rw tree tt
  first_by_bytes (Err f) result new tree fault h = rw fault (λ other. record { fault = f; found = h (λ m. other (ap (to_parse_fault s) m)); is = refl })

  pub one_error : (a b : ParseFault) → IsFirstError s a → IsFirstError s b → a ≡ b
  one_error a b x y = let same : x.fault ≡ y.fault = cc (x.found, y.found) in x.is ∙ (ap (to_parse_fault s) same ∙ sym y.is)
