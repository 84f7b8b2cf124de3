-- Why a text is not read.
use Rattle.std.proofs.Common.{◌≡◌, ◌∙◌, ◌⊎◌, ℕ, List, refl, sym, ap, subst, inl, inr}
use Rattle.hcl_token.specs.TokenizedText.{TokenizedText}
use Rattle.hcl_token.specs.Tokens.{Pair}
use Rattle.hcl_scan.specs.declared.fault.ScanFault.{ScanFault}
use Rattle.hcl_scan.specs.Tokenization.{IsTokenization}
use Rattle.hcl_scan.specs.Fault.{IsFault}
use Rattle.hcl_scan.specs.Follows.{tokens_of}
use Rattle.hcl_grammar.specs.declared.tree.Tree.{Tree}
use Rattle.hcl_grammar.specs.Bodies.{IsFile}
use Rattle.hcl_grammar.specs.declared.bounds.TheConstants.{MAX_NESTING}
use Rattle.hcl_text_laws.specs.Parses.{Parses}
use Rattle.hcl_text_laws.specs.declared.fault.ParseFault.{ParseFault}
use Rattle.hcl_text_laws.specs.declared.fault.ParseFault.TheVariants as parse
use Rattle.hcl_text_laws.specs.Faults.{IsMemory, IsMemoryOrDeep}
use Rattle.tf_lint.specs.declared.fault.FixFault.{FixFault}
use Rattle.tf_lint.specs.declared.fault.FixFault.TheVariants.{Scan, Parse, FixBroken, TooLong, Memory}
use Rattle.tf_lint.specs.Faults.{fault_of_parse}
use Rattle.tf_fix.specs.declared.parsed.Parsed.{Parsed}
use Rattle.tf_fix.specs.ParsedTexts.{IsParseOf}
use Rattle.tf_lint.specs.ParseFaults.{DoesNotParse, IsParseFault, IsReadFault}

abbrev pub TokensAreUnique : Type 0
TokensAreUnique = (text : List ℕ) (pairs others : List Pair) (last other : List ℕ) → IsTokenization text pairs last → IsTokenization text others other → (pairs ≡ others) × (last ≡ other)

abbrev pub NoTokensWithFault : Type 0
NoTokensWithFault = (text : List ℕ) (fault : ScanFault) (pairs : List Pair) (last : List ℕ) → IsFault text fault → IsTokenization text pairs last → ⊥

abbrev pub OneFault : Type 0
OneFault = (text : List ℕ) (fault other : ScanFault) → IsFault text fault → IsFault text other → fault ≡ other

-- a text with tokens over which the parser found no tree
pub not_parsed : (text : List ℕ) (pairs : List Pair) (last : List ℕ) (fault : ParseFault) → IsTokenization text pairs last
    → ((t : Tree) → Parses text t → IsMemory fault) → ((d : ℕ) (t : Tree) → IsFile (tokens_of pairs) d t → IsMemoryOrDeep fault)
    → IsReadFault text (fault_of_parse fault)
not_parsed text pairs last (parse.Syntax at) tokenized only deeper = (pairs, last, tokenized, deeper)
not_parsed text pairs last (parse.TooDeep at) tokenized only deeper = (pairs, last, tokenized, only)
not_parsed text pairs last parse.Memory tokenized only deeper = (tokenized.short, tokenized.utf8)

-- a text with a parse error does not parse
pub not_both : TokensAreUnique → (text : List ℕ) (fault : ParseFault) (t : Tree) → IsParseFault text fault → Parses text t → ⊥
not_both unique_tokens text (parse.Syntax at) t h p =
    h.3 MAX_NESTING t (subst (λ (ps : List Pair). IsFile (tokens_of ps) MAX_NESTING t) (unique_tokens text p.pairs h.0 p.last h.1 p.tokenization h.2).0 p.derived)
not_both unique_tokens text (parse.TooDeep at) t h p = h.3 t p
not_both unique_tokens text parse.Memory t h p = h

-- what is refused, but not since memory ran out, does not parse
pub unread : TokensAreUnique → NoTokensWithFault → (text : List ℕ) (fault : FixFault) → IsReadFault text fault → (fault ≡ Memory) ⊎ DoesNotParse text
unread unique_tokens no_tokens text (Scan fault) h = inr (λ t p. no_tokens text fault p.pairs p.last h p.tokenization)
unread unique_tokens no_tokens text (Parse fault) h = inr (λ t p. not_both unique_tokens text fault t h p)
unread unique_tokens no_tokens text (FixBroken rule) h = absurd h
unread unique_tokens no_tokens text TooLong h = absurd h
unread unique_tokens no_tokens text Memory h = inl refl

-- the tree of a text that is read
pub parses_of : (text : List ℕ) (p : Parsed) → IsParseOf text p → Parses text p.tree
parses_of text p reads = record {
  pairs = p.scanned.pairs;
  last = p.scanned.last;
  tokenization = subst (λ (t : List ℕ). IsTokenization t p.scanned.pairs p.scanned.last) reads.0 reads.1;
  derived = reads.2;
}

-- a text has one tokenization
pub same_scanned : TokensAreUnique → (text : List ℕ) (a b : Parsed) → IsParseOf text a → IsParseOf text b → a.scanned ≡ b.scanned
same_scanned unique_tokens text a b p q =
    let h = unique_tokens text a.scanned.pairs b.scanned.pairs a.scanned.last b.scanned.last
    (subst (λ (t : List ℕ). IsTokenization t a.scanned.pairs a.scanned.last) p.0 p.1) (subst (λ (t : List ℕ). IsTokenization t b.scanned.pairs b.scanned.last) q.0 q.1) in
    λ i. record { text = (p.0 ∙ sym q.0) i; pairs = h.0 i; last = h.1 i }
