-- The premises of a derivation: which tokens come next; and what is made of tokens alone.
-- HCL native syntax specification, Structural Elements and Expressions.
use Rattle.std.specs.Prelude.{◌≡◌, ◌≢◌, ℕ, Bool, true, false, List, [], ◌∷◌, Option, Some, None}
use Rattle.hcl_token.specs.declared.kind.Kind.{Kind}
use Rattle.hcl_token.specs.declared.kind.Kind.TheVariants as k
use Rattle.hcl_grammar.specs.Tokens.{Token, next_index, next_token, next_kind, after_next}

-- a token of this kind comes next
abbrev pub NextIs : List Token → Bool → Kind → ℕ → Type 0
NextIs ts m t i = next_kind ts m i ≡ Some t

-- this word comes next
abbrev pub NextIsWord : List Token → Bool → List ℕ → ℕ → Type 0
NextIsWord ts m w i = next_token ts m i ≡ Some (k.Identifier, w)

-- something else comes next
abbrev pub NextIsNotWord : List Token → Bool → List ℕ → ℕ → Type 0
NextIsNotWord ts m w i = next_token ts m i ≢ Some (k.Identifier, w)

-- nl: an optional LineComment, and a LineEnd
pub data IsNewline (ts : List Token) : ℕ → ℕ → Type 0 where
  line_end : {i : ℕ} → NextIs ts false k.LineEnd i → IsNewline ts i (after_next ts false i)
  comment : {i : ℕ} → NextIs ts false k.LineComment i → NextIs ts false k.LineEnd (after_next ts false i)
      → IsNewline ts i (after_next ts false (after_next ts false i))

-- nl*
pub data IsNewlines (ts : List Token) : ℕ → ℕ → Type 0 where
  no_lines : {i : ℕ} → IsNewlines ts i i
  line : {i j l : ℕ} → IsNewline ts i j → IsNewlines ts j l → IsNewlines ts i l

-- Eol = nl, or an optional LineComment and the end of the text
pub data IsEol (ts : List Token) : ℕ → ℕ → Type 0 where
  eol_line : {i j : ℕ} → IsNewline ts i j → IsEol ts i j
  eol_end : {i : ℕ} → next_kind ts false i ≡ None → IsEol ts i i
  eol_comment : {i : ℕ} → NextIs ts false k.LineComment i → next_kind ts false (after_next ts false i) ≡ None
      → IsEol ts i (after_next ts false i)

-- Sep = "," nl* | nl nl*
pub data IsSep (ts : List Token) : ℕ → ℕ → Type 0 where
  comma : {i j : ℕ} → NextIs ts false k.Comma i → IsNewlines ts (after_next ts false i) j → IsSep ts i j
  lines : {i j l : ℕ} → IsNewline ts i j → IsNewlines ts j l → IsSep ts i l

-- ("::" Identifier)*, with the numbers of the names
pub data IsNameTail (ts : List Token) : Bool → List ℕ → ℕ → ℕ → Type 0 where
  no_names : {m : Bool} {i : ℕ} → IsNameTail ts m [] i i
  name : {m : Bool} {ns : List ℕ} {i j : ℕ} → NextIs ts m k.DoubleColon i
      → NextIs ts m k.Identifier (after_next ts m i)
      → IsNameTail ts m ns (after_next ts m (after_next ts m i)) j
      → IsNameTail ts m (next_index ts m (after_next ts m i) ∷ ns) i j

-- ("," Identifier)? of a `for`
pub data IsSecondName (ts : List Token) : Option ℕ → ℕ → ℕ → Type 0 where
  no_second : {i : ℕ} → IsSecondName ts None i i
  second : {i : ℕ} → NextIs ts true k.Comma i → NextIs ts true k.Identifier (after_next ts true i)
      → IsSecondName ts (Some (next_index ts true (after_next ts true i)))
      i (after_next ts true (after_next ts true i))

-- "..."? of a `for`
pub data IsEllipsis (ts : List Token) : Bool → ℕ → ℕ → Type 0 where
  no_ellipsis : {i : ℕ} → IsEllipsis ts false i i
  ellipsis : {i : ℕ} → NextIs ts true k.Ellipsis i → IsEllipsis ts true i (after_next ts true i)

-- DirectiveOpen, the word and SeqClose
pub data IsKeyword (ts : List Token) : Bool → List ℕ → ℕ → ℕ → Type 0 where
  keyword : {m : Bool} {w : List ℕ} {i : ℕ} → NextIs ts m k.DirectiveOpen i
      → NextIsWord ts true w (after_next ts m i)
      → NextIs ts true k.SeqClose (after_next ts true (after_next ts m i))
      → IsKeyword ts m w i (after_next ts true (after_next ts true (after_next ts m i)))
