-- Kinds of a parser's errors, and where in the text they are.
use Rattle.std.specs.Prelude.{◌≡◌, ℕ, length, unwrap_or}
use Rattle.std.specs.Option.{option_map}
use Rattle.hcl_token.specs.TokenizedText.{TokenizedText, item_of}
use Rattle.hcl_token.specs.declared.item.Item.{Item}
use Rattle.hcl_grammar.specs.declared.fault.TokenFault.{TokenFault}
use Rattle.hcl_grammar.specs.declared.fault.TokenFault.TheVariants as token
use Rattle.hcl_text_laws.specs.declared.fault.ParseFault.{ParseFault}
use Rattle.hcl_text_laws.specs.declared.fault.ParseFault.TheVariants as fault

abbrev pub IsMemory : ParseFault → Type 0
IsMemory fault.Memory = Unit {0}
IsMemory (fault.Syntax at) = ⊥
IsMemory (fault.TooDeep at) = ⊥

-- memory ran out, or too much nests
abbrev pub IsMemoryOrDeep : ParseFault → Type 0
IsMemoryOrDeep fault.Memory = Unit {0}
IsMemoryOrDeep (fault.TooDeep at) = Unit {0}
IsMemoryOrDeep (fault.Syntax at) = ⊥

-- the byte where a token begins; the length of the text, if there is none
abbrev pub byte_offset : TokenizedText → ℕ → ℕ
byte_offset t number =
    unwrap_or (option_map (λ (i : Item). i.start) (item_of t.pairs number)) (length t.text)

-- an error by the number of its token, as one by its byte
abbrev pub to_parse_fault : TokenizedText → TokenFault → ParseFault
to_parse_fault t (token.Syntax number) = fault.Syntax (byte_offset t number)
to_parse_fault t (token.TooDeep number) = fault.TooDeep (byte_offset t number)
to_parse_fault t token.Memory = fault.Memory

-- the place of an error is where a token begins, or the length of the text
abbrev pub IsAtToken : TokenizedText → ParseFault → Type 0
IsAtToken t (fault.Syntax at) = (number : ℕ) × (at ≡ byte_offset t number)
IsAtToken t (fault.TooDeep at) = (number : ℕ) × (at ≡ byte_offset t number)
IsAtToken t fault.Memory = Unit {0}
