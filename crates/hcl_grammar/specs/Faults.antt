-- Two kinds of a parser's error.
use Rattle.hcl_grammar.specs.declared.fault.TokenFault.{TokenFault}
use Rattle.hcl_grammar.specs.declared.fault.TokenFault.TheVariants.{Syntax, TooDeep, Memory}

-- memory ran out
abbrev pub IsMemory : TokenFault → Type 0
IsMemory Memory = Unit {0}
IsMemory (Syntax at) = ⊥
IsMemory (TooDeep at) = ⊥

-- memory ran out, or too much nests
abbrev pub IsMemoryOrDeep : TokenFault → Type 0
IsMemoryOrDeep Memory = Unit {0}
IsMemoryOrDeep (TooDeep at) = Unit {0}
IsMemoryOrDeep (Syntax at) = ⊥
