-- Tokens as the scanner makes them: by their place, and the byte order mark at the start of a text.
use Rattle.std.specs.Prelude.{ℕ, List, [], ◌∷◌, if◌then◌else◌}
use Rattle.hcl_token.specs.declared.span.Span.{Span}
use Rattle.hcl_token.specs.declared.kind.Kind.{Kind}
use Rattle.hcl_token.specs.declared.kind.Kind.TheVariants.{Mark}
use Rattle.hcl_scan.specs.Characters.{is_prefix_of}
use Rattle.hcl_scan.specs.Tokenization.{byte_order_mark}

abbrev pub token_at : ℕ → ℕ → Kind → Span
token_at start stop kind = record { start = start; stop = stop; kind = kind }

-- the byte order mark as a token, and its length
abbrev pub mark_tokens : List ℕ → List Span
mark_tokens text = if is_prefix_of byte_order_mark text
    then record { start = 0; stop = 3; kind = Mark } ∷ [] else []

abbrev pub mark_length : List ℕ → ℕ
mark_length text = if is_prefix_of byte_order_mark text then 3 else 0
