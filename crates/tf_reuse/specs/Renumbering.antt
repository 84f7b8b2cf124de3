-- Numbers of tokens that were moved from one number to another.
use Rattle.std.specs.Prelude.{ℕ, ◌+◌, ◌-◌, ◌^◌, min, map}
use Rattle.std.specs.Option.{option_map}
use Rattle.tf_rules.specs.declared.finding.Finding.{Finding}
use Rattle.tf_rules.specs.declared.finding.Message.{Message}
use Rattle.tf_rules.specs.declared.fix.Fix.{Fix}
use Rattle.tf_rules.specs.declared.fix.Fix.TheVariants.{CommentMarker, Tokens}
use Rattle.tf_rules.specs.declared.fix.KeptTokens.{KeptTokens}
use Rattle.tf_rules.specs.Fixes.{kept}

-- the number of a token, if the tokens from number `from` on were moved to number `to`; at most the
-- greatest u32
abbrev pub renumber : ℕ → ℕ → ℕ → ℕ
renumber from to n = min (to + (n - from)) (2 ^ 32 - 1)

-- the same in tokens that a fix keeps
abbrev pub renumber_kept : ℕ → ℕ → KeptTokens → KeptTokens
renumber_kept from to k =
    kept (renumber from to k.from) (renumber from to k.to) k.after

-- in a fix
abbrev pub renumber_fix : ℕ → ℕ → Fix → Fix
renumber_fix from to CommentMarker = CommentMarker
renumber_fix from to (Tokens before kept) =
    Tokens before (map (option_map (renumber_kept from to)) kept)

-- in a message
abbrev pub renumber_message : ℕ → ℕ → Message → Message
renumber_message from to m = record { kind = m.kind; name = option_map (renumber from to) m.name }

-- and in a finding
abbrev pub renumber_finding : ℕ → ℕ → Finding → Finding
renumber_finding from to f = record {
  rule = f.rule;
  first = renumber from to f.first;
  past = renumber from to f.past;
  message = renumber_message from to f.message;
  fix = option_map (renumber_fix from to) f.fix;
}
