use Rattle.std.proofs.Common.{◌≡◌, ◌-◌, ◌<◌, ◌^◌, length}
use Rattle.hcl_grammar.specs.Tokens.{next_index}
use Rattle.hcl_scan.specs.Follows.{tokens_of}
use Rattle.hcl_reader.proofs.lookahead.next_token.Given as goal

abbrev pub invariant-skip : goal.invariant-skip
invariant-skip l =
    (next_index (tokens_of l.scanned.pairs) l.skip_newlines l.i ≡ next_index (tokens_of l.scanned.pairs) l.skip_newlines l.at)
    × (l.at < 2 ^ 32 → l.i < 2 ^ 32)

abbrev pub decreases-skip : goal.decreases-skip
decreases-skip l = length l.scanned.pairs - l.i
