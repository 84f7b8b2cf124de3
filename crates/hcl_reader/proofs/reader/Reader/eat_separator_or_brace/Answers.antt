use Rattle.std.proofs.Common.{◌≡◌, ◌+◌, Some, Ok, Err, rules}
use Rattle.hcl_token.specs.declared.kind.Kind.TheVariants as k
use Rattle.hcl_reader.specs.ReaderRules as tokens
use Rattle.hcl_reader.specs.ReaderRules.{outside_brackets}
use Rattle.hcl_reader.proofs.Separators.{brace_next, comma_next, line_next}
use Rattle.hcl_reader.proofs.reader.Reader.eat_separator_or_brace.Goals as goal
use Rattle.hcl_reader.proofs.reader.Reader.eat_separator_or_brace.Goals.{in-Comma-1, in-LineEnd-1}

pub returns-in-Some-CloseBrace : goal.returns-in-Some-CloseBrace
returns-in-Some-CloseBrace c =
    let here = c.args.self.now in
    let token = c.next_token-number in
    let number = rw c.outside_brackets-lines.ensures at token.ensures.number in
    let brace : tokens.next_kind (outside_brackets here) c.args.at.now ≡ Some k.CloseBrace = first_of (search rules, cc) in
    brace_next here.tokens c.args.at.now token.result.0 number brace

pub returns-in-Ok : goal.returns-in-Ok
returns-in-Ok c =
    let here = c.args.self.now in
    let token = c.next_token-number in
    let number = rw c.outside_brackets-lines.ensures at token.ensures.number in
    let skipped : tokens.skip_newlines here (token.result.0 + 1) ≡ Ok (tt, c.skip_newlines.new.at) = rw c.in-Ok.is at c.skip_newlines.ensures in
    elim c.in-Some-Comma-1.branch [
      | in-Comma-1 w ↦ (let next : tokens.next_kind (outside_brackets here) c.args.at.now ≡ Some k.Comma = first_of (search rules, cc) in
          comma_next here.tokens c.args.at.now token.result.0 number _ skipped next)
      | in-LineEnd-1 w ↦ (let next : tokens.next_kind (outside_brackets here) c.args.at.now ≡ Some k.LineEnd = first_of (search rules, cc) in
          line_next here.tokens c.args.at.now token.result.0 number _ skipped next)
    ]

pub returns-in-Err : goal.returns-in-Err
returns-in-Err c =
    let here = c.args.self.now in
    let token = c.next_token-number in
    let number = rw c.outside_brackets-lines.ensures at token.ensures.number in
    let refused : tokens.skip_newlines here (token.result.0 + 1) ≡ Err c.in-Err.fault = rw c.in-Err.is at c.skip_newlines.ensures in
    elim c.in-Some-Comma-1.branch [
      | in-Comma-1 w ↦ (let next : tokens.next_kind (outside_brackets here) c.args.at.now ≡ Some k.Comma = first_of (search rules, cc) in
          comma_next here.tokens c.args.at.now token.result.0 number _ refused next)
      | in-LineEnd-1 w ↦ (let next : tokens.next_kind (outside_brackets here) c.args.at.now ≡ Some k.LineEnd = first_of (search rules, cc) in
          line_next here.tokens c.args.at.now token.result.0 number _ refused next)
    ]
