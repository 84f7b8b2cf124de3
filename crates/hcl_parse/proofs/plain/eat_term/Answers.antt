use Rattle.std.proofs.Common.{◌≡◌, Ok}
use Rattle.hcl_grammar.specs.Pure.Parser.{deeper}
use Rattle.hcl_parse.specs.Rules as spec
use Rattle.hcl_parse.proofs.Ends.{number_alone, text_alone}
use Rattle.hcl_parse.proofs.plain.eat_term.Goals as goal

pub returns-in-Number-clause-read : goal.returns-in-Number-clause-read
returns-in-Number-clause-read g c = λ quiet.
    rw (c.in-Number.is, c.len.ensures, c.number-head.ensures, c.no_tails-tails.ensures) (number_alone (g.S.Builder.make c.args.builder.now) c.args.reader.now.tokens c.args.reader.now.depth (deeper (g.S.Builder.make c.args.builder.now) c.args.reader.now.tokens c.args.reader.now.depth) c.args.reader.now.skip_newlines c.args.first c.args.at.now)

pub returns-in-Some-clause-read : goal.returns-in-Some-clause-read
returns-in-Some-clause-read g c = λ quiet.
    let text : spec.quoted (g.S.Builder.make c.args.builder.now) c.args.reader.now c.args.first c.args.at.now ≡ Ok (c.in-Some.head, c.eat_text.new.at) = rw c.in-Some.is at (c.in_ok-head-in-QuoteOpen.ensures {u = tt}).read in
    rw (c.in-QuoteOpen.is, c.len-in-Some.ensures, c.no_tails-tails-in-Some.ensures) (text_alone (g.S.Builder.make c.args.builder.now) c.args.reader.now.tokens c.args.reader.now.depth (deeper (g.S.Builder.make c.args.builder.now) c.args.reader.now.tokens c.args.reader.now.depth) c.args.reader.now.skip_newlines c.args.first c.args.at.now c.eat_text.new.at c.in-Some.head text)
