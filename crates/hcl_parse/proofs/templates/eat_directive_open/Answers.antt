use Rattle.std.proofs.Common.{sym, ◌∙◌}
use Rattle.hcl_reader.proofs.AfterLast.{nothing_after}
use Rattle.hcl_parse.proofs.templates.eat_directive_open.Goals as goal

pub returns-in-None-clause-found : goal.returns-in-None-clause-found
returns-in-None-clause-found c = sym (nothing_after (c.args.reader.now.tokens) c.args.reader.now.skip_newlines c.args.word.now c.args.at.now (sym c.next_token-number.ensures.kind ∙ c.in-None.is))
