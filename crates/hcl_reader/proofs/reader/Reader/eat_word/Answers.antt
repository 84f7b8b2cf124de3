use Rattle.std.proofs.Common.{sym, ◌∙◌}
use Rattle.hcl_reader.proofs.Places.{unread}
use Rattle.hcl_reader.proofs.reader.Reader.eat_word.Goals as goal

pub returns-in-None-clause-found : goal.returns-in-None-clause-found
returns-in-None-clause-found c = sym (unread c.args.self.now.tokens c.args.self.now.skip_newlines c.args.word.now c.args.at.now (sym c.next_token-number.ensures.kind ∙ c.in-None.is))
