use Rattle.std.proofs.Common.{sym, ◌∙◌}
use Rattle.hcl_reader.proofs.Places.{unread}
use Rattle.hcl_reader.proofs.reader.Reader.next_is_word.Goals as goal

pub returns-in-None : goal.returns-in-None
returns-in-None c = sym (unread c.args.self.now.tokens c.args.self.now.skip_newlines c.args.word.now c.args.at (sym c.next_token-number.ensures.kind ∙ c.in-None.is))
