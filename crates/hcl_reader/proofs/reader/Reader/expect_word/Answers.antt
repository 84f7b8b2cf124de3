use Rattle.std.proofs.Common.{sym, ◌∙◌, refl}
use Rattle.hcl_grammar.specs.Pure.Reading.{expect_word}
use Rattle.hcl_reader.proofs.Places.{unread}
use Rattle.hcl_reader.proofs.reader.Reader.expect_word.Goals as goal

pub returns-in-None : goal.returns-in-None
unfolding expect_word
returns-in-None c = rw (unread c.args.self.now.tokens c.args.self.now.skip_newlines c.args.word.now c.args.at.now (sym c.next_token-number.ensures.kind ∙ c.in-None.is), c.next_token-number.ensures.number) refl
