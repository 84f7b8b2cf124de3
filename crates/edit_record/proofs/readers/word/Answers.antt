use Rattle.std.proofs.Common.{◌∙◌, ap, sym}
use Rattle.std.specs.Prelude.{codes}
use Rattle.edit_record.specs.declared.lists.record.Word.TheVariants.{Fmt, Fix}
use Rattle.edit_record.specs.Parsing.{word_at}
use Rattle.edit_record.proofs.Fields.{after_takes}
use Rattle.edit_record.proofs.Records.{word_again}
use Rattle.edit_record.proofs.readers.word.Goals as goal

pub returns-in-Some : goal.returns-in-Some
returns-in-Some c = ap word_at (after_takes (codes "fmt ") c.args.text.now c.in-Some.rest.now (sym c.in-Some.ensures)) ∙ word_again Fmt c.in-Some.rest.now

pub returns-in-Some-strip : goal.returns-in-Some-strip
returns-in-Some-strip c = ap word_at (after_takes (codes "fix ") c.args.text.now c.in-Some-strip.rest.now (sym c.in-Some-strip.ensures)) ∙ word_again Fix c.in-Some-strip.rest.now
