use Rattle.std.specs.Prelude.{Bool}
use Rattle.hcl_layout.proofs.LayoutTexts.{answered, not_too_long, refused}
use Rattle.hcl_layout.proofs.format.is_parsed_laid_out.Goals as goal

pub returns-clause-answer : goal.returns-clause-answer
returns-clause-answer c =
    answered c.laid_out_is_text.ensures c.one_layout.ensures c.parsed_tokens_are_apart.ensures c.args.scanned.now c.requires.0 c.is_laid_out.result c.text-text.ensures.tokenization c.requires.1 c.is_laid_out.ensures.answer

pub returns-clause-short : goal.returns-clause-short
returns-clause-short c = not_too_long c.one_layout.ensures Bool c.args.scanned.now c.is_laid_out.result c.text-text.ensures.tokenization c.is_laid_out.ensures.short

pub returns-clause-err : goal.returns-clause-err
returns-clause-err c = refused Bool c.args.scanned.now c.is_laid_out.result c.text-text.ensures.tokenization c.is_laid_out.ensures.err
