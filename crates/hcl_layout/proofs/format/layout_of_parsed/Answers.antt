use Rattle.edit_record.specs.Lists.Pieces.{EditList}
use Rattle.hcl_layout.proofs.LayoutTexts.{layout_exists, refused}
use Rattle.hcl_layout.proofs.format.layout_of_parsed.Goals as goal

pub returns-clause-edits : goal.returns-clause-edits
returns-clause-edits c = λ t w.
    layout_exists c.layout_parses.ensures c.layout_keeps_tokens.ensures c.layout_is_laid_out.ensures c.args.scanned.now t c.layout.result c.text-text.ensures.tokenization w c.layout.ensures.turns c.layout.ensures.short

pub returns-clause-err : goal.returns-clause-err
returns-clause-err c = refused EditList c.args.scanned.now c.layout.result c.text-text.ensures.tokenization c.layout.ensures.err
