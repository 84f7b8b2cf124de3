use Rattle.hcl_layout.proofs.LayoutTexts.{text_is_layout, text_parses, text_is_short, refused}
use Rattle.hcl_layout.proofs.format.formatted_text.Goals as goal

pub returns-clause-layout : goal.returns-clause-layout
returns-clause-layout c =
    text_is_layout _ c.args.scanned.now c.formatted_text.result (λ x. x.items) c.text-text.ensures.tokenization c.formatted_text.ensures.text

pub returns-clause-parses : goal.returns-clause-parses
returns-clause-parses c = λ t w.
    text_parses c.layout_parses.ensures _ c.args.scanned.now c.formatted_text.result (λ x. x.items) t c.text-text.ensures.tokenization w c.formatted_text.ensures.text c.formatted_text.ensures.short

pub returns-clause-short : goal.returns-clause-short
returns-clause-short c = text_is_short _ c.args.scanned.now c.formatted_text.result (λ x. x.items) c.formatted_text.ensures.text c.formatted_text.ensures.short

pub returns-clause-err : goal.returns-clause-err
returns-clause-err c = refused _ c.args.scanned.now c.formatted_text.result c.text-text.ensures.tokenization c.formatted_text.ensures.err
