-- the tokens of a text that parses don't join
use Rattle.hcl_grammar.specs.declared.bounds.TheConstants.{MAX_NESTING}
use Rattle.test_rows.proofs.rescan.tokenize_again.Goals as goal

pub rescan-requires : goal.rescan-requires
rescan-requires c =
    let (tree, is) = c.in-Ok.ensures.parses in
    let old = c.args.old.now in
    c.parsed_tokens_are_apart.ensures old.text old.pairs old.last MAX_NESTING tree c.text-old_text.ensures.tokenization is
