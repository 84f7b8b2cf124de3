use Rattle.std.proofs.Common.{◌≡◌, slice_index, ◌+◌, ◌-◌, Some, ap, sym, ◌∙◌, arith, drop}
use Rattle.std.specs.Str.{chars}
use Rattle.hcl_token.specs.declared.kind.Kind.TheVariants.{Identifier}
use Rattle.hcl_scan.specs.Inner.NextToken.{id_continue_length}
use Rattle.hcl_scan.proofs.IdentLemmas.{chars_ascii, identifier_ascii, letter_ascii}
use Rattle.hcl_scan.proofs.ident.word_len.Goals as goal

pub id_end-requires-clause-utf8 : goal.id_end-requires-clause-utf8
id_end-requires-clause-utf8 c =
    (chars_ascii c.args.text.now c.args.at c.requires.utf8 c.requires.within (letter_ascii (slice_index c.args.text.now c.args.at) c.requires.letter).0).1

pub returns : goal.returns
returns c =
    let text = c.args.text.now in
    let at = c.args.at in
    let word = letter_ascii (slice_index c.args.text.now c.args.at) c.requires.letter in
    let size : c.id_end.result - at ≡ 1 + id_continue_length (chars (drop (at + 1) text)) = omega arith in
    ap (λ n. Some (Identifier, n)) size ∙ sym (identifier_ascii text at c.requires.utf8 c.requires.within word.0 word.1)
