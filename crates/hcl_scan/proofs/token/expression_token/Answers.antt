use Rattle.std.proofs.Common.{slice_index, sym, ap, ◌∙◌, arith, Some}
use Rattle.hcl_token.specs.declared.kind.Kind.TheVariants.{Number}
use Rattle.hcl_scan.proofs.IdentLemmas.{letter_ascii}
use Rattle.hcl_scan.proofs.TokenLemmas.{digit_byte, token_of_word, token_of_number}
use Rattle.hcl_scan.proofs.token.expression_token.Goals as goal

pub returns-then-is_letter-clause-token : goal.returns-then-is_letter-clause-token
returns-then-is_letter-clause-token c =
    let letter = rw c.requires.first at (sym c.is_letter.ensures ∙ c.if-is_letter.true) in
    let word = letter_ascii (slice_index c.args.text.now c.args.at) letter in
    c.free.ensures.token ∙ c.word_len.ensures ∙ sym (token_of_word c.args.text.now c.args.at c.args.can_close word.1)

pub returns-in-48-to-57-clause-token : goal.returns-in-48-to-57-clause-token
returns-in-48-to-57-clause-token c =
    let digit = rw c.requires.first at (digit_byte c.args.first (omega arith) (omega arith)) in
    let len = rw c.as_bytes-bytes.ensures.value at c.short_number_len.ensures.value in
    c.free-in-48-to-57.ensures.token ∙ ap (λ n. Some (Number, n)) len ∙ sym (token_of_number c.args.text.now c.args.at c.args.can_close digit.1 digit.0)
