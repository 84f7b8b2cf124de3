use Rattle.std.proofs.Common.{sym, ap, ◌∙◌, Some}
use Rattle.hcl_token.specs.declared.kind.Kind.TheVariants.{Number}
use Rattle.hcl_scan.specs.Inner.NextToken.{heredoc_or_less}
use Rattle.hcl_scan.proofs.TokenLemmas.{token_of_word, token_of_number, token_of_opening, token_of_punctuation}
use Rattle.hcl_scan.proofs.token.any_expression_token.Goals as goal

pub returns-then-is_word_start : goal.returns-then-is_word_start
returns-then-is_word_start c =
    let same = c.as_bytes-bytes.ensures.value in
    let word = rw same at (sym c.is_word_start.ensures ∙ c.if-is_word_start.true) in
    c.identifier.ensures ∙ sym (token_of_word c.args.text.now c.args.at c.args.can_close word)

pub returns-then-is_ascii_digit : goal.returns-then-is_ascii_digit
returns-then-is_ascii_digit c =
    let text = c.args.text.now in
    let at = c.args.at in
    let same = c.as_bytes-bytes.ensures.value in
    let no_word = rw same at (sym c.is_word_start.ensures ∙ c.if-is_word_start.false) in
    let digit = rw same at (sym c.is_ascii_digit.ensures.value ∙ c.if-is_ascii_digit.true) in
    let len = rw same at c.number_len.ensures.value in
    ap (λ n. Some (Number, n)) len ∙ sym (token_of_number text at c.args.can_close no_word digit)

pub returns-then-is_at_heredoc_start : goal.returns-then-is_at_heredoc_start
returns-then-is_at_heredoc_start c =
    let text = c.args.text.now in
    let at = c.args.at in
    let same = c.as_bytes-bytes.ensures.value in
    let no_word = rw same at (sym c.is_word_start.ensures ∙ c.if-is_word_start.false) in
    let no_digit = rw same at (sym c.is_ascii_digit.ensures.value ∙ c.if-is_ascii_digit.false) in
    let begins = rw same at (sym c.is_at_heredoc_start.ensures ∙ c.if-is_at_heredoc_start.true) in
    c.heredoc_or_less.ensures ∙ ap heredoc_or_less c.here_open.ensures ∙ sym (token_of_opening text at c.args.can_close no_word no_digit begins)

pub returns-else-is_at_heredoc_start : goal.returns-else-is_at_heredoc_start
returns-else-is_at_heredoc_start c =
    let text = c.args.text.now in
    let at = c.args.at in
    let same = c.as_bytes-bytes.ensures.value in
    let no_word = rw same at (sym c.is_word_start.ensures ∙ c.if-is_word_start.false) in
    let no_digit = rw same at (sym c.is_ascii_digit.ensures.value ∙ c.if-is_ascii_digit.false) in
    let other = rw same at (sym c.is_at_heredoc_start.ensures ∙ c.if-is_at_heredoc_start.false) in
    let found = rw same at c.punctuation.ensures in
    found ∙ sym (token_of_punctuation text at c.args.can_close no_word no_digit other)
