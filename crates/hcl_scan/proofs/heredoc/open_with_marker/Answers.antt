use Rattle.std.proofs.Common.{◌+◌, drop, sym, ap, ◌∙◌, arith}
use Rattle.hcl_scan.specs.Inner.HeredocToken.{open_with_marker}
use Rattle.hcl_scan.proofs.HeredocPlaces.{identifier_none, identifier_fits}
use Rattle.hcl_scan.proofs.heredoc.open_with_marker.Goals as goal

pub returns-then-not-is_word_start : goal.returns-then-not-is_word_start
returns-then-not-is_word_start c =
    let no_word = sym c.is_word_start.ensures ∙ c.if-not-is_word_start.true in
    let first = rw (c.byte_at.ensures.value, c.as_bytes-bytes.ensures.value) at no_word in
    sym (ap (open_with_marker c.args.before (drop (c.args.at + c.args.before) c.args.text.now)) (identifier_none c.args.text.now (c.args.at + c.args.before) c.requires.utf8 first))

pub overflow_add-name-in-Some : goal.overflow_add-name-in-Some
overflow_add-name-in-Some c =
    let fits = identifier_fits c.args.text.now (c.args.at + c.args.before) c.in-Some.field-0-0 c.in-Some.len c.requires.utf8 c.requires.within (sym c.identifier.ensures ∙ c.in-Some.is) in
    omega arith

pub line_end_len-end-requires : goal.line_end_len-end-requires
line_end_len-end-requires c =
    let fits = identifier_fits c.args.text.now (c.args.at + c.args.before) c.in-Some.field-0-0 c.in-Some.len c.requires.utf8 c.requires.within (sym c.identifier.ensures ∙ c.in-Some.is) in
    rw c.as_bytes-bytes.ensures.value fits
