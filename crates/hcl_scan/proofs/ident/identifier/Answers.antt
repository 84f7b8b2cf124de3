use Rattle.std.proofs.Common.{slice_index}
use Rattle.hcl_scan.proofs.IdentLemmas.{word_letter}
use Rattle.hcl_scan.proofs.ident.identifier.Goals as goal

pub word_len-requires-clause-letter : goal.word_len-requires-clause-letter
word_len-requires-clause-letter c =
    let ascii = rw c.as_bytes.ensures.value at c.if-as_bytes-at-lt128.true in
    word_letter (slice_index c.args.text.now c.args.at) ascii c.requires.word
