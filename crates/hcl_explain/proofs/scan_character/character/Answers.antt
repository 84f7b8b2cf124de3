-- No template sequence is open before the byte.
use Rattle.std.proofs.Common.{◌≡◌, None, inl}
use Rattle.hcl_explain.proofs.SequenceLemmas.{none_is}
use Rattle.hcl_explain.proofs.scan_character.character.Goals as goal

pub returns-in-None : goal.returns-in-None
returns-in-None c =
    let is : c.in_ok-opened.field-0 ≡ None = cc in
    inl (
      none_is c.args.text.now c.prefix.result.now c.args.at _ c.prefix.ensures is
          c.in_ok-opened.ensures.none,
      c.explanation.ensures,
    )
