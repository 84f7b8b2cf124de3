use Rattle.std.proofs.Common.{◌≡◌, ◌+◌, ◌-◌, take, drop, ap, subst, rules, arith, ◌∙◌}
use Rattle.std.proofs.lemmas.List.{drop-take}
use Rattle.edit_record.specs.Lists.Inner.Storage.{IsValidStorage}
use Rattle.edit_record.proofs.lists.edit.Edit.inline_texts.Goals as goal

pub returns-in-Inline-clause-added : goal.returns-in-Inline-clause-added
returns-in-Inline-clause-added c =
    let split_is = c.in-Inline.removed_end in
    let len = c.in-Inline.len in
    let bytes = c.in-Inline.bytes in
    let is : c.args.self.now.added ≡ drop split_is (take len bytes) = search rules in
    let valid = subst IsValidStorage c.in-Inline.is c.self.invariant in
    let whole : len ≡ split_is + (len - split_is) = omega (arith, valid.0) in
    is ∙ ap (λ n. drop split_is (take n bytes)) whole ∙ drop-take split_is (len - split_is) bytes
