-- The edits of the layout apply to the text, and make it.
use Rattle.std.proofs.Common.{◌≡◌, ◌∙◌, length, rules, ap, inl, sym}
use Rattle.std.proofs.lemmas.List.{nil_from_length}
use Rattle.edit_record.specs.Lists.Pieces.{Transforms}
use Rattle.tf_session.specs.Inner.Faults.{fault_of_refused}
use Rattle.tf_session.proofs.LayoutLemmas.{made, only_memory, stays}
use Rattle.tf_session.proofs.formatting.layout_change.Goals as goal

pub returns-then-is_empty-clause-layout : goal.returns-then-is_empty-clause-layout
returns-then-is_empty-clause-layout c =
    let zero : length c.edits-2.result.now ≡ 0 = search rules in
    let none = sym c.edits-2.ensures.same ∙ nil_from_length c.edits-2.result.now zero in
    (stays c.in_ok-edits.edits c.args.scanned.now.text c.requires.0 (c.in_ok-edits.ensures.edits c.requires.0 c.requires.1) none).0

pub returns-then-is_empty-clause-short : goal.returns-then-is_empty-clause-short
returns-then-is_empty-clause-short c =
    let zero : length c.edits-2.result.now ≡ 0 = search rules in
    let none = sym c.edits-2.ensures.same ∙ nil_from_length c.edits-2.result.now zero in
    (stays c.in_ok-edits.edits c.args.scanned.now.text c.requires.0 (c.in_ok-edits.ensures.edits c.requires.0 c.requires.1) none).1

pub returns-then-is_empty-clause-edits : goal.returns-then-is_empty-clause-edits
returns-then-is_empty-clause-edits c =
    let zero : length c.edits-2.result.now ≡ 0 = search rules in
    let none = sym c.edits-2.ensures.same ∙ nil_from_length c.edits-2.result.now zero in
    (stays c.in_ok-edits.edits c.args.scanned.now.text c.requires.0 (c.in_ok-edits.ensures.edits c.requires.0 c.requires.1) none).2 ∙ c.in_ok-edits.ensures.exact

pub returns-in-Ok-clause-layout : goal.returns-in-Ok-clause-layout
returns-in-Ok-clause-layout c =
    let turns : Transforms c.in_ok-edits.edits c.args.scanned.now.text c.in-Ok.text.items = search rules in
    (made c.in_ok-edits.edits c.args.scanned.now.text c.in-Ok.text.items c.requires.0 (c.in_ok-edits.ensures.edits c.requires.0 c.requires.1) (c.change_is_one_to_one.ensures.new c.args.scanned.now.text) turns).0

pub returns-in-Ok-clause-short : goal.returns-in-Ok-clause-short
returns-in-Ok-clause-short c =
    let turns : Transforms c.in_ok-edits.edits c.args.scanned.now.text c.in-Ok.text.items = search rules in
    (made c.in_ok-edits.edits c.args.scanned.now.text c.in-Ok.text.items c.requires.0 (c.in_ok-edits.ensures.edits c.requires.0 c.requires.1) (c.change_is_one_to_one.ensures.new c.args.scanned.now.text) turns).1

pub returns-in-Err-clause-fault : goal.returns-in-Err-clause-fault
returns-in-Err-clause-fault c =
    let memory = only_memory _ c.in_ok-edits.edits c.args.scanned.now.text c.text.result.now c.requires.0 c.in-Err.refused c.apply_is_exact.ensures (c.in_ok-edits.ensures.edits c.requires.0 c.requires.1) c.text.ensures.text c.in-Err.ensures.agrees in
    inl (c.from.ensures ∙ ap fault_of_refused memory)
