-- The new text, or the old one where there is none. The error of the steps is the command's.
use Rattle.std.proofs.Common.{◌≡◌, None, Err, false, rules, refl, sym}
use Rattle.tf_lint.specs.Remaining.{remaining_count}
use Rattle.tf_lint.specs.FixResult.{fixed_text_or}
use Rattle.tf_lint.specs.Steps.{texts_differ}
use Rattle.tf_session.specs.Inner.Faults.{fault_of_fix}
use Rattle.tf_session.specs.Machine.{done}
use Rattle.tf_session.proofs.PushChange.{fixes_text, same_differ}
use Rattle.tf_session.proofs.ReadTexts.{refused_fix}
use Rattle.tf_session.proofs.fixing.fix_alone.Goals as goal

pub returns-in_default-clause-done : goal.returns-in_default-clause-done
returns-in_default-clause-done c =
    let text = c.args.text.now in
    let made = c.in_ok-new.field-0 in
    let none : made.text ≡ None = search rules in
    let is : text ≡ fixed_text_or text made.text = rw none refl in
    let answered : c.done_of.result ≡ done false made.fixed (remaining_count made.left) = search rules in
    fixes_text c.args.rules text text text made false c.done_of.result refl c.in_ok-new.ensures.made is (sym (same_differ text)) answered

pub returns-clause-done : goal.returns-clause-done
returns-clause-done c =
    let text = c.args.text.now in
    let made = c.in_ok-new.field-0 in
    let new = c.in-Some.new.items in
    let is : new ≡ fixed_text_or text made.text = search rules in
    let changed_is : c.ne-changed.result ≡ texts_differ text new = search rules in
    let answered : c.done_of-2.result ≡ done c.ne-changed.result made.fixed (remaining_count made.left) = search rules in
    fixes_text c.args.rules text text new made c.ne-changed.result c.done_of-2.result refl c.in_ok-new.ensures.made is changed_is answered

pub returns-in_err-new-clause-refused : goal.returns-in_err-new-clause-refused
returns-in_err-new-clause-refused c =
    let why = c.in_err-new.field-0.0 in
    let answer : c.from_residual.result ≡ Err (fault_of_fix why) = search rules in
    rw answer (refused_fix c.args.rules c.args.text.now why c.in_err-new.ensures.fault)
