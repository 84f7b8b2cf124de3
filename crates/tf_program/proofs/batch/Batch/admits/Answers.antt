-- None is held, or none that is held has anything in common with what is at this place.
use Rattle.std.proofs.Common.{◌≡◌, ◌∙◌, List, Result, Ok, arith, subst, sym, vec_len}
use Rattle.std.proofs.lemmas.Bool.{false≢true}
use Rattle.std.proofs.lemmas.Bool.Decides.{nat_tests}
use Rattle.std.proofs.lemmas.List.{nil_from_length}
use Rattle.tf_files.specs.declared.cause.Trouble.{Trouble}
use Rattle.tf_program.specs.Inner.Entries.{AreApartFrom, IsFoundIn}
use Rattle.tf_program.specs.declared.entry.Entry.{Entry}
use Rattle.tf_program.proofs.Keeping.{none_apart, placed_apart}
use Rattle.tf_program.proofs.batch.Batch.admits.Goals as goal

pub returns-then-is_empty : goal.returns-then-is_empty
returns-then-is_empty g c =
    let zero : vec_len c.args.self.now.entries ≡ 0 = grind (arith, nat_tests, c.is_empty.ensures, c.if-is_empty.true) in
    let none = nil_from_length c.args.self.now.entries.items (sym c.args.self.now.entries.ok.0 ∙ zero) in
    λ _ name found. none_apart _ _ c.args.self.now.entries.items name none

pub returns-in-Ok : goal.returns-in-Ok
returns-in-Ok g c =
    λ yes name found.
    let is : IsFoundIn g.S.Store.spot (g.S.Store.known c.args.store.now) name (Ok c.in-Ok.place) =
    subst (λ (p : Result g.row.P.Denot Trouble). IsFoundIn g.S.Store.spot (g.S.Store.known c.args.store.now) name p) c.in-Ok.is found in
    subst (λ (es : List (Entry g.row.P.Denot)). AreApartFrom g.S.Store.spot (g.S.Store.known c.args.store.now) es name) c.deref.ensures.value
    (placed_apart _ _ name c.in-Ok.place c.deref.result.now is.0 (c.none_may_share.ensures yes))

pub returns-in-Err : goal.returns-in-Err
returns-in-Err g c = λ off name found. absurd (false≢true off)
