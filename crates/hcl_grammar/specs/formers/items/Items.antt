-- `Items` as a type that may hold the type that holds it. Its value is the list of its elements,
-- whatever the allocator.
use mathlib.Core.Path.{◌≡◌, refl, sym}
use mathlib.Core.List.{List, []}
use mathlib.Core.Former.{Former, this, list, via, children}
use base.Stored.{code_map}
use denote.RattleType.{RattleType}
use denote.HoleLaws.{Alike}
use denote.HolePlaces.{Recodes, struct_places, laid}
use denote.Hole.Carrier.{listed, list-listed}
use denote.Hole.Fix.{over}
use denote.Param.Weighed.{Weighed, w_list}
use denote.Model.Placed.{view_places}
use Rattle.std.specs.formers.vec.Vec as vec
use Rattle.std.specs.declared.alloc.Allocator.{Ghosts}
use Rattle.hcl_grammar.specs.declared.items.Items.TheInside.{Inside}
use Rattle.hcl_grammar.specs.declared.items.Items.TheView.{view, invariant}
use Rattle.hcl_grammar.specs.contracts.items.Items as C
use Rattle.hcl_grammar.specs.contracts.items.Items.TheInside as I

abbrev pub the_former : Former {0} → Type 0 → Former {0}
the_former g Z = list g

abbrev pub the_weighed : {g : Former {0}} → Weighed g → (Z : Type 0) → Weighed (the_former g Z)
the_weighed w Z = w_list w

pub the_empty : (Z : Type 0) → Z → List ⊥
the_empty Z z = []

-- what it holds, from the first to the last
abbrev pub the_items : (Z X : Type 0) → List X → List X
the_items Z X xs = xs

pub the_items_listed : (Z X : Type 0) (xs : List X)
    → listed _ (children (the_former this Z) X xs) ≡ the_items Z X xs
the_items_listed Z X xs = list-listed X xs

-- what an `Items` has besides its list
abbrev fields : Type 0 → Former {0}
fields Z = via (vec.the_former this Z) (λ X. Inside X Z) (λ X a. a.vec) (λ X v. record { vec = v })
    (λ X a. refl) (λ X v. refl)

module _ (Z : RattleType) (G : Ghosts Z.Denot) (R S : RattleType) (h : R.Denot → S.Denot) where
  pub the_places : Alike R S h
      → Alike (C.the_row R Z G) (C.the_row S Z G) ((the_former this Z.Denot).map R.Denot S.Denot h)
  the_places a = view_places (fields Z.Denot) (list this) (λ X. view X Z.Denot G) (λ X Y k u. refl)
      (λ X u. refl) R.Denot S.Denot h
      (C.the_row R Z G).coded (C.the_row S Z G).coded
      (invariant R.Denot Z.Denot G) (invariant S.Denot Z.Denot G) (λ u p q. refl) (λ u p q. refl)
      (λ u e. tt) (λ u e. tt)
      (over (I.the_row R Z G)) (over (I.the_row S Z G))
      (struct_places (I.the_type R Z G) (I.the_type S Z G) (vec.mapped h, tt) _ (λ d. refl) refl
      (laid _ _ _ (vec.the_places Z G R S h a), tt))

  pub the_codes_placed : Recodes R S h
      → Recodes (C.the_row R Z G) (C.the_row S Z G)
      ((the_former this Z.Denot).map R.Denot S.Denot h)
  the_codes_placed same xs = sym (code_map R.coded.code S.coded.code h (λ x. sym (same x)) xs)
