use Rattle.std.proofs.Common.{◌≡◌, ℕ, ◌+◌, ◌<◌, List, [], length, sym, ◌∙◌, ap, subst, arith}
use Rattle.std.proofs.lemmas.List.{nil_from_length}
use Rattle.std.proofs.lemmas.Bool.{false≢true}
use Rattle.edit_record.specs.Lists.Pieces.{EditEntry, EditList, as_list}
use Rattle.edit_record.specs.Lists.Validity.{AreValidEdits, new_len}
use Rattle.edit_record.specs.Squashes.Squash.{IsSquash}
use Rattle.edit_record.specs.Squashes.Inner.Merge.{initial}
use Rattle.edit_record.proofs.SquashesLemmas.Merged.{progress_start, ends_well}
use Rattle.edit_record.proofs.squashes.squash_lists.merge_lists.Goals as goal

-- two lists without an edit are one without an edit
none_joined : (a b : EditList) (c : List EditEntry) → AreValidEdits a.old_len (new_len a) a.entries → AreValidEdits b.old_len (new_len b) b.entries → a.entries ≡ [] → b.entries ≡ [] → c ≡ [] → new_len a ≡ b.old_len
    → AreValidEdits a.old_len (new_len b) c × IsSquash a b (as_list a.old_len c)
none_joined a b c p q a_is b_is c_is follows =
    let first : AreValidEdits a.old_len b.old_len [] = subst (λ (n : ℕ). AreValidEdits a.old_len n []) follows (subst (λ (es : List EditEntry). AreValidEdits a.old_len (new_len a) es) a_is p) in
    let second : AreValidEdits b.old_len (new_len b) [] = subst (λ (es : List EditEntry). AreValidEdits b.old_len (new_len b) es) b_is q in
    let lengths = ap (λ (es : List EditEntry). new_len (as_list a.old_len es)) (sym a_is) ∙ follows in
    let h = ends_well a.old_len b.old_len (new_len b) [] [] c initial first second (progress_start a.old_len b.old_len (new_len b) [] [] first second) c_is lengths in
    let here = subst (λ (fs : List EditEntry). IsSquash (as_list a.old_len []) (as_list b.old_len fs) (as_list a.old_len c)) (sym b_is) h.1 in
    (h.0, subst (λ (es : List EditEntry). IsSquash (as_list a.old_len es) b (as_list a.old_len c)) (sym a_is) here)

pub returns-then-not-has_more-clause-merges : goal.returns-then-not-has_more-clause-merges
returns-then-not-has_more-clause-merges c =
    let a = c.args.first.now in
    let b = c.args.second.now in
    let p = subst (λ (es : List EditEntry). AreValidEdits a.old_len (new_len a) es) c.edits.ensures.same c.edits.ensures.disjoint in
    let q = subst (λ (es : List EditEntry). AreValidEdits b.old_len (new_len b) es) c.edits-2.ensures.same c.edits-2.ensures.disjoint in
    let none : 0 < length c.edits.result.now + length c.edits-2.result.now → ⊥ = λ l. false≢true (sym c.if-not-has_more.true ∙ c.has_more.ensures.1 l) in
    let x = sym c.edits.ensures.same ∙ nil_from_length c.edits.result.now (omega arith) in
    let y = sym c.edits-2.ensures.same ∙ nil_from_length c.edits-2.result.now (omega arith) in
    none_joined a b c.new.result.items p q x y c.new.ensures.items c.requires
