-- Lists of edits and records: what is read is written so, and what is written so is read.
use Rattle.std.proofs.Common.{◌≡◌, ℕ, ◌-◌, ◌≤◌, List, [], ◌∷◌, ◌++◌, length, Option, None, Some, Result, Ok, Err, refl, sym, ap, subst, ◌∙◌, append_assoc, arith}
use Rattle.std.specs.Prelude.{codes}
use Rattle.std.specs.List.{flat_map, AllByRecursion}
use Rattle.std.proofs.lemmas.List.Concat.{flat_map-cons}
use Rattle.edit_record.specs.declared.version_1.TheConstants.{MAX_STEPS}
use Rattle.edit_record.specs.declared.lists.edit.BadEdits.{BadEdits}
use Rattle.edit_record.specs.declared.lists.record.Word.{Word}
use Rattle.edit_record.specs.declared.lists.record.Word.TheVariants.{Fmt, Fix}
use Rattle.edit_record.specs.Lists.Pieces.{EditList, as_list}
use Rattle.edit_record.specs.Lists.Validity.{make_edits, IsValidList}
use Rattle.edit_record.specs.Lists.Journal.{JournalEntry}
use Rattle.edit_record.specs.Text.{space, newline, number_text, edit_text, list_head, list_text, word_text, record_text, OldRecord, steps, step_text, old_record_text}
use Rattle.edit_record.specs.declared.fault.FaultKind.TheVariants.{Head, End}
use Rattle.edit_record.specs.Parsing.{strip, expect, number_at, edits_at, if_valid, list_head_at, edit_list_at, word_of, bare_word_at, word_at, record_at}
use Rattle.edit_record.specs.OldParsing.{step_at, steps_at, OldHead, old_head_at}
use Rattle.edit_record.specs.Inner.ParseResults.{old_record_at}
use Rattle.edit_record.proofs.Choices.{ok_is, through, through_one, continues_with, part}
use Rattle.edit_record.proofs.Many.{many_take, many_again}
use Rattle.edit_record.proofs.Numbers.{number_takes, number_again}
use Rattle.edit_record.proofs.Heads.{list_head_takes, list_head_again}
use Rattle.edit_record.proofs.Fields.{after_takes, expect_takes, edits_take, edits_again}
use Rattle.edit_record.proofs.Making.{valid_is, valid_again, has_numbers}

valid_found : (left : ℕ) (r : Result EditList BadEdits) (t rest : List ℕ) (e : EditList) → if_valid left r t ≡ Ok (e, rest) → (r ≡ Ok e) × (t ≡ rest)
valid_found left (Ok x) t rest e h = let p = ok_is (x, t) (e, rest) h in (ap (λ (y : EditList × List ℕ). Ok y.0) p, ap (λ (y : EditList × List ℕ). y.1) p)
valid_found left (Err d) t rest e h = absurd cc

pub list_takes : (left : ℕ) (t : List ℕ) (e : EditList) (rest : List ℕ) → edit_list_at left t ≡ Ok (e, rest) → (t ≡ list_text e ++ rest) × IsValidList e
unfolding edit_list_at
list_takes left t e rest h =
    through (list_head_at t) _ (e, rest) h λ n t1 n_is h1.
    through (edits_at n.1 t1) _ (e, rest) h1 λ es t2 es_is h2.
    let m = valid_found left (make_edits n.0 es) t2 rest e h2 in
    let i = valid_is n.0 es e m.0 in
    let es_take = edits_take n.1 t1 es t2 es_is in
    let head = list_head n.0 (length es) in
    let head_is : t ≡ head ++ t1 = (list_head_takes t n t1 n_is).text ∙ ap (λ (k : ℕ). list_head n.0 k ++ t1) (sym es_take.1) in
    let whole = part head t t1 _ head_is es_take.0 ∙ sym (append_assoc head (flat_map edit_text es) t2) in
    (subst (λ (x : EditList). t ≡ list_text x ++ rest) i.0 (whole ∙ ap (λ (x : List ℕ). list_text (as_list n.0 es) ++ x) m.1), i.1)

pub list_again : (left : ℕ) (e : EditList) (rest : List ℕ) → IsValidList e → edit_list_at left (list_text e ++ rest) ≡ Ok (e, rest)
unfolding edit_list_at
list_again left e rest made_e =
    let n = has_numbers e made_e in
    let t1 = flat_map edit_text e.entries ++ rest in
    let head = list_head e.old_len (length e.entries) in
    let last : if_valid left (make_edits e.old_len e.entries) rest ≡ Ok (e, rest) = rw (valid_again e made_e) refl in
    let read : edit_list_at left (head ++ t1) ≡ Ok (e, rest) =
    continues_with (list_head_at (head ++ t1)) _ ((e.old_len, length e.entries), t1) _ (list_head_again e.old_len (length e.entries) t1 n.old_len n.count)
    (continues_with (edits_at (length e.entries) t1) _ (e.entries, rest) _ (edits_again e.entries rest n.edits) last) in
    ap (edit_list_at left) (append_assoc head (flat_map edit_text e.entries) rest) ∙ read

-- the word without the space after it
bare : Word → List ℕ
bare Fmt = codes "fmt"
bare Fix = codes "fix"

word_found : (fmt fix fmt_part fix_part : Option (List ℕ)) (left : ℕ) (t t1 : List ℕ) (w : Word) → strip (codes "fmt") t ≡ fmt → strip (codes "fix") t ≡ fix → word_of fmt fix fmt_part fix_part left ≡ Ok (w, t1) → t ≡ bare w ++ t1
unfolding bare
word_found (Some x) fix fmt_part fix_part left t t1 w fmt_is fix_is e = subst (λ (y : Word × List ℕ). t ≡ bare y.0 ++ y.1) (ok_is (Fmt, x) (w, t1) e) (after_takes (codes "fmt") t x fmt_is)
word_found None (Some x) fmt_part fix_part left t t1 w fmt_is fix_is e = subst (λ (y : Word × List ℕ). t ≡ bare y.0 ++ y.1) (ok_is (Fix, x) (w, t1) e) (after_takes (codes "fix") t x fix_is)
word_found None None (Some x) fix_part left t t1 w fmt_is fix_is e = absurd cc
word_found None None None (Some x) left t t1 w fmt_is fix_is e = absurd cc
word_found None None None None left t t1 w fmt_is fix_is e = absurd cc

with_space : (w : Word) (rest : List ℕ) → bare w ++ (space ∷ rest) ≡ word_text w ++ rest
unfolding bare
with_space Fmt rest = refl
with_space Fix rest = refl

pub word_takes : (t : List ℕ) (w : Word) (rest : List ℕ) → word_at t ≡ Ok (w, rest) → t ≡ word_text w ++ rest
unfolding word_at
word_takes t w rest e =
    through (bare_word_at t) _ (w, rest) e λ word t1 word_is e1.
    through_one (expect (space ∷ []) Head t1) _ (w, rest) e1 λ t2 space_is e2.
    let whole = part (bare word) t t1 _ (word_found _ _ _ _ _ t t1 word refl refl word_is) (expect_takes (space ∷ []) Head t1 t2 space_is) ∙ with_space word t2 in
    subst (λ (y : Word × List ℕ). t ≡ word_text y.0 ++ y.1) (ok_is (word, t2) (w, rest) e2) whole

pub word_again : (w : Word) (rest : List ℕ) → word_at (word_text w ++ rest) ≡ Ok (w, rest)
unfolding word_at
word_again Fmt rest = refl
word_again Fix rest = refl

pub three : (a b c d rest : List ℕ) → ((a ++ b) ++ c ++ d) ++ rest ≡ a ++ (b ++ (c ++ (d ++ rest)))
three a b c d rest = simp append_assoc

pub record_takes : (t : List ℕ) (r : JournalEntry) (rest : List ℕ) → record_at t ≡ Ok (r, rest) → (t ≡ record_text r ++ rest) × IsValidList r.edits
unfolding record_at
record_takes t r rest h =
    through_one (expect (codes "tfrec 2 ") Head t) _ (r, rest) h λ t1 head_is h1.
    through (word_at t1) _ (r, rest) h1 λ word t2 word_is h2.
    through (edit_list_at (length t) t2) _ (r, rest) h2 λ edits t3 edits_are h3.
    through_one (expect (codes "end\n") End t3) _ (r, rest) h3 λ t4 end_is h4.
    let found : JournalEntry × List ℕ = (record { word = word; edits = edits }, t4) in
    let l = list_takes (length t) t2 edits t3 edits_are in
    let rest_is = part (word_text word) t1 t2 _ (word_takes t1 word t2 word_is) (part (list_text edits) t2 t3 _ l.0 (expect_takes (codes "end\n") End t3 t4 end_is)) in
    let whole = part (codes "tfrec 2 ") t t1 _ (expect_takes (codes "tfrec 2 ") Head t t1 head_is) rest_is
    ∙ sym (three (codes "tfrec 2 ") (word_text word) (list_text edits) (codes "end\n") t4) in
    subst (λ (y : JournalEntry × List ℕ). (t ≡ record_text y.0 ++ y.1) × IsValidList y.0.edits) (ok_is found (r, rest) h4) (whole, l.1)

pub record_again : (r : JournalEntry) (rest : List ℕ) → IsValidList r.edits → record_at (record_text r ++ rest) ≡ Ok (r, rest)
unfolding record_at
record_again r rest made_r =
    let t3 = codes "end\n" ++ rest in
    let t2 = list_text r.edits ++ t3 in
    let t1 = word_text r.word ++ t2 in
    let t0 = codes "tfrec 2 " ++ t1 in
    let read : record_at t0 ≡ Ok (r, rest) =
    continues_with (word_at t1) _ (r.word, t2) _ (word_again r.word t2)
    (continues_with (edit_list_at (length t0) t2) _ (r.edits, t3) _ (list_again (length t0) r.edits t3 made_r) refl) in
    ap record_at (three (codes "tfrec 2 ") (word_text r.word) (list_text r.edits) (codes "end\n") rest) ∙ read

pub step_takes : (t : List ℕ) (e : EditList) (rest : List ℕ) → step_at t ≡ Ok (e, rest) → (t ≡ step_text e ++ rest) × IsValidList e
unfolding step_at
step_takes t e rest h =
    through_one (expect (codes "step ") Head t) _ (e, rest) h λ t1 head_is h1.
    let l = list_takes (length t) t1 e rest h1 in
    (part (codes "step ") t t1 _ (expect_takes (codes "step ") Head t t1 head_is) l.0, l.1)

pub step_again : (e : EditList) (rest : List ℕ) → IsValidList e → step_at (step_text e ++ rest) ≡ Ok (e, rest)
unfolding step_at
step_again e rest made_e = list_again (length (step_text e ++ rest)) e rest made_e

pub steps_take : (n : ℕ) (t : List ℕ) (es : List EditList) (rest : List ℕ) → steps_at n t ≡ Ok (es, rest) → (t ≡ flat_map step_text es ++ rest) × (length es ≡ n) × AllByRecursion IsValidList es
unfolding steps_at
steps_take = many_take step_at step_text IsValidList step_takes

pub steps_again : (es : List EditList) (rest : List ℕ) → AllByRecursion IsValidList es → steps_at (length es) (flat_map step_text es ++ rest) ≡ Ok (es, rest)
unfolding steps_at
steps_again = many_again step_at step_text IsValidList step_again

-- an old record whose lists can be made, and whose number of lists can be read
pub record IsOld (r : OldRecord) : Type 0 where
  pub made : AllByRecursion IsValidList (steps r)
  pub within_limit : length (steps r) ≤ MAX_STEPS

pub four : (a b c d e rest : List ℕ) → ((a ++ b ++ c) ++ d ++ e) ++ rest ≡ a ++ (b ++ (c ++ (d ++ (e ++ rest))))
four a b c d e rest = simp append_assoc

found_is : (others : List EditList) (t6 : List ℕ) (found : OldRecord × List ℕ) (x y : OldHead × List ℕ) → x ≡ y
    → (record { word = y.0.word; first = y.0.first; others = others }, t6) ≡ found → (record { word = x.0.word; first = x.0.first; others = others }, t6) ≡ found
found_is others t6 found x y e h = subst (λ (z : OldHead × List ℕ). (record { word = z.0.word; first = z.0.first; others = others }, t6) ≡ found) (sym e) h

pub old_takes : (t : List ℕ) (r : OldRecord) (rest : List ℕ) → old_record_at t ≡ Ok (r, rest) → (t ≡ old_record_text r ++ rest) × IsOld r
unfolding old_record_at old_head_at
old_takes t r rest h =
    through (old_head_at t) _ (r, rest) h λ head t4 head_is h1.
    through (steps_at head.others t4) _ (r, rest) h1 λ others t5 others_are h2.
    through_one (expect (codes "end\n") End t5) _ (r, rest) h2 λ t6 end_is h3.
    through_one (expect (codes "tfrec 1 ") Head t) _ (head, t4) head_is λ t1 begins g1.
    through (word_at t1) _ (head, t4) g1 λ word t2 word_is g2.
    through (number_at 1 MAX_STEPS newline t2) _ (head, t4) g2 λ count t3 count_is g3.
    through (step_at t3) _ (head, t4) g3 λ first t4' first_is g4.
    let head_eq : (record { word = word; first = first; others = count - 1 }, t4') ≡ (head, t4) = ok_is _ _ g4 in
    let old : OldRecord = record { word = word; first = first; others = others } in
    let n = number_takes 1 MAX_STEPS newline t2 (count, t3) (omega arith) count_is in
    let count_eq : count - 1 ≡ head.others = ap (λ (x : OldHead × List ℕ). x.0.others) head_eq in
    let t4_eq : t4' ≡ t4 = ap (λ (x : OldHead × List ℕ). x.1) head_eq in
    let s = step_takes t3 first t4' first_is in
    let ss = steps_take head.others t4 others t5 others_are in
    let all_are : t3 ≡ flat_map step_text (steps old) ++ t5 =
    part (step_text first) t3 t4 _ (s.0 ∙ ap (λ (y : List ℕ). step_text first ++ y) t4_eq) ss.0 ∙ sym (append_assoc (step_text first) (flat_map step_text others) t5)
    ∙ ap (λ (y : List ℕ). y ++ t5) (sym (flat_map-cons step_text first others)) in
    let count_of : count ≡ length (steps old) = omega (arith, n.1, ss.1, count_eq) in
    let m2 : t2 ≡ number_text newline (length (steps old)) ++ t3 = n.0 ∙ ap (λ (k : ℕ). number_text newline k ++ t3) count_of in
    let rest_is = part (word_text word) t1 t2 _ (word_takes t1 word t2 word_is) (part (number_text newline (length (steps old))) t2 t3 _ m2 (part (flat_map step_text (steps old)) t3 t5 _ all_are (expect_takes (codes "end\n") End t5 t6 end_is))) in
    let whole = part (codes "tfrec 1 ") t t1 _ (expect_takes (codes "tfrec 1 ") Head t t1 begins) rest_is
    ∙ sym (four (codes "tfrec 1 ") (word_text word) (number_text newline (length (steps old))) (flat_map step_text (steps old)) (codes "end\n") t6) in
    let old_is : IsOld old = record { made = (s.1, ss.2); within_limit = omega (arith, n.2, count_of) } in
    let found_eq : (old, t6) ≡ (r, rest) = found_is others t6 (r, rest) (record { word = word; first = first; others = count - 1 }, t4') (head, t4) head_eq (ok_is (record { word = head.word; first = head.first; others = others }, t6) (r, rest) h3) in
    subst (λ (y : OldRecord × List ℕ). (t ≡ old_record_text y.0 ++ y.1) × IsOld y.0) found_eq (whole, old_is)

pub old_again : (r : OldRecord) (rest : List ℕ) → IsOld r → old_record_at (old_record_text r ++ rest) ≡ Ok (r, rest)
unfolding old_record_at old_head_at
old_again r rest old =
    let t5 = codes "end\n" ++ rest in
    let t4 = flat_map step_text r.others ++ t5 in
    let t3 = flat_map step_text (steps r) ++ t5 in
    let t2 = number_text newline (length (steps r)) ++ t3 in
    let t1 = word_text r.word ++ t2 in
    let t0 = codes "tfrec 1 " ++ t1 in
    let some : 1 ≤ length (steps r) = omega arith in
    let others : length r.others ≡ length (steps r) - 1 = omega arith in
    let first_is : step_at t3 ≡ Ok (r.first, t4) =
    ap step_at (ap (λ (y : List ℕ). y ++ t5) (flat_map-cons step_text r.first r.others) ∙ append_assoc (step_text r.first) (flat_map step_text r.others) t5) ∙ step_again r.first t4 old.made.0 in
    let others_are : steps_at (length (steps r) - 1) t4 ≡ Ok (r.others, t5) = ap (λ (k : ℕ). steps_at k t4) (sym others) ∙ steps_again r.others t5 old.made.1 in
    let head : OldHead = record { word = r.word; first = r.first; others = length (steps r) - 1 } in
    let head_is : old_head_at t0 ≡ Ok (head, t4) =
    continues_with (word_at t1) _ (r.word, t2) _ (word_again r.word t2)
    (continues_with (number_at 1 MAX_STEPS newline t2) _ (length (steps r), t3) _ (number_again 1 MAX_STEPS newline (length (steps r)) t3 (omega arith) refl some old.within_limit)
    (continues_with (step_at t3) _ (r.first, t4) _ first_is refl)) in
    let read : old_record_at t0 ≡ Ok (r, rest) =
    continues_with (old_head_at t0) _ (head, t4) _ head_is
    (continues_with (steps_at (length (steps r) - 1) t4) _ (r.others, t5) _ others_are refl) in
    ap old_record_at (four (codes "tfrec 1 ") (word_text r.word) (number_text newline (length (steps r))) (flat_map step_text (steps r)) (codes "end\n") rest) ∙ read
