-- Texts that are pushed part by part.
use Rattle.std.proofs.Common.{◌≡◌, ℕ, ◌+◌, ◌≤◌, List, [], ◌∷◌, ◌++◌, length, take, drop, ap, sym, arith, append_assoc, ◌∙◌}
use Rattle.std.specs.Prelude.{decimal}
use Rattle.std.proofs.Math.Seq.{take-add}
use Rattle.std.proofs.lemmas.List.{length-take-le, length-drop, length-append}
use Rattle.edit_record.specs.Text.{space, newline, number_text, edit_text}

-- two parts that are one text
pub joined : (old mid new a b whole : List ℕ) → mid ≡ old ++ a → new ≡ mid ++ b → whole ≡ a ++ b → new ≡ old ++ whole
joined old mid new a b whole first second is =
    second ∙ ap (λ (x : List ℕ). x ++ b) first ∙ append_assoc old a b ∙ ap (λ (x : List ℕ). old ++ x) (sym is)

-- an edit, whose removed and added bytes begin one list
pub edit_pushed : (at removed added : ℕ) (texts t0 t1 t2 t3 t4 t5 t6 t7 : List ℕ) → removed + added ≤ length texts → t1 ≡ t0 ++ number_text space at → t2 ≡ t1 ++ decimal removed → t3 ≡ t2 ++ space ∷ [] → t4 ≡ t3 ++ decimal added → t5 ≡ t4 ++ newline ∷ [] → t6 ≡ t5 ++ take (removed + added) texts → t7 ≡ t6 ++ newline ∷ [] → t7 ≡ t0 ++ edit_text (record { at = at; removed = take removed texts; added = take added (drop removed texts) })
edit_pushed at removed added texts t0 t1 t2 t3 t4 t5 t6 t7 fits e1 e2 e3 e4 e5 e6 e7 =
    let split_is : length (take removed texts) ≡ removed = length-take-le removed texts (omega arith) in
    let new : length (take added (drop removed texts)) ≡ added = length-take-le added (drop removed texts) (omega (arith, length-drop removed texts)) in
    rw (e7, e6, e5, e4, e3, e2, e1, take-add removed added texts, split_is, new) (simp append_assoc)

parts_len : (a b c r s : List ℕ) → length a + length b + length c + length r + length s + 4 ≡ length ((a ++ space ∷ []) ++ (b ++ space ∷ []) ++ (c ++ newline ∷ []) ++ r ++ s ++ newline ∷ [])
parts_len a b c r s = sym (simp length-append (omega arith))

-- the length of an edit's text, from those of its parts
pub edit_len : (at x y p q n : ℕ) (r s : List ℕ) → length r ≡ x → length s ≡ y → p ≡ length (decimal at) → q ≡ length (decimal x) → n ≡ length (decimal y) → p + q + n + x + y + 4 ≡ length (edit_text (record { at = at; removed = r; added = s }))
edit_len at x y p q n r s removed added e1 e2 e3 =
    (λ i. e1 i + e2 i + e3 i + x + y + 4)
    ∙ (λ i. length (decimal at) + length (decimal (sym removed i)) + length (decimal (sym added i)) + sym removed i + sym added i + 4)
    ∙ parts_len (decimal at) (decimal (length r)) (decimal (length s)) r s
