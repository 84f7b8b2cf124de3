-- Each gap and each token of a tokenization is UTF-8.
use Rattle.std.proofs.Common.{◌≡◌, ℕ, true, false, List, [], ◌∷◌, ◌++◌, length, drop, IsUtf8, refl, sym, subst, take_at}
use Rattle.std.proofs.lemmas.Str.{IsUtf8-take, IsCharBoundary-at_seam}
use Rattle.hcl_token.specs.Tokens.{Pair, whole_text}
use Rattle.hcl_token.specs.TokenizedText.{AreUtf8}
use Rattle.hcl_scan.specs.Characters.{is_prefix_of}
use Rattle.hcl_scan.specs.Modes.{Mode, mode_of, modes_after}
use Rattle.hcl_scan.proofs.OpenMarkers.{HaveMarkers}
use Rattle.hcl_scan.specs.Tokenization.{TokenizesFrom, IsTokenization, byte_order_mark, mark_prefix}
use Rattle.hcl_scan.proofs.MarkLemmas.{after_mark_prefix, mark_prefix_bytes, mark_prefix_utf8}
use Rattle.hcl_scan.proofs.MarkerLemmas.{markers_after, marker_of_mode}
use Rattle.hcl_scan.proofs.Unique.{utf8_after_whitespace, utf8_after_token}

-- before UTF-8
utf8_prefix : (s rest : List ℕ) → IsUtf8 (s ++ rest) → IsUtf8 rest → IsUtf8 s
utf8_prefix s rest u v = subst IsUtf8 (take_at s rest (length s) refl) (IsUtf8-take (s ++ rest) (length s) u (IsCharBoundary-at_seam (s ++ rest) s rest refl v))

pairs_utf8 : (ps : List Pair) (modes left : List Mode) (rest : List ℕ) → HaveMarkers modes → IsUtf8 (whole_text ps rest) → TokenizesFrom modes ps rest left → AreUtf8 ps
pairs_utf8 [] modes left rest h u c = tt
pairs_utf8 (p ∷ ps) modes left rest h u c =
    let mode : Mode = mode_of modes in
    let following : IsUtf8 (p.spelling ++ whole_text ps rest) = utf8_after_whitespace p.gap (p.spelling ++ whole_text ps rest) c.0.0 u in
    let more : IsUtf8 (whole_text ps rest) = utf8_after_token mode p.kind p.spelling (whole_text ps rest) (marker_of_mode modes h) following c.1 in
    let marked : HaveMarkers (modes_after p.kind p.spelling modes) = markers_after p.kind p.spelling (whole_text ps rest) modes c.1.0.1 h in (
      utf8_prefix p.gap (p.spelling ++ whole_text ps rest) u following,
      utf8_prefix p.spelling (whole_text ps rest) following more,
      pairs_utf8 ps (modes_after p.kind p.spelling modes) left rest marked more c.2,
    )

mark_prefix_pairs : (text : List ℕ) (body : List Pair) → IsUtf8 text → AreUtf8 body → AreUtf8 (mark_prefix text ++ body)
mark_prefix_pairs text body u are =
    elim (is_prefix_of byte_order_mark text) as (λ b. is_prefix_of byte_order_mark text ≡ b → AreUtf8 (mark_prefix text ++ body)) [
      | true ↦ λ h.
          let rest : IsUtf8 (drop 3 text) = rw h at (mark_prefix_utf8 text u) in
          let mark : IsUtf8 byte_order_mark = utf8_prefix byte_order_mark (drop 3 text) (subst IsUtf8 (mark_prefix_bytes text h) u) rest in
          rw h (([], (refl, refl)), mark, are)
      | false ↦ λ h. rw h are
    ] refl

pub tokenization_utf8 : (text : List ℕ) (pairs : List Pair) (last : List ℕ) → IsTokenization text pairs last → AreUtf8 pairs
tokenization_utf8 text pairs last c =
    let following : IsUtf8 (whole_text c.tokenizes.body last) = subst IsUtf8 (sym (after_mark_prefix text pairs last [] c.tokenizes)) (mark_prefix_utf8 text c.utf8) in
    let body : AreUtf8 c.tokenizes.body = pairs_utf8 c.tokenizes.body [] [] last tt following c.tokenizes.tokenizes in
    subst AreUtf8 (sym c.tokenizes.prefix) (mark_prefix_pairs text c.tokenizes.body c.utf8 body)
