-- The byte order mark that a text begins with, and what follows it.
use Rattle.std.proofs.Common.{◌≡◌, ℕ, Bool, true, false, List, [], ◌∷◌, ◌++◌, length, drop, slice_range, IsUtf8, if◌then◌else◌, refl, sym, ap, ◌∙◌, arith}
use Rattle.std.proofs.lemmas.Str.{IsUtf8-past_char}
use lib.Utf8.{encode}
use Rattle.hcl_token.specs.declared.kind.Kind.TheVariants.{Mark}
use Rattle.hcl_token.specs.declared.span.Span.{Span}
use Rattle.hcl_token.specs.Tokens.{Pair, whole_text}
use Rattle.hcl_token.specs.Pairs.{pairs_of}
use Rattle.hcl_scan.specs.Characters.{is_prefix_of}
use Rattle.hcl_scan.specs.Modes.{Mode}
use Rattle.hcl_scan.specs.Tokenization.{byte_order_mark, mark_prefix, TokenizesPrefix}
use Rattle.hcl_scan.specs.Inner.OpeningPlaces.{opening_places_after_pairs}
use Rattle.hcl_scan.specs.Inner.MarkToken.{mark_tokens, mark_length}
use Rattle.hcl_scan.specs.Inner.TokenizedTo.{IsTokenizedTo}
use Rattle.hcl_scan.proofs.HeredocLemmas.{marker_at}

abbrev mark : Pair
mark = record { gap = []; kind = Mark; spelling = byte_order_mark }

following : (b : Bool) (text : List ℕ) (body : List Pair) (rest : List ℕ)
    → text ≡ whole_text ((if b then record { gap = []; kind = Mark; spelling = byte_order_mark } ∷ [] else []) ++ body) rest → whole_text body rest ≡ drop (if b then 3 else 0) text
following true text body rest e = sym (ap (drop 3) e)
following false text body rest e = sym e

-- after the mark come the other pairs
pub after_mark_prefix : (text : List ℕ) (pairs : List Pair) (rest : List ℕ) (left : List Mode) (c : TokenizesPrefix text pairs rest left) → whole_text c.body rest ≡ drop (mark_length text) text
after_mark_prefix text pairs rest left c = following (is_prefix_of byte_order_mark text) text c.body rest (c.text_is ∙ ap (λ (x : List Pair). whole_text x rest) c.prefix)

pub mark_prefix_bytes : (text : List ℕ) → (is_prefix_of byte_order_mark text ≡ true) → text ≡ 239 ∷ 187 ∷ 191 ∷ drop 3 text
mark_prefix_bytes text h = marker_at byte_order_mark text h

mark_bytes : encode 65279 ≡ byte_order_mark
unfolding encode
mark_bytes = refl

pub mark_prefix_utf8 : (text : List ℕ) → IsUtf8 text → IsUtf8 (drop (mark_length text) text)
mark_prefix_utf8 text u =
    elim (is_prefix_of byte_order_mark text) as (λ b. is_prefix_of byte_order_mark text ≡ b → IsUtf8 (drop (mark_length text) text)) [
      | true ↦ λ h. rw h (IsUtf8-past_char text (drop 3 text) 65279 u (mark_prefix_bytes text h ∙ ap (λ (x : List ℕ). x ++ drop 3 text) (sym mark_bytes)))
      | false ↦ λ h. rw h u
    ] refl

-- the start of the tokenization
pub started : (text : List ℕ) → IsUtf8 text → IsTokenizedTo text (mark_tokens text) (mark_length text) [] []
started text u =
    elim (is_prefix_of byte_order_mark text) as (λ b. is_prefix_of byte_order_mark text ≡ b → IsTokenizedTo text (mark_tokens text) (mark_length text) [] []) [
      | true ↦ λ h.
          let whole : text ≡ 239 ∷ 187 ∷ 191 ∷ drop 3 text = mark_prefix_bytes text h in
          let tokens : List Span = record { start = 0; stop = 3; kind = Mark } ∷ [] in
          let spelling : slice_range text 0 3 ≡ byte_order_mark = ap (λ (x : List ℕ). slice_range x 0 3) whole in
          let pairs : pairs_of text tokens ≡ mark ∷ [] = ap (λ (x : List ℕ). record { gap = []; kind = Mark; spelling = x } ∷ []) spelling in
          let utf8 : IsUtf8 (drop 3 text) = rw h at (mark_prefix_utf8 text u) in
          let leading : mark_prefix text ≡ mark ∷ [] = rw h refl in
          rw h (record {
            within = omega (arith, ap length whole);
            utf8 = utf8;
            tokenizes = record {
              text_is = whole ∙ ap (λ (x : List Pair). whole_text x (drop 3 text)) (sym pairs);
              body = [];
              prefix = pairs ∙ sym (ap (λ (x : List Pair). x ++ []) leading);
              tokenizes = refl;
            };
            places = ap (opening_places_after_pairs 0 [] []) (sym pairs);
            order = (omega arith, omega arith, refl);
          })
      | false ↦ λ h.
          let leading : mark_prefix text ≡ [] = rw h refl in
          rw h (record {
            within = omega arith;
            utf8 = u;
            tokenizes = record { text_is = refl; body = []; prefix = sym (ap (λ (x : List Pair). x ++ []) leading); tokenizes = refl };
            places = refl;
            order = refl;
          })
    ] refl
