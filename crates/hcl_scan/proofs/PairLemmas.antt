-- More pairs at the end of those that are tokenized.
use Rattle.std.proofs.Common.{◌≡◌, ℕ, ◌+◌, ◌≤◌, Bool, true, false, List, [], ◌∷◌, ◌++◌, length, if◌then◌else◌, refl, sym, ap, subst, ◌∙◌, arith, length-append}
use Rattle.hcl_token.specs.declared.kind.Kind.{Kind}
use Rattle.hcl_token.specs.declared.kind.Kind.TheVariants.{Mark}
use Rattle.hcl_token.specs.declared.span.Span.{Span}
use Rattle.hcl_token.specs.Tokens.{Pair, whole_text}
use Rattle.hcl_token.specs.Pairs.{InOrder, pair_at, pairs_from}
use Rattle.hcl_scan.specs.Characters.{is_prefix_of}
use Rattle.hcl_scan.specs.Modes.{Mode, mode_of, modes_after}
use Rattle.hcl_scan.proofs.OpenMarkers.{HaveMarkers}
use Rattle.hcl_scan.specs.Lexeme.{IsLongest}
use Rattle.hcl_scan.specs.Tokenization.{IsGap, TokenizesFrom, TokenizesPrefix, byte_order_mark}
use Rattle.hcl_scan.specs.Inner.OpeningPlaces.{opening_places_after, opening_places_after_pairs}
use Rattle.hcl_scan.proofs.MarkerLemmas.{markers_after}
use Rattle.hcl_scan.proofs.Unique.{pair_of}

pub joining_more : (ps : List Pair) (gap s more : List ℕ) (kind : Kind) → whole_text (ps ++ pair_of gap kind s ∷ []) more ≡ whole_text ps (gap ++ (s ++ more))
joining_more [] gap s more kind = refl
joining_more (p ∷ ps) gap s more kind = ap (λ (x : List ℕ). p.gap ++ (p.spelling ++ x)) (joining_more ps gap s more kind)

pub joining_rest : (ps : List Pair) (rest : List ℕ) → length (whole_text ps rest) ≡ length (whole_text ps []) + length rest
joining_rest [] rest = omega arith
joining_rest (p ∷ ps) rest =
    let rec = joining_rest ps rest in
    rw (length-append p.gap (p.spelling ++ whole_text ps rest), length-append p.spelling (whole_text ps rest), length-append p.gap (p.spelling ++ whole_text ps []), length-append p.spelling (whole_text ps [])) (omega arith)

pub tokenizes_more : (ps : List Pair) (modes left : List Mode) (gap s more : List ℕ) (kind : Kind)
    → TokenizesFrom modes ps (gap ++ (s ++ more)) left → IsGap (mode_of left) gap → IsLongest (mode_of left) kind s more
    → TokenizesFrom modes (ps ++ pair_of gap kind s ∷ []) more (modes_after kind s left)
tokenizes_more [] modes left gap s more kind c g longest = (
  subst (λ (m : List Mode). IsGap (mode_of m) gap) (sym c) g,
  subst (λ (m : List Mode). IsLongest (mode_of m) kind s more) (sym c) longest,
  ap (modes_after kind s) c,
)
tokenizes_more (p ∷ ps) modes left gap s more kind c g longest = (
  c.0,
  subst (IsLongest (mode_of modes) p.kind p.spelling) (sym (joining_more ps gap s more kind)) c.1,
  tokenizes_more ps (modes_after p.kind p.spelling modes) left gap s more kind c.2 g longest,
)

-- the markers of the modes that are left
pub markers_after_pairs : (ps : List Pair) (modes left : List Mode) (rest : List ℕ) → HaveMarkers modes → TokenizesFrom modes ps rest left → HaveMarkers left
markers_after_pairs [] modes left rest h c = subst HaveMarkers c h
markers_after_pairs (p ∷ ps) modes left rest h c =
    markers_after_pairs ps (modes_after p.kind p.spelling modes) left rest (markers_after p.kind p.spelling (whole_text ps rest) modes c.1.0.1 h) c.2

-- ---- places

abbrev pub modes_after_pairs : List Mode → List Pair → List Mode
modes_after_pairs modes [] = modes
modes_after_pairs modes (p ∷ ps) = modes_after_pairs (modes_after p.kind p.spelling modes) ps

modes_left : (ps : List Pair) (modes left : List Mode) (rest : List ℕ) → TokenizesFrom modes ps rest left → modes_after_pairs modes ps ≡ left
modes_left [] modes left rest c = c
modes_left (p ∷ ps) modes left rest c = modes_left ps (modes_after p.kind p.spelling modes) left rest c.2

-- the byte order mark changes no mode
modes_prefix : (b : Bool) (body : List Pair)
    → modes_after_pairs [] ((if b then record { gap = []; kind = Mark; spelling = byte_order_mark } ∷ [] else []) ++ body) ≡ modes_after_pairs [] body
modes_prefix true body = refl
modes_prefix false body = refl

pub modes_tokenized : (text : List ℕ) (pairs : List Pair) (rest : List ℕ) (left : List Mode) → TokenizesPrefix text pairs rest left → modes_after_pairs [] pairs ≡ left
modes_tokenized text pairs rest left c =
    ap (modes_after_pairs []) c.prefix ∙ modes_prefix (is_prefix_of byte_order_mark text) c.body ∙ modes_left c.body [] left rest c.tokenizes

places_more : (ps : List Pair) (at : ℕ) (modes : List Mode) (places : List ℕ) (gap s : List ℕ) (kind : Kind)
    → opening_places_after_pairs at modes places (ps ++ pair_of gap kind s ∷ []) ≡ opening_places_after kind (at + length (whole_text ps gap)) (modes_after_pairs modes ps) (opening_places_after_pairs at modes places ps)
places_more [] at modes places gap s kind = refl
places_more (p ∷ ps) at modes places gap s kind =
    let next : ℕ = at + length p.gap + length p.spelling in
    let left : List Mode = modes_after_pairs modes (p ∷ ps) in
    let openings : List ℕ = opening_places_after_pairs at modes places (p ∷ ps) in
    let place : next + length (whole_text ps gap) ≡ at + length (whole_text (p ∷ ps) gap) =
    rw (length-append p.gap (p.spelling ++ whole_text ps gap), length-append p.spelling (whole_text ps gap)) (omega arith) in
    places_more ps next (modes_after p.kind p.spelling modes) (opening_places_after p.kind (at + length p.gap) modes places) gap s kind
    ∙ ap (λ n. opening_places_after kind n left openings) place

-- one token more, which begins at this place
pub places_push : (text : List ℕ) (pairs : List Pair) (rest : List ℕ) (left : List Mode) (start : ℕ) (gap s : List ℕ) (kind : Kind)
    → TokenizesPrefix text pairs rest left → length (whole_text pairs gap) ≡ start
    → opening_places_after_pairs 0 [] [] (pairs ++ pair_of gap kind s ∷ []) ≡ opening_places_after kind start left (opening_places_after_pairs 0 [] [] pairs)
places_push text pairs rest left start gap s kind c e =
    let openings : List ℕ = opening_places_after_pairs 0 [] [] pairs in
    let place : 0 + length (whole_text pairs gap) ≡ start = omega (arith, e) in
    places_more pairs 0 [] [] gap s kind
    ∙ ap (λ n. opening_places_after kind n (modes_after_pairs [] pairs) openings) place
    ∙ ap (λ (m : List Mode). opening_places_after kind start m openings) (modes_tokenized text pairs rest left c)

-- ---- tokens

pub order-push : (tokens : List Span) (from at : ℕ) (item : Span) → InOrder from tokens at → at ≤ item.start → item.start ≤ item.stop → InOrder from (tokens ++ item ∷ []) item.stop
order-push [] from at item o h k = (omega arith, k, refl)
order-push (x ∷ tokens) from at item o h k = (o.0, o.1, order-push tokens x.stop at item o.2 h k)

pub pairs-push : (text : List ℕ) (tokens : List Span) (from at : ℕ) (item : Span) → InOrder from tokens at → pairs_from text from (tokens ++ item ∷ []) ≡ pairs_from text from tokens ++ pair_at text at item ∷ []
pairs-push text [] from at item o = ap (λ n. pair_at text n item ∷ []) o
pairs-push text (x ∷ tokens) from at item o = ap (λ (ps : List Pair). pair_at text from x ∷ ps) (pairs-push text tokens x.stop at item o.2)
