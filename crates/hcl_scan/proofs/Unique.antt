-- The pairs of a text that is tokenized as far as possible are the only ones.
use Rattle.std.proofs.Common.{◌≡◌, ℕ, ◌<◌, true, List, [], ◌∷◌, ◌++◌, length, drop, take, IsUtf8, Some, refl, sym, ap, ap₂, subst, ◌∙◌, arith, take_at, drop_at}
use Rattle.std.proofs.lemmas.Bool.{and_parts}
use Rattle.std.proofs.lemmas.Bool.Decides.{nat_tests}
use Rattle.std.specs.List.{list_all}
use Rattle.hcl_token.specs.declared.kind.Kind.{Kind}
use Rattle.hcl_token.specs.Tokens.{Pair, whole_text}
use Rattle.hcl_scan.specs.Characters.{is_whitespace}
use Rattle.hcl_scan.specs.Modes.{Mode, mode_of, modes_after}
use Rattle.hcl_scan.specs.Inner.Markers.{HasMarker}
use Rattle.hcl_scan.proofs.OpenMarkers.{HaveMarkers}
use Rattle.hcl_scan.specs.Lexeme.{IsLongest}
use Rattle.hcl_scan.specs.Inner.NextToken.{LexedToken, token, gap_length}
use Rattle.hcl_scan.specs.Tokenization.{IsGap, TokenizesFrom}
use Rattle.hcl_scan.specs.Fault.{HasNoToken}
use Rattle.hcl_scan.proofs.TextLemmas.{utf8_tail}
use Rattle.hcl_scan.proofs.MarkerLemmas.{markers_after, marker_of_mode}
use Rattle.hcl_scan.proofs.Found.{IsFound, Sound}
use Rattle.hcl_scan.proofs.Sound.{sound}
use Rattle.hcl_scan.proofs.Longest.{longest_found, token_no_whitespace, gap_is}

pub split_same : (a b c d : List ℕ) → length a ≡ length c → a ++ b ≡ c ++ d → (a ≡ c) × (b ≡ d)
split_same a b c d size e = (
  sym (take_at a b (length a) refl) ∙ ap₂ take size e ∙ take_at c d (length c) refl,
  sym (drop_at a b (length a) refl) ∙ ap₂ drop size e ∙ drop_at c d (length c) refl,
)

pub utf8_after_whitespace : (gap rest : List ℕ) → list_all is_whitespace gap ≡ true → IsUtf8 (gap ++ rest) → IsUtf8 rest
utf8_after_whitespace [] rest all u = u
utf8_after_whitespace (b ∷ gap) rest all u =
    let both = and_parts (is_whitespace b) (list_all is_whitespace gap) all in
    let ascii : b < 128 = grind (arith, nat_tests) in
    utf8_after_whitespace gap rest both.1 (utf8_tail b (gap ++ rest) ascii u)

-- what follows the longest lexeme is UTF-8
pub utf8_after_token : (mode : Mode) (kind : Kind) (s rest : List ℕ) → HasMarker mode → IsUtf8 (s ++ rest) → IsLongest mode kind s rest → IsUtf8 rest
utf8_after_token mode kind s rest m u longest =
    let f : IsFound mode (s ++ rest) kind (length s) = subst (Sound mode (s ++ rest)) (longest_found mode kind s rest m u longest) (sound mode (s ++ rest) m u) in
    subst IsUtf8 (sym (split_same s rest f.spelling f.rest (sym f.len) f.text_is).1) f.utf8

record SamePair (gap gap' s s' rest rest' : List ℕ) (kind kind' : Kind) : Type 0 where
  gaps : gap ≡ gap'
  kinds : kind ≡ kind'
  spellings : s ≡ s'
  rests : rest ≡ rest'

pub same_found : (k k' : Kind) (n n' : ℕ) → ◌≡◌ {A = LexedToken} (Some (k, n)) (Some (k', n')) → (k ≡ k') × (n ≡ n')
same_found k k' n n' e =
    let pairs : ◌≡◌ {A = Kind × ℕ} (k, n) (k', n') = cc in
    (ap (λ (p : Kind × ℕ). p.0) pairs, ap (λ (p : Kind × ℕ). p.1) pairs)

one_pair : (mode : Mode) (gap gap' s s' rest rest' : List ℕ) (kind kind' : Kind) → HasMarker mode → IsUtf8 (gap ++ (s ++ rest)) → gap ++ (s ++ rest) ≡ gap' ++ (s' ++ rest')
    → IsGap mode gap → IsLongest mode kind s rest → IsGap mode gap' → IsLongest mode kind' s' rest' → SamePair gap gap' s s' rest rest' kind kind'
one_pair mode gap gap' s s' rest rest' kind kind' m u e g l g' l' =
    let first : token mode (s ++ rest) ≡ Some (kind, length s) = longest_found mode kind s rest m (utf8_after_whitespace gap (s ++ rest) g.0 u) l in
    let second : token mode (s' ++ rest') ≡ Some (kind', length s') = longest_found mode kind' s' rest' m (utf8_after_whitespace gap' (s' ++ rest') g'.0 (subst IsUtf8 e u)) l' in
    let width : length gap ≡ gap_length mode (gap ++ (s ++ rest)) = gap_is mode gap (s ++ rest) g (λ plain. token_no_whitespace mode (s ++ rest) _ plain first) in
    let width' : length gap' ≡ gap_length mode (gap' ++ (s' ++ rest')) = gap_is mode gap' (s' ++ rest') g' (λ plain. token_no_whitespace mode (s' ++ rest') _ plain second) in
    let split = split_same gap (s ++ rest) gap' (s' ++ rest') (width ∙ ap (gap_length mode) e ∙ sym width') e in
    let found : ◌≡◌ {A = LexedToken} (Some (kind, length s)) (Some (kind', length s')) = sym first ∙ ap (token mode) split.1 ∙ second in
    let both = same_found kind kind' (length s) (length s') found in
    let parts = split_same s rest s' rest' both.1 split.1 in
    record { gaps = split.0; kinds = both.0; spellings = parts.0; rests = parts.1 }

abbrev pub pair_of : List ℕ → Kind → List ℕ → Pair
pair_of gap kind spelling = record { gap = gap; kind = kind; spelling = spelling }

pub same_pair : (p q : Pair) → p.gap ≡ q.gap → p.kind ≡ q.kind → p.spelling ≡ q.spelling → p ≡ q
same_pair p q g k s =
    ap (λ (x : List ℕ). pair_of x p.kind p.spelling) g ∙ ap (λ (x : Kind). pair_of q.gap x p.spelling) k ∙ ap (pair_of q.gap q.kind) s

-- both are tokenized as far as possible
pub record Same (ps qs : List Pair) (rest rest' : List ℕ) (left left' : List Mode) : Type 0 where
  pub pairs : ps ≡ qs
  pub rests : rest ≡ rest'
  pub modes : left ≡ left'

pub one_maximal : (ps qs : List Pair) (modes : List Mode) (rest rest' : List ℕ) (left left' : List Mode)
    → HaveMarkers modes → IsUtf8 (whole_text ps rest) → whole_text ps rest ≡ whole_text qs rest'
    → TokenizesFrom modes ps rest left → TokenizesFrom modes qs rest' left' → HasNoToken (mode_of left) rest → HasNoToken (mode_of left') rest' → Same ps qs rest rest' left left'
one_maximal [] [] modes rest rest' left left' h u e c c' end end' = record { pairs = refl; rests = e; modes = sym c ∙ c' }
one_maximal [] (q ∷ qs) modes rest rest' left left' h u e c c' end end' =
    absurd (subst (λ (m : List Mode). HasNoToken (mode_of m) rest) (sym c) end q.gap q.spelling (whole_text qs rest') q.kind c'.0 c'.1.0 e)
one_maximal (p ∷ ps) [] modes rest rest' left left' h u e c c' end end' =
    absurd (subst (λ (m : List Mode). HasNoToken (mode_of m) rest') (sym c') end' p.gap p.spelling (whole_text ps rest) p.kind c.0 c.1.0 (sym e))
one_maximal (p ∷ ps) (q ∷ qs) modes rest rest' left left' h u e c c' end end' =
    let mode : Mode = mode_of modes in
    let m : HasMarker mode = marker_of_mode modes h in
    let s = one_pair mode p.gap q.gap p.spelling q.spelling (whole_text ps rest) (whole_text qs rest') p.kind q.kind m u e c.0 c.1 c'.0 c'.1 in
    let same : p ≡ q = same_pair p q s.gaps s.kinds s.spellings in
    let u_rest : IsUtf8 (whole_text ps rest) = utf8_after_token mode p.kind p.spelling (whole_text ps rest) m (utf8_after_whitespace p.gap _ c.0.0 u) c.1 in
    let next = subst (λ (x : Pair). TokenizesFrom (modes_after x.kind x.spelling modes) qs rest' left') (sym same) c'.2 in
    let marked : HaveMarkers (modes_after p.kind p.spelling modes) = markers_after p.kind p.spelling (whole_text ps rest) modes c.1.0.1 h in
    let more = one_maximal ps qs (modes_after p.kind p.spelling modes) rest rest' left left' marked u_rest s.rests c.2 next end end' in
    record { pairs = ap₂ (λ x xs. x ∷ xs) same more.pairs; rests = more.rests; modes = more.modes }
