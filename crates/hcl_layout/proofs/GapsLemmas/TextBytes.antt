-- What the bytes of a text say of its gaps and tokens. For speed alone.
use Rattle.std.proofs.Common.{◌≡◌, ◌==◌, ℕ, zero, suc, Bool, true, false, not, nat_le, nat_lt, ◌&&◌, ◌||◌, List, [], ◌∷◌, ◌++◌, length, Option, Some, None, if◌then◌else◌, refl, sym, ap, ap₂, subst, ◌∙◌, arith}
use Rattle.std.specs.List.{list_all}
use Rattle.std.proofs.lemmas.Bool.{and_parts, and_from}
use Rattle.std.proofs.lemmas.Bool.Decides.{nat_tests}
use Rattle.std.proofs.lemmas.List.Folds.{list_all-append}
use Rattle.hcl_token.specs.Tokens.{Pair, whole_text}
use Rattle.hcl_token.specs.TokenizedText.{gap_of, spelling_of, clusters_of}
use Rattle.hcl_token.specs.Inner.AsciiText.{is_ascii_without_cr}
use Rattle.hcl_token.specs.Place.{clusters}
use Rattle.hcl_token.proofs.ClusterLemmas.{clusters-ascii, ascii-append}
use Rattle.hcl_scan.specs.Characters.{is_whitespace, is_prefix_of}
use Rattle.hcl_scan.specs.Modes.{Mode, modes_after}
use Rattle.hcl_scan.specs.Tokenization.{TokenizesFrom, IsTokenization, byte_order_mark, mark_prefix}
use Rattle.hcl_token.specs.declared.kind.Kind.TheVariants.{Mark}
use Rattle.hcl_layout.specs.Gaps.Space.{spaces}
use Rattle.hcl_layout.specs.Gaps.Inner.CodeViews.{is_plain, is_without_tab, AreSpaces, AreByteClusters}
use Rattle.std.specs.Prelude.{slice_get, ⊤}
use Rattle.std.specs.Option.{option_map}

-- ---- printable ASCII and LF

plain_byte : (b : ℕ) → ((nat_le 32 b && nat_lt b 128) || b == 10) ≡ true → (not (b == 9) ≡ true) × ((nat_lt b 128 && not (b == 13)) ≡ true)
plain_byte b h = (grind (arith, nat_tests), grind (arith, nat_tests))

pub plain_no_tab : (t : List ℕ) → is_plain t ≡ true → is_without_tab t ≡ true
plain_no_tab [] h = refl
plain_no_tab (b ∷ t) h =
    let parts = and_parts ((nat_le 32 b && nat_lt b 128) || b == 10) (is_plain t) h in
    and_from (not (b == 9)) (is_without_tab t) (plain_byte b parts.0).0 (plain_no_tab t parts.1)

pub plain_ascii : (t : List ℕ) → is_plain t ≡ true → is_ascii_without_cr t ≡ true
plain_ascii [] h = refl
plain_ascii (b ∷ t) h =
    let parts = and_parts ((nat_le 32 b && nat_lt b 128) || b == 10) (is_plain t) h in
    and_from (nat_lt b 128 && not (b == 13)) (is_ascii_without_cr t) (plain_byte b parts.0).1 (plain_ascii t parts.1)

-- ---- gaps without a tab

abbrev AreWhitespace : List Pair → Type 0
AreWhitespace [] = ⊤
AreWhitespace (p ∷ ps) = (list_all is_whitespace p.gap ≡ true) × AreWhitespace ps

whitespace_from : (modes : List Mode) (ps : List Pair) (rest : List ℕ) (left : List Mode) → TokenizesFrom modes ps rest left → AreWhitespace ps
whitespace_from modes [] rest left h = tt
whitespace_from modes (p ∷ ps) rest left h = (h.0.0, whitespace_from (modes_after p.kind p.spelling modes) ps rest left h.2)

abbrev mark_pair : Pair
mark_pair = record { gap = []; kind = Mark; spelling = byte_order_mark }

after_mark : (text : List ℕ) (body : List Pair) → AreWhitespace body → AreWhitespace (mark_prefix text ++ body)
after_mark text body h = elim (is_prefix_of byte_order_mark text) as (λ b. AreWhitespace ((if b then mark_pair ∷ [] else []) ++ body)) [
  | true ↦ (refl, h)
  | false ↦ h
]

one_space : (b : ℕ) → is_whitespace b ≡ true → not (b == 9) ≡ true → b ≡ 32
one_space b h k = grind (arith, nat_tests)

are_spaces : (g : List ℕ) → list_all is_whitespace g ≡ true → is_without_tab g ≡ true → g ≡ spaces (length g)
are_spaces [] h k = refl
are_spaces (b ∷ g) h k =
    let white = and_parts (is_whitespace b) (list_all is_whitespace g) h in
    let other = and_parts (not (b == 9)) (is_without_tab g) k in
    ap₂ (λ x (xs : List ℕ). x ∷ xs) (one_space b white.0 other.0) (are_spaces g white.1 other.1)

tab_parts : (p : Pair) (ps : List Pair) (last : List ℕ) → is_without_tab (whole_text (p ∷ ps) last) ≡ true → (is_without_tab p.gap ≡ true) × (is_without_tab (whole_text ps last) ≡ true)
tab_parts p ps last k =
    let parts = and_parts (is_without_tab p.gap) (is_without_tab (p.spelling ++ whole_text ps last)) (sym (list_all-append (λ b. not (b == 9)) p.gap (p.spelling ++ whole_text ps last)) ∙ k) in
    let rest = and_parts (is_without_tab p.spelling) (is_without_tab (whole_text ps last)) (sym (list_all-append (λ b. not (b == 9)) p.spelling (whole_text ps last)) ∙ parts.1) in
    (parts.0, rest.1)

spaces_at : (ps : List Pair) (last : List ℕ) → AreWhitespace ps → is_without_tab (whole_text ps last) ≡ true → (i : ℕ) (g : List ℕ) → Some g ≡ gap_of ps i → g ≡ spaces (length g)
spaces_at [] last h k i g e = absurd (cc)
spaces_at (p ∷ ps) last h k zero g e =
    let same : g ≡ p.gap = cc in
    subst (λ (x : List ℕ). x ≡ spaces (length x)) (sym same) (are_spaces p.gap h.0 (tab_parts p ps last k).0)
spaces_at (p ∷ ps) last h k (suc i) g e = spaces_at ps last h.1 (tab_parts p ps last k).1 i g e

-- where a text has no tab, each gap is spaces
pub gaps_are_spaces : (text : List ℕ) (pairs : List Pair) (last : List ℕ) (known : Bool) → IsTokenization text pairs last → (known ≡ true → is_without_tab text ≡ true) → AreSpaces known pairs
gaps_are_spaces text pairs last known c known_is = λ i g e h.
    let white = after_mark text c.tokenizes.body (whitespace_from [] c.tokenizes.body last [] c.tokenizes.tokenizes) in
    let none : is_without_tab (whole_text pairs last) ≡ true = ap is_without_tab (sym c.tokenizes.text_is) ∙ known_is h in
    spaces_at pairs last (subst AreWhitespace (sym c.tokenizes.prefix) white) none i g e

-- ---- tokens in ASCII

ascii_parts : (p : Pair) (ps : List Pair) (last : List ℕ) → is_ascii_without_cr (whole_text (p ∷ ps) last) ≡ true → (is_ascii_without_cr p.spelling ≡ true) × (is_ascii_without_cr (whole_text ps last) ≡ true)
ascii_parts p ps last k =
    let parts = and_parts (is_ascii_without_cr p.gap) (is_ascii_without_cr (p.spelling ++ whole_text ps last)) (sym (ascii-append p.gap (p.spelling ++ whole_text ps last)) ∙ k) in
    and_parts (is_ascii_without_cr p.spelling) (is_ascii_without_cr (whole_text ps last)) (sym (ascii-append p.spelling (whole_text ps last)) ∙ parts.1)

clusters_at : (ps : List Pair) (last : List ℕ) → is_ascii_without_cr (whole_text ps last) ≡ true → (i : ℕ) (s : List ℕ) → Some s ≡ spelling_of ps i → clusters s ≡ length s
clusters_at [] last k i s e = absurd (cc)
clusters_at (p ∷ ps) last k zero s e =
    let parts = ascii_parts p ps last k in
    let same : s ≡ p.spelling = cc in
    subst (λ (x : List ℕ). clusters x ≡ length x) (sym same) (clusters-ascii p.spelling parts.0)
clusters_at (p ∷ ps) last k (suc i) s e = clusters_at ps last (ascii_parts p ps last k).1 i s e

-- where a text is ASCII without CR, each byte of a token is a cluster
pub bytes_are_clusters : (text : List ℕ) (pairs : List Pair) (last : List ℕ) (known : Bool) → IsTokenization text pairs last → (known ≡ true → is_ascii_without_cr text ≡ true) → AreByteClusters known pairs
bytes_are_clusters text pairs last known c known_is = λ i s e h.
    clusters_at pairs last (ap is_ascii_without_cr (sym c.tokenizes.text_is) ∙ known_is h) i s e

mapped : (o : Option Pair) → option_map clusters (option_map (λ (p : Pair). p.spelling) o) ≡ option_map (λ (p : Pair). clusters p.spelling) o
mapped None = refl
mapped (Some p) = refl

-- one token
pub counted : (pairs : List Pair) (i n : ℕ) (s : List ℕ) (known : Bool) → AreByteClusters known pairs → known ≡ true → Some s ≡ spelling_of pairs i → n ≡ length s → Some n ≡ clusters_of pairs i
counted pairs i n s known h known_is s_is n_is =
    ap Some (n_is ∙ sym (h i s s_is known_is)) ∙ ap (option_map clusters) s_is ∙ mapped (slice_get pairs i)
