-- Gaps and tokens that follow the modes and do not join are the tokenization of the text to which
-- they are written.
use Rattle.std.proofs.Common.{◌≡◌, ℕ, zero, suc, ◌<◌, ◌≤◌, true, false, not, ◌||◌, ◌==◌, List, [], ◌∷◌, ◌++◌, length, drop, slice_index, IsUtf8, refl, sym, ap, subst, ◌∙◌, ◌⊎◌, inl, inr, arith, append_assoc, encode_utf8, encode_utf8_all}
use Rattle.std.proofs.lemmas.Bool.{and_parts, both_ways, false_from_ne_true}
use Rattle.std.proofs.lemmas.Bool.Decides.{nat_tests}
use Rattle.std.proofs.lemmas.Str.{IsUtf8-nil, IsUtf8-append, IsUtf8-from_ascii, IsUtf8-encode, encode_same, encodes-chars}
use Rattle.std.specs.List.{list_all}
use Rattle.std.specs.Str.{chars, IsAscii}
use lib.Utf8.{encode}
use Rattle.unicode_ident.proofs.Computing.{unicode_ident}
use Rattle.unicode_ident.specs.Ident.{is_xid_start}
use Rattle.hcl_token.specs.declared.kind.Kind.{Kind}
use Rattle.hcl_token.specs.declared.kind.Kind.TheVariants.{Identifier, Number}
use Rattle.hcl_token.specs.Tokens.{Pair, whole_text}
use Rattle.hcl_scan.specs.Characters.{is_whitespace, is_prefix_of, is_id_start, is_id_continue}
use Rattle.hcl_scan.specs.Modes.{Mode, mode_of, modes_after}
use Rattle.hcl_scan.specs.Modes.Mode.{Expression}
use Rattle.hcl_scan.specs.Inner.Markers.{HasMarker}
use Rattle.hcl_scan.proofs.OpenMarkers.{HaveMarkers}
use Rattle.hcl_scan.specs.Lexeme.{is_identifier, Spells, IsLexeme, IsLongest}
use Rattle.hcl_scan.specs.Tokenization.{TokenizesFrom, IsTokenization, MAX_TEXT, byte_order_mark, mark_prefix}
use Rattle.hcl_scan.specs.Follows.{following_text, FollowsFrom, Follows, AreApart, mark}
use Rattle.hcl_scan.proofs.HeredocLemmas.{marker_at}
use Rattle.hcl_scan.proofs.MarkerLemmas.{markers_after, marker_of_mode}
use Rattle.hcl_scan.proofs.BeatsNumbers.{head_of}
use Rattle.hcl_scan.proofs.Heads.{heads, HeadIs, begins_so, one_passes}
use Rattle.hcl_scan.proofs.Exact.{exact, exact_longest}
use Rattle.hcl_scan.proofs.Ends.{Ends}
use Rattle.hcl_scan.proofs.Apart.{Rest, NextEnds, ends_here}
use Rattle.hcl_scan.proofs.FollowingText.{spells_alike, far}

-- ---- UTF-8

one_ascii : (b : ℕ) → b < 128 → IsAscii (b ∷ [])
one_ascii b h zero = h
one_ascii b h (suc i) = omega arith

pub utf8_whitespace : (t : List ℕ) → list_all is_whitespace t ≡ true → IsUtf8 t
utf8_whitespace [] all = IsUtf8-nil
utf8_whitespace (b ∷ t) all =
    let both = and_parts (is_whitespace b) (list_all is_whitespace t) all in
    let ascii : b < 128 = grind (arith, nat_tests) in
    IsUtf8-append (b ∷ []) t (IsUtf8-from_ascii (b ∷ []) (one_ascii b ascii)) (utf8_whitespace t both.1)

-- ---- the tokens

record IsWritten (modes : List Mode) (ps : List Pair) (last : List ℕ) : Type 0 where
  tokenizes : TokenizesFrom modes ps last []
  utf8 : IsUtf8 (whole_text ps last)
  rest : Rest (mode_of modes) ps last
  ends : NextEnds (mode_of modes) ps last

written : (ps : List Pair) (modes : List Mode) (last : List ℕ) → HaveMarkers modes → FollowsFrom modes ps last [] → list_all is_whitespace last ≡ true → AreApart ps → IsWritten modes ps last
written [] modes last m f is_white apart = record {
  tokenizes = f;
  utf8 = utf8_whitespace last is_white;
  rest = (is_white, rw f refl);
  ends = tt;
}
written (p ∷ ps) modes last m f is_white apart =
    let mode : Mode = mode_of modes in
    let more : List ℕ = whole_text ps last in
    let following : List Mode = modes_after p.kind p.spelling modes in
    let marked : HasMarker mode = marker_of_mode modes m in
    let m_following : HaveMarkers following = markers_after p.kind p.spelling (following_text ps last) modes f.2.1 m in
    let w : IsWritten following ps last = written ps following last m_following f.4 is_white apart.1 in
    let whole : IsLexeme mode p.kind p.spelling more =
    (f.2.0, spells_alike mode p.kind p.spelling (following_text ps last) more marked f.2.0 (far modes p.kind p.spelling ps last (m, f.2.0, f.3, marker_of_mode following m_following, w.rest)) f.2.1) in
    let ends : Ends mode p.kind p.spelling more = ends_here modes p.kind p.spelling ps last m whole f.3 apart.0 w.rest w.ends in
    let u : IsUtf8 (p.spelling ++ more) = IsUtf8-append p.spelling more f.1 w.utf8 in
    let longest : IsLongest mode p.kind p.spelling more = exact_longest mode p.kind p.spelling more marked u (exact mode p.kind p.spelling more marked whole ends) in
    record {
      tokenizes = (f.0, longest, w.tokenizes);
      utf8 = IsUtf8-append p.gap (p.spelling ++ more) (utf8_whitespace p.gap f.0.0) u;
      rest = (f.0, whole);
      ends = ends;
    }

-- ---- the byte order mark

mark_bytes : encode 65279 ≡ byte_order_mark
unfolding encode
mark_bytes = refl

mark_utf8 : IsUtf8 byte_order_mark
mark_utf8 = subst IsUtf8 mark_bytes (IsUtf8-encode 65279 refl)

mark_no_start : is_xid_start 65279 ≡ false
unfolding unicode_ident
mark_no_start = refl

not_prefix : (b : ℕ) (t : List ℕ) → not (b == 239) ≡ true → is_prefix_of byte_order_mark (b ∷ t) ≡ false
not_prefix b t h =
    let other : (239 == b) ≡ false = grind (arith, nat_tests) in
    rw other refl

not_started : (t : List ℕ) → not (slice_index t 0 == 239) ≡ true → is_prefix_of byte_order_mark t ≡ false
not_started [] h = refl
not_started (b ∷ t) h = not_prefix b t h

-- no identifier begins with it
word_no_mark : (s more cs : List ℕ) → IsUtf8 s → chars s ≡ cs → is_identifier cs ≡ true → is_prefix_of byte_order_mark (s ++ more) ≡ false
word_no_mark s more [] u e h = absurd (cc)
word_no_mark s more (c ∷ cs) u e h = false_from_ne_true _ (λ leading.
    let bytes : s ≡ encode_utf8 c ++ encode_utf8_all cs = sym (ap encode_utf8_all (sym e) ∙ encodes-chars s u) in
    let left : s ++ more ≡ encode_utf8 c ++ (encode_utf8_all cs ++ more) = ap (λ (y : List ℕ). y ++ more) bytes ∙ append_assoc (encode_utf8 c) (encode_utf8_all cs) more in
    let right : s ++ more ≡ encode 65279 ++ drop 3 (s ++ more) = marker_at byte_order_mark (s ++ more) leading ∙ ap (λ (y : List ℕ). y ++ drop 3 (s ++ more)) (sym mark_bytes) in
    let same : c ≡ 65279 = (encode_same c 65279 (encode_utf8_all cs ++ more) (drop 3 (s ++ more)) (sym left ∙ right)).0 in
    let first : is_id_start c ≡ true = (and_parts (is_id_start c) (list_all is_id_continue cs) h).0 in
    let none : is_id_start c ≡ false = ap is_id_start same ∙ ap (λ x. x || 65279 == 95) mark_no_start in
    both_ways _ none first)

whitespace_no_mark : (b : ℕ) → is_whitespace b ≡ true → not (b == 239) ≡ true
whitespace_no_mark b h = grind (arith, nat_tests)

digit_no_mark : (b : ℕ) → HeadIs Number b → not (b == 239) ≡ true
digit_no_mark b h = grind (arith, nat_tests)

token_no_mark : (kind : Kind) (s more : List ℕ) → Spells Expression kind s more → 0 < length s → HeadIs kind (slice_index s 0) → is_prefix_of byte_order_mark (s ++ more) ≡ false
token_no_mark Identifier s more h some head = word_no_mark s more (chars s) h.0 refl h.1
token_no_mark Number s more h some head = not_started (s ++ more) (ap (λ b. not (b == 239)) (head_of s more some) ∙ digit_no_mark (slice_index s 0) head)
token_no_mark kind s more h some head = not_started (s ++ more) (ap (λ b. not (b == 239)) (head_of s more some) ∙ one_passes (λ b. not (b == 239)) (slice_index s 0) (heads kind) head refl)

-- nothing but the mark begins with it
no_mark : (ps : List Pair) (last : List ℕ) → Rest Expression ps last → is_prefix_of byte_order_mark (whole_text ps last) ≡ false
no_mark [] last rest = whitespace_found last rest.0
  where
    whitespace_found : (t : List ℕ) → list_all is_whitespace t ≡ true → is_prefix_of byte_order_mark t ≡ false
    whitespace_found [] all = refl
    whitespace_found (b ∷ t) all = not_prefix b t (whitespace_no_mark b (and_parts (is_whitespace b) (list_all is_whitespace t) all).0)
no_mark (q ∷ qs) last rest = at_gap q.gap rest.0.0
  where
    at_gap : (gap : List ℕ) → list_all is_whitespace gap ≡ true → is_prefix_of byte_order_mark (gap ++ (q.spelling ++ whole_text qs last)) ≡ false
    at_gap [] all =
        let head = begins_so Expression q.kind q.spelling (whole_text qs last) refl rest.1.0 rest.1.1 in
        token_no_mark q.kind q.spelling (whole_text qs last) rest.1.1 head.0 head.1
    at_gap (b ∷ gap) all = not_prefix b (gap ++ (q.spelling ++ whole_text qs last)) (whitespace_no_mark b (and_parts (is_whitespace b) (list_all is_whitespace gap) all).0)

-- ---- the text

pub writes_back : (pairs : List Pair) (last : List ℕ) → Follows pairs last [] → AreApart pairs → length (whole_text pairs last) ≤ MAX_TEXT → IsTokenization (whole_text pairs last) pairs last
writes_back pairs last f apart short = at_text_start f.prefix
  where
    at_text_start : (pairs ≡ f.body) ⊎ (pairs ≡ mark ∷ f.body) → IsTokenization (whole_text pairs last) pairs last
    at_text_start (inl e) =
        let w : IsWritten [] f.body last = written f.body [] last tt f.follows f.whitespace (subst AreApart e apart) in
        let none : mark_prefix (whole_text pairs last) ≡ [] = rw (ap (λ (x : List Pair). is_prefix_of byte_order_mark (whole_text x last)) e ∙ no_mark f.body last w.rest) refl in
        record {
          short = short;
          utf8 = subst (λ (x : List Pair). IsUtf8 (whole_text x last)) (sym e) w.utf8;
          tokenizes = record { text_is = refl; body = f.body; prefix = e ∙ ap (λ (x : List Pair). x ++ f.body) (sym none); tokenizes = w.tokenizes };
          whitespace = f.whitespace;
        }
    at_text_start (inr e) =
        let w : IsWritten [] f.body last = written f.body [] last tt f.follows f.whitespace (subst AreApart e apart).1 in
        let whole : whole_text pairs last ≡ byte_order_mark ++ whole_text f.body last = ap (λ (x : List Pair). whole_text x last) e in
        let leading : mark_prefix (whole_text pairs last) ≡ mark ∷ [] = ap mark_prefix whole in
        record {
          short = short;
          utf8 = subst IsUtf8 (sym whole) (IsUtf8-append byte_order_mark (whole_text f.body last) mark_utf8 w.utf8);
          tokenizes = record { text_is = refl; body = f.body; prefix = e ∙ ap (λ (x : List Pair). x ++ f.body) (sym leading); tokenizes = w.tokenizes };
          whitespace = f.whitespace;
        }
