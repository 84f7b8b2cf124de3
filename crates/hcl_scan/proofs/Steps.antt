-- The tokenization continues with a token, ends with the text, or stops at an error.
use Rattle.std.proofs.Common.{◌≡◌, ◌≢◌, ℕ, suc, ◌+◌, ◌-◌, ◌<◌, ◌≤◌, Bool, true, false, List, [], ◌∷◌, ◌++◌, length, drop, take, slice_index, slice_range, IsUtf8, Some, None, IfSome, refl, sym, ap, subst, subst₂, ◌∙◌, arith, append-nil, append_assoc, length-append, length-drop, length-take-le, take-append-drop, drop-drop}
use Rattle.std.proofs.lemmas.List.{drop_all}
use Rattle.std.proofs.lemmas.List.Sums.{prefix_len-le-length}
use Rattle.std.proofs.lemmas.Bool.{false≢true}
use Rattle.std.specs.List.{list_all, prefix_len}
use Rattle.hcl_token.specs.declared.kind.Kind.{Kind}
use Rattle.hcl_token.specs.declared.span.Span.{Span}
use Rattle.hcl_token.specs.Tokens.{Pair, whole_text}
use Rattle.hcl_token.specs.Pairs.{pairs_of}
use Rattle.hcl_scan.specs.Characters.{is_whitespace}
use Rattle.hcl_scan.specs.Modes.{Mode, mode_of, is_literal, modes_after}
use Rattle.hcl_scan.specs.Modes.Mode.{Expression, Sequence}
use Rattle.hcl_scan.specs.Inner.Markers.{HasMarker}
use Rattle.hcl_scan.proofs.OpenMarkers.{HaveMarkers}
use Rattle.hcl_scan.specs.Lexeme.{IsLexeme, IsLongest}
use Rattle.hcl_scan.specs.Inner.NextToken.{LexedToken, expression_token, token, gap_length}
use Rattle.hcl_scan.specs.Tokenization.{IsGap, TokenizesFrom, TokenizesPrefix, IsTokenization, MAX_TEXT, mark_prefix}
use Rattle.hcl_scan.specs.Fault.{EndsInFault, fault_at}
use Rattle.hcl_scan.specs.Inner.OpeningPlaces.{innermost_place, opening_places_after, opening_places_after_pairs}
use Rattle.hcl_scan.specs.Inner.TokenizedTo.{IsTokenizedTo}
use Rattle.hcl_scan.proofs.Pieces.{prefix_all}
use Rattle.hcl_scan.proofs.Found.{IsFound, Sound, Beats}
use Rattle.hcl_scan.proofs.MarkerLemmas.{marker_of_mode}
use Rattle.hcl_scan.proofs.OpeningPlaces.{template_place}
use Rattle.hcl_scan.proofs.Sound.{sound}
use Rattle.hcl_scan.proofs.Beats.{beats}
use Rattle.hcl_scan.proofs.Longest.{found_longest, none_found, token_no_whitespace, gap_is}
use Rattle.hcl_scan.proofs.Unique.{split_same, pair_of, utf8_after_whitespace}
use Rattle.hcl_scan.proofs.PairLemmas.{joining_more, joining_rest, tokenizes_more, markers_after_pairs, places_push, order-push, pairs-push}

-- the markers of the modes that are left
markers_tokenized : (text : List ℕ) (pairs : List Pair) (rest : List ℕ) (left : List Mode) → TokenizesPrefix text pairs rest left → HaveMarkers left
markers_tokenized text pairs rest left c = markers_after_pairs c.body [] left rest tt c.tokenizes

pub marker_tokenized : (text : List ℕ) (tokens : List Span) (at : ℕ) (modes : List Mode) (places : List ℕ) → IsTokenizedTo text tokens at modes places → HasMarker (mode_of modes)
marker_tokenized text tokens at modes places c = marker_of_mode modes (markers_tokenized text (pairs_of text tokens) (drop at text) modes c.tokenizes)

gap_is_gap : (mode : Mode) (t : List ℕ) → (gap_length mode t ≤ length t) × IsGap mode (take (gap_length mode t) t)
gap_is_gap mode t =
    elim (is_literal mode) as (λ b. is_literal mode ≡ b → (gap_length mode t ≤ length t) × IsGap mode (take (gap_length mode t) t)) [
      | true ↦ λ h. rw h (omega arith, (refl, λ _. refl))
      | false ↦ λ h. rw h (prefix_len-le-length is_whitespace t, (prefix_all is_whitespace t, λ k. absurd (false≢true k)))
    ] refl

-- the gap at a place, and what follows it
pub record GapAt (text : List ℕ) (mode : Mode) (at start : ℕ) : Type 0 where
  pub within : start ≤ length text
  pub after_at : at ≤ start
  pub split : drop at text ≡ slice_range text at start ++ drop start text
  pub whitespace : IsGap mode (slice_range text at start)
  pub utf8 : IsUtf8 (drop start text)

pub gap_at : (text : List ℕ) (mode : Mode) (at start : ℕ) → at ≤ length text → IsUtf8 (drop at text) → start ≡ at + gap_length mode (drop at text) → GapAt text mode at start
gap_at text mode at start within u e =
    let t : List ℕ = drop at text in
    let g = gap_is_gap mode t in
    let width : start - at ≡ gap_length mode t = omega arith in
    let rest : drop start text ≡ drop (start - at) t = sym (drop-drop (start - at) at text ∙ ap (λ n. drop n text) (omega arith)) in
    let split : t ≡ take (start - at) t ++ drop start text = sym (ap (λ (x : List ℕ). take (start - at) t ++ x) rest ∙ take-append-drop (start - at) t) in
    let is_white : IsGap mode (take (start - at) t) = subst (λ n. IsGap mode (take n t)) (sym width) g.1 in
    record {
      within = omega (arith, g.0, length-drop {A = ℕ} at text);
      after_at = omega arith;
      split = split;
      whitespace = is_white;
      utf8 = utf8_after_whitespace (take (start - at) t) (drop start text) is_white.0 (subst IsUtf8 split u);
    }

-- the tokenization continues with a token
pub one_more : (text : List ℕ) (tokens : List Span) (at : ℕ) (modes : List Mode) (places : List ℕ) (start : ℕ) (kind : Kind) (len : ℕ)
    → IsTokenizedTo text tokens at modes places
    → start ≡ at + gap_length (mode_of modes) (drop at text)
    → token (mode_of modes) (drop start text) ≡ Some (kind, len)
    → (0 < len)
    × IsTokenizedTo text (tokens ++ record { start = start; stop = start + len; kind = kind } ∷ []) (start + len)
    (modes_after kind (slice_range text start (start + len)) modes) (opening_places_after kind start modes places)
one_more text tokens at modes places start kind len c start_is found =
    let mode : Mode = mode_of modes in
    let stop : ℕ = start + len in
    let item : Span = record { start = start; stop = stop; kind = kind } in
    let m : HasMarker mode = marker_tokenized text tokens at modes places c in
    let g : GapAt text mode at start = gap_at text mode at start c.within c.utf8 start_is in
    let t : List ℕ = drop start text in
    let f : IsFound mode t kind len = subst (Sound mode t) found (sound mode t m g.utf8) in
    let size : length t ≡ len + length f.rest = ap length f.text_is ∙ length-append f.spelling f.rest ∙ ap (λ n. n + length f.rest) f.len in
    let within : stop ≤ length text = omega (arith, size, length-drop {A = ℕ} start text, g.within) in
    let s : List ℕ = slice_range text start stop in
    let more : List ℕ = drop stop text in
    let width : stop - start ≡ len = omega arith in
    let short : length s ≡ len = length-take-le (stop - start) t (omega arith) ∙ width in
    let rest : drop (stop - start) t ≡ more = drop-drop (stop - start) start text ∙ ap (λ n. drop n text) (omega arith) in
    let split : t ≡ s ++ more = sym (ap (λ (x : List ℕ). s ++ x) (sym rest) ∙ take-append-drop (stop - start) t) in
    let same = split_same f.spelling f.rest s more (f.len ∙ sym short) (sym f.text_is ∙ split) in
    let longest : IsLongest mode kind s more = subst₂ (IsLongest mode kind) same.0 same.1 (found_longest mode t kind len m found f) in
    let gap : List ℕ = slice_range text at start in
    let both : drop at text ≡ gap ++ (s ++ more) = g.split ∙ ap (λ (x : List ℕ). gap ++ x) split in
    let pairs : List Pair = pairs_of text tokens in
    let body : List Pair = c.tokenizes.body in
    let pair : Pair = pair_of gap kind s in
    let pushed : pairs_of text (tokens ++ item ∷ []) ≡ pairs ++ pair ∷ [] = pairs-push text tokens 0 at item c.order in
    let text_is : text ≡ whole_text pairs (gap ++ (s ++ more)) = c.tokenizes.text_is ∙ ap (whole_text pairs) both in
    let place : length (whole_text pairs gap) ≡ start =
    omega (arith, ap length text_is, joining_rest pairs (gap ++ (s ++ more)), joining_rest pairs gap, length-append gap (s ++ more), length-append s more, short, ap length split, length-drop {A = ℕ} start text, within) in
    let tokens_so_split : TokenizesFrom [] (body ++ pair ∷ []) more (modes_after kind s modes) =
    tokenizes_more body [] modes gap s more kind (subst (λ (x : List ℕ). TokenizesFrom [] body x modes) both c.tokenizes.tokenizes) g.whitespace longest in
    let openings : opening_places_after kind start modes places ≡ opening_places_after_pairs 0 [] [] (pairs ++ pair ∷ []) =
    ap (opening_places_after kind start modes) c.places ∙ sym (places_push text pairs (drop at text) modes start gap s kind c.tokenizes place) in (
      f.some,
      record {
        within = within;
        utf8 = subst IsUtf8 same.1 f.utf8;
        tokenizes = record {
          text_is = text_is ∙ sym (joining_more pairs gap s more kind) ∙ ap (λ (x : List Pair). whole_text x more) (sym pushed);
          body = body ++ pair ∷ [];
          prefix = pushed ∙ ap (λ (x : List Pair). x ++ pair ∷ []) c.tokenizes.prefix ∙ append_assoc (mark_prefix text) body (pair ∷ []);
          tokenizes = tokens_so_split;
        };
        places = openings ∙ ap (opening_places_after_pairs 0 [] []) (sym pushed);
        order = order-push tokens 0 at item c.order g.after_at (omega arith);
      },
    )

pub token_within : (mode : Mode) (text : List ℕ) (at : ℕ) → HasMarker mode → at ≤ length text → IsUtf8 (drop at text) → (found : LexedToken) → found ≡ token mode (drop at text)
    → IfSome found (λ f. (0 < f.1) × (at + f.1 ≤ length text))
token_within mode text at m within u None e = tt
token_within mode text at m within u (Some f) e =
    let t : List ℕ = drop at text in
    let is : IsFound mode t f.0 f.1 = subst (Sound mode t) (sym e) (sound mode t m u) in
    let size : length t ≡ f.1 + length is.rest = ap length is.text_is ∙ length-append is.spelling is.rest ∙ ap (λ n. n + length is.rest) is.len in
    (is.some, omega (arith, size, length-drop {A = ℕ} at text))

pub expression_within : (closes : Bool) (text : List ℕ) (at : ℕ) → at ≤ length text → IsUtf8 (drop at text) → (found : LexedToken) → found ≡ expression_token closes (drop at text)
    → IfSome found (λ f. (0 < f.1) × (at + f.1 ≤ length text))
expression_within true text at within u found e = token_within Sequence text at tt within u found e
expression_within false text at within u found e = token_within Expression text at tt within u found e

-- a lexeme at the start is not skipped: some token is found there
lexeme_found : (mode : Mode) (kind : Kind) (s rest : List ℕ) → HasMarker mode → IsLexeme mode kind s rest → (f : Kind × ℕ) × (token mode (s ++ rest) ≡ Some f)
lexeme_found mode kind s rest m lexeme = by_found (token mode (s ++ rest)) refl (beats mode kind s rest m lexeme)
  where
    by_found : (x : LexedToken) → token mode (s ++ rest) ≡ x → Beats x kind (length s) → (f : Kind × ℕ) × (token mode (s ++ rest) ≡ Some f)
    by_found None e b = absurd b
    by_found (Some f) e b = (f, e)

pub lexeme_no_whitespace : (mode : Mode) (kind : Kind) (s rest : List ℕ) → HasMarker mode → IsLexeme mode kind s rest → is_literal mode ≡ false → is_whitespace (slice_index (s ++ rest) 0) ≡ false
lexeme_no_whitespace mode kind s rest m lexeme plain = let f = lexeme_found mode kind s rest m lexeme in token_no_whitespace mode (s ++ rest) f.0 plain f.1

prefix_then_not : (p : ℕ → Bool) (t : List ℕ) → p 0 ≡ false → p (slice_index (drop (prefix_len p t) t) 0) ≡ false
prefix_then_not p [] h = h
prefix_then_not p (b ∷ t) h =
    elim (p b) as (λ x. p b ≡ x → p (slice_index (drop (prefix_len p (b ∷ t)) (b ∷ t)) 0) ≡ false) [
      | true ↦ λ k.
          let more : suc (prefix_len p t) ≡ 1 + prefix_len p t = omega arith in
          rw k (subst (λ n. p (slice_index (drop n (b ∷ t)) 0) ≡ false) more (prefix_then_not p t h))
      | false ↦ λ k. rw k k
    ] refl

-- after the whitespace of a gap there is no more whitespace
no_gap_after_gap : (mode : Mode) (t : List ℕ) → is_literal mode ≡ false → is_whitespace (slice_index (drop (gap_length mode t) t) 0) ≡ false
no_gap_after_gap mode t plain = rw plain (prefix_then_not is_whitespace t refl)

-- the text is tokenized to its end
pub finished : (text : List ℕ) (tokens : List Span) (at start : ℕ) (places : List ℕ) → length text ≤ MAX_TEXT → IsUtf8 text → IsTokenizedTo text tokens at [] places
    → start ≡ at + gap_length Expression (drop at text) → start ≡ length text → IsTokenization text (pairs_of text tokens) (drop at text)
finished text tokens at start places short u c start_is end =
    let g : GapAt text Expression at start = gap_at text Expression at start c.within c.utf8 start_is in
    let none : drop start text ≡ [] = drop_all start text (omega arith) in
    let all : drop at text ≡ slice_range text at start = g.split ∙ ap (λ (x : List ℕ). slice_range text at start ++ x) none ∙ append-nil (slice_range text at start) in
    record {
      short = short;
      utf8 = u;
      tokenizes = c.tokenizes;
      whitespace = subst (λ (x : List ℕ). list_all is_whitespace x ≡ true) (sym all) g.whitespace.0;
    }

-- no further token is found
pub stopped : (text : List ℕ) (tokens : List Span) (at start : ℕ) (modes : List Mode) (places : List ℕ) → IsTokenizedTo text tokens at modes places
    → start ≡ at + gap_length (mode_of modes) (drop at text) → token (mode_of modes) (drop start text) ≡ None → (modes ≡ [] → start ≢ length text)
    → EndsInFault text (fault_at (mode_of modes) (innermost_place modes places) start (drop start text))
stopped text tokens at start modes places c start_is none unfinished =
    let mode : Mode = mode_of modes in
    let m : HasMarker mode = marker_tokenized text tokens at modes places c in
    let t : List ℕ = drop at text in
    let g : GapAt text mode at start = gap_at text mode at start c.within c.utf8 start_is in
    let gap : List ℕ = slice_range text at start in
    let rest : List ℕ = drop start text in
    let pairs : List Pair = pairs_of text tokens in
    let text_is : text ≡ whole_text pairs (gap ++ rest) = c.tokenizes.text_is ∙ ap (whole_text pairs) g.split in
    let width : length gap ≡ gap_length mode t = length-take-le (start - at) t (omega (arith, g.within, length-drop {A = ℕ} at text)) ∙ omega (arith, g.after_at) in
    let place : length (whole_text pairs gap) ≡ start =
    omega (arith, ap length text_is, joining_rest pairs (gap ++ rest), joining_rest pairs gap, length-append gap rest, length-drop {A = ℕ} start text, g.within) in
    record {
      pairs = pairs;
      gap = gap;
      rest = rest;
      left = modes;
      tokenizes = record { text_is = text_is; body = c.tokenizes.body; prefix = c.tokenizes.prefix; tokenizes = subst (λ (x : List ℕ). TokenizesFrom [] c.tokenizes.body x modes) g.split c.tokenizes.tokenizes };
      ends = λ gap' s more kind is_white lexeme same.
          let width' : length gap' ≡ gap_length mode (gap' ++ (s ++ more)) = gap_is mode gap' (s ++ more) is_white (lexeme_no_whitespace mode kind s more m lexeme) in
          let size : length gap ≡ length gap' = width ∙ ap (gap_length mode) (g.split ∙ same) ∙ sym width' in
          none_found mode rest m none kind s more lexeme (sym (split_same gap rest gap' (s ++ more) size same).1);
      whitespace = g.whitespace;
      past = λ plain. subst (λ (x : List ℕ). is_whitespace (slice_index x 0) ≡ false) (drop-drop (gap_length mode t) at text ∙ ap (λ n. drop n text) (sym start_is)) (no_gap_after_gap mode t plain);
      unfinished = λ e z. unfinished e (omega (arith, ap length z, length-drop {A = ℕ} start text, g.within));
      fault_is =
          ap (λ n. fault_at mode (innermost_place modes places) n rest) (sym place)
          ∙ ap (λ (x : List ℕ). fault_at mode (innermost_place modes x) (length (whole_text pairs gap)) rest) c.places
          ∙ ap (λ n. fault_at mode n (length (whole_text pairs gap)) rest) (sym (template_place text pairs (drop at text) modes c.tokenizes));
    }
