use Rattle.std.proofs.Common.{◌≡◌, ◌+◌, ℕ, List, [], ◌∷◌, ◌++◌, length, slice_range, sym, ap, subst, subst₂, ◌∙◌, inr}
use Rattle.std.proofs.lemmas.Bool.{iff_false}
use Rattle.hcl_token.specs.declared.kind.Kind.{Kind}
use Rattle.hcl_token.specs.declared.kind.Kind.TheVariants.{QuoteLit}
use Rattle.hcl_token.specs.declared.span.Span.{Span}
use Rattle.hcl_scan.specs.declared.mode.Opening.{Opening}
use Rattle.hcl_scan.specs.Modes.{Mode, mode_of, modes_after}
use Rattle.hcl_scan.specs.Modes.Mode.{Expression}
use Rattle.hcl_scan.specs.Fault.{EndsInFault}
use Rattle.hcl_scan.specs.Inner.LexemeStarts.{LexedToken}
use Rattle.hcl_scan.specs.Inner.OpeningPlaces.{innermost_place}
use Rattle.hcl_scan.specs.Inner.Openings.{region_of, modes_of, places_of}
use Rattle.hcl_scan.specs.Inner.MarkToken.{mark_tokens, token_at}
use Rattle.hcl_scan.specs.Inner.TextAfter.{IsTextAfter}
use Rattle.hcl_scan.specs.Inner.TokenizedTo.{IsTokenizedTo}
use Rattle.hcl_scan.proofs.MarkLemmas.{started}
use Rattle.hcl_scan.proofs.OpeningLemmas.{none_open}
use Rattle.hcl_scan.proofs.PlainLemmas.{literal_more}
use Rattle.hcl_scan.proofs.Steps.{one_more, finished, stopped}
use Rattle.hcl_scan.proofs.tokenize.tokenize_str.Goals as goal

pub scan-init : goal.scan-init
scan-init c =
    let text = c.as_bytes-bytes.result.now in
    let tokens = c.in_ok-at.ensures.tokens ∙ ap (λ (x : List Span). x ++ mark_tokens text) (c.in_ok-reserve.ensures.items ∙ c.clear.ensures.items) in
    let none = c.new-openings.ensures.items in
    let begun = subst₂ (λ (x : List Span) n. IsTokenizedTo text x n [] []) (sym tokens) (sym c.in_ok-at.ensures.length) (started text c.as_bytes-bytes.ensures.utf8) in
    let opened = subst (λ (o : List Opening). IsTokenizedTo text c.push_mark.new.tokens.items c.in_ok-at.at (modes_of o) (places_of o)) (sym none) begun in
    record {
      tokenization = subst (λ (x : List ℕ). IsTokenizedTo x c.push_mark.new.tokens.items c.in_ok-at.at (modes_of c.new-openings.result.items) (places_of c.new-openings.result.items)) c.as_bytes-bytes.ensures.value opened;
      region = sym (ap (λ (o : List Opening). region_of (mode_of (modes_of o))) none);
    }

pub returns-then-is_done-clause-tokenization : goal.returns-then-is_done-clause-tokenization
returns-then-is_done-clause-tokenization c =
    let same = c.as_bytes-bytes.ensures.value in
    let done = c.is_done.ensures.0 c.if-is_done.true in
    let none = sym c.deref.ensures.value ∙ done.1 in
    let places = places_of c.scan.openings.items in
    let plain = c.push_plain_tokens-list in
    let text = c.args.text.now in
    let state = subst (λ (m : List Mode). IsTokenizedTo text plain.result.tokens.items plain.result.at m places) (ap modes_of none) plain.ensures.state in
    let mode : mode_of (modes_of c.scan.openings.items) ≡ Expression = ap (λ x. mode_of (modes_of x)) none in
    let start = rw mode at plain.ensures.gap in
    finished text plain.result.tokens.items plain.result.at plain.result.next.start places c.requires c.utf8.text state start (rw same at done.0)

pub returns-in-None-clause-fault : goal.returns-in-None-clause-fault
returns-in-None-clause-fault c =
    let text = c.args.text.now in
    let plain = c.push_plain_tokens-list in
    let start = plain.result.next.start in
    let same = c.as_bytes-bytes.ensures.value in
    let modes = modes_of c.scan.openings.items in
    let places = places_of c.scan.openings.items in
    let mode = c.mode_in-mode.ensures in
    let none = sym plain.ensures.token ∙ c.in-None.is in
    let opened = c.innermost_template_start-opened.ensures ∙ ap (λ x. innermost_place (modes_of x) (places_of x)) c.deref-in-None.ensures.value in
    let fault = rw (same, mode, opened) at c.fault_at.ensures in
    let unfinished = λ (e : modes ≡ []) (z : start ≡ length text).
    iff_false c.is_done.ensures c.if-is_done.false (z ∙ ap length (sym same), c.deref.ensures.value ∙ none_open c.scan.openings.items e) in
    inr (subst (EndsInFault text) (sym fault) (stopped text plain.result.tokens.items plain.result.at start modes places plain.ensures.state plain.ensures.gap none unfinished))

-- the token leaves the openings
pub scan-preserved : goal.scan-preserved
scan-preserved c =
    let text = c.args.text.now in
    let plain = c.push_plain_tokens-list in
    let at = plain.result.at in
    let start = plain.result.next.start in
    let kind = c.in-Some.kind in
    let stop = start + c.in-Some.len in
    let modes = modes_of c.scan.openings.items in
    let places = places_of c.scan.openings.items in
    let found = sym plain.ensures.token ∙ c.in-Some.is in
    let more = one_more text plain.result.tokens.items at modes places start kind c.in-Some.len plain.ensures.state plain.ensures.gap found in
    let item : Span = record { start = start; stop = stop; kind = kind } in
    let pushed = c.in_ok-tokens-in-Some.ensures in
    let shifted = c.can_change_openings.ensures.modes (slice_range text start stop) modes c.if-can_change_openings.false in
    let placed = c.can_change_openings.ensures.places start modes places c.if-can_change_openings.false in
    let tokens = plain.result.tokens.items ++ item ∷ [] in
    let next = subst₂ (λ (m : List Mode) (o : List ℕ). IsTokenizedTo text tokens stop m o) shifted placed more.1 in
    record {
      tokenization = subst (λ (xs : List Span). IsTokenizedTo text xs stop modes places) (sym pushed) next;
      region = c.scan.invariant.region;
    }

pub scan-preserved-else-text_len-gt0 : goal.scan-preserved-else-text_len-gt0
scan-preserved-else-text_len-gt0 c =
    let text = c.args.text.now in
    let plain = c.push_plain_tokens-list in
    let at = plain.result.at in
    let start = plain.result.next.start in
    let kind = c.in-Some.kind in
    let stop = start + c.in-Some.len in
    let same = c.as_bytes-bytes.ensures.value in
    let modes = modes_of c.scan.openings.items in
    let places = places_of c.scan.openings.items in
    let found = sym plain.ensures.token ∙ c.in-Some.is in
    let more = one_more text plain.result.tokens.items at modes places start kind c.in-Some.len plain.ensures.state plain.ensures.gap found in
    let item : Span = record { start = start; stop = stop; kind = kind } in
    let pushed = c.in_ok-tokens-in-Some.ensures in
    let spelling = rw same at c.slice-spelling.ensures in
    let shifted = c.in_ok-update_openings-in-Some.ensures.modes ∙ ap (λ (s : List ℕ). modes_after kind s modes) spelling in
    let placed = c.in_ok-update_openings-in-Some.ensures.places in
    let tokens = plain.result.tokens.items ++ item ∷ [] in
    let next = subst₂ (λ (m : List Mode) (o : List ℕ). IsTokenizedTo text tokens stop m o) (sym shifted) (sym placed) more.1 in
    record {
      tokenization = subst (λ (xs : List Span). IsTokenizedTo text xs stop (modes_of c.update_openings.new.openings.items) (places_of c.update_openings.new.openings.items)) (sym pushed) next;
      region = c.in_ok-update_openings-in-Some.ensures.region;
    }

-- the text after a `"` is added with it
pub scan-preserved-then-text_len-gt0 : goal.scan-preserved-then-text_len-gt0
scan-preserved-then-text_len-gt0 c =
    let text = c.args.text.now in
    let plain = c.push_plain_tokens-list in
    let start = plain.result.next.start in
    let kind = c.in-Some.kind in
    let stop = start + c.in-Some.len in
    let text_len = plain.result.text_len in
    let same = c.as_bytes-bytes.ensures.value in
    let modes = modes_of c.scan.openings.items in
    let places = places_of c.scan.openings.items in
    let found = sym plain.ensures.token ∙ c.in-Some.is in
    let more = one_more text plain.result.tokens.items plain.result.at modes places start kind c.in-Some.len plain.ensures.state plain.ensures.gap found in
    let spelling = rw same at c.slice-spelling.ensures in
    let updated = c.in_ok-update_openings-in-Some.ensures in
    let shifted = updated.modes ∙ ap (λ (s : List ℕ). modes_after kind s modes) spelling in
    let openings = c.update_openings.new.openings.items in
    let tokens = plain.result.tokens.items ++ token_at start stop kind ∷ [] in
    let opened = subst₂ (λ (m : List Mode) (o : List ℕ). IsTokenizedTo text tokens stop m o) (sym shifted) (sym updated.places) more.1 in
    let after = subst (λ (x : LexedToken). IsTextAfter text start x text_len) c.in-Some.is (plain.ensures.text c.if-text_len-gt0.true) in
    let quoted = shifted ∙ ap (λ (k : Kind). modes_after k (slice_range text start stop) modes) after.0 in
    let longer = literal_more text tokens stop (modes_of openings) (places_of openings) text_len (sym (ap mode_of quoted)) opened after.1 c.if-text_len-gt0.true in
    let text_token : Span = token_at stop (stop + text_len) QuoteLit in
    let pushed = c.in_ok-tokens-in-Some-2.ensures ∙ ap (λ (x : List Span). x ++ text_token ∷ []) c.in_ok-tokens-in-Some.ensures in
    record {
      tokenization = subst (λ (xs : List Span). IsTokenizedTo text xs (stop + text_len) (modes_of openings) (places_of openings)) (sym pushed) longer;
      region = updated.region;
    }
