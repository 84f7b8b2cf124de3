-- The tokenization of a text follows the modes.
use Rattle.std.proofs.Common.{◌≡◌, ◌≢◌, ℕ, suc, ◌+◌, ◌<◌, ◌≤◌, Bool, true, false, not, ◌||◌, ◌==◌, if◌then◌else◌, List, [], ◌∷◌, ◌++◌, length, slice_index, IsUtf8, Some, refl, sym, ap, subst, ◌∙◌, ◌⊎◌, inl, inr, arith, append_assoc, take_at}
use Rattle.std.proofs.lemmas.Bool.{cond_both, and_parts, both_ways, false≢true, eqb-true, ne_eqb, not-true}
use Rattle.std.proofs.lemmas.Bool.Decides.{nat_tests}
use Rattle.std.proofs.lemmas.Str.{IsUtf8-take, IsCharBoundary-at_seam}
use Rattle.std.specs.List.{list_all, concat}
use Rattle.hcl_token.specs.declared.kind.Kind.{Kind}
use Rattle.hcl_token.specs.declared.kind.Kind.TheVariants.{Mark, LineEnd, LineComment, Identifier, Number, QuoteLit, HereClose, HereLit, Slash}
use Rattle.hcl_token.specs.Tokens.{Pair, whole_text}
use Rattle.hcl_scan.specs.Characters.{is_whitespace, is_prefix_of, is_at_line_end}
use Rattle.hcl_scan.specs.Modes.{Mode, mode_of, is_literal, can_close_sequence, modes_after}
use Rattle.hcl_scan.specs.Modes.Mode.{Expression, Sequence, Braces, Quoted, Heredoc}
use Rattle.hcl_scan.specs.Inner.Markers.{HasMarker}
use Rattle.hcl_scan.proofs.OpenMarkers.{HaveMarkers}
use Rattle.hcl_scan.specs.Runs.{UnitLength, is_line_start_after, IsRun}
use Rattle.hcl_scan.specs.Inner.RunLength.{run_length}
use Rattle.hcl_scan.specs.Closing.{is_at_line_end_or_eof, heredoc_unit}
use Rattle.hcl_scan.specs.Lexeme.{comment_unit, quote_unit, Spells, IsLexeme}
use Rattle.hcl_scan.specs.Tokenization.{TokenizesFrom, IsTokenization, byte_order_mark}
use Rattle.hcl_scan.specs.Inner.LexemeStarts.{is_word_start}
use Rattle.hcl_scan.specs.Inner.HeredocToken.{heredoc_token}
use Rattle.hcl_scan.specs.Inner.NextToken.{LexedToken, quoted_token, expression_token, token}
use Rattle.hcl_scan.specs.Follows.{following_text, AllowsNext, LineEndsHere, NextIsNot, FollowsFrom, Follows, mark}
use Rattle.hcl_scan.proofs.RunLemmas.{IsRun-adds}
use Rattle.hcl_scan.proofs.UnitLemmas.{byte_unit_fits, byte_unit_any, quote_unit_fits, quote_unit_any, heredoc_unit_fits}
use Rattle.hcl_scan.proofs.MarkerLemmas.{markers_after, marker_of_mode}
use Rattle.hcl_scan.proofs.NestedLemmas.{AreNested, nested_after}
use Rattle.hcl_scan.proofs.HeredocLemmas.{unit_begins as here_unit_begins}
use Rattle.hcl_scan.proofs.Beats.{unit_begins as quote_unit_begins}
use Rattle.hcl_scan.proofs.Heads.{heads, HeadIs, begins_so, one_passes}
use Rattle.hcl_scan.proofs.Longest.{longest_found}
use Rattle.hcl_scan.proofs.Unique.{utf8_after_whitespace, utf8_after_token, same_found}
use Rattle.hcl_scan.proofs.MarkLemmas.{after_mark_prefix, mark_prefix_utf8}
use Rattle.hcl_scan.proofs.Apart.{Rest}
use Rattle.hcl_scan.proofs.FollowingText.{BothOpen, Alike, HasFollowing, spells_alike, filled_some, far}
use Rattle.hcl_scan.proofs.RunFollowingText.{alike_back}

-- ---- runs that are as long as can be

-- where the longest run is empty, no unit begins
none_run : (unit : UnitLength) → ((at_line_start : Bool) (t : List ℕ) → unit at_line_start t ≤ length t) → (at_line_start : Bool) (t : List ℕ) → run_length unit at_line_start t ≡ 0 → unit at_line_start t ≡ 0
none_run unit fits at_line_start [] h = omega (arith, fits at_line_start [])
none_run unit fits at_line_start (b ∷ t) h =
    cond_both (unit at_line_start (b ∷ t) == 0) 0 _ (λ n. n ≡ 0 → unit at_line_start (b ∷ t) ≡ 0)
    (λ e _. eqb-true (unit at_line_start (b ∷ t)) 0 e) (λ _ k. absurd (omega arith)) h

-- a run that is as long as the longest is not gone on with
full_run : (unit : UnitLength) → ((at_line_start : Bool) (t : List ℕ) → unit at_line_start t ≤ length t) → (at_line_start : Bool) (s rest : List ℕ) → IsRun unit at_line_start s rest → run_length unit at_line_start (s ++ rest) ≡ length s
    → unit (is_line_start_after at_line_start s) rest ≡ 0
full_run unit fits at_line_start s rest run size =
    none_run unit fits (is_line_start_after at_line_start s) rest (omega (arith, IsRun-adds unit at_line_start s rest run, size))

-- a run that is not empty begins with a unit
run_begins : (unit : UnitLength) (at_line_start : Bool) (s rest : List ℕ) → s ≢ [] → IsRun unit at_line_start s rest → 0 < unit at_line_start (s ++ rest)
run_begins unit at_line_start s rest filled ([], e, are) = absurd (filled e)
run_begins unit at_line_start s rest filled ((u ∷ us), e, are) =
    let split : s ++ rest ≡ u ++ (concat us ++ rest) = ap (λ (x : List ℕ). x ++ rest) e ∙ append_assoc u (concat us) rest in
    rw (split, are.1) are.0

same_length : (kind : Kind) (n m : ℕ) → ◌≡◌ {A = LexedToken} (Some (kind, n)) (Some (kind, m)) → n ≡ m
same_length kind n m e = (same_found kind kind n m e).1

-- ---- comments

plain_token_kind : (mode : Mode) (t : List ℕ) → is_literal mode ≡ false → token mode t ≡ expression_token (can_close_sequence mode) t
plain_token_kind Expression t plain = refl
plain_token_kind Sequence t plain = refl
plain_token_kind Braces t plain = refl
plain_token_kind Quoted t plain = absurd (both_ways true plain refl)
plain_token_kind (Heredoc name at_line_start) t plain = absurd (both_ways true plain refl)

comment_full : (c : Bool) (s rest : List ℕ) → Spells Quoted LineComment s rest → expression_token c (s ++ rest) ≡ Some (LineComment, length s) → comment_unit false rest ≡ 0
comment_full c s rest (inl (body, e, run)) is =
    let found : expression_token c (35 ∷ (body ++ rest)) ≡ Some (LineComment, suc (length body)) = subst (λ (x : List ℕ). expression_token c (x ++ rest) ≡ Some (LineComment, length x)) e is in
    let size : 1 + run_length comment_unit false (body ++ rest) ≡ suc (length body) = same_length LineComment (1 + run_length comment_unit false (body ++ rest)) (suc (length body)) found in
    sym (byte_unit_any _ (is_line_start_after false body) rest) ∙ full_run comment_unit (byte_unit_fits _) false body rest run (omega (arith, size))
comment_full c s rest (inr (body, e, run)) is =
    let found : expression_token c (47 ∷ 47 ∷ (body ++ rest)) ≡ Some (LineComment, suc (suc (length body))) = subst (λ (x : List ℕ). expression_token c (x ++ rest) ≡ Some (LineComment, length x)) e is in
    let size : 2 + run_length comment_unit false (body ++ rest) ≡ suc (suc (length body)) = same_length LineComment (2 + run_length comment_unit false (body ++ rest)) (suc (suc (length body))) found in
    sym (byte_unit_any _ (is_line_start_after false body) rest) ∙ full_run comment_unit (byte_unit_fits _) false body rest run (omega (arith, size))

-- LF and CR
abbrev is_line_byte : ℕ → Bool
is_line_byte b = b == 10 || b == 13

pub whitespace_no_line : (b : ℕ) → is_whitespace b ≡ true → is_line_byte b ≡ false
whitespace_no_line b h = grind (arith, nat_tests)

pub line_byte : (b : ℕ) (t : List ℕ) → is_at_line_end (b ∷ t) ≡ true → is_line_byte b ≡ true
line_byte b t h = grind (arith, nat_tests)

not_false : (x : Bool) → not x ≡ false → x ≡ true
not_false true h = refl
not_false false h = absurd (false≢true (sym h))

comment_stop : (b : ℕ) (t : List ℕ) → comment_unit false (b ∷ t) ≡ 0 → is_at_line_end (b ∷ t) ≡ true
comment_stop b t = cond_both (not (is_at_line_end (b ∷ t))) 1 0 (λ n. n ≡ 0 → is_at_line_end (b ∷ t) ≡ true) (λ _ h. absurd (omega arith)) (λ h _. not_false (is_at_line_end (b ∷ t)) h)

-- of the tokens outside of literal text only a line end begins with one
word_no_line : (b : ℕ) → is_word_start b ≡ true → is_line_byte b ≡ false
word_no_line b h = grind (arith, nat_tests)

digit_no_line : (b : ℕ) → HeadIs Number b → is_line_byte b ≡ false
digit_no_line b h = grind (arith, nat_tests)

only_line_end : (kind : Kind) (b : ℕ) → HeadIs kind b → is_line_byte b ≡ true → kind ≡ LineEnd
only_line_end LineEnd b head h = refl
only_line_end Identifier b head h = absurd (both_ways _ (word_no_line b head) h)
only_line_end Number b head h = absurd (both_ways _ (digit_no_line b head) h)
only_line_end kind b head h = absurd (both_ways _ (not-true (is_line_byte b) (one_passes (λ x. not (is_line_byte x)) b (heads kind) head refl)) h)

line_start_at_line_end : (mode : Mode) → is_literal mode ≡ false → (ps : List Pair) (last : List ℕ) → Rest mode ps last → comment_unit false (whole_text ps last) ≡ 0 → LineEndsHere ps last
line_start_at_line_end mode plain [] last rest stop = whitespace_found last rest.0 stop
  where
    whitespace_found : (t : List ℕ) → list_all is_whitespace t ≡ true → comment_unit false t ≡ 0 → t ≡ []
    whitespace_found [] all h = refl
    whitespace_found (b ∷ t) all h = absurd (both_ways _ (whitespace_no_line b (and_parts (is_whitespace b) (list_all is_whitespace t) all).0) (line_byte b t (comment_stop b t h)))
line_start_at_line_end mode plain (q ∷ qs) last rest stop = at_gap q.gap rest.0.0 stop
  where
    head : (0 < length q.spelling) × HeadIs q.kind (slice_index q.spelling 0)
    head = begins_so mode q.kind q.spelling (whole_text qs last) plain rest.1.0 rest.1.1

    at_token : (t : List ℕ) → 0 < length t → HeadIs q.kind (slice_index t 0) → comment_unit false (t ++ whole_text qs last) ≡ 0 → q.kind ≡ LineEnd
    at_token [] some h k = absurd (omega arith)
    at_token (b ∷ t) some h k = only_line_end q.kind b h (line_byte b (t ++ whole_text qs last) (comment_stop b (t ++ whole_text qs last) k))

    at_gap : (gap : List ℕ) → list_all is_whitespace gap ≡ true → comment_unit false (gap ++ (q.spelling ++ whole_text qs last)) ≡ 0 → (gap ≡ []) × (q.kind ≡ LineEnd)
    at_gap [] all h = (refl, at_token q.spelling head.0 head.1 h)
    at_gap (b ∷ gap) all h =
        let more : List ℕ = gap ++ (q.spelling ++ whole_text qs last) in
        absurd (both_ways _ (whitespace_no_line b (and_parts (is_whitespace b) (list_all is_whitespace gap) all).0) (line_byte b more (comment_stop b more h)))

-- ---- literals

quoted_run : (s rest : List ℕ) → s ≢ [] → IsRun quote_unit false s rest → quoted_token (s ++ rest) ≡ Some (QuoteLit, run_length quote_unit false (s ++ rest))
quoted_run s rest filled run =
    let t : List ℕ = s ++ rest in
    let unit : 0 < quote_unit false t = run_begins quote_unit false s rest filled run in
    let is_prefix_of = quote_unit_begins t unit in
    let count : run_length quote_unit false t ≡ length s + run_length quote_unit (is_line_start_after false s) rest = IsRun-adds quote_unit false s rest run in
    let more : 0 < length s = filled_some s filled in
    let some : (run_length quote_unit false t == 0) ≡ false = ne_eqb (run_length quote_unit false t) 0 (λ z. absurd (omega arith)) in
    rw (is_prefix_of.0, is_prefix_of.1, some) refl

heredoc_run : (name : List ℕ) (at_line_start : Bool) (s rest : List ℕ) → s ≢ [] → IsRun (heredoc_unit name) at_line_start s rest → heredoc_token name at_line_start (s ++ rest) ≡ Some (HereLit, run_length (heredoc_unit name) at_line_start (s ++ rest))
heredoc_run name at_line_start s rest filled run =
    let t : List ℕ = s ++ rest in
    let unit : 0 < heredoc_unit name at_line_start t = run_begins (heredoc_unit name) at_line_start s rest filled run in
    let is_prefix_of = here_unit_begins name at_line_start t unit in
    let count : run_length (heredoc_unit name) at_line_start t ≡ length s + run_length (heredoc_unit name) (is_line_start_after at_line_start s) rest = IsRun-adds (heredoc_unit name) at_line_start s rest run in
    let more : 0 < length s = filled_some s filled in
    let some : (run_length (heredoc_unit name) at_line_start t == 0) ≡ false = ne_eqb (run_length (heredoc_unit name) at_line_start t) 0 (λ z. absurd (omega arith)) in
    rw (is_prefix_of.0, is_prefix_of.1, some) refl

quoted_other : (s : List ℕ) (ps : List Pair) (last : List ℕ) → s ≢ [] → IsRun quote_unit false s (whole_text ps last) → quoted_token (s ++ whole_text ps last) ≡ Some (QuoteLit, length s) → Rest Quoted ps last → NextIsNot QuoteLit ps
quoted_other s [] last filled run is rest = tt
quoted_other s (q ∷ qs) last filled run is rest = λ same.
    let more : List ℕ = whole_text (q ∷ qs) last in
    let size : run_length quote_unit false (s ++ more) ≡ length s = same_length QuoteLit _ (length s) (sym (quoted_run s more filled run) ∙ is) in
    let stop : quote_unit (is_line_start_after false s) more ≡ 0 = full_run quote_unit quote_unit_fits false s more run size in
    let next = subst (λ k. Spells Quoted k q.spelling (whole_text qs last)) same rest.1.1 in
    let is_prefix_of : 0 < quote_unit false (q.spelling ++ whole_text qs last) = run_begins quote_unit false q.spelling (whole_text qs last) next.0 next.1 in
    let whole : more ≡ q.spelling ++ whole_text qs last = ap (λ (x : List ℕ). x ++ (q.spelling ++ whole_text qs last)) (rest.0.1 refl) in
    let none : quote_unit false (q.spelling ++ whole_text qs last) ≡ 0 = ap (quote_unit false) (sym whole) ∙ sym (quote_unit_any (is_line_start_after false s) more) ∙ stop in
    absurd (omega (arith, is_prefix_of, none))

heredoc_other : (name : List ℕ) (at_line_start : Bool) (s : List ℕ) (ps : List Pair) (last : List ℕ) → s ≢ [] → IsRun (heredoc_unit name) at_line_start s (whole_text ps last) → heredoc_token name at_line_start (s ++ whole_text ps last) ≡ Some (HereLit, length s)
    → Rest (Heredoc name (is_line_start_after at_line_start s)) ps last → NextIsNot HereLit ps
heredoc_other name at_line_start s [] last filled run is rest = tt
heredoc_other name at_line_start s (q ∷ qs) last filled run is rest = λ same.
    let more : List ℕ = whole_text (q ∷ qs) last in
    let begun : Bool = is_line_start_after at_line_start s in
    let size : run_length (heredoc_unit name) at_line_start (s ++ more) ≡ length s = same_length HereLit _ (length s) (sym (heredoc_run name at_line_start s more filled run) ∙ is) in
    let stop : heredoc_unit name begun more ≡ 0 = full_run (heredoc_unit name) (heredoc_unit_fits name) at_line_start s more run size in
    let next = subst (λ k. Spells (Heredoc name begun) k q.spelling (whole_text qs last)) same rest.1.1 in
    let is_prefix_of : 0 < heredoc_unit name begun (q.spelling ++ whole_text qs last) = run_begins (heredoc_unit name) begun q.spelling (whole_text qs last) next.0 next.1 in
    let whole : more ≡ q.spelling ++ whole_text qs last = ap (λ (x : List ℕ). x ++ (q.spelling ++ whole_text qs last)) (rest.0.1 refl) in
    let none : heredoc_unit name begun (q.spelling ++ whole_text qs last) ≡ 0 = ap (heredoc_unit name begun) (sym whole) ∙ stop in
    absurd (omega (arith, is_prefix_of, none))

-- ---- what a token requires of those after it

allows_next_of : (modes : List Mode) (kind : Kind) (s : List ℕ) (ps : List Pair) (last : List ℕ) → token (mode_of modes) (s ++ whole_text ps last) ≡ Some (kind, length s) → IsLexeme (mode_of modes) kind s (whole_text ps last)
    → Rest (mode_of (modes_after kind s modes)) ps last → AllowsNext kind ps last
allows_next_of modes LineComment s ps last is h rest =
    let plain : is_literal (mode_of modes) ≡ false = not-true (is_literal (mode_of modes)) h.0 in
    line_start_at_line_end (mode_of modes) plain ps last rest
    (comment_full (can_close_sequence (mode_of modes)) s (whole_text ps last) h.1 (sym (plain_token_kind (mode_of modes) (s ++ whole_text ps last) plain) ∙ is))
allows_next_of (Quoted ∷ ms) QuoteLit s ps last is h rest = quoted_other s ps last h.1.0 h.1.1 is rest
allows_next_of modes QuoteLit s ps last is h rest = absurd (false≢true h.0)
allows_next_of (Heredoc name at_line_start ∷ ms) HereLit s ps last is h rest = heredoc_other name at_line_start s ps last h.1.0 h.1.1 is rest
allows_next_of modes HereLit s ps last is h rest = absurd (false≢true h.0)
allows_next_of modes kind s ps last is h rest = tt

-- ---- after a closing line

line_close : (mode : Mode) (kind : Kind) (t more : List ℕ) → kind ≡ LineEnd → Spells mode kind t more → is_at_line_end_or_eof t ≡ true
line_close mode LineEnd t more same (inl e) = rw e refl
line_close mode LineEnd t more same (inr e) = rw e refl
line_close mode kind t more same spells = absurd (cc)

close_bracket_token : (mode : Mode) (kind : Kind) (t more : List ℕ) → 0 < length t → HeadIs kind (slice_index t 0) → Spells mode kind t more → is_at_line_end_or_eof (t ++ more) ≡ true → is_at_line_end_or_eof t ≡ true
close_bracket_token mode kind [] more some head spells h = refl
close_bracket_token mode kind (b ∷ t) more some head spells h = line_close mode kind (b ∷ t) more (only_line_end kind b head (line_byte b (t ++ more) h)) spells

close_near : (mode : Mode) → is_literal mode ≡ false → (ps : List Pair) (last : List ℕ) → Rest mode ps last → is_at_line_end_or_eof (whole_text ps last) ≡ true → is_at_line_end_or_eof (following_text ps last) ≡ true
close_near mode plain [] last rest h = h
close_near mode plain (q ∷ qs) last rest h = at_gap q.gap rest.0.0 h
  where
    at_gap : (gap : List ℕ) → list_all is_whitespace gap ≡ true → is_at_line_end_or_eof (gap ++ (q.spelling ++ whole_text qs last)) ≡ true → is_at_line_end_or_eof (gap ++ q.spelling) ≡ true
    at_gap [] all k =
        let head = begins_so mode q.kind q.spelling (whole_text qs last) plain rest.1.0 rest.1.1 in
        close_bracket_token mode q.kind q.spelling (whole_text qs last) head.0 head.1 rest.1.1 k
    at_gap (b ∷ gap) all k =
        absurd (both_ways _ (whitespace_no_line b (and_parts (is_whitespace b) (list_all is_whitespace gap) all).0) (line_byte b (gap ++ (q.spelling ++ whole_text qs last)) k))

swap_open : (r r' : List ℕ) → BothOpen r r' → BothOpen r' r
swap_open r r' (c, t, t', e, e', sigil) = (c, t', t, e', e, sigil)

swap_heredoc : (r r' : List ℕ) (line : Type 0) → BothOpen r r' ⊎ line → BothOpen r' r ⊎ line
swap_heredoc r r' line (inl both) = inl (swap_open r r' both)
swap_heredoc r r' line (inr h) = inr h

near : (modes : List Mode) (kind : Kind) (s : List ℕ) (ps : List Pair) (last : List ℕ) → HasFollowing modes kind s ps last → AreNested modes → Alike (mode_of modes) kind s (whole_text ps last) (following_text ps last)
near modes LineComment s ps last h nested = alike_back (following_text ps last) (whole_text ps last) (far modes LineComment s ps last h)
near modes Slash s ps last h nested = sym (far modes Slash s ps last h)
near (Quoted ∷ ms) QuoteLit s ps last h nested = alike_back (following_text ps last) (whole_text ps last) (far (Quoted ∷ ms) QuoteLit s ps last h)
near modes QuoteLit s ps last h nested = absurd (false≢true h.1)
near (Heredoc name at_line_start ∷ ms) HereLit s ps last h nested =
    let both = far (Heredoc name at_line_start ∷ ms) HereLit s ps last h in
    (alike_back (following_text ps last) (whole_text ps last) both.0, swap_heredoc (following_text ps last) (whole_text ps last) (is_line_start_after at_line_start s ≡ true) both.1)
near modes HereLit s ps last h nested = absurd (false≢true h.1)
near (Heredoc name at_line_start ∷ ms) HereClose s ps last h nested = close_near (mode_of ms) nested.0 ps last h.4
near modes HereClose s ps last h nested = absurd (false≢true h.1)
near modes kind s ps last h nested = tt

-- ---- the tokens

utf8_prefix : (s rest : List ℕ) → IsUtf8 (s ++ rest) → IsUtf8 rest → IsUtf8 s
utf8_prefix s rest u u_rest = subst IsUtf8 (take_at s rest (length s) refl) (IsUtf8-take (s ++ rest) (length s) u (IsCharBoundary-at_seam (s ++ rest) s rest refl u_rest))

rest_of : (modes : List Mode) (ps : List Pair) (last : List ℕ) → list_all is_whitespace last ≡ true → TokenizesFrom modes ps last [] → Rest (mode_of modes) ps last
rest_of modes [] last is_white c = (is_white, rw c refl)
rest_of modes (q ∷ qs) last is_white c = (c.0, c.1.0)

follows_from : (ps : List Pair) (modes : List Mode) (last : List ℕ) → HaveMarkers modes → AreNested modes → IsUtf8 (whole_text ps last) → list_all is_whitespace last ≡ true → TokenizesFrom modes ps last [] → FollowsFrom modes ps last []
follows_from [] modes last m nested u is_white c = c
follows_from (p ∷ ps) modes last m nested u is_white c =
    let mode : Mode = mode_of modes in
    let more : List ℕ = whole_text ps last in
    let following : List Mode = modes_after p.kind p.spelling modes in
    let marked : HasMarker mode = marker_of_mode modes m in
    let u_token : IsUtf8 (p.spelling ++ more) = utf8_after_whitespace p.gap (p.spelling ++ more) c.0.0 u in
    let u_more : IsUtf8 more = utf8_after_token mode p.kind p.spelling more marked u_token c.1 in
    let m_following : HaveMarkers following = markers_after p.kind p.spelling more modes c.1.0.1 m in
    let nested_following : AreNested following = nested_after p.kind p.spelling modes c.1.0.0 nested in
    let rest : Rest (mode_of following) ps last = rest_of following ps last is_white c.2 in
    let is : token mode (p.spelling ++ more) ≡ Some (p.kind, length p.spelling) = longest_found mode p.kind p.spelling more marked u_token c.1 in
    let allowed : AllowsNext p.kind ps last = allows_next_of modes p.kind p.spelling ps last is c.1.0 rest in
    let has_following : HasFollowing modes p.kind p.spelling ps last = (m, c.1.0.0, allowed, marker_of_mode following m_following, rest) in
    let lexeme : IsLexeme mode p.kind p.spelling (following_text ps last) =
    (c.1.0.0, spells_alike mode p.kind p.spelling more (following_text ps last) marked c.1.0.0 (near modes p.kind p.spelling ps last has_following nested) c.1.0.1) in
    (c.0, utf8_prefix p.spelling more u_token u_more, lexeme, allowed, follows_from ps following last m_following nested_following u_more is_white c.2)

-- ---- the text

at_text_start : (leading : Bool) (pairs body : List Pair) → pairs ≡ (if leading then record { gap = []; kind = Mark; spelling = byte_order_mark } ∷ [] else []) ++ body → (pairs ≡ body) ⊎ (pairs ≡ mark ∷ body)
at_text_start true pairs body e = inr e
at_text_start false pairs body e = inl e

pub tokenization_follows_modes : (text : List ℕ) (pairs : List Pair) (last : List ℕ) → IsTokenization text pairs last → Follows pairs last []
tokenization_follows_modes text pairs last c =
    let u : IsUtf8 (whole_text c.tokenizes.body last) = subst IsUtf8 (sym (after_mark_prefix text pairs last [] c.tokenizes)) (mark_prefix_utf8 text c.utf8) in
    record {
      body = c.tokenizes.body;
      prefix = at_text_start (is_prefix_of byte_order_mark text) pairs c.tokenizes.body c.tokenizes.prefix;
      follows = follows_from c.tokenizes.body [] last tt tt u c.whitespace c.tokenizes.tokenizes;
      whitespace = c.whitespace;
    }
