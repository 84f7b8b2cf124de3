-- A run stays one where other text follows it, as far as the two texts begin alike.
use Rattle.std.proofs.Common.{◌≡◌, ℕ, suc, ◌+◌, ◌<◌, ◌≤◌, Bool, true, false, not, ◌&&◌, ◌||◌, ◌==◌, if◌then◌else◌, List, [], ◌∷◌, ◌++◌, length, drop, slice_index, refl, sym, ap, ap₂, subst, ◌∙◌, arith, append_assoc}
use Rattle.std.proofs.lemmas.Bool.{or_right, cond_both, and_parts, eqb-true, ne_eqb, not-true, false≢true}
use Rattle.std.proofs.lemmas.Bool.Decides.{nat_tests}
use Rattle.std.specs.List.{concat, list_all, prefix_len}
use Rattle.unicode_ident.proofs.IdentLemmas.{is_xid_start-ascii, is_xid_continue-ascii}
use Rattle.hcl_scan.specs.Runs.{UnitLength, is_line_start_after, AreUnitsOf, IsRun}
use Rattle.hcl_scan.specs.Characters.{is_whitespace, is_at_line_end, is_sigil, sigil_length, is_prefix_of, is_id_start, is_id_continue}
use Rattle.hcl_scan.specs.Closing.{is_at_line_end_or_eof, after_marker, is_closing_line, heredoc_unit}
use Rattle.hcl_scan.specs.Lexeme.{IsIdentifier, comment_unit, inline_unit, quote_unit, is_simple_escape, has_four_hex, escape_length}
use Rattle.hcl_scan.proofs.RunLemmas.{line_start_after-append}
use Rattle.hcl_scan.proofs.MarkerLemmas.{identifier_avoids}

-- ---- two texts that begin alike

-- as far as a unit before them looks: at the first byte, and after a `$` or a `%` at the next
pub record IsAlike (r r' : List ℕ) : Type 0 where
  pub first : slice_index r 0 ≡ slice_index r' 0
  pub second : is_sigil (slice_index r 0) ≡ true → slice_index r 1 ≡ slice_index r' 1

pub alike_back : (r r' : List ℕ) → IsAlike r r' → IsAlike r' r
alike_back r r' a = record { first = sym a.first; second = λ h. sym (a.second (ap is_sigil a.first ∙ h)) }

-- after the same text
pub alike_after : (mid r r' : List ℕ) → IsAlike r r' → IsAlike (mid ++ r) (mid ++ r')
alike_after [] r r' a = a
alike_after (b ∷ []) r r' a = record { first = refl; second = λ _. a.first }
alike_after (b ∷ c ∷ mid) r r' a = record { first = refl; second = λ _. refl }

-- ---- runs

module _ (unit : UnitLength) (r r' : List ℕ) (Holds : Bool → List ℕ → Type 0)
    (step : (at_line_start : Bool) (u mid : List ℕ) → 0 < length u → Holds at_line_start (u ++ mid) → unit at_line_start (u ++ (mid ++ r)) ≡ length u → unit at_line_start (u ++ (mid ++ r')) ≡ length u)
    (keeps : (at_line_start : Bool) (u mid : List ℕ) → Holds at_line_start (u ++ mid) → Holds (is_line_start_after at_line_start u) mid) where
  are_same : (at_line_start : Bool) (us : List (List ℕ)) → Holds at_line_start (concat us) → AreUnitsOf unit at_line_start us r → AreUnitsOf unit at_line_start us r'
  are_same at_line_start [] h are = tt
  are_same at_line_start (u ∷ us) h are =
      (are.0, step at_line_start u (concat us) are.0 h are.1, are_same (is_line_start_after at_line_start u) us (keeps at_line_start u (concat us) h) are.2)

  pub run_same : (at_line_start : Bool) (s : List ℕ) → Holds at_line_start s → IsRun unit at_line_start s r → IsRun unit at_line_start s r'
  run_same at_line_start s h (us, e, are) = (us, e, are_same at_line_start us (subst (Holds at_line_start) e h) are)

-- of units that look no further than texts are alike
abbrev Always : Bool → List ℕ → Type 0
Always at_line_start t = Unit {0}

-- ---- comments

line_end_alike : (b : ℕ) (y y' : List ℕ) → slice_index y 0 ≡ slice_index y' 0 → is_at_line_end (b ∷ y) ≡ is_at_line_end (b ∷ y')
line_end_alike b y y' e = ap (λ c. b == 10 || (b == 13 && c == 10)) e

comment_step : (r r' : List ℕ) → IsAlike r r' → (at_line_start : Bool) (u mid : List ℕ) → 0 < length u → Always at_line_start (u ++ mid) → comment_unit at_line_start (u ++ (mid ++ r)) ≡ length u → comment_unit at_line_start (u ++ (mid ++ r')) ≡ length u
comment_step r r' a at_line_start [] mid some h is = absurd (omega arith)
comment_step r r' a at_line_start (b ∷ v) mid some h is =
    let near = alike_after v (mid ++ r) (mid ++ r') (alike_after mid r r' a) in
    ap (λ x. if not x then 1 else 0) (sym (line_end_alike b (v ++ (mid ++ r)) (v ++ (mid ++ r')) near.first)) ∙ is

pub comment_same : (r r' s : List ℕ) → IsAlike r r' → IsRun comment_unit false s r → IsRun comment_unit false s r'
comment_same r r' s a run = run_same comment_unit r r' Always (comment_step r r' a) (λ _ _ _ _. tt) false s tt run

inline_step : (r r' : List ℕ) → IsAlike r r' → (at_line_start : Bool) (u mid : List ℕ) → 0 < length u → Always at_line_start (u ++ mid) → inline_unit at_line_start (u ++ (mid ++ r)) ≡ length u → inline_unit at_line_start (u ++ (mid ++ r')) ≡ length u
inline_step r r' a at_line_start [] mid some h is = absurd (omega arith)
inline_step r r' a at_line_start (b ∷ v) mid some h is =
    let near = alike_after v (mid ++ r) (mid ++ r') (alike_after mid r r' a) in
    ap (λ x. if not (b == 42 && x == 47) then 1 else 0) (sym near.first) ∙ is

-- the text of an inline comment is followed by its `*/`
pub inline_same : (r r' s : List ℕ) → IsRun inline_unit false s (42 ∷ 47 ∷ r) → IsRun inline_unit false s (42 ∷ 47 ∷ r')
inline_same r r' s run =
    let a : IsAlike (42 ∷ 47 ∷ r) (42 ∷ 47 ∷ r') = record { first = refl; second = λ _. refl } in
    run_same inline_unit (42 ∷ 47 ∷ r) (42 ∷ 47 ∷ r') Always (inline_step (42 ∷ 47 ∷ r) (42 ∷ 47 ∷ r') a) (λ _ _ _ _. tt) false s tt run

-- ---- `$${` and `%%{`

sigil_alike : (b : ℕ) (y y' : List ℕ) → is_sigil b ≡ true → IsAlike y y' → sigil_length b y ≡ sigil_length b y'
sigil_alike b y y' sigil a =
    elim (slice_index y 0 == b) as (λ x. (slice_index y 0 == b) ≡ x → sigil_length b y ≡ sigil_length b y') [
      | true ↦ λ h.
          let same : slice_index y 0 ≡ b = eqb-true (slice_index y 0) b h in
          let next : slice_index y 1 ≡ slice_index y' 1 = a.second (ap is_sigil same ∙ sigil) in
          ap₂ (λ m n. if m == b && n == 123 then 3 else (if m == 123 then 0 else 1)) a.first next
      | false ↦ λ h.
          let other : (slice_index y' 0 == b) ≡ false = ap (λ m. m == b) (sym a.first) ∙ h in
          rw (h, other) (ap (λ m. if m == 123 then 0 else 1) a.first)
    ] refl

-- ---- quoted text

four_own : (w z z' : List ℕ) → 4 ≤ length w → has_four_hex (w ++ z) ≡ has_four_hex (w ++ z')
four_own [] z z' h = absurd (omega arith)
four_own (a ∷ []) z z' h = absurd (omega arith)
four_own (a ∷ b ∷ []) z z' h = absurd (omega arith)
four_own (a ∷ b ∷ c ∷ []) z z' h = absurd (omega arith)
four_own (a ∷ b ∷ c ∷ d ∷ w) z z' h = refl

next_own : (w z z' : List ℕ) → 8 ≤ length w → has_four_hex (drop 4 (w ++ z)) ≡ has_four_hex (drop 4 (w ++ z'))
next_own [] z z' h = absurd (omega arith)
next_own (a ∷ []) z z' h = absurd (omega arith)
next_own (a ∷ b ∷ []) z z' h = absurd (omega arith)
next_own (a ∷ b ∷ c ∷ []) z z' h = absurd (omega arith)
next_own (a ∷ b ∷ c ∷ d ∷ w) z z' h = four_own w z z' (omega arith)

-- an escape is known by its own bytes
escape_own : (v z z' : List ℕ) → 0 < length v → escape_length (v ++ z) ≡ length v → escape_length (v ++ z') ≡ length v
escape_own [] z z' some is = absurd (omega arith)
escape_own (e ∷ w) z z' some is =
    let P : ℕ → Type 0 = λ n. n ≡ suc (length w) → escape_length (e ∷ (w ++ z')) ≡ suc (length w) in
    cond_both (is_simple_escape e) 1 _ P
    (λ h k. rw h k)
    (λ h. cond_both (e == 117 && has_four_hex (w ++ z)) 5 _ P
    (λ k m.
    let four : (e == 117 && has_four_hex (w ++ z')) ≡ true = ap (λ x. e == 117 && x) (four_own w z' z (omega arith)) ∙ k in
    rw (h, four) m)
    (λ k. cond_both (e == 85 && (has_four_hex (w ++ z) && has_four_hex (drop 4 (w ++ z)))) 9 0 P
    (λ l m.
    let first : e ≡ 85 = eqb-true e 85 (and_parts (e == 85) (has_four_hex (w ++ z) && has_four_hex (drop 4 (w ++ z))) l).0 in
    let none : (e == 117 && has_four_hex (w ++ z')) ≡ false = ap (λ x. x == 117 && has_four_hex (w ++ z')) first in
    let eight : (e == 85 && (has_four_hex (w ++ z') && has_four_hex (drop 4 (w ++ z')))) ≡ true =
    ap₂ (λ x y. e == 85 && (x && y)) (four_own w z' z (omega arith)) (next_own w z' z (omega arith)) ∙ l in
    rw (h, none, eight) m)
    (λ l m. absurd (omega arith)))) is

positive : (n m : ℕ) → (n == 0) ≡ false → suc n ≡ suc m → 0 < m
positive n m h e = grind (arith, nat_tests)

quote_step : (r r' : List ℕ) → IsAlike r r' → (at_line_start : Bool) (u mid : List ℕ) → 0 < length u → Always at_line_start (u ++ mid) → quote_unit at_line_start (u ++ (mid ++ r)) ≡ length u → quote_unit at_line_start (u ++ (mid ++ r')) ≡ length u
quote_step r r' a at_line_start [] mid some h is = absurd (omega arith)
quote_step r r' a at_line_start (b ∷ v) mid some h is =
    let y : List ℕ = v ++ (mid ++ r) in
    let y' : List ℕ = v ++ (mid ++ r') in
    let near : IsAlike y y' = alike_after v (mid ++ r) (mid ++ r') (alike_after mid r r' a) in
    let P : ℕ → Type 0 = λ n. n ≡ suc (length v) → quote_unit at_line_start (b ∷ y') ≡ suc (length v) in
    cond_both (b == 92) _ _ P
    (λ h. cond_both (escape_length y == 0) 0 _ P
    (λ _ k. absurd (omega arith))
    (λ k m.
    let some : 0 < length v = positive (escape_length y) (length v) k m in
    let own : escape_length y' ≡ length v = escape_own v (mid ++ r) (mid ++ r') some (omega arith) in
    let test : (escape_length y' == 0) ≡ false = ne_eqb (escape_length y') 0 (λ z. absurd (omega arith)) in
    rw (h, test) (omega arith)))
    (λ h. cond_both (is_sigil b) _ _ P
    (λ k m. rw (h, k) (sym (sigil_alike b y y' k near) ∙ m))
    (λ k. cond_both (b == 34) 0 _ P
    (λ _ m. absurd (omega arith))
    (λ l. cond_both (is_at_line_end (b ∷ y)) 0 1 P
    (λ _ m. absurd (omega arith))
    (λ e m. rw (h, k, l, sym (line_end_alike b y y' near.first) ∙ e) m)))) is

pub quote_same : (r r' s : List ℕ) → IsAlike r r' → IsRun quote_unit false s r → IsRun quote_unit false s r'
quote_same r r' s a run = run_same quote_unit r r' Always (quote_step r r' a) (λ _ _ _ _. tt) false s tt run

-- ---- closing lines

-- LF, `$` and `%`: no blank is one, and no marker has one
abbrev pub stops_line : ℕ → Bool
stops_line b = b == 10 || is_sigil b

abbrev pub has_stop : List ℕ → Bool
has_stop [] = false
has_stop (b ∷ t) = stops_line b || has_stop t

abbrev pub has_none : List ℕ → Bool
has_none t = list_all (λ b. not (stops_line b)) t

abbrev skip : List ℕ → List ℕ
skip t = drop (prefix_len is_whitespace t) t

whitespace_no_stop : (b : ℕ) → is_whitespace b ≡ true → stops_line b ≡ false
whitespace_no_stop b h = grind (arith, nat_tests)

or_second : (x y : Bool) → (x || y) ≡ true → x ≡ false → y ≡ true
or_second true y h e = absurd (cc)
or_second false y h e = h

skip_cons : (b : ℕ) (t : List ℕ) → is_whitespace b ≡ true → skip (b ∷ t) ≡ skip t
skip_cons b t h = rw h (ap (λ n. drop n (b ∷ t)) more)
  where
    more : 1 + prefix_len is_whitespace t ≡ suc (prefix_len is_whitespace t)
    more = omega arith

skip_own : (w z : List ℕ) → has_stop w ≡ true → (skip (w ++ z) ≡ skip w ++ z) × (has_stop (skip w) ≡ true)
skip_own [] z h = absurd (cc)
skip_own (b ∷ w) z h =
    elim (is_whitespace b) as (λ x. is_whitespace b ≡ x → (skip (b ∷ (w ++ z)) ≡ skip (b ∷ w) ++ z) × (has_stop (skip (b ∷ w)) ≡ true)) [
      | true ↦ λ e.
          let rest : has_stop w ≡ true = or_second (stops_line b) (has_stop w) h (whitespace_no_stop b e) in
          let rec = skip_own w z rest in
          (skip_cons b (w ++ z) e ∙ rec.0 ∙ ap (λ (x : List ℕ). x ++ z) (sym (skip_cons b w e)), ap has_stop (skip_cons b w e) ∙ rec.1)
      | false ↦ λ e. (rw e refl, rw e h)
    ] refl

-- whether a marker is there, and what follows it, up to an LF, a `$` or a `%`
marker_own : (name w z : List ℕ) → has_none name ≡ true → has_stop w ≡ true
    → (is_prefix_of name (w ++ z) ≡ is_prefix_of name w) × (is_prefix_of name w ≡ true → (drop (length name) (w ++ z) ≡ drop (length name) w ++ z) × (has_stop (drop (length name) w) ≡ true))
marker_own [] w z none h = (refl, λ _. (refl, h))
marker_own (m ∷ ms) [] z none h = absurd (cc)
marker_own (m ∷ ms) (b ∷ w) z none h =
    elim (m == b) as (λ x. (m == b) ≡ x → ((m == b && is_prefix_of ms (w ++ z)) ≡ (m == b && is_prefix_of ms w)) × ((m == b && is_prefix_of ms w) ≡ true → (drop (length ms) (w ++ z) ≡ drop (length ms) w ++ z) × (has_stop (drop (length ms) w) ≡ true))) [
      | true ↦ λ e.
          let both = and_parts (not (stops_line m)) (has_none ms) none in
          let own : stops_line b ≡ false = ap stops_line (sym (eqb-true m b e)) ∙ not-true (stops_line m) both.0 in
          let rec = marker_own ms w z both.1 (or_second (stops_line b) (has_stop w) h own) in
          (ap (λ x. m == b && x) rec.0, λ k. rec.1 (and_parts (m == b) (is_prefix_of ms w) k).1)
      | false ↦ λ e. (rw e refl, λ k. absurd (false≢true (rw e at k)))
    ] refl

ends_own : (w z : List ℕ) → has_stop w ≡ true → is_at_line_end_or_eof (w ++ z) ≡ is_at_line_end_or_eof w
ends_own [] z h = absurd (cc)
ends_own (b ∷ []) z h =
    let other : (b == 13) ≡ false = grind (arith, nat_tests) in
    rw other refl
ends_own (b ∷ c ∷ w) z h = refl

-- whether a line closes a heredoc depends only on what is up to an LF, a `$` or a `%`
closing_own : (name w z : List ℕ) → has_none name ≡ true → has_stop w ≡ true → is_closing_line name (w ++ z) ≡ is_closing_line name w
closing_own name w z none h =
    let first = skip_own w z h in
    let at = marker_own name (skip w) z none first.1 in
    let marker : is_prefix_of name (skip (w ++ z)) ≡ is_prefix_of name (skip w) = ap (is_prefix_of name) first.0 ∙ at.0 in
    elim (is_prefix_of name (skip w)) as (λ x. is_prefix_of name (skip w) ≡ x → is_closing_line name (w ++ z) ≡ is_closing_line name w) [
      | true ↦ λ e.
          let following = at.1 e in
          let whole : after_marker name (w ++ z) ≡ after_marker name w ++ z = ap (drop (length name)) first.0 ∙ following.0 in
          let last = skip_own (after_marker name w) z following.1 in
          ap₂ (λ x y. x && y) marker (ap is_at_line_end_or_eof (ap skip whole ∙ last.0) ∙ ends_own (skip (after_marker name w)) z last.1)
      | false ↦ λ e. rw (marker, e) refl
    ] refl

closing_same : (name w z z' : List ℕ) → has_none name ≡ true → has_stop w ≡ true → is_closing_line name (w ++ z) ≡ is_closing_line name (w ++ z')
closing_same name w z z' none h = closing_own name w z none h ∙ sym (closing_own name w z' none h)

-- ---- the text of a heredoc

heredoc_at : (name : List ℕ) (at_line_start : Bool) (b : ℕ) (y y' : List ℕ) → is_closing_line name (b ∷ y) ≡ is_closing_line name (b ∷ y') → IsAlike y y' → heredoc_unit name at_line_start (b ∷ y) ≡ heredoc_unit name at_line_start (b ∷ y')
heredoc_at name at_line_start b y y' closes a =
    elim (is_sigil b) as (λ x. is_sigil b ≡ x → heredoc_unit name at_line_start (b ∷ y) ≡ heredoc_unit name at_line_start (b ∷ y')) [
      | true ↦ λ h. ap₂ (λ x n. if at_line_start && x then 0 else (if is_sigil b then n else 1)) closes (sigil_alike b y y' h a)
      | false ↦ λ h. rw (h, closes) refl
    ] refl

-- no marker has an LF, a `$` or a `%`
stops_ascii : (b : ℕ) → 128 ≤ b → stops_line b ≡ false
stops_ascii b h = grind (arith, nat_tests)

stops_no_start : (b : ℕ) → b < 128 → is_id_start b ≡ true → stops_line b ≡ false
stops_no_start b low h = let e = rw (is_xid_start-ascii b low) at h in grind (arith, nat_tests)

stops_no_continue : (b : ℕ) → b < 128 → is_id_continue b ≡ true → stops_line b ≡ false
stops_no_continue b low h = let e = rw (is_xid_continue-ascii b low) at h in grind (arith, nat_tests)

marker_has_none : (name : List ℕ) → IsIdentifier name → has_none name ≡ true
marker_has_none name ident = identifier_avoids stops_line stops_ascii stops_no_start stops_no_continue name ident

stop_at : (t : List ℕ) (c : ℕ) → stops_line c ≡ true → has_stop (t ++ (c ∷ [])) ≡ true
stop_at [] c h = rw h refl
stop_at (b ∷ t) c h = or_right (stops_line b) (has_stop (t ++ (c ∷ []))) (stop_at t c h)

-- the text before an opening
opening_step : (name : List ℕ) (c : ℕ) (r r' : List ℕ) → IsIdentifier name → is_sigil c ≡ true → IsAlike (c ∷ r) (c ∷ r')
    → (at_line_start : Bool) (u mid : List ℕ) → 0 < length u → Always at_line_start (u ++ mid) → heredoc_unit name at_line_start (u ++ (mid ++ (c ∷ r))) ≡ length u → heredoc_unit name at_line_start (u ++ (mid ++ (c ∷ r'))) ≡ length u
opening_step name c r r' ident sigil a at_line_start [] mid some h is = absurd (omega arith)
opening_step name c r r' ident sigil a at_line_start (b ∷ v) mid some h is =
    let w : List ℕ = (b ∷ (v ++ mid)) ++ (c ∷ []) in
    let split : (z : List ℕ) → b ∷ (v ++ (mid ++ (c ∷ z))) ≡ w ++ z = λ z. sym (append_assoc (b ∷ (v ++ mid)) (c ∷ []) z ∙ append_assoc (b ∷ v) mid (c ∷ z)) in
    let stop : has_stop w ≡ true = stop_at (b ∷ (v ++ mid)) c (or_right (c == 10) (is_sigil c) sigil) in
    let closes = ap (is_closing_line name) (split r) ∙ closing_same name w r r' (marker_has_none name ident) stop ∙ ap (is_closing_line name) (sym (split r')) in
    let near = alike_after v (mid ++ (c ∷ r)) (mid ++ (c ∷ r')) (alike_after mid (c ∷ r) (c ∷ r') a) in
    sym (heredoc_at name at_line_start b (v ++ (mid ++ (c ∷ r))) (v ++ (mid ++ (c ∷ r'))) closes near) ∙ is

pub heredoc_before_opening : (name : List ℕ) (at_line_start : Bool) (c : ℕ) (r r' s : List ℕ) → IsIdentifier name → is_sigil c ≡ true → IsAlike (c ∷ r) (c ∷ r')
    → IsRun (heredoc_unit name) at_line_start s (c ∷ r) → IsRun (heredoc_unit name) at_line_start s (c ∷ r')
heredoc_before_opening name at_line_start c r r' s ident sigil a run =
    run_same (heredoc_unit name) (c ∷ r) (c ∷ r') Always (opening_step name c r r' ident sigil a) (λ _ _ _ _. tt) at_line_start s tt run

-- the text before a line begins
abbrev EndsWithLineEnd : Bool → List ℕ → Type 0
EndsWithLineEnd at_line_start t = is_line_start_after at_line_start t ≡ true

line_stop : (at_line_start : Bool) (b : ℕ) (t : List ℕ) → is_line_start_after at_line_start (b ∷ t) ≡ true → has_stop (b ∷ t) ≡ true
line_stop at_line_start b [] h = rw h refl
line_stop at_line_start b (c ∷ t) h = or_right (stops_line b) (has_stop (c ∷ t)) (line_stop (b == 10) c t h)

line_step : (name r r' : List ℕ) → IsIdentifier name → IsAlike r r'
    → (at_line_start : Bool) (u mid : List ℕ) → 0 < length u → EndsWithLineEnd at_line_start (u ++ mid) → heredoc_unit name at_line_start (u ++ (mid ++ r)) ≡ length u → heredoc_unit name at_line_start (u ++ (mid ++ r')) ≡ length u
line_step name r r' ident a at_line_start [] mid some h is = absurd (omega arith)
line_step name r r' ident a at_line_start (b ∷ v) mid some h is =
    let w : List ℕ = b ∷ (v ++ mid) in
    let split : (z : List ℕ) → b ∷ (v ++ (mid ++ z)) ≡ w ++ z = λ z. sym (append_assoc (b ∷ v) mid z) in
    let closes = ap (is_closing_line name) (split r) ∙ closing_same name w r r' (marker_has_none name ident) (line_stop at_line_start b (v ++ mid) h) ∙ ap (is_closing_line name) (sym (split r')) in
    let near = alike_after v (mid ++ r) (mid ++ r') (alike_after mid r r' a) in
    sym (heredoc_at name at_line_start b (v ++ (mid ++ r)) (v ++ (mid ++ r')) closes near) ∙ is

pub heredoc_before_line : (name : List ℕ) (at_line_start : Bool) (r r' s : List ℕ) → IsIdentifier name → IsAlike r r' → is_line_start_after at_line_start s ≡ true
    → IsRun (heredoc_unit name) at_line_start s r → IsRun (heredoc_unit name) at_line_start s r'
heredoc_before_line name at_line_start r r' s ident a ends run =
    run_same (heredoc_unit name) r r' EndsWithLineEnd (line_step name r r' ident a) (λ f u mid h. sym (line_start_after-append f u mid) ∙ h) at_line_start s ends run
