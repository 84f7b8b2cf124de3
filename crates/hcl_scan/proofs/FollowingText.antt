-- A token is a lexeme with the next token after it if and only if it is one with all that follows.
use Rattle.std.proofs.Common.{◌≡◌, ◌≢◌, ℕ, ◌<◌, Bool, true, false, ◌||◌, ◌==◌, List, [], ◌∷◌, ◌++◌, length, slice_index, refl, sym, ap, subst, ◌∙◌, ◌⊎◌, inl, inr, arith, append_assoc}
use Rattle.std.proofs.lemmas.Bool.{and_parts, both_ways, false≢true}
use Rattle.std.proofs.lemmas.Bool.Decides.{nat_tests}
use Rattle.std.specs.List.{list_all}
use Rattle.hcl_token.specs.declared.kind.Kind.{Kind}
use Rattle.hcl_token.specs.declared.kind.Kind.TheVariants.{LineEnd, LineComment, InlineComment, Slash, QuoteClose, InterpOpen, DirectiveOpen, QuoteLit, HereClose, HereLit}
use Rattle.hcl_token.specs.Tokens.{Pair, whole_text}
use Rattle.hcl_scan.specs.Characters.{is_whitespace, is_sigil}
use Rattle.hcl_scan.specs.Modes.{Mode, mode_of, is_at_line_start, modes_after}
use Rattle.hcl_scan.specs.Modes.Mode.{Expression, Sequence, Braces, Quoted, Heredoc}
use Rattle.hcl_scan.specs.Inner.Markers.{HasMarker}
use Rattle.hcl_scan.proofs.OpenMarkers.{HaveMarkers}
use Rattle.hcl_scan.specs.Runs.{is_line_start_after, IsRun}
use Rattle.hcl_scan.specs.Closing.{is_at_line_end_or_eof, IsClosingLine, heredoc_unit}
use Rattle.hcl_scan.specs.Lexeme.{is_allowed_in, IsIdentifier, Spells, IsLexeme}
use Rattle.hcl_scan.specs.Follows.{following_text, AllowsNext, LineEndsHere}
use Rattle.hcl_scan.proofs.HeredocLemmas.{identifier_some, word_no_sigil}
use Rattle.hcl_scan.proofs.BeatsPlain.{spelt}
use Rattle.hcl_scan.proofs.Heads.{begins_so}
use Rattle.hcl_scan.proofs.Apart.{Rest}
use Rattle.hcl_scan.proofs.RunFollowingText.{IsAlike, comment_same, inline_same, quote_same, heredoc_before_opening, heredoc_before_line}

-- ---- two texts after a token

-- both begin with the same sigil
abbrev pub BothOpen : List ℕ → List ℕ → Type 0
BothOpen r r' = (c : ℕ) × (t : List ℕ) × (t' : List ℕ) × (r ≡ c ∷ t) × (r' ≡ c ∷ t') × (is_sigil c ≡ true)

-- as far as a token of the kind looks, they are alike
abbrev pub Alike : Mode → Kind → List ℕ → List ℕ → List ℕ → Type 0
Alike mode LineComment s r r' = IsAlike r r'
Alike mode Slash s r r' = slice_index r 0 ≡ slice_index r' 0
Alike mode QuoteLit s r r' = IsAlike r r'
Alike mode HereLit s r r' = IsAlike r r' × (BothOpen r r' ⊎ (is_line_start_after (is_at_line_start mode) s ≡ true))
Alike mode HereClose s r r' = is_at_line_end_or_eof r ≡ true → is_at_line_end_or_eof r' ≡ true
Alike mode kind s r r' = Unit {0}

heredoc_alike : (name : List ℕ) (at_line_start : Bool) (s r r' : List ℕ) → IsIdentifier name → IsAlike r r' → BothOpen r r' ⊎ (is_line_start_after at_line_start s ≡ true) → IsRun (heredoc_unit name) at_line_start s r → IsRun (heredoc_unit name) at_line_start s r'
heredoc_alike name at_line_start s r r' ident a (inr line) run = heredoc_before_line name at_line_start r r' s ident a line run
heredoc_alike name at_line_start s r r' ident a (inl (c, t, t', e, e', sigil)) run =
    let near : IsAlike (c ∷ t) (c ∷ t') = subst (λ (x : List ℕ). IsAlike x (c ∷ t')) e (subst (IsAlike r) e' a) in
    subst (IsRun (heredoc_unit name) at_line_start s) (sym e') (heredoc_before_opening name at_line_start c t t' s ident sigil near (subst (IsRun (heredoc_unit name) at_line_start s) e run))

pub spells_alike : (mode : Mode) (kind : Kind) (s r r' : List ℕ) → HasMarker mode → is_allowed_in mode kind ≡ true → Alike mode kind s r r' → Spells mode kind s r → Spells mode kind s r'
spells_alike mode LineComment s r r' m st a (inl (body, e, run)) = inl (body, e, comment_same r r' body a run)
spells_alike mode LineComment s r r' m st a (inr (body, e, run)) = inr (body, e, comment_same r r' body a run)
spells_alike mode InlineComment s r r' m st a (body, e, run) = (body, e, inline_same r r' body run)
spells_alike mode Slash s r r' m st a (e, h) = (e, ap (λ b. b == 42 || b == 47) (sym a) ∙ h)
spells_alike mode QuoteLit s r r' m st a (filled, run) = (filled, quote_same r r' s a run)
spells_alike (Heredoc name at_line_start) HereLit s r r' m st a (filled, run) = (filled, heredoc_alike name at_line_start s r r' m a.0 a.1 run)
spells_alike mode HereLit s r r' m st a h = absurd (false≢true st)
spells_alike mode HereClose s r r' m st a (before, following, e, all, all', ends) = (before, following, e, all, all', a ends)
spells_alike mode kind s r r' m st a h = h

-- ---- the token after it

alike_more : (b : ℕ) (t more : List ℕ) → is_sigil b ≡ false → IsAlike (b ∷ t) (b ∷ (t ++ more))
alike_more b t more h = record { first = refl; second = λ k. absurd (both_ways _ h k) }

-- a line end
line_alike : (kind : Kind) (t more : List ℕ) (mode : Mode) (rest : List ℕ) → kind ≡ LineEnd → Spells mode kind t rest → IsAlike t (t ++ more)
line_alike LineEnd t more mode rest k (inl e) = rw e (alike_more 10 [] more refl)
line_alike LineEnd t more mode rest k (inr e) = rw e (alike_more 13 (10 ∷ []) more refl)
line_alike kind t more mode rest k h = absurd (cc)

-- the opening of a template sequence
open_alike : (c : ℕ) (t more : List ℕ) → (t ≡ c ∷ 123 ∷ []) ⊎ (t ≡ c ∷ 123 ∷ 126 ∷ []) → IsAlike t (t ++ more)
open_alike c t more (inl e) = rw e (record { first = refl; second = λ _. refl })
open_alike c t more (inr e) = rw e (record { first = refl; second = λ _. refl })

both_open : (c : ℕ) (t more : List ℕ) → is_sigil c ≡ true → (t ≡ c ∷ 123 ∷ []) ⊎ (t ≡ c ∷ 123 ∷ 126 ∷ []) → BothOpen t (t ++ more)
both_open c t more h (inl e) = (c, 123 ∷ [], 123 ∷ more, e, ap (λ (x : List ℕ). x ++ more) e, h)
both_open c t more h (inr e) = (c, 123 ∷ 126 ∷ [], 123 ∷ 126 ∷ more, e, ap (λ (x : List ℕ). x ++ more) e, h)

-- in quoted text
quoted_alike : (kind : Kind) (t more : List ℕ) → kind ≢ QuoteLit → is_allowed_in Quoted kind ≡ true → Spells Quoted kind t more → IsAlike t (t ++ more)
quoted_alike QuoteClose t more other st e = subst (λ (x : List ℕ). IsAlike x (x ++ more)) (sym (spelt _ t e)) (alike_more 34 [] more refl)
quoted_alike InterpOpen t more other st e = open_alike 36 t more e
quoted_alike DirectiveOpen t more other st e = open_alike 37 t more e
quoted_alike QuoteLit t more other st e = absurd (other refl)
quoted_alike kind t more other st e = absurd (false≢true st)

-- in a heredoc
close_head : (name t rest : List ℕ) → IsIdentifier name → IsClosingLine name t rest → (0 < length t) × (is_sigil (slice_index t 0) ≡ false)
close_head name t rest ident ([], following, e, all, all', ends) =
    let word = identifier_some name ident in
    let first = leading name following word.0 in
    rw e (first.0, ap is_sigil first.1 ∙ word_no_sigil (slice_index name 0) word.1)
  where
    leading : (xs ys : List ℕ) → 0 < length xs → (0 < length (xs ++ ys)) × (slice_index (xs ++ ys) 0 ≡ slice_index xs 0)
    leading [] ys h = absurd (omega arith)
    leading (x ∷ xs) ys h = (omega arith, refl)
close_head name t rest ident (b ∷ before, following, e, all, all', ends) =
    let is_white : is_whitespace b ≡ true = (and_parts (is_whitespace b) (list_all is_whitespace before) all).0 in
    rw e (omega arith, whitespace_no_sigil b is_white)
  where
    whitespace_no_sigil : (c : ℕ) → is_whitespace c ≡ true → is_sigil c ≡ false
    whitespace_no_sigil c h = grind (arith, nat_tests)

head_alike : (t more : List ℕ) → 0 < length t → is_sigil (slice_index t 0) ≡ false → IsAlike t (t ++ more)
head_alike [] more some h = absurd (omega arith)
head_alike (b ∷ t) more some h = alike_more b t more h

heredoc_next : (name : List ℕ) (at_line_start : Bool) (kind : Kind) (t more : List ℕ) → IsIdentifier name → kind ≢ HereLit → IsLexeme (Heredoc name at_line_start) kind t more
    → IsAlike t (t ++ more) × (BothOpen t (t ++ more) ⊎ (at_line_start ≡ true))
heredoc_next name at_line_start HereClose t more ident other (st, close) =
    let head = close_head name t more ident close in
    (head_alike t more head.0 head.1, inr st)
heredoc_next name at_line_start InterpOpen t more ident other (st, e) = (open_alike 36 t more e, inl (both_open 36 t more refl e))
heredoc_next name at_line_start DirectiveOpen t more ident other (st, e) = (open_alike 37 t more e, inl (both_open 37 t more refl e))
heredoc_next name at_line_start HereLit t more ident other (st, e) = absurd (other refl)
heredoc_next name at_line_start kind t more ident other (st, e) = absurd (false≢true st)

-- ---- after a closing line

pub ends_more : (b : ℕ) (t more : List ℕ) → is_at_line_end_or_eof (b ∷ t) ≡ true → is_at_line_end_or_eof (b ∷ (t ++ more)) ≡ true
ends_more b [] more h =
    let line : b ≡ 10 = grind (arith, nat_tests) in
    rw line refl
ends_more b (c ∷ t) more h = h

-- ---- a lexeme is not empty

pub filled_some : (s : List ℕ) → s ≢ [] → 0 < length s
filled_some [] h = absurd (h refl)
filled_some (b ∷ s) h = omega arith

opening_some : (c : ℕ) (s : List ℕ) → (s ≡ c ∷ 123 ∷ []) ⊎ (s ≡ c ∷ 123 ∷ 126 ∷ []) → 0 < length s
opening_some c s (inl e) = omega (arith, ap length e)
opening_some c s (inr e) = omega (arith, ap length e)

quoted_some : (kind : Kind) (s rest : List ℕ) → IsLexeme Quoted kind s rest → 0 < length s
quoted_some QuoteClose s rest (st, e) = omega (arith, ap length (spelt _ s e))
quoted_some QuoteLit s rest (st, (filled, run)) = filled_some s filled
quoted_some InterpOpen s rest (st, e) = opening_some 36 s e
quoted_some DirectiveOpen s rest (st, e) = opening_some 37 s e
quoted_some kind s rest (st, e) = absurd (false≢true st)

heredoc_some : (name : List ℕ) (at_line_start : Bool) (kind : Kind) (s rest : List ℕ) → IsIdentifier name → IsLexeme (Heredoc name at_line_start) kind s rest → 0 < length s
heredoc_some name at_line_start HereClose s rest ident (st, close) = (close_head name s rest ident close).0
heredoc_some name at_line_start HereLit s rest ident (st, (filled, run)) = filled_some s filled
heredoc_some name at_line_start InterpOpen s rest ident (st, e) = opening_some 36 s e
heredoc_some name at_line_start DirectiveOpen s rest ident (st, e) = opening_some 37 s e
heredoc_some name at_line_start kind s rest ident (st, e) = absurd (false≢true st)

pub lexeme_filled : (mode : Mode) (kind : Kind) (s rest : List ℕ) → HasMarker mode → IsLexeme mode kind s rest → 0 < length s
lexeme_filled Expression kind s rest m h = (begins_so Expression kind s rest refl h.0 h.1).0
lexeme_filled Sequence kind s rest m h = (begins_so Sequence kind s rest refl h.0 h.1).0
lexeme_filled Braces kind s rest m h = (begins_so Braces kind s rest refl h.0 h.1).0
lexeme_filled Quoted kind s rest m h = quoted_some kind s rest h
lexeme_filled (Heredoc name at_line_start) kind s rest m h = heredoc_some name at_line_start kind s rest m h

-- ---- the next token and all that follows

always_alike : (r : List ℕ) → IsAlike r r
always_alike r = record { first = refl; second = λ _. refl }

comment_far : (mode : Mode) (ps : List Pair) (last : List ℕ) → LineEndsHere ps last → Rest mode ps last → IsAlike (following_text ps last) (whole_text ps last)
comment_far mode [] last e rest = always_alike last
comment_far mode (q ∷ qs) last (none, line) rest = rw none (line_alike q.kind q.spelling (whole_text qs last) mode (whole_text qs last) line rest.1.1)

slash_far : (mode : Mode) → HasMarker mode → (ps : List Pair) (last : List ℕ) → Rest mode ps last → slice_index (following_text ps last) 0 ≡ slice_index (whole_text ps last) 0
slash_far mode m [] last rest = refl
slash_far mode m (q ∷ qs) last rest = byte_after_gap q.gap
  where
    more : List ℕ
    more = whole_text qs last

    leading : (t : List ℕ) → 0 < length t → slice_index t 0 ≡ slice_index (t ++ more) 0
    leading [] some = absurd (omega arith)
    leading (b ∷ t) some = refl

    byte_after_gap : (gap : List ℕ) → slice_index (gap ++ q.spelling) 0 ≡ slice_index (gap ++ (q.spelling ++ more)) 0
    byte_after_gap [] = leading q.spelling (lexeme_filled mode q.kind q.spelling (whole_text qs last) m rest.1)
    byte_after_gap (b ∷ gap) = refl

quoted_far : (ps : List Pair) (last : List ℕ) → AllowsNext QuoteLit ps last → Rest Quoted ps last → IsAlike (following_text ps last) (whole_text ps last)
quoted_far [] last following rest = always_alike last
quoted_far (q ∷ qs) last following rest =
    let none : q.gap ≡ [] = rest.0.1 refl in
    rw none (quoted_alike q.kind q.spelling (whole_text qs last) following rest.1.0 rest.1.1)

heredoc_far : (name : List ℕ) (at_line_start : Bool) (ps : List Pair) (last : List ℕ) → IsIdentifier name → AllowsNext HereLit ps last → Rest (Heredoc name at_line_start) ps last
    → IsAlike (following_text ps last) (whole_text ps last) × (BothOpen (following_text ps last) (whole_text ps last) ⊎ (at_line_start ≡ true))
heredoc_far name at_line_start [] last ident following rest = absurd (false≢true (sym rest.1))
heredoc_far name at_line_start (q ∷ qs) last ident following rest =
    let none : q.gap ≡ [] = rest.0.1 refl in
    rw none (heredoc_next name at_line_start q.kind q.spelling (whole_text qs last) ident following rest.1)

close_far : (mode : Mode) → HasMarker mode → (ps : List Pair) (last : List ℕ) → Rest mode ps last → is_at_line_end_or_eof (following_text ps last) ≡ true → is_at_line_end_or_eof (whole_text ps last) ≡ true
close_far mode m [] last rest h = h
close_far mode m (q ∷ qs) last rest h = byte_after_gap q.gap h
  where
    leading : (t : List ℕ) → 0 < length t → is_at_line_end_or_eof t ≡ true → is_at_line_end_or_eof (t ++ whole_text qs last) ≡ true
    leading [] some k = absurd (omega arith)
    leading (b ∷ t) some k = ends_more b t (whole_text qs last) k

    byte_after_gap : (gap : List ℕ) → is_at_line_end_or_eof (gap ++ q.spelling) ≡ true → is_at_line_end_or_eof (gap ++ (q.spelling ++ whole_text qs last)) ≡ true
    byte_after_gap [] k = leading q.spelling (lexeme_filled mode q.kind q.spelling (whole_text qs last) m rest.1) k
    byte_after_gap (b ∷ gap) k = ap (λ (x : List ℕ). is_at_line_end_or_eof (b ∷ x)) (sym (append_assoc gap q.spelling (whole_text qs last))) ∙ ends_more b (gap ++ q.spelling) (whole_text qs last) k

-- a token of this kind, and what may follow it
abbrev pub HasFollowing : List Mode → Kind → List ℕ → List Pair → List ℕ → Type 0
HasFollowing modes kind s ps last =
    HaveMarkers modes × (is_allowed_in (mode_of modes) kind ≡ true) × AllowsNext kind ps last × HasMarker (mode_of (modes_after kind s modes)) × Rest (mode_of (modes_after kind s modes)) ps last

pub far : (modes : List Mode) (kind : Kind) (s : List ℕ) (ps : List Pair) (last : List ℕ) → HasFollowing modes kind s ps last → Alike (mode_of modes) kind s (following_text ps last) (whole_text ps last)
far modes LineComment s ps last h = comment_far (mode_of modes) ps last h.2 h.4
far modes Slash s ps last h = slash_far (mode_of modes) h.3 ps last h.4
far (Quoted ∷ ms) QuoteLit s ps last h = quoted_far ps last h.2 h.4
far modes QuoteLit s ps last h = absurd (false≢true h.1)
far (Heredoc name at_line_start ∷ ms) HereLit s ps last h = heredoc_far name (is_line_start_after at_line_start s) ps last h.0.0 h.2 h.4
far modes HereLit s ps last h = absurd (false≢true h.1)
far modes HereClose s ps last h = close_far (mode_of (modes_after HereClose s modes)) h.3 ps last h.4
far modes kind s ps last h = tt
