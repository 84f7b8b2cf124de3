-- The spacing looks at no more than the two nearest tokens before.
use Rattle.std.proofs.Common.{◌≡◌, ℕ, nat_lt, ◌*◌, ◌+◌, ◌-◌, ◌<◌, ◌≤◌, Bool, true, false, not, ◌&&◌, ◌||◌, List, [], ◌∷◌, ◌++◌, length, take, drop, slice_range, Some, if◌then◌else◌, refl, sym, ap, ap₂, ◌∙◌, arith, append_assoc}
use Rattle.std.specs.Prelude.{slice_get, cond}
use Rattle.std.proofs.lemmas.List.{append-nil}
use Rattle.std.specs.Option.{option_map, option_and_then}
use Rattle.hcl_token.specs.declared.kind.Kind.{Kind}
use Rattle.hcl_token.specs.declared.kind.Kind.TheVariants.{Dot, Star, Identifier, Number, DotIndex, Minus, Bang, DoubleColon, OpenBrace, CloseBrace, OpenBracket, CloseBracket, OpenParen, CloseParen, Comma, Ellipsis, SeqClose, QuoteClose, InterpOpen, DirectiveOpen}
use Rattle.hcl_token.specs.Tokens.{Pair}
use Rattle.hcl_token.specs.TokenizedText.{kind_of}
use Rattle.hcl_token.specs.Kinds.{is_line_end, is_line_comment}
use Rattle.hcl_layout.specs.Gaps.Kinds.{among, is_identifier, ends_operand, is_skipped_by_spacing}
use Rattle.hcl_layout.specs.Gaps.Lines.{Line}
use Rattle.hcl_layout.specs.Gaps.Indent.{openings, closings}
use Rattle.hcl_layout.specs.Gaps.Space.{prev_after, prev_after_all, is_after_identifier, is_splat_star, is_after_operand, is_in_keyword, is_spaced}
use Rattle.std.proofs.Common.{reverse}
use Rattle.hcl_layout.specs.Gaps.Inner.SpacingFlags.{IsEndOfNearest}
use Rattle.hcl_layout.specs.Gaps.Inner.Stages.{lines_from, SplitsLine, open_heredocs_of, space_len, space_len_at, space_lens, spaces_from, line_gap_lens, base_gap_lens, all_gap_lens, close_earlier, open_after_line}
use Rattle.hcl_layout.proofs.GapsLemmas.LineLemmas.{TokenHere, token_here, kind_is, range_split, none_there}

-- the two nearest are the same
abbrev pub AreNear : List Kind → List Kind → Type 0
AreNear b c = take 2 b ≡ take 2 c

-- what the table needs to know of the tokens before
record SameContext (b c : List Kind) (k : Kind) : Type 0 where
  identifier : is_after_identifier b ≡ is_after_identifier c
  splat : is_splat_star b k ≡ is_splat_star c k
  operand : is_after_operand b ≡ is_after_operand c

splat_one : (y : Kind) (zs : List Kind) (k : Kind) → is_splat_star (y ∷ zs) k ≡ is_splat_star (y ∷ []) k
splat_one Dot zs Star = refl
splat_one y zs k = refl

same_context_of_two : (b : List Kind) (k : Kind) → SameContext b (take 2 b) k
same_context_of_two [] k = record { identifier = refl; splat = refl; operand = refl }
same_context_of_two (x ∷ []) k = record { identifier = refl; splat = refl; operand = refl }
same_context_of_two (x ∷ y ∷ zs) k = record {
  identifier = refl;
  splat = splat_one x (y ∷ zs) k ∙ sym (splat_one x (y ∷ []) k);
  operand = ap (λ v. ends_operand x || v) (splat_one y zs x);
}

-- the table, by the answers
abbrev by_answers : Bool → Bool → Bool → Pair → Pair → Bool
by_answers identifier splat operand a b =
    if is_line_end b.kind then false
    else (if is_line_comment b.kind then true
    else (if is_identifier a.kind && among (OpenParen ∷ []) b.kind then false
    else (if among (DoubleColon ∷ []) a.kind || among (DoubleColon ∷ []) b.kind then false
    else (if among (Dot ∷ []) a.kind || among (Dot ∷ DotIndex ∷ []) b.kind then false
    else (if among (Comma ∷ Ellipsis ∷ []) b.kind then false
    else (if among (Comma ∷ []) a.kind then true
    else (if is_in_keyword a && identifier then true
    else (if among (OpenBracket ∷ []) b.kind && (among (Identifier ∷ Number ∷ DotIndex ∷ QuoteClose ∷ CloseParen ∷ CloseBracket ∷ CloseBrace ∷ []) a.kind || splat) then false
    else (if among (Bang ∷ []) a.kind then false
    else (if among (Minus ∷ []) a.kind && not operand then false
    else (if among (OpenBrace ∷ []) a.kind && among (CloseBrace ∷ []) b.kind then false
    else (if among (OpenBrace ∷ []) a.kind || among (CloseBrace ∷ []) b.kind then true
    else (if (among (InterpOpen ∷ DirectiveOpen ∷ []) a.kind && among (OpenBrace ∷ []) b.kind) || (among (CloseBrace ∷ []) a.kind && among (SeqClose ∷ []) b.kind) then true
    else (if among (OpenParen ∷ OpenBracket ∷ InterpOpen ∷ DirectiveOpen ∷ []) a.kind || among (CloseParen ∷ CloseBracket ∷ SeqClose ∷ []) b.kind then false else true))))))))))))))

same_answers : (u v : Bool) (u' v' : Bool) (w w' : Bool) (a b : Pair) → u ≡ u' → v ≡ v' → w ≡ w' → by_answers u v w a b ≡ by_answers u' v' w' a b
same_answers u v u' v' w w' a b e f g = ap (λ x. by_answers x v w a b) e ∙ ap (λ x. by_answers u' x w a b) f ∙ ap (λ x. by_answers u' v' x a b) g

spaced_two : (before : List Kind) (a b : Pair) → is_spaced before a b ≡ is_spaced (take 2 before) a b
spaced_two before a b =
    let h = same_context_of_two before a.kind in
    same_answers (is_after_identifier before) (is_splat_star before a.kind) (is_after_identifier (take 2 before)) (is_splat_star (take 2 before) a.kind) (is_after_operand before) (is_after_operand (take 2 before)) a b h.identifier h.splat h.operand

pub space_same : (b c : List Kind) (x y : Pair) → AreNear b c → is_spaced b x y ≡ is_spaced c x y
space_same b c x y h = spaced_two b x y ∙ ap (λ n. is_spaced n x y) h ∙ sym (spaced_two c x y)

take_twice : (b : List Kind) → take 2 (take 2 b) ≡ take 2 b
take_twice [] = refl
take_twice (x ∷ []) = refl
take_twice (x ∷ y ∷ zs) = refl

-- what is kept of a list is near to it
pub kept_near : (b c : List Kind) → b ≡ take 2 c → AreNear b c
kept_near b c h = ap (take 2) h ∙ take_twice c

-- ---- tokens before a place

passed_append : (ps qs : List Pair) (before : List Kind) → prev_after_all (ps ++ qs) before ≡ prev_after_all qs (prev_after_all ps before)
passed_append [] qs before = refl
passed_append (p ∷ ps) qs before = passed_append ps qs (prev_after p before)

pub passed_on : (ps : List Pair) (a b c : ℕ) (before : List Kind) → a ≤ b → b ≤ c → prev_after_all (slice_range ps a c) before ≡ prev_after_all (slice_range ps b c) (prev_after_all (slice_range ps a b) before)
passed_on ps a b c before h g = ap (λ (qs : List Pair). prev_after_all qs before) (range_split ps a b c h g) ∙ passed_append (slice_range ps a b) (slice_range ps b c) before

-- one more
pub passed_one : (ps : List Pair) (first i j : ℕ) (t : TokenHere ps i j) → first ≤ i → j ≡ i + 1 → prev_after_all (slice_range ps first j) [] ≡ prev_after t.pair (prev_after_all (slice_range ps first i) [])
passed_one ps first i j t h e =
    let one : slice_range ps i j ≡ t.pair ∷ [] = t.range ∙ ap (λ n. t.pair ∷ slice_range ps n j) (sym e) ∙ ap (λ (qs : List Pair). t.pair ∷ qs) (none_there ps j) in
    passed_on ps first i j [] h (omega arith) ∙ ap (λ (qs : List Pair). prev_after_all qs (prev_after_all (slice_range ps first i) [])) one

-- the last token of some is skipped, or not
passed_last : (ps : List Pair) (first past : ℕ) (k : Kind) → first < past → past ≤ length ps → Some k ≡ kind_of ps (past - 1)
    → prev_after_all (slice_range ps first past) [] ≡ (if is_skipped_by_spacing k then prev_after_all (slice_range ps first (past - 1)) [] else k ∷ prev_after_all (slice_range ps first (past - 1)) [])
passed_last ps first past k some within is =
    let t = token_here ps (past - 1) past (omega arith) within in
    passed_one ps first (past - 1) past t (omega arith) (omega arith)
    ∙ ap (λ j. if is_skipped_by_spacing j then prev_after_all (slice_range ps first (past - 1)) [] else j ∷ prev_after_all (slice_range ps first (past - 1)) []) (sym (kind_is ps (past - 1) past k t is))

pub is_over : (ps : List Pair) (first past : ℕ) (k : Kind) → first < past → past ≤ length ps → Some k ≡ kind_of ps (past - 1) → is_skipped_by_spacing k ≡ true
    → prev_after_all (slice_range ps first past) [] ≡ prev_after_all (slice_range ps first (past - 1)) []
is_over ps first past k some within is h = passed_last ps first past k some within is ∙ rw h refl

pub nearest_there : (ps : List Pair) (first to past : ℕ) (k : Kind) → first < past → past ≤ to → to ≤ length ps → Some k ≡ kind_of ps (past - 1) → is_skipped_by_spacing k ≡ false
    → prev_after_all (slice_range ps first past) [] ≡ prev_after_all (slice_range ps first to) [] → IsEndOfNearest ps first to past
nearest_there ps first to past k some less within is h same = record {
  ordered = omega arith;
  before = less;
  none = λ e. absurd (omega arith);
  some = λ g j j_is.
      let e : j ≡ k = let f = j_is ∙ sym is in cc in
      sym same ∙ passed_last ps first past k some (omega arith) is ∙ rw (h, e) refl;
}

-- ---- the turns of loops

pub begin_line : (pairs : List Pair) (first at past m : ℕ) (k : Kind) (n deep : ℕ) (old new : List ℕ) → at < past → past ≤ length pairs → m ≡ at → Some k ≡ kind_of pairs at
    → n ≡ (if is_line_end k then 0 else 2 * deep) → new ≡ old ++ n ∷ []
    → new ++ spaces_from (prev_after_all (slice_range pairs first m) []) (slice_range pairs m past) ≡ old ++ line_gap_lens deep (prev_after_all (slice_range pairs first at) []) (slice_range pairs at past)
begin_line pairs first at past m k n deep old new less within m_is is n_is new_is =
    let b : List Kind = prev_after_all (slice_range pairs first at) [] in
    let t = token_here pairs at past less within in
    let same = kind_is pairs at past k t is in
    let leading : n ≡ (if is_line_end t.pair.kind then 0 else 2 * deep) = n_is ∙ ap (λ j. cond (is_line_end j) 0 (2 * deep)) same in
    let whole : line_gap_lens deep b (slice_range pairs at past) ≡ n ∷ spaces_from b (slice_range pairs at past) = rw (t.range, leading) refl in
    ap₂ (λ (g : List ℕ) j. g ++ spaces_from (prev_after_all (slice_range pairs first j) []) (slice_range pairs j past)) new_is m_is
    ∙ append_assoc old (n ∷ []) _ ∙ ap (λ ns. old ++ ns) (sym whole)

space_is : (pairs : List Pair) (b : List Kind) (i j to : ℕ) (n : ℕ) (s : TokenHere pairs j to) (t : TokenHere pairs i to) → j ≡ i - 1 → Some n ≡ space_len_at b pairs i → n ≡ space_len b s.pair t.pair
space_is pairs b i j to n s t e h =
    let first = ap (slice_get pairs) (sym e) ∙ s.at in
    let whole = h ∙ ap (option_and_then (λ (x : Pair). option_map (λ (y : Pair). space_len b x y) (slice_get pairs i))) first ∙ ap (option_map (λ (y : Pair). space_len b s.pair y)) t.at in
    cc

pub next_space : (pairs : List Pair) (first i past m : ℕ) (n : ℕ) (old new : List ℕ) → first < i → i < past → past ≤ length pairs → m ≡ i → Some n ≡ space_len_at (prev_after_all (slice_range pairs first (i - 1)) []) pairs i
    → new ≡ old ++ n ∷ []
    → new ++ spaces_from (prev_after_all (slice_range pairs first m) []) (slice_range pairs m past) ≡ old ++ spaces_from (prev_after_all (slice_range pairs first (i - 1)) []) (slice_range pairs (i - 1) past)
next_space pairs first i past m n old new some less within m_is n_is new_is =
    let j : ℕ = i - 1 in
    let b : List Kind = prev_after_all (slice_range pairs first j) [] in
    let more : List Kind = prev_after_all (slice_range pairs first i) [] in
    let s = token_here pairs j past (omega arith) within in
    let u = token_here pairs j i (omega arith) (omega arith) in
    let t = token_here pairs i past less within in
    let step : j + 1 ≡ i = omega arith in
    let same : u.pair ≡ s.pair = let f = sym u.at ∙ s.at in cc in
    let further : more ≡ prev_after s.pair b = passed_one pairs first j i u (omega arith) (sym step) ∙ ap (λ p. prev_after p b) same in
    let len = space_is pairs b i j past n s t refl n_is in
    let before : slice_range pairs j past ≡ s.pair ∷ t.pair ∷ slice_range pairs (i + 1) past = s.range ∙ ap (λ x. s.pair ∷ slice_range pairs x past) step ∙ ap (λ (ps : List Pair). s.pair ∷ ps) t.range in
    let whole : spaces_from b (slice_range pairs j past) ≡ n ∷ spaces_from more (slice_range pairs i past) =
    ap (spaces_from b) before ∙ ap₂ (λ x (ks : List Kind). x ∷ space_lens ks t.pair (slice_range pairs (i + 1) past)) (sym len) (sym further) ∙ ap (λ (ps : List Pair). n ∷ spaces_from more ps) (sym t.range) in
    ap₂ (λ (g : List ℕ) x. g ++ spaces_from (prev_after_all (slice_range pairs first x) []) (slice_range pairs x past)) new_is m_is
    ∙ append_assoc old (n ∷ []) _
    ∙ ap (λ (ns : List ℕ). old ++ ns) (sym whole)

pub last_space : (pairs : List Pair) (i past : ℕ) (b : List Kind) (old : List ℕ) → 0 < i → i ≡ past → past ≤ length pairs → old ++ spaces_from b (slice_range pairs (i - 1) past) ≡ old
last_space pairs i past b old some e within =
    let j : ℕ = i - 1 in
    let s = token_here pairs j past (omega arith) within in
    let none : past - (j + 1) ≡ 0 = omega arith in
    let all : slice_range pairs j past ≡ s.pair ∷ [] = s.range ∙ ap (λ n. s.pair ∷ take n (drop (j + 1) pairs)) none in
    ap (λ (ps : List Pair). old ++ spaces_from b ps) all ∙ append-nil old

-- before the first line
pub set_begins : (pairs : List Pair) (first : ℕ) (g s : List ℕ) → s ≡ []
    → g ++ all_gap_lens (reverse s) (prev_after_all (slice_range pairs first first) []) (lines_from 0 (drop first pairs)) ≡ g ++ all_gap_lens [] [] (lines_from 0 (drop first pairs))
set_begins pairs first g s none =
    ap₂ (λ (t : List ℕ) (ps : List Pair). g ++ all_gap_lens (reverse t) (prev_after_all ps []) (lines_from 0 (drop first pairs))) none (none_there pairs first)

-- one line of all
pub set_step : (pairs : List Pair) (first at : ℕ) (frozen : Bool) (past : ℕ) (next : Bool) (o c deep : ℕ) (s s1 s2 : List ℕ) (g g1 : List ℕ)
    → first ≤ at → SplitsLine pairs at frozen past next → o ≡ openings (slice_range pairs at past) → c ≡ closings (slice_range pairs at past)
    → s1 ≡ close_earlier o c s → deep ≡ length s1 → g1 ≡ g ++ base_gap_lens deep (prev_after_all (slice_range pairs first at) []) (record { frozen = frozen; pairs = slice_range pairs at past })
    → s2 ≡ (if nat_lt c o then (o - c) ∷ s1 else s1)
    → g1 ++ all_gap_lens s2 (prev_after_all (slice_range pairs first past) []) (lines_from (open_heredocs_of next) (drop past pairs))
    ≡ g ++ all_gap_lens s (prev_after_all (slice_range pairs first at) []) (lines_from (open_heredocs_of frozen) (drop at pairs))
set_step pairs first at frozen past next o c deep s s1 s2 g g1 begun split o_is c_is s1_is deep_is g1_is s2_is =
    let ps : List Pair = slice_range pairs at past in
    let b : List Kind = prev_after_all (slice_range pairs first at) [] in
    let line : Line = record { frozen = frozen; pairs = ps } in
    let rest : List Line = lines_from (open_heredocs_of next) (drop past pairs) in
    let depth : deep ≡ length (close_earlier (openings ps) (closings ps) s) = deep_is ∙ ap length s1_is ∙ ap₂ (λ x y. length (close_earlier x y s)) o_is c_is in
    let following : s2 ≡ open_after_line (openings ps) (closings ps) s =
    s2_is ∙ ap (λ (t : List ℕ). if nat_lt c o then (o - c) ∷ t else t) s1_is ∙ ap₂ (λ x y. open_after_line x y s) o_is c_is in
    let more : prev_after_all (slice_range pairs first past) [] ≡ prev_after_all ps b = passed_on pairs first at past [] begun (omega (arith, split.more)) in
    let whole : all_gap_lens s b (lines_from (open_heredocs_of frozen) (drop at pairs)) ≡ base_gap_lens deep b line ++ all_gap_lens s2 (prev_after_all (slice_range pairs first past) []) rest =
    ap (all_gap_lens s b) split.line
    ∙ ap₂ (λ d (t : List ℕ). base_gap_lens d b line ++ all_gap_lens t (prev_after_all ps b) rest) (sym depth) (sym following)
    ∙ ap (λ ks. base_gap_lens deep b line ++ all_gap_lens s2 ks rest) (sym more) in
    ap (λ (ns : List ℕ). ns ++ all_gap_lens s2 (prev_after_all (slice_range pairs first past) []) rest) g1_is ∙ append_assoc g (base_gap_lens deep b line) _ ∙ ap (λ (ns : List ℕ). g ++ ns) (sym whole)
