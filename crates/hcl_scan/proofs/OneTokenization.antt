-- A text has one tokenization or one error.
use Rattle.std.proofs.Common.{◌≡◌, ◌≢◌, ℕ, true, false, List, [], ◌∷◌, ◌++◌, length, drop, slice_index, IsUtf8, refl, sym, ap, ap₂, subst, ◌∙◌, inl, inr, arith, take_all}
use Rattle.std.proofs.lemmas.Bool.{and_parts, both_ways}
use Rattle.std.proofs.lemmas.List.Folds.{list_all-append}
use Rattle.std.specs.List.{list_all}
use Rattle.std.specs.Str.{IsValidUpTo}
use Rattle.std.specs.Str.Lossy.{utf8_valid_len}
use Rattle.std.proofs.lemmas.Str.{utf8_valid_len-IsValidUpTo}
use Rattle.hcl_token.specs.declared.kind.Kind.{Kind}
use Rattle.hcl_token.specs.Tokens.{Pair, whole_text}
use Rattle.hcl_scan.specs.declared.fault.ScanFault.{ScanFault}
use Rattle.hcl_scan.specs.declared.fault.ScanFault.TheVariants.{NotUtf8}
use Rattle.hcl_scan.specs.Characters.{is_whitespace}
use Rattle.hcl_scan.specs.Modes.{Mode, mode_of, is_literal}
use Rattle.hcl_scan.specs.Modes.Mode.{Expression}
use Rattle.hcl_scan.specs.Lexeme.{IsLexeme}
use Rattle.hcl_scan.specs.Inner.NextToken.{token, gap_length}
use Rattle.hcl_scan.specs.Tokenization.{TokenizesPrefix, IsTokenization, mark_prefix}
use Rattle.hcl_scan.specs.Fault.{HasNoToken, EndsInFault, IsFault, fault_at, innermost_template, openings_after_pairs}
use Rattle.hcl_scan.specs.Inner.MarkToken.{mark_length}
use Rattle.hcl_scan.proofs.Found.{Beats}
use Rattle.hcl_scan.proofs.Beats.{beats}
use Rattle.hcl_scan.proofs.Longest.{gap_is}
use Rattle.hcl_scan.proofs.Unique.{Same, split_same, one_maximal}
use Rattle.hcl_scan.proofs.MarkLemmas.{after_mark_prefix, mark_prefix_utf8}
use Rattle.hcl_scan.proofs.Steps.{lexeme_no_whitespace}

-- a lexeme has a first byte
lexeme_some : (s more : List ℕ) (kind : Kind) → IsLexeme Expression kind s more → s ++ more ≢ []
lexeme_some s more kind lexeme none = subst (λ (x : List ℕ). Beats (token Expression x) kind (length s)) none (beats Expression kind s more tt lexeme)

first_whitespace : (t : List ℕ) → t ≢ [] → list_all is_whitespace t ≡ true → is_whitespace (slice_index t 0) ≡ true
first_whitespace [] some all = absurd (some refl)
first_whitespace (b ∷ t) some all = (and_parts (is_whitespace b) (list_all is_whitespace t) all).0

all_after : (s t : List ℕ) → list_all is_whitespace (s ++ t) ≡ true → list_all is_whitespace t ≡ true
all_after s t all = (and_parts (list_all is_whitespace s) (list_all is_whitespace t) (sym (list_all-append is_whitespace s t) ∙ all)).1

-- a last gap holds no token
gap_end : (last : List ℕ) → list_all is_whitespace last ≡ true → HasNoToken Expression last
gap_end last all gap s more kind g lexeme same =
    let rest : list_all is_whitespace (s ++ more) ≡ true = all_after gap (s ++ more) (subst (λ (x : List ℕ). list_all is_whitespace x ≡ true) same all) in
    both_ways _ (lexeme_no_whitespace Expression kind s more tt lexeme refl) (first_whitespace (s ++ more) (lexeme_some s more kind lexeme) rest)

-- pairs of the same text that is tokenized as far as possible
same_tokenizations : (text : List ℕ) (ps qs : List Pair) (rest rest' : List ℕ) (left left' : List Mode) → IsUtf8 text
    → TokenizesPrefix text ps rest left → TokenizesPrefix text qs rest' left' → HasNoToken (mode_of left) rest → HasNoToken (mode_of left') rest' → Same ps qs rest rest' left left'
same_tokenizations text ps qs rest rest' left left' u c d end end' =
    let first : whole_text c.body rest ≡ drop (mark_length text) text = after_mark_prefix text ps rest left c in
    let second : whole_text d.body rest' ≡ drop (mark_length text) text = after_mark_prefix text qs rest' left' d in
    let same : Same c.body d.body rest rest' left left' =
    one_maximal c.body d.body [] rest rest' left left' tt (subst IsUtf8 (sym first) (mark_prefix_utf8 text u)) (first ∙ sym second) c.tokenizes d.tokenizes end end' in
    record { pairs = c.prefix ∙ ap (λ (x : List Pair). mark_prefix text ++ x) same.pairs ∙ sym d.prefix; rests = same.rests; modes = same.modes }

pub one_tokenization : (text : List ℕ) (pairs others : List Pair) (last other : List ℕ) → IsTokenization text pairs last → IsTokenization text others other → (pairs ≡ others) × (last ≡ other)
one_tokenization text pairs others last other c d =
    let same : Same pairs others last other [] [] = same_tokenizations text pairs others last other [] [] c.utf8 c.tokenizes d.tokenizes (gap_end last c.whitespace) (gap_end other d.whitespace) in
    (same.pairs, same.rests)

one_stop : (text : List ℕ) (fault other : ScanFault) → IsUtf8 text → EndsInFault text fault → EndsInFault text other → fault ≡ other
one_stop text fault other u f g =
    let same : Same f.pairs g.pairs (f.gap ++ f.rest) (g.gap ++ g.rest) f.left g.left =
    same_tokenizations text f.pairs g.pairs (f.gap ++ f.rest) (g.gap ++ g.rest) f.left g.left u f.tokenizes g.tokenizes f.ends g.ends in
    let mode : mode_of f.left ≡ mode_of g.left = ap mode_of same.modes in
    let width : length f.gap ≡ gap_length (mode_of f.left) (f.gap ++ f.rest) = gap_is (mode_of f.left) f.gap f.rest f.whitespace f.past in
    let width' : length g.gap ≡ gap_length (mode_of g.left) (g.gap ++ g.rest) = gap_is (mode_of g.left) g.gap g.rest g.whitespace g.past in
    let size : length f.gap ≡ length g.gap = width ∙ ap₂ gap_length mode same.rests ∙ sym width' in
    let parts = split_same f.gap f.rest g.gap g.rest size same.rests in
    let place : length (whole_text f.pairs f.gap) ≡ length (whole_text g.pairs g.gap) = ap length (ap₂ whole_text same.pairs parts.0) in
    f.fault_is
    ∙ ap (λ (m : List Mode). fault_at (mode_of m) (innermost_template (openings_after_pairs 0 [] f.pairs)) (length (whole_text f.pairs f.gap)) f.rest) same.modes
    ∙ ap (λ (ps : List Pair). fault_at (mode_of g.left) (innermost_template (openings_after_pairs 0 [] ps)) (length (whole_text f.pairs f.gap)) f.rest) same.pairs
    ∙ ap₂ (λ n (t : List ℕ). fault_at (mode_of g.left) (innermost_template (openings_after_pairs 0 [] g.pairs)) n t) place parts.1
    ∙ sym g.fault_is

no_tokenization_stop : (text : List ℕ) (fault : ScanFault) (pairs : List Pair) (last : List ℕ) → EndsInFault text fault → IsTokenization text pairs last → ⊥
no_tokenization_stop text fault pairs last f c =
    let same : Same f.pairs pairs (f.gap ++ f.rest) last f.left [] = same_tokenizations text f.pairs pairs (f.gap ++ f.rest) last f.left [] c.utf8 f.tokenizes c.tokenizes f.ends (gap_end last c.whitespace) in
    let some = f.unfinished same.modes in
    let all : list_all is_whitespace f.rest ≡ true = all_after f.gap f.rest (subst (λ (x : List ℕ). list_all is_whitespace x ≡ true) (sym same.rests) c.whitespace) in
    both_ways _ (f.past (subst (λ (m : List Mode). is_literal (mode_of m) ≡ false) (sym same.modes) refl)) (first_whitespace f.rest some all)

not_valid : (text : List ℕ) (at : ℕ) → IsValidUpTo text at → IsUtf8 text → ⊥
not_valid text at v u = v.longest (length text) v.short (subst IsUtf8 (sym (take_all (length text) text (omega arith))) u)

pub no_tokenization_with_fault : (text : List ℕ) (fault : ScanFault) (pairs : List Pair) (last : List ℕ) → IsFault text fault → IsTokenization text pairs last → ⊥
no_tokenization_with_fault text fault pairs last (inl long) c = absurd (omega (arith, long.1, c.short))
no_tokenization_with_fault text fault pairs last (inr (inl (at, e, short, v))) c = not_valid text at v c.utf8
no_tokenization_with_fault text fault pairs last (inr (inr (short, u, stops))) c = no_tokenization_stop text fault pairs last stops c

-- the longest prefix that is UTF-8 has one length
one_valid : (text : List ℕ) (m n : ℕ) → IsValidUpTo text m → IsValidUpTo text n → m ≡ n
one_valid text m n v w = utf8_len v ∙ sym (utf8_len w)
  where
    utf8_len : {k : ℕ} → IsValidUpTo text k → k ≡ utf8_valid_len text
    utf8_len {k} x = sym (utf8_valid_len-IsValidUpTo text k x)

pub one_fault : (text : List ℕ) (fault other : ScanFault) → IsFault text fault → IsFault text other → fault ≡ other
one_fault text fault other (inl f) (inl g) = f.0 ∙ sym g.0
one_fault text fault other (inl f) (inr (inl (at, e, short, v))) = absurd (omega (arith, f.1, short))
one_fault text fault other (inl f) (inr (inr (short, u, stops))) = absurd (omega (arith, f.1, short))
one_fault text fault other (inr (inl (at, e, short, v))) (inl g) = absurd (omega (arith, g.1, short))
one_fault text fault other (inr (inl (at, e, short, v))) (inr (inl (at', e', short', v'))) = e ∙ ap (λ n. NotUtf8 n) (one_valid text at at' v v') ∙ sym e'
one_fault text fault other (inr (inl (at, e, short, v))) (inr (inr (short', u, stops))) = absurd (not_valid text at v u)
one_fault text fault other (inr (inr (short, u, stops))) (inl g) = absurd (omega (arith, g.1, short))
one_fault text fault other (inr (inr (short, u, stops))) (inr (inl (at, e, short', v))) = absurd (not_valid text at v u)
one_fault text fault other (inr (inr (short, u, stops))) (inr (inr (short', u', stops'))) = one_stop text fault other u stops stops'
