-- Tokens of two texts that lie alike, and the bytes that they take.
use Rattle.std.proofs.Common.{◌≡◌, ℕ, zero, suc, ◌+◌, ◌-◌, ◌*◌, ◌%◌, ◌^◌, ◌<◌, ◌≤◌, List, [], ◌∷◌, length, take, drop, get_or, slice_range, ◌↔◌, ◌&&◌, Bool, true, false, IsTrue, below_more, refl, sym, ap, subst, ◌∙◌, arith, length-drop}
use Rattle.std.proofs.lemmas.List.{get_or_default, take-take, drop-take, drop-drop, length-take-le}
use Rattle.hcl_token.specs.declared.kind.Kind.{Kind}
use Rattle.hcl_token.specs.declared.span.Span.{Span}
use Rattle.hcl_token.specs.declared.limit.TheConstants.{MAX_TEXT}
use Rattle.hcl_token.specs.Tokens.{Pair, whole_text}
use Rattle.hcl_token.specs.Pairs.{pair_at, pairs_from, InOrder, gap_at, IsTokenRun, token_run}
use Rattle.hcl_token.specs.TokenizedText.{TokenizedText, pairs_in_range, without_first_gap}
use Rattle.hcl_token.specs.Inner.LineColumn.{IsWellFormed}
use Rattle.hcl_token.specs.Inner.SameTokens.{none, IsShiftedBy, AreShiftedBy, AreWordsShiftedBy}
use Rattle.hcl_token.specs.Inner.TokenWord.{number_of}
use Rattle.hcl_token.proofs.TokenWordLemmas.{kind_same, number_below, words_alike, words_apart}
use Rattle.hcl_token.proofs.OrderLemmas.{order-le, order-slice, gap-le, pairs-take, pairs-drop, length-range, text_is-slice}
use Rattle.hcl_token.proofs.TokensLemmas.{IsViewOf}

-- ---- parts of the same bytes

prefix_part : (s : List ℕ) (from to last : ℕ) → to ≤ last → take (to - from) (slice_range s from last) ≡ slice_range s from to
prefix_part s from to last h = take-take (to - from) (last - from) (drop from s) (omega arith)

back_part : (s : List ℕ) (from to last : ℕ) → from ≤ to → to ≤ last → drop (to - from) (slice_range s from last) ≡ slice_range s to last
back_part s from to last h k =
    let whole : last - from ≡ (to - from) + (last - to) = omega arith in
    let following : from + (to - from) ≡ to = omega arith in
    ap (λ n. drop (to - from) (take n (drop from s))) whole
    ∙ drop-take (to - from) (last - to) (drop from s)
    ∙ ap (λ (l : List ℕ). take (last - to) l) (drop-drop (to - from) from s ∙ ap (λ n. drop n s) following)

parts_same : (a b : List ℕ) (g s p h t q : ℕ) → g ≤ s → s ≤ p → h ≤ t → t ≤ q → s - g ≡ t - h → slice_range a g p ≡ slice_range b h q
    → (slice_range a g s ≡ slice_range b h t) × (slice_range a s p ≡ slice_range b t q)
parts_same a b g s p h t q gs sp ht tq even same = (
  sym (prefix_part a g s p sp) ∙ ap (λ (l : List ℕ). take (s - g) l) same ∙ ap (λ n. take n (slice_range b h q)) even ∙ prefix_part b h t q tq,
  sym (back_part a g s p gs sp) ∙ ap (λ (l : List ℕ). drop (s - g) l) same ∙ ap (λ n. drop n (slice_range b h q)) even ∙ back_part b h t q ht tq,
)

-- ---- places that are a number of bytes apart, modulo 2 ^ 32

even_from : (apart i j x y : ℕ) → (apart + j) % 2 ^ 32 ≡ i → (apart + y) % 2 ^ 32 ≡ x → i ≤ x → j ≤ y → y < 2 ^ 32 → x + j ≡ y + i
even_from apart i j x y base lies ix jy short = omega arith

apart_from : (apart i j x y : ℕ) → (apart + j) % 2 ^ 32 ≡ i → x + j ≡ y + i → i ≤ x → x < 2 ^ 32 → (apart + y) % 2 ^ 32 ≡ x
apart_from apart i j x y base even ix short = omega arith

abbrev pair : List ℕ → Kind → List ℕ → Pair
pair gap kind spelling = record { gap = gap; kind = kind; spelling = spelling }

pair_is : (g h : List ℕ) (k m : Kind) (s t : List ℕ) → g ≡ h → k ≡ m → s ≡ t → pair g k s ≡ pair h m t
pair_is g h k m s t e f r = ap (λ (v : List ℕ). pair v k s) e ∙ ap (λ (v : Kind). pair h v s) f ∙ ap (λ (v : List ℕ). pair h m v) r

-- the same bytes, and tokens that lie alike: the same pairs
runs_same : (a b : List ℕ) (apart i j p q g h : ℕ) (xs ys : List Span) → (apart + j) % 2 ^ 32 ≡ i → p < 2 ^ 32 → q < 2 ^ 32 → i ≤ g → j ≤ h → g + j ≡ h + i
    → InOrder g xs p → InOrder h ys q → length xs ≡ length ys → AreShiftedBy apart xs ys → slice_range a g p ≡ slice_range b h q
    → pairs_from a g xs ≡ pairs_from b h ys
runs_same a b apart i j p q g h [] [] base pm qm ig jh even o u number lie same = refl
runs_same a b apart i j p q g h [] (y ∷ ys) base pm qm ig jh even o u number lie same = absurd (omega arith)
runs_same a b apart i j p q g h (x ∷ xs) [] base pm qm ig jh even o u number lie same = absurd (omega arith)
runs_same a b apart i j p q g h (x ∷ xs) (y ∷ ys) base pm qm ig jh even o u number lie same =
    let first : IsShiftedBy apart x y = lie 0 (omega arith) in
    let xp : x.stop ≤ p = order-le xs x.stop p o.2 in
    let yq : y.stop ≤ q = order-le ys y.stop q u.2 in
    let gx : g ≤ x.start = o.0 in
    let xx : x.start ≤ x.stop = o.1 in
    let hy : h ≤ y.start = u.0 in
    let yy : y.start ≤ y.stop = u.1 in
    let start : x.start + j ≡ y.start + i = even_from apart i j x.start y.start base first.start (omega arith) (omega arith) (omega arith) in
    let stop : x.stop + j ≡ y.stop + i = even_from apart i j x.stop y.stop base first.stop (omega arith) (omega arith) (omega arith) in
    let gap = parts_same a b g x.start p h y.start q gx (omega arith) hy (omega arith) (omega arith) same in
    let spelling = parts_same a b x.start x.stop p y.start y.stop q xx xp yy yq (omega arith) gap.1 in
    let rest : pairs_from a x.stop xs ≡ pairs_from b y.stop ys =
    runs_same a b apart i j p q x.stop y.stop xs ys base pm qm (omega arith) (omega arith) stop o.2 u.2 (omega arith) (λ k inside. lie (suc k) (omega arith)) spelling.1 in
    ap (λ (ps : List Pair). pair_at a g x ∷ ps) rest
    ∙ ap (λ (z : Pair). z ∷ pairs_from b y.stop ys) (pair_is _ _ _ _ _ _ gap.0 first.kind spelling.0)

-- and back: the same pairs lie alike
first_lies : (a b : List ℕ) (apart i j g h : ℕ) (x y : Span) → (apart + j) % 2 ^ 32 ≡ i → x.stop ≤ length a → y.stop ≤ length b → x.stop < 2 ^ 32 → i ≤ g → j ≤ h → g + j ≡ h + i
    → g ≤ x.start → x.start ≤ x.stop → h ≤ y.start → y.start ≤ y.stop → pair_at a g x ≡ pair_at b h y → (x.stop + j ≡ y.stop + i) × IsShiftedBy apart x y
first_lies a b apart i j g h x y base xa yb short ig jh even gx xx hy yy e =
    let gap : x.start - g ≡ y.start - h =
    sym (length-range a g x.start gx (omega arith)) ∙ ap (λ (z : Pair). length z.gap) e ∙ length-range b h y.start hy (omega arith) in
    let spelling : x.stop - x.start ≡ y.stop - y.start =
    sym (length-range a x.start x.stop xx xa) ∙ ap (λ (z : Pair). length z.spelling) e ∙ length-range b y.start y.stop yy yb in
    let start : x.start + j ≡ y.start + i = omega arith in
    let stop : x.stop + j ≡ y.stop + i = omega arith in (
      stop,
      record {
        kind = ap (λ (z : Pair). z.kind) e;
        start = apart_from apart i j x.start y.start base start (omega arith) (omega arith);
        stop = apart_from apart i j x.stop y.stop base stop (omega arith) (omega arith);
      },
    )

lie_of : (a b : List ℕ) (apart i j p q g h : ℕ) (xs ys : List Span) → (apart + j) % 2 ^ 32 ≡ i → p ≤ length a → q ≤ length b → p < 2 ^ 32 → i ≤ g → j ≤ h → g + j ≡ h + i
    → InOrder g xs p → InOrder h ys q → pairs_from a g xs ≡ pairs_from b h ys → (k : ℕ) → k < length xs → IsShiftedBy apart (get_or xs k none) (get_or ys k none)
lie_of a b apart i j p q g h [] ys base pa qb short ig jh even o u e k inside = absurd (omega arith)
lie_of a b apart i j p q g h (x ∷ xs) [] base pa qb short ig jh even o u e k inside = absurd (cc)
lie_of a b apart i j p q g h (x ∷ xs) (y ∷ ys) base pa qb short ig jh even o u e zero inside =
    let xp : x.stop ≤ p = order-le xs x.stop p o.2 in
    let yq : y.stop ≤ q = order-le ys y.stop q u.2 in
    (first_lies a b apart i j g h x y base (omega arith) (omega arith) (omega arith) ig jh even o.0 o.1 u.0 u.1 (cc)).1
lie_of a b apart i j p q g h (x ∷ xs) (y ∷ ys) base pa qb short ig jh even o u e (suc k) inside =
    let xp : x.stop ≤ p = order-le xs x.stop p o.2 in
    let yq : y.stop ≤ q = order-le ys y.stop q u.2 in
    let stop : x.stop + j ≡ y.stop + i =
    (first_lies a b apart i j g h x y base (omega arith) (omega arith) (omega arith) ig jh even o.0 o.1 u.0 u.1 (cc)).0 in
    lie_of a b apart i j p q x.stop y.stop xs ys base pa qb short (omega (arith, o.0, o.1)) (omega (arith, u.0, u.1)) stop o.2 u.2 (cc) k (omega arith)

-- ---- runs

abbrev pub begin_of : List Span → ℕ
begin_of tokens = (get_or tokens 0 none).start

abbrev pub end_of : List Span → ℕ
end_of tokens = (get_or tokens (length tokens - 1) none).stop

-- the token that a look-up finds
pub found_at : (tokens : List Span) (i : ℕ) (token : Span) → token ≡ get_or tokens i token → i < length tokens → token ≡ get_or tokens i none
found_at tokens i token is within = is ∙ get_or_default tokens i token none within

pub begins_at : (tokens : List Span) (start : ℕ) (token : Span) → start ≡ token.start → token ≡ get_or tokens 0 token → 0 < length tokens → start ≡ begin_of tokens
begins_at tokens start token e is some = e ∙ ap (λ (t : Span). t.start) (found_at tokens 0 token is some)

pub ends_at : (tokens : List Span) (stop : ℕ) (token : Span) → stop ≡ token.stop → token ≡ get_or tokens (length tokens - 1) token → 0 < length tokens → stop ≡ end_of tokens
ends_at tokens stop token e is some = e ∙ ap (λ (t : Span). t.stop) (found_at tokens (length tokens - 1) token is (omega arith))

run_is : (text : List ℕ) (tokens : List Span) → 0 < length tokens → token_run text tokens ≡ pairs_from text (begin_of tokens) tokens
run_is text [] h = absurd (omega arith)
run_is text (x ∷ tokens) h = refl

order-here : (tokens : List Span) (at last : ℕ) → InOrder at tokens last → 0 < length tokens → InOrder (begin_of tokens) tokens last
order-here [] at last o h = absurd (omega arith)
order-here (x ∷ tokens) at last o h = (omega arith, o.1, o.2)

order-last : (tokens : List Span) (at last n : ℕ) → InOrder at tokens last → suc n ≡ length tokens → (get_or tokens n none).stop ≡ last
order-last [] at last n o e = absurd (omega arith)
order-last (x ∷ []) at last zero o e = o.2
order-last (x ∷ []) at last (suc n) o e = absurd (omega arith)
order-last (x ∷ y ∷ tokens) at last zero o e = absurd (omega arith)
order-last (x ∷ y ∷ tokens) at last (suc n) o e = order-last (y ∷ tokens) x.stop last n o.2 (omega arith)

end_is : (text : List ℕ) (tokens : List Span) (r : IsTokenRun text tokens) → end_of tokens ≡ r.order.1
end_is text tokens r = order-last tokens r.order.0 r.order.1 (length tokens - 1) r.order.2 (omega (arith, r.some))

-- where the first token starts and the last one stops
pub run_within : (text : List ℕ) (tokens : List Span) → IsTokenRun text tokens → (begin_of tokens ≤ end_of tokens) × (end_of tokens ≤ length text)
run_within text tokens r =
    let last : end_of tokens ≡ r.order.1 = end_is text tokens r in
    let le : begin_of tokens ≤ r.order.1 = order-le tokens (begin_of tokens) r.order.1 (order-here tokens r.order.0 r.order.1 r.order.2 r.some) in
    (omega arith, omega (arith, r.order.3))

pub run_text : (text : List ℕ) (tokens : List Span) → IsTokenRun text tokens → whole_text (token_run text tokens) [] ≡ slice_range text (begin_of tokens) (end_of tokens)
run_text text tokens r =
    ap (λ (ps : List Pair). whole_text ps []) (run_is text tokens r.some)
    ∙ text_is-slice text tokens (begin_of tokens) r.order.1 (order-here tokens r.order.0 r.order.1 r.order.2 r.some)
    ∙ ap (slice_range text (begin_of tokens)) (sym (end_is text tokens r))

-- ---- words that are this distance apart

pub and_more : (P : ℕ → Type 0) (k : ℕ) (a b : Bool) → IsTrue a ↔ ((m : ℕ) → m < k → P m) → IsTrue b ↔ P k → IsTrue (a && b) ↔ ((m : ℕ) → m < k + 1 → P m)
and_more P k true true f g = (λ _. below_more P k (f.0 refl) (g.0 refl), λ _. refl)
and_more P k true false f g = (λ h. absurd (cc), λ all. g.1 (all k (omega arith)))
and_more P k false b f g = (λ h. absurd (cc), λ all. f.1 (λ m h. all m (omega arith)))

token_within : (tokens : List Span) (at last k : ℕ) → InOrder at tokens last → k < length tokens
    → (at ≤ (get_or tokens k none).start) × ((get_or tokens k none).start ≤ (get_or tokens k none).stop) × ((get_or tokens k none).stop ≤ last)
token_within [] at last k o h = absurd (omega arith)
token_within (x ∷ tokens) at last zero o h = (o.0, o.1, order-le tokens x.stop last o.2)
token_within (x ∷ tokens) at last (suc k) o h =
    let rest = token_within tokens x.stop last k o.2 (omega arith) in
    (omega (arith, o.0, o.1, rest.0), rest.1, rest.2)

-- the token of a run, at most MAX_TEXT
within_run : (text : List ℕ) (tokens : List Span) (k : ℕ) → IsTokenRun text tokens → k < length tokens
    → (begin_of tokens ≤ (get_or tokens k none).start) × ((get_or tokens k none).start ≤ (get_or tokens k none).stop) × ((get_or tokens k none).stop ≤ MAX_TEXT)
within_run text tokens k r h =
    let is = token_within tokens (begin_of tokens) r.order.1 k (order-here tokens r.order.0 r.order.1 r.order.2 r.some) h in
    (is.0, is.1, omega (arith, is.2, r.order.3, r.short))

abbrev pub shift_between : ℕ → ℕ → ℕ
shift_between i j = (4294967552 * i + 2 ^ 64 - 4294967552 * j) % 2 ^ 64

abbrev apart_between : ℕ → ℕ → ℕ
apart_between i j = (i + 2 ^ 32 - j) % 2 ^ 32

lies_apart : (i j : ℕ) → i < 2 ^ 32 → j < 2 ^ 32 → (apart_between i j + j) % 2 ^ 32 ≡ i
lies_apart i j a b = omega arith

lie_by_words : (a b : List ℕ) (xs ys : List Span) → IsTokenRun a xs → IsTokenRun b ys → length xs ≡ length ys → AreWordsShiftedBy (shift_between (begin_of xs) (begin_of ys)) xs ys
    → AreShiftedBy (apart_between (begin_of xs) (begin_of ys)) xs ys
lie_by_words a b xs ys r s number words = λ k h.
    let x : Span = get_or xs k none in
    let y : Span = get_or ys k none in
    let xk = within_run a xs k r h in
    let yk = within_run b ys k s (omega arith) in
    let base = lies_apart (begin_of xs) (begin_of ys) (omega (arith, xk)) (omega (arith, yk)) in
    let alike = words_alike (number_of x.kind) (number_of y.kind) x.start y.start x.stop y.stop (begin_of xs) (begin_of ys) (omega (arith, number_below x.kind)) (omega (arith, number_below y.kind))
    xk.0 xk.1 xk.2 yk.0 yk.1 yk.2 (words k h) in
    record {
      kind = kind_same x.kind y.kind alike.0;
      start = apart_from (apart_between (begin_of xs) (begin_of ys)) (begin_of xs) (begin_of ys) x.start y.start base alike.1 xk.0 (omega (arith, xk));
      stop = apart_from (apart_between (begin_of xs) (begin_of ys)) (begin_of xs) (begin_of ys) x.stop y.stop base alike.2 (omega (arith, xk)) (omega (arith, xk));
    }

words_lie : (a b : List ℕ) (xs ys : List Span) → IsTokenRun a xs → IsTokenRun b ys → length xs ≡ length ys → AreShiftedBy (apart_between (begin_of xs) (begin_of ys)) xs ys
    → AreWordsShiftedBy (shift_between (begin_of xs) (begin_of ys)) xs ys
words_lie a b xs ys r s number lie = λ k h.
    let x : Span = get_or xs k none in
    let y : Span = get_or ys k none in
    let one = lie k h in
    let xk = within_run a xs k r h in
    let yk = within_run b ys k s (omega arith) in
    let base = lies_apart (begin_of xs) (begin_of ys) (omega (arith, xk)) (omega (arith, yk)) in
    let start : x.start + begin_of ys ≡ y.start + begin_of xs = even_from (apart_between (begin_of xs) (begin_of ys)) (begin_of xs) (begin_of ys) x.start y.start base one.start xk.0 yk.0 (omega (arith, yk)) in
    let stop : x.stop + begin_of ys ≡ y.stop + begin_of xs = even_from (apart_between (begin_of xs) (begin_of ys)) (begin_of xs) (begin_of ys) x.stop y.stop base one.stop (omega (arith, xk)) (omega (arith, yk)) (omega (arith, yk)) in
    ap (λ n. (n + 256 * x.start + 4294967296 * x.stop + 2 ^ 64 - (number_of y.kind + 256 * y.start + 4294967296 * y.stop)) % 2 ^ 64) (ap number_of one.kind)
    ∙ words_apart (number_of y.kind) x.start y.start x.stop y.stop (begin_of xs) (begin_of ys) (omega (arith, number_below y.kind)) xk.0 xk.1 xk.2 yk.0 yk.1 yk.2 start stop

pub same_places : (a b : List ℕ) (xs ys : List Span) → IsTokenRun a xs → IsTokenRun b ys → length xs ≡ length ys → token_run a xs ≡ token_run b ys → AreWordsShiftedBy (shift_between (begin_of xs) (begin_of ys)) xs ys
same_places a b xs ys r s number e =
    let o = order-here xs r.order.0 r.order.1 r.order.2 r.some in
    let u = order-here ys s.order.0 s.order.1 s.order.2 s.some in
    let base = base_of a b xs ys r s in
    words_lie a b xs ys r s number
    (lie_of a b (apart_between (begin_of xs) (begin_of ys)) (begin_of xs) (begin_of ys) r.order.1 s.order.1 (begin_of xs) (begin_of ys) xs ys base r.order.3 s.order.3 (omega (arith, r.order.3, r.short)) (omega arith) (omega arith) (omega arith) o u
    (sym (run_is a xs r.some) ∙ e ∙ run_is b ys s.some))
  where
    base_of : (a b : List ℕ) (xs ys : List Span) → IsTokenRun a xs → IsTokenRun b ys → (apart_between (begin_of xs) (begin_of ys) + begin_of ys) % 2 ^ 32 ≡ begin_of xs
    base_of a b xs ys r s = lies_apart (begin_of xs) (begin_of ys) (omega (arith, within_run a xs 0 r r.some)) (omega (arith, within_run b ys 0 s s.some))

pub same_pairs : (a b : List ℕ) (xs ys : List Span) → IsTokenRun a xs → IsTokenRun b ys → length xs ≡ length ys
    → whole_text (token_run a xs) [] ≡ whole_text (token_run b ys) [] → AreWordsShiftedBy (shift_between (begin_of xs) (begin_of ys)) xs ys → token_run a xs ≡ token_run b ys
same_pairs a b xs ys r s number same words =
    let o = order-here xs r.order.0 r.order.1 r.order.2 r.some in
    let u = order-here ys s.order.0 s.order.1 s.order.2 s.some in
    let lie = lie_by_words a b xs ys r s number words in
    let base = lies_apart (begin_of xs) (begin_of ys) (omega (arith, within_run a xs 0 r r.some)) (omega (arith, within_run b ys 0 s s.some)) in
    let bytes : slice_range a (begin_of xs) r.order.1 ≡ slice_range b (begin_of ys) s.order.1 =
    ap (slice_range a (begin_of xs)) (sym (end_is a xs r)) ∙ sym (run_text a xs r) ∙ same ∙ run_text b ys s ∙ ap (slice_range b (begin_of ys)) (end_is b ys s) in
    run_is a xs r.some
    ∙ runs_same a b (apart_between (begin_of xs) (begin_of ys)) (begin_of xs) (begin_of ys) r.order.1 s.order.1 (begin_of xs) (begin_of ys) xs ys base (omega (arith, r.order.3, r.short)) (omega (arith, s.order.3, s.short)) (omega arith) (omega arith) (omega arith) o u number lie bytes
    ∙ sym (run_is b ys s.some)

without_is : (text : List ℕ) (tokens : List Span) (from : ℕ) → without_first_gap (pairs_from text from tokens) ≡ token_run text tokens
without_is text [] from = refl
without_is text (x ∷ tokens) from =
    let nothing : x.start - x.start ≡ 0 = omega arith in
    let empty : [] ≡ slice_range text x.start x.start = sym (ap (λ n. take n (drop x.start text)) nothing) in
    ap (λ (gap : List ℕ). pair gap x.kind (slice_range text x.start x.stop) ∷ pairs_from text x.stop tokens) empty

-- ---- tokens of a text from a number on

pub run_length : (tokens run : List Span) (from count : ℕ) → run ≡ slice_range tokens from (from + count) → from + count ≤ length tokens → length run ≡ count
run_length tokens run from count e within =
    ap length e ∙ length-take-le (from + count - from) (drop from tokens) (omega (arith, length-drop from tokens)) ∙ omega arith

pub is_run : (text : List ℕ) (tokens run : List Span) (last_gap_at from count : ℕ) → IsWellFormed text tokens last_gap_at → run ≡ slice_range tokens from (from + count) → from + count ≤ length tokens → 0 < count
    → IsTokenRun text run
is_run text tokens run last_gap_at from count o e within some = record {
  some = omega (arith, run_length tokens run from count e within);
  order = (
    gap_at tokens from,
    gap_at tokens (from + count),
    subst (λ (l : List Span). InOrder (gap_at tokens from) l (gap_at tokens (from + count))) (sym e) (order-slice tokens 0 last_gap_at from (from + count) o.order (omega arith)),
    omega (arith, gap-le tokens 0 last_gap_at (from + count) o.order, o.within),
  );
  short = o.short;
}

pub range_run : (text : List ℕ) (tokens run : List Span) (last_gap_at from count : ℕ) (value : TokenizedText) → IsViewOf text tokens last_gap_at value → run ≡ slice_range tokens from (from + count)
    → pairs_in_range value.pairs from count ≡ token_run text run
range_run text tokens run last_gap_at from count value v e =
    let number : count ≡ from + count - from = omega arith in
    ap (λ (x : TokenizedText). pairs_in_range x.pairs from count) (sym v.view)
    ∙ ap (λ (ps : List Pair). without_first_gap (take count ps)) (pairs-drop text tokens 0 from)
    ∙ ap without_first_gap (pairs-take text (drop from tokens) (gap_at tokens from) count)
    ∙ without_is text (take count (drop from tokens)) (gap_at tokens from)
    ∙ ap (λ n. token_run text (take n (drop from tokens))) number
    ∙ ap (token_run text) (sym e)
