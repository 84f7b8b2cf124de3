-- The brackets that are open, kept as a stack, against the lines that stay open, counted.
use Rattle.std.proofs.Common.{◌≡◌, ℕ, suc, ◌+◌, ◌-◌, ◌<◌, ◌≤◌, Bool, true, false, ◌&&◌, nat_lt, List, [], ◌∷◌, ◌++◌, length, if◌then◌else◌, refl, sym, ap, ap₂, ◌∙◌, arith, append_assoc, length-append, inl, inr}
use Rattle.std.proofs.lemmas.Bool.{and_parts, cases_lt, ltb-true}
use Rattle.std.proofs.lemmas.Bool.Decides.{nat_tests}
use Rattle.std.proofs.lemmas.List.{append-nil}
use Rattle.hcl_token.specs.declared.kind.Kind.{Kind}
use Rattle.hcl_layout.specs.Gaps.Lines.{Line}
use Rattle.hcl_layout.specs.Gaps.Indent.{openings, closings, stays_open, level}
use Rattle.hcl_layout.specs.Gaps.Space.{prev_after_all}
use Rattle.hcl_layout.specs.Gaps.Layout.{format_line, format_lines}
use Rattle.hcl_layout.specs.Gaps.Inner.Stages.{close_brackets, close_earlier, open_after_line, format_lines_by_stack}

-- ---- the surpluses of the lines that stay open

abbrev opened : List Line → ℕ
opened [] = 0
opened (line ∷ lines) = openings line.pairs + opened lines

abbrev closed : List Line → ℕ
closed [] = 0
closed (line ∷ lines) = closings line.pairs + closed lines

abbrev one_if : Bool → ℕ → List ℕ
one_if true n = n ∷ []
one_if false n = []

-- of each line that stays open up to the last one, the last first, how many more openings than closings there are from it on
abbrev pub surpluses : List Line → List ℕ
surpluses [] = []
surpluses (line ∷ lines) = surpluses lines ++ one_if (stays_open 0 0 (line ∷ lines)) (opened (line ∷ lines) - closed (line ∷ lines))

-- what is left of them at a line that opens o and closes c
abbrev left_of : ℕ → ℕ → List ℕ → List ℕ
left_of o c [] = []
left_of o c (s ∷ ss) = one_if (nat_lt c (s + o)) ((s + o) - c) ++ left_of o c ss

-- ---- one more line

opened_push : (ls : List Line) (x : Line) → opened (ls ++ x ∷ []) ≡ opened ls + openings x.pairs
opened_push [] x = omega arith
opened_push (l ∷ ls) x = omega (arith, opened_push ls x)

closed_push : (ls : List Line) (x : Line) → closed (ls ++ x ∷ []) ≡ closed ls + closings x.pairs
closed_push [] x = omega arith
closed_push (l ∷ ls) x = omega (arith, closed_push ls x)

-- lines that stay open open more than they close, if there are any
open_sum : (o c : ℕ) (l : Line) (ls : List Line) → stays_open o c (l ∷ ls) ≡ true → c + closed (l ∷ ls) < o + opened (l ∷ ls)
open_sum o c l [] h =
    let t = ltb-true (c + closings l.pairs) (o + openings l.pairs) (and_parts (nat_lt (c + closings l.pairs) (o + openings l.pairs)) true h).0 in
    omega (arith, t)
open_sum o c l (k ∷ ls) h =
    let t = open_sum (o + openings l.pairs) (c + closings l.pairs) k ls (and_parts (nat_lt (c + closings l.pairs) (o + openings l.pairs)) _ h).1 in
    omega arith

and_true : (a : Bool) → (a && true) ≡ a
and_true true = refl
and_true false = refl

and_assoc : (a b c : Bool) → (a && (b && c)) ≡ ((a && b) && c)
and_assoc true b c = refl
and_assoc false b c = refl

-- lines stay open at one more line where they did, and still open more than they close
open_push : (o c : ℕ) (ls : List Line) (x : Line) (n m : ℕ) → n ≡ c + closed ls → m ≡ o + opened ls
    → stays_open o c (ls ++ x ∷ []) ≡ (stays_open o c ls && nat_lt (n + closings x.pairs) (m + openings x.pairs))
open_push o c [] x n m n_is m_is =
    let e : n ≡ c = omega arith in
    let f : m ≡ o = omega arith in
    and_true _ ∙ ap₂ (λ u v. nat_lt (u + closings x.pairs) (v + openings x.pairs)) (sym e) (sym f)
open_push o c (l ∷ ls) x n m n_is m_is =
    ap (λ b. nat_lt (c + closings l.pairs) (o + openings l.pairs) && b)
    (open_push (o + openings l.pairs) (c + closings l.pairs) ls x n m (omega arith) (omega arith))
    ∙ and_assoc (nat_lt (c + closings l.pairs) (o + openings l.pairs)) (stays_open (o + openings l.pairs) (c + closings l.pairs) ls) (nat_lt (n + closings x.pairs) (m + openings x.pairs))

append_left : (o c : ℕ) (ss ts : List ℕ) → left_of o c (ss ++ ts) ≡ left_of o c ss ++ left_of o c ts
append_left o c [] ts = refl
append_left o c (s ∷ ss) ts =
    ap (λ us. one_if (nat_lt c (s + o)) ((s + o) - c) ++ us) (append_left o c ss ts) ∙ sym (append_assoc (one_if (nat_lt c (s + o)) ((s + o) - c)) _ _)

same_test : (s a b c o : ℕ) → s ≡ a - b → b < a → nat_lt c (s + o) ≡ nat_lt (b + c) (a + o)
same_test s a b c o is h = grind (arith, nat_tests)

-- a line that stays open, or not, at one more line
one_more : (l : Line) (ls : List Line) (x : Line) (stays : Bool) → stays_open 0 0 (l ∷ ls) ≡ stays
    → one_if (stays_open 0 0 (l ∷ ls ++ x ∷ [])) (opened (l ∷ ls ++ x ∷ []) - closed (l ∷ ls ++ x ∷ []))
    ≡ left_of (openings x.pairs) (closings x.pairs) (one_if stays (opened (l ∷ ls) - closed (l ∷ ls)))
one_more l ls x true is =
    let more = open_sum 0 0 l ls is in
    let test = open_push 0 0 (l ∷ ls) x (closed (l ∷ ls)) (opened (l ∷ ls)) (omega arith) (omega arith)
    ∙ ap (λ b. b && nat_lt (closed (l ∷ ls) + closings x.pairs) (opened (l ∷ ls) + openings x.pairs)) is
    ∙ sym (same_test (opened (l ∷ ls) - closed (l ∷ ls)) (opened (l ∷ ls)) (closed (l ∷ ls)) (closings x.pairs) (openings x.pairs) refl (omega (arith, more))) in
    let value : opened (l ∷ ls ++ x ∷ []) - closed (l ∷ ls ++ x ∷ []) ≡ ((opened (l ∷ ls) - closed (l ∷ ls)) + openings x.pairs) - closings x.pairs =
    omega (arith, more, opened_push ls x, closed_push ls x) in
    ap₂ one_if test value ∙ sym (append-nil _)
one_more l ls x false is =
    let test = open_push 0 0 (l ∷ ls) x (closed (l ∷ ls)) (opened (l ∷ ls)) (omega arith) (omega arith)
    ∙ ap (λ b. b && nat_lt (closed (l ∷ ls) + closings x.pairs) (opened (l ∷ ls) + openings x.pairs)) is in
    ap (λ b. one_if b (opened (l ∷ ls ++ x ∷ []) - closed (l ∷ ls ++ x ∷ []))) test

-- the surpluses at one more line: its own, if it opens more than it closes, and what is left of the others
pub push_surpluses : (ls : List Line) (x : Line)
    → surpluses (ls ++ x ∷ []) ≡ one_if (nat_lt (closings x.pairs) (openings x.pairs)) (openings x.pairs - closings x.pairs) ++ left_of (openings x.pairs) (closings x.pairs) (surpluses ls)
push_surpluses [] x = ap₂ one_if (and_true _ ∙ ap₂ nat_lt (omega arith) (omega arith)) (omega arith) ∙ sym (append-nil _)
push_surpluses (l ∷ ls) x =
    ap₂ (λ (us vs : List ℕ). us ++ vs) (push_surpluses ls x) (one_more l ls x (stays_open 0 0 (l ∷ ls)) refl)
    ∙ append_assoc (one_if (nat_lt (closings x.pairs) (openings x.pairs)) (openings x.pairs - closings x.pairs)) _ _
    ∙ ap (λ us. one_if (nat_lt (closings x.pairs) (openings x.pairs)) (openings x.pairs - closings x.pairs) ++ us)
    (sym (append_left (openings x.pairs) (closings x.pairs) (surpluses ls) (one_if (stays_open 0 0 (l ∷ ls)) (opened (l ∷ ls) - closed (l ∷ ls)))))

-- ---- how deep a line is

length_one : (b : Bool) (n : ℕ) → length (one_if b n) ≡ (if b then 1 else 0)
length_one true n = refl
length_one false n = refl

pub level_counts : (ls : List Line) (x : Line) → level ls x ≡ length (left_of (openings x.pairs) (closings x.pairs) (surpluses ls))
level_counts [] x = refl
level_counts (l ∷ ls) x =
    let o = openings x.pairs in
    let c = closings x.pairs in
    let own = one_if (stays_open 0 0 (l ∷ ls)) (opened (l ∷ ls) - closed (l ∷ ls)) in
    let first = sym (length_one (stays_open 0 0 (l ∷ ls ++ x ∷ [])) (opened (l ∷ ls ++ x ∷ []) - closed (l ∷ ls ++ x ∷ [])))
    ∙ ap length (one_more l ls x (stays_open 0 0 (l ∷ ls)) refl) in
    let parts = ap length (append_left o c (surpluses ls) own) ∙ length-append (left_of o c (surpluses ls)) (left_of o c own) in
    omega (arith, first, parts, level_counts ls x)

-- ---- the stack

-- the surpluses that a stack represents
abbrev pub running : ℕ → List ℕ → List ℕ
running sum [] = []
running sum (d ∷ ds) = (sum + d) ∷ running (sum + d) ds

-- more openings than closings: each surplus grows
left_extends : (o c a b : ℕ) (ds : List ℕ) → c < a + o → b + c ≡ a + o → left_of o c (running a ds) ≡ running b ds
left_extends o c a b [] h e = refl
left_extends o c a b (d ∷ ds) h e =
    let test : nat_lt c (a + d + o) ≡ true = grind (arith, nat_tests) in
    let value : a + d + o - c ≡ b + d = omega arith in
    rw (test, value) (ap (λ ss. (b + d) ∷ ss) (left_extends o c (a + d) (b + d) ds (omega arith) (omega arith)))

-- more closings than openings: what is removed
left_shrink : (o c a m : ℕ) (ds : List ℕ) → a + o + m ≡ c → left_of o c (running a ds) ≡ running 0 (close_brackets m ds)
left_shrink o c a m [] e = refl
left_shrink o c a m (d ∷ ds) e = elim (cases_lt m d) [
  | inl less ↦
      let test : nat_lt c (a + d + o) ≡ true = grind (arith, nat_tests) in
      let own : nat_lt m d ≡ true = grind (arith, nat_tests) in
      let value : a + d + o - c ≡ 0 + (d - m) = omega arith in
      rw (test, own, value) (ap (λ ss. (0 + (d - m)) ∷ ss) (left_extends o c (a + d) (0 + (d - m)) ds (omega arith) (omega arith)))
  | inr not_less ↦
      let test : nat_lt c (a + d + o) ≡ false = grind (arith, nat_tests) in
      let own : nat_lt m d ≡ false = grind (arith, nat_tests) in
      rw (test, own) (left_shrink o c (a + d) (m - d) ds (omega arith))
]

abbrev pub ArePositive : List ℕ → Type 0
ArePositive [] = Unit {0}
ArePositive (d ∷ ds) = (0 < d) × ArePositive ds

-- as many openings as closings: all stays
left_same : (n : ℕ) (ds : List ℕ) → ArePositive ds → left_of n n (running 0 ds) ≡ running 0 ds
left_same n [] pos = refl
left_same n (d ∷ ds) pos =
    let test : nat_lt n (0 + d + n) ≡ true = grind (arith, nat_tests, pos.0) in
    let value : 0 + d + n - n ≡ 0 + d = omega arith in
    rw (test, value) (ap (λ ss. (0 + d) ∷ ss) (left_extends n n (0 + d) (0 + d) ds (omega (arith, pos.0)) (omega arith)))

-- the lines that are open at a line
left_at : (o c : ℕ) (ds : List ℕ) → ArePositive ds
    → (o < c → left_of o c (running 0 ds) ≡ running 0 (close_brackets (c - o) ds)) × (c ≤ o → left_of o c (running 0 ds) ≡ running (o - c) ds)
left_at o c ds pos = (
  λ less. left_shrink o c 0 (c - o) ds (omega arith),
  λ le. elim (cases_lt c o) [
    | inl less ↦ left_extends o c 0 (o - c) ds (omega arith) (omega arith)
    | inr not_less ↦
        let same : c ≡ o = omega arith in
        let none : o - c ≡ 0 = omega arith in
        rw none (ap (λ k. left_of o k (running 0 ds)) same ∙ left_same o ds pos)
  ],
)

pub close_positive : (m : ℕ) (ds : List ℕ) → ArePositive ds → ArePositive (close_brackets m ds)
close_positive m [] pos = tt
close_positive m (d ∷ ds) pos = elim (cases_lt m d) [
  | inl less ↦ let own : nat_lt m d ≡ true = grind (arith, nat_tests) in rw own (omega arith, pos.1)
  | inr not_less ↦ let own : nat_lt m d ≡ false = grind (arith, nat_tests) in rw own (close_positive (m - d) ds pos.1)
]

length_running : (a : ℕ) (ds : List ℕ) → length (running a ds) ≡ length ds
length_running a [] = refl
length_running a (d ∷ ds) = ap suc (length_running (a + d) ds)

-- The stack represents the lines that are open after these lines.
pub record StackRepresents (lines : List Line) (stack : List ℕ) : Type 0 where
  pub same : surpluses lines ≡ running 0 stack
  pub positive : ArePositive stack

-- how a line changes the stack
record StackStep (o c : ℕ) (ds : List ℕ) : Type 0 where
  deep : length (left_of o c (running 0 ds)) ≡ length (close_earlier o c ds)
  following : one_if (nat_lt c o) (o - c) ++ left_of o c (running 0 ds) ≡ running 0 (open_after_line o c ds)
  positive : ArePositive (open_after_line o c ds)

stack_step : (o c : ℕ) (ds : List ℕ) → ArePositive ds → StackStep o c ds
stack_step o c ds pos = elim (cases_lt o c) [
  | inl less ↦
      let closes : nat_lt o c ≡ true = grind (arith, nat_tests) in
      let opens : nat_lt c o ≡ false = grind (arith, nat_tests) in
      let left = (left_at o c ds pos).0 less in
      record {
        deep = rw closes (ap length left ∙ length_running 0 (close_brackets (c - o) ds));
        following = rw (opens, closes) left;
        positive = rw (opens, closes) (close_positive (c - o) ds pos);
      }
  | inr not_less ↦
      let closes : nat_lt o c ≡ false = grind (arith, nat_tests) in
      let left = (left_at o c ds pos).1 not_less in
      elim (cases_lt c o) [
        | inl more ↦
            let opens : nat_lt c o ≡ true = grind (arith, nat_tests) in
            let sum : o - c ≡ 0 + (o - c) = omega arith in
            record {
              deep = rw closes (ap length left ∙ length_running (o - c) ds);
              following = rw (opens, closes) (ap (λ ss. (o - c) ∷ ss) left ∙ ap (λ n. n ∷ running n ds) sum);
              positive = rw (opens, closes) (omega arith, pos);
            }
        | inr not_more ↦
            let opens : nat_lt c o ≡ false = grind (arith, nat_tests) in
            let none : o - c ≡ 0 = omega arith in
            record {
              deep = rw closes (ap length left ∙ length_running (o - c) ds);
              following = rw (opens, closes) (left ∙ ap (λ n. running n ds) none);
              positive = rw (opens, closes) pos;
            }
      ]
]

-- one more line: how deep it is
pub line_deep : (lines : List Line) (stack : List ℕ) (x : Line) → StackRepresents lines stack → level lines x ≡ length (close_earlier (openings x.pairs) (closings x.pairs) stack)
line_deep lines stack x s =
    level_counts lines x ∙ ap (λ ss. length (left_of (openings x.pairs) (closings x.pairs) ss)) s.same
    ∙ (stack_step (openings x.pairs) (closings x.pairs) stack s.positive).deep

-- and the stack after it
pub line_is_at : (lines : List Line) (stack : List ℕ) (x : Line) → StackRepresents lines stack → StackRepresents (lines ++ x ∷ []) (open_after_line (openings x.pairs) (closings x.pairs) stack)
line_is_at lines stack x s =
    let step = stack_step (openings x.pairs) (closings x.pairs) stack s.positive in
    record {
      same = push_surpluses lines x
          ∙ ap (λ ss. one_if (nat_lt (closings x.pairs) (openings x.pairs)) (openings x.pairs - closings x.pairs) ++ left_of (openings x.pairs) (closings x.pairs) ss) s.same
          ∙ step.following;
      positive = step.positive;
    }

-- lines set by the stack are those of the definition
set_after : (earlier : List Line) (stack : List ℕ) (before : List Kind) (lines : List Line) → StackRepresents earlier stack → format_lines earlier before lines ≡ format_lines_by_stack stack before lines
set_after earlier stack before [] s = refl
set_after earlier stack before (x ∷ lines) s =
    ap₂ (λ (y : Line) (ys : List Line). y ∷ ys)
    (ap (λ n. format_line n before x) (line_deep earlier stack x s))
    (set_after (earlier ++ x ∷ []) (open_after_line (openings x.pairs) (closings x.pairs) stack) (prev_after_all x.pairs before) lines (line_is_at earlier stack x s))

pub set_by_stack : (before : List Kind) (lines : List Line) → format_lines [] before lines ≡ format_lines_by_stack [] before lines
set_by_stack before lines = set_after [] [] before lines (record { same = refl; positive = tt })
