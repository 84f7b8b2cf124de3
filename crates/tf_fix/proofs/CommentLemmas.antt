-- The step on comments: its edits are the changed pieces of the text, and it leaves nothing to settle, since a line comment joins with
-- nothing and nothing joins with `#`.
use Rattle.std.proofs.Common.{◌≡◌, ℕ, ◌+◌, ◌-◌, ◌≤◌, true, false, List, [], ◌∷◌, ◌++◌, length, take, drop, slice_range, slice_get, map, Option, Some, None, codes, refl, sym, ap, subst, ◌∙◌, arith, append_assoc, length-append}
use Rattle.std.specs.Option.{option_map}
use Rattle.std.specs.Prelude.{unwrap_or}
use Rattle.std.proofs.lemmas.Bool.{false≢true}
use Rattle.std.proofs.lemmas.List.{append-nil}
use Rattle.std.proofs.lemmas.List.Folds.{drop_split}
use Rattle.edit_record.specs.Lists.PieceEdits.{ChangesAreNonempty}
use Rattle.edit_record.specs.Lists.Pieces.{Piece, old_text, new_text, changed_entries}
use Rattle.edit_record.specs.Lists.Pieces.Piece.{Kept, Changed}
use Rattle.hcl_token.specs.declared.kind.Kind.{Kind}
use Rattle.hcl_token.specs.declared.kind.Kind.TheVariants.{LineComment}
use Rattle.hcl_token.specs.TokenizedText.{TokenizedText}
use Rattle.hcl_token.specs.Tokens.{Pair, whole_text}
use Rattle.hcl_scan.specs.Follows.{AreApart}
use Rattle.tf_rules.specs.declared.finding.Finding.{Finding}
use Rattle.tf_rules.specs.declared.fix.Fix.{Fix}
use Rattle.tf_rules.specs.declared.fix.Fix.TheVariants.{CommentMarker}
use Rattle.tf_rules.specs.declared.rule.Rule.{Rule}
use Rattle.tf_fix.specs.StepText.{gap_at, fixed_pairs, fixed_pairs_from, fix_step_text}
use Rattle.tf_fix.specs.Comments.{fixed_comment}
use Rattle.tf_rules_laws.specs.OneRule.{IsSlashComment}
use Rattle.tf_fix.specs.Edits.CommentEdits.{start_of, comment_edit}
use Rattle.tf_rules.specs.ValidFindings.{AreValidFindings}
use Rattle.tf_rules.specs.declared.rule.Rule.TheVariants.{CommentSyntax}
use Rattle.tf_fix.specs.Inner.Nonempty.{IsFixableWithin, HasValidFix}
use Rattle.tf_fix.specs.Insertions.{spelling_at}
use Rattle.tf_fix.specs.Edits.FindingReplacements.{pairs_parts}
use Rattle.tf_fix.specs.OfRule.{IsOfRule, AreOfRule}
use Rattle.tf_rules.specs.Fixes.{is_comment_fix}
use Rattle.tf_rules.specs.Table.{is_comment_rule}
use Rattle.tf_fix.specs.Edits.Parts.{TextPart, parts_of, text_of_parts}
use Rattle.tf_fix.specs.Edits.Parts.TextPart.{Gap, Token}
use Rattle.tf_fix.specs.JoinedTokens.{Prev, joins_prev}
use Rattle.tf_fix.specs.Edits.SettledSpaces.{prev_of_parts}
use Rattle.tf_fix.specs.Selection.{selected}
use Rattle.tf_fix.proofs.PairLemmas.{parts_append, pairs_settled}
use Rattle.tf_fix.proofs.PartLemmas.{known, take_range}
use Rattle.tf_fix.proofs.SettledLemmas.{Apart, apart_parts, apart_join, stays_same, parts_written, apart_text}
use Rattle.tf_fix.proofs.SelectionLemmas.{AreTaken, selected_are, selected_of}

-- ---- texts of pairs

text_append : (ps qs : List Pair) (last : List ℕ) → whole_text (ps ++ qs) last ≡ whole_text ps (whole_text qs last)
text_append [] qs last = refl
text_append (p ∷ ps) qs last = ap (λ t. p.gap ++ (p.spelling ++ t)) (text_append ps qs last)

text_after : (ps : List Pair) (last rest : List ℕ) → whole_text ps (last ++ rest) ≡ whole_text ps last ++ rest
text_after [] last rest = refl
text_after (p ∷ ps) last rest =
    ap (λ t. p.gap ++ (p.spelling ++ t)) (text_after ps last rest) ∙ ap (λ t. p.gap ++ t) (sym (append_assoc p.spelling (whole_text ps last) rest))
    ∙ sym (append_assoc p.gap (p.spelling ++ whole_text ps last) rest)

-- pairs, a gap, a spelling, and what follows
pair_text : (ps : List Pair) (gap spelling rest : List ℕ) → whole_text ps (gap ++ (spelling ++ rest)) ≡ whole_text ps gap ++ (spelling ++ rest)
pair_text ps gap spelling rest = text_after ps gap (spelling ++ rest)

-- ---- the comments that are taken

-- what is known of one of them
record IsTaken (pairs : List Pair) (f : Finding) : Type 0 where
  comment : Pair
  found : slice_get pairs f.first ≡ Some comment
  prefix : drop f.first pairs ≡ comment ∷ drop f.past pairs
  kind : comment.kind ≡ LineComment
  spelling : comment.spelling ≡ codes "//" ++ drop 2 comment.spelling
  next : f.past ≡ f.first + 1
  has_fix : fixed_pairs pairs f.first f.past f.fix ≡ fixed_comment comment ∷ []

slash_next : (first past : ℕ) (m : Option Fix) → is_comment_fix m ≡ true → HasValidFix first past m → past ≡ first + 1
slash_next first past (Some CommentMarker) is fits = fits
slash_next first past m is fits = absurd (false≢true is)

of_comments : (rule : Rule) (pairs : List Pair) (f : Finding) → is_comment_rule rule ≡ true → IsOfRule rule pairs f → (is_comment_fix f.fix ≡ true) × IsSlashComment pairs f.first
of_comments CommentSyntax pairs f is of = of
of_comments rule pairs f is of = absurd (false≢true is)

slash_fixed : (pairs : List Pair) (first past : ℕ) (m : Option Fix) → is_comment_fix m ≡ true → fixed_pairs pairs first past m ≡ map fixed_comment (slice_range pairs first past)
slash_fixed pairs first past (Some CommentMarker) is = refl
slash_fixed pairs first past m is = absurd (false≢true is)

two_after : (s text : List ℕ) → s ≡ codes "//" ++ text → s ≡ codes "//" ++ drop 2 s
two_after s text e = e ∙ ap (λ t. codes "//" ++ drop 2 t) (sym e)

one_pair : (pairs : List Pair) (first past : ℕ) (p : Pair) (rest : List Pair) → past ≡ first + 1 → drop first pairs ≡ p ∷ rest → slice_range pairs first past ≡ p ∷ []
one_pair pairs first past p rest next leading =
    let one : past - first ≡ 1 = omega (arith, next) in
    ap (λ n. take n (drop first pairs)) one ∙ ap (λ t. take 1 t) leading

is_taken : (pairs : List Pair) (f : Finding) → IsFixableWithin (length pairs) f → is_comment_fix f.fix ≡ true → IsSlashComment pairs f.first → IsTaken pairs f
is_taken pairs f fits is comment =
    let next = slash_next f.first f.past f.fix is fits.1 in
    let (p, found, leading) = known pairs f.first (omega (arith, fits.0, fits.2)) in
    let kind : Some p.kind ≡ Some LineComment = sym (ap (option_map (λ (q : Pair). q.kind)) found) ∙ comment.0 in
    let spelling : Some p.spelling ≡ Some (codes "//" ++ comment.1.0) = sym (ap (option_map (λ (q : Pair). q.spelling)) found) ∙ comment.1.1 in
    let here : drop f.first pairs ≡ p ∷ drop f.past pairs = leading ∙ ap (λ n. p ∷ drop n pairs) (sym next) in
    record {
      comment = p;
      found = found;
      prefix = here;
      kind = cc kind;
      spelling = two_after p.spelling comment.1.0 (cc spelling);
      next = next;
      has_fix = slash_fixed pairs f.first f.past f.fix is ∙ ap (map fixed_comment) (one_pair pairs f.first f.past p _ next here);
    }

-- comments in order
abbrev AreComments : ℕ → List Pair → List Finding → Type 0
AreComments at pairs [] = Unit {0}
AreComments at pairs (f ∷ fs) = (at ≤ f.first) × IsTaken pairs f × AreComments f.past pairs fs

are_comments : (rule : Rule) (pairs : List Pair) (at : ℕ) (fs : List Finding) → is_comment_rule rule ≡ true → AreOfRule rule pairs fs → AreTaken at pairs fs → AreComments at pairs fs
are_comments rule pairs at [] is of are = tt
are_comments rule pairs at (f ∷ fs) is of are =
    let comment = of_comments rule pairs f is of.0 in
    (are.0, is_taken pairs f are.1 comment.0 comment.1, are_comments rule pairs f.past fs is of.1 are.2)

all_comments : (rule : Rule) (pairs : List Pair) (findings : List Finding) → is_comment_rule rule ≡ true → AreOfRule rule pairs findings → AreValidFindings (length pairs) findings
    → AreComments 0 pairs (selected findings)
all_comments rule pairs findings is of valid =
    are_comments rule pairs 0 (selected findings) is (selected_of rule pairs 0 findings of) (selected_are pairs 0 findings (omega arith) valid)

gap_is : (pairs : List Pair) (i : ℕ) (p : Pair) → slice_get pairs i ≡ Some p → gap_at pairs i ≡ p.gap
gap_is pairs i p found = ap (λ o. unwrap_or (option_map (λ (q : Pair). q.gap) o) []) found

spelling_is : (pairs : List Pair) (i : ℕ) (p : Pair) → slice_get pairs i ≡ Some p → spelling_at pairs i ≡ p.spelling
spelling_is pairs i p found = ap (λ o. unwrap_or (option_map (λ (q : Pair). q.spelling) o) []) found

-- ---- the pieces

abbrev pub comment_pieces : ℕ → List Pair → List ℕ → List Finding → List Piece
comment_pieces at pairs last [] = Kept (whole_text (drop at pairs) last) ∷ []
comment_pieces at pairs last (f ∷ fs) =
    Kept (whole_text (slice_range pairs at f.first) (gap_at pairs f.first))
    ∷ Changed (codes "//") (codes "#")
    ∷ Kept (drop 2 (spelling_at pairs f.first))
    ∷ comment_pieces f.past pairs last fs

pub pieces_changes : (at : ℕ) (pairs : List Pair) (last : List ℕ) (fs : List Finding) → ChangesAreNonempty (comment_pieces at pairs last fs)
pieces_changes at pairs last [] = tt
pieces_changes at pairs last (f ∷ fs) = (omega arith, pieces_changes f.past pairs last fs)

pieces_before : (at : ℕ) (pairs : List Pair) (last : List ℕ) (fs : List Finding) → AreComments at pairs fs → old_text (comment_pieces at pairs last fs) ≡ whole_text (drop at pairs) last
pieces_before at pairs last [] are = append-nil (whole_text (drop at pairs) last)
pieces_before at pairs last (f ∷ fs) are =
    let t = are.1 in
    let p = t.comment in
    let before = slice_range pairs at f.first in
    let rest = whole_text (drop f.past pairs) last in
    let whole : drop at pairs ≡ before ++ (p ∷ drop f.past pairs) = drop_split pairs at f.first are.0 ∙ ap (λ ps. before ++ ps) t.prefix in
    let spelt : codes "//" ++ (drop 2 p.spelling ++ rest) ≡ p.spelling ++ rest = ap (λ s. s ++ rest) (sym t.spelling) in
    ap (λ r. whole_text before (gap_at pairs f.first) ++ (codes "//" ++ (drop 2 (spelling_at pairs f.first) ++ r))) (pieces_before f.past pairs last fs are.2)
    ∙ ap (λ g. whole_text before g ++ (codes "//" ++ (drop 2 (spelling_at pairs f.first) ++ rest))) (gap_is pairs f.first p t.found)
    ∙ ap (λ s. whole_text before p.gap ++ (codes "//" ++ (drop 2 s ++ rest))) (spelling_is pairs f.first p t.found)
    ∙ ap (λ s. whole_text before p.gap ++ s) spelt
    ∙ sym (pair_text before p.gap p.spelling rest)
    ∙ sym (ap (λ ps. whole_text ps last) whole ∙ text_append before (p ∷ drop f.past pairs) last)

pieces_after : (at : ℕ) (pairs : List Pair) (last : List ℕ) (fs : List Finding) → AreComments at pairs fs → new_text (comment_pieces at pairs last fs) ≡ whole_text (fixed_pairs_from at pairs fs) last
pieces_after at pairs last [] are = append-nil (whole_text (drop at pairs) last)
pieces_after at pairs last (f ∷ fs) are =
    let t = are.1 in
    let p = t.comment in
    let before = slice_range pairs at f.first in
    let more = fixed_pairs_from f.past pairs fs in
    let rest = whole_text more last in
    ap (λ r. whole_text before (gap_at pairs f.first) ++ (codes "#" ++ (drop 2 (spelling_at pairs f.first) ++ r))) (pieces_after f.past pairs last fs are.2)
    ∙ ap (λ g. whole_text before g ++ (codes "#" ++ (drop 2 (spelling_at pairs f.first) ++ rest))) (gap_is pairs f.first p t.found)
    ∙ ap (λ s. whole_text before p.gap ++ (codes "#" ++ (drop 2 s ++ rest))) (spelling_is pairs f.first p t.found)
    ∙ sym (pair_text before p.gap (codes "#" ++ drop 2 p.spelling) rest)
    ∙ sym (text_append before (fixed_comment p ∷ more) last)
    ∙ ap (λ ps. whole_text (before ++ (ps ++ more)) last) (sym t.has_fix)

start_is : (pairs : List Pair) (at first : ℕ) (gap : List ℕ) → at ≤ first
    → length (whole_text (take first pairs) gap) ≡ length (whole_text (take at pairs) []) + length (whole_text (slice_range pairs at first) gap)
start_is pairs at first gap le =
    let before = take at pairs in
    let between = slice_range pairs at first in
    ap (λ ps. length (whole_text ps gap)) (take_range pairs at first le) ∙ ap length (text_append before between gap)
    ∙ ap length (text_after before [] (whole_text between gap)) ∙ length-append (whole_text before []) (whole_text between gap)

stop_is : (pairs : List Pair) (f : Finding) (t : IsTaken pairs f)
    → length (whole_text (take f.past pairs) []) ≡ length (whole_text (take f.first pairs) t.comment.gap) + 2 + length (drop 2 t.comment.spelling)
stop_is pairs f t =
    let p = t.comment in
    let le : f.first ≤ f.past = omega (arith, t.next) in
    let one = ap (λ ps. whole_text ps []) (one_pair pairs f.first f.past p _ t.next t.prefix) in
    let whole = ap (λ ps. whole_text ps []) (take_range pairs f.first f.past le) ∙ text_append (take f.first pairs) (slice_range pairs f.first f.past) []
    ∙ ap (whole_text (take f.first pairs)) one ∙ pair_text (take f.first pairs) p.gap p.spelling [] in
    let bare = ap length (append-nil p.spelling) in
    let long = ap length t.spelling in
    omega (arith, ap length whole, length-append (whole_text (take f.first pairs) p.gap) (p.spelling ++ []), bare, long)

pieces_entries : (at n : ℕ) (pairs : List Pair) (last : List ℕ) (fs : List Finding) → AreComments at pairs fs → n ≡ length (whole_text (take at pairs) [])
    → changed_entries n (comment_pieces at pairs last fs) ≡ map (comment_edit pairs) fs
pieces_entries at n pairs last [] are here = refl
pieces_entries at n pairs last (f ∷ fs) are here =
    let t = are.1 in
    let p = t.comment in
    let gap = gap_at pairs f.first in
    let start : start_of pairs f.first ≡ n + length (whole_text (slice_range pairs at f.first) gap) = start_is pairs at f.first gap are.0 ∙ ap (λ k. k + length (whole_text (slice_range pairs at f.first) gap)) (sym here) in
    let stop = stop_is pairs f t in
    let same_gap = ap (λ g. length (whole_text (take f.first pairs) g)) (gap_is pairs f.first p t.found) in
    let same_spelling = ap (λ s. length (drop 2 s)) (spelling_is pairs f.first p t.found) in
    let next : n + length (whole_text (slice_range pairs at f.first) gap) + 2 + length (drop 2 (spelling_at pairs f.first)) ≡ length (whole_text (take f.past pairs) []) =
    omega (arith, start, stop, same_gap, same_spelling) in
    ap (λ es. record { at = n + length (whole_text (slice_range pairs at f.first) gap); removed = codes "//"; added = codes "#" } ∷ es)
    (pieces_entries f.past _ pairs last fs are.2 next)
    ∙ ap (λ k. record { at = k; removed = codes "//"; added = codes "#" } ∷ map (comment_edit pairs) fs) (sym start)

-- ---- nothing is to be settled

-- nothing joins with `#`
hash_alone : (prev : Prev) (text : List ℕ) → joins_prev prev LineComment (35 ∷ text) ≡ false
hash_alone None text = refl
hash_alone (Some (LineComment, s)) text = refl
hash_alone (Some (k, s)) text = refl

-- a line comment joins with nothing
other_comment : (s t : List ℕ) (xs : List TextPart) → Apart (Some (LineComment, s)) xs → Apart (Some (LineComment, t)) xs
other_comment s t [] a = tt
other_comment s t (Gap [] ∷ xs) a = other_comment s t xs a
other_comment s t (Gap (b ∷ g) ∷ xs) a = a
other_comment s t (Token k z ∷ xs) a = (refl, a.1)

token_after : (prev : Prev) (gap : List ℕ) (k : Kind) (s : List ℕ) (xs : List TextPart) → Apart prev (Gap gap ∷ Token k s ∷ xs) → Apart (Some (k, s)) xs
token_after prev [] k s xs a = a.1
token_after prev (b ∷ gap) k s xs a = a.1

hash_apart : (prev : Prev) (gap text : List ℕ) (k : Kind) (xs : List TextPart) → k ≡ LineComment → Apart (Some (LineComment, codes "#" ++ text)) xs
    → Apart prev (Gap gap ∷ Token k (codes "#" ++ text) ∷ xs)
hash_apart prev [] text k xs is a = rw is (hash_alone prev text, a)
hash_apart prev (b ∷ gap) text k xs is a = rw is (refl, a)

comments_apart : (prev : Prev) (at : ℕ) (pairs : List Pair) (last : List ℕ) (fs : List Finding) → AreComments at pairs fs
    → Apart prev (parts_of (drop at pairs) last) → Apart prev (parts_of (fixed_pairs_from at pairs fs) last)
comments_apart prev at pairs last [] are a = a
comments_apart prev at pairs last (f ∷ fs) are a =
    let t = are.1 in
    let p = t.comment in
    let before = slice_range pairs at f.first in
    let more = fixed_pairs_from f.past pairs fs in
    let old = parts_of (drop f.past pairs) last in
    let whole : drop at pairs ≡ before ++ (p ∷ drop f.past pairs) = drop_split pairs at f.first are.0 ∙ ap (λ ps. before ++ ps) t.prefix in
    let split : parts_of (drop at pairs) last ≡ pairs_parts before ++ (Gap p.gap ∷ Token p.kind p.spelling ∷ old) = ap (λ ps. parts_of ps last) whole ∙ parts_append before (p ∷ drop f.past pairs) last in
    let both = apart_parts prev (pairs_parts before) (Gap p.gap ∷ Token p.kind p.spelling ∷ old) (subst (Apart prev) split a) in
    let following : Apart (Some (LineComment, p.spelling)) old = subst (λ k. Apart (Some (k, p.spelling)) old) t.kind (token_after _ p.gap p.kind p.spelling old both.1) in
    let rest = comments_apart (Some (LineComment, codes "#" ++ drop 2 p.spelling)) f.past pairs last fs are.2 (other_comment p.spelling (codes "#" ++ drop 2 p.spelling) old following) in
    let here = hash_apart (prev_of_parts prev (pairs_parts before)) p.gap (drop 2 p.spelling) p.kind (parts_of more last) t.kind rest in
    let joined = apart_join prev (pairs_parts before) (Gap p.gap ∷ Token p.kind (codes "#" ++ drop 2 p.spelling) ∷ parts_of more last) both.0 here in
    let now : parts_of (fixed_pairs_from at pairs (f ∷ fs)) last ≡ pairs_parts before ++ (Gap p.gap ∷ Token p.kind (codes "#" ++ drop 2 p.spelling) ∷ parts_of more last) =
    ap (λ ps. parts_of (before ++ (ps ++ more)) last) t.has_fix ∙ parts_append before (fixed_comment p ∷ more) last in
    subst (Apart prev) (sym now) joined

pub comments_settled : (rule : Rule) (tokenized : TokenizedText) (findings : List Finding) → is_comment_rule rule ≡ true → AreApart tokenized.pairs → AreOfRule rule tokenized.pairs findings → AreValidFindings (length tokenized.pairs) findings
    → fix_step_text tokenized findings ≡ whole_text (fixed_pairs_from 0 tokenized.pairs (selected findings)) tokenized.last
comments_settled rule tokenized findings is apart of valid =
    let new = fixed_pairs_from 0 tokenized.pairs (selected findings) in
    let a : Apart None (parts_of new tokenized.last) = comments_apart None 0 tokenized.pairs tokenized.last (selected findings) (all_comments rule tokenized.pairs findings is of valid) (apart_text tokenized.pairs tokenized.last apart) in
    sym (pairs_settled None new tokenized.last) ∙ ap text_of_parts (stays_same None (parts_of new tokenized.last) a) ∙ parts_written new tokenized.last

-- ---- the whole step

pub comments_before : (rule : Rule) (tokenized : TokenizedText) (findings : List Finding) → is_comment_rule rule ≡ true → AreOfRule rule tokenized.pairs findings → AreValidFindings (length tokenized.pairs) findings
    → old_text (comment_pieces 0 tokenized.pairs tokenized.last (selected findings)) ≡ whole_text tokenized.pairs tokenized.last
comments_before rule tokenized findings is of valid = pieces_before 0 tokenized.pairs tokenized.last (selected findings) (all_comments rule tokenized.pairs findings is of valid)

pub comments_after : (rule : Rule) (tokenized : TokenizedText) (findings : List Finding) → is_comment_rule rule ≡ true → AreApart tokenized.pairs → AreOfRule rule tokenized.pairs findings → AreValidFindings (length tokenized.pairs) findings
    → new_text (comment_pieces 0 tokenized.pairs tokenized.last (selected findings)) ≡ fix_step_text tokenized findings
comments_after rule tokenized findings is apart of valid =
    pieces_after 0 tokenized.pairs tokenized.last (selected findings) (all_comments rule tokenized.pairs findings is of valid) ∙ sym (comments_settled rule tokenized findings is apart of valid)

pub comments_edits : (rule : Rule) (tokenized : TokenizedText) (findings : List Finding) → is_comment_rule rule ≡ true → AreOfRule rule tokenized.pairs findings → AreValidFindings (length tokenized.pairs) findings
    → changed_entries 0 (comment_pieces 0 tokenized.pairs tokenized.last (selected findings)) ≡ map (comment_edit tokenized.pairs) (selected findings)
comments_edits rule tokenized findings is of valid = pieces_entries 0 0 tokenized.pairs tokenized.last (selected findings) (all_comments rule tokenized.pairs findings is of valid) refl
