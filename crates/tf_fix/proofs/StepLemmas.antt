-- One step of a fix: what `make` answers about its edits, and which texts they turn into each other.
use Rattle.std.proofs.Common.{◌≡◌, ℕ, ◌*◌, ◌≤◌, ◌<◌, Bool, true, false, List, [], ◌∷◌, length, map, None, Result, Ok, Err, if◌then◌else◌, refl, sym, ap, subst, ◌∙◌, arith, nat_lt}
use Rattle.std.specs.Prelude.{IfErr}
use Rattle.std.specs.Result.{IsErr, IsErrAnd}
use Rattle.std.proofs.lemmas.Bool.{ltb-true, ltb-false}
use Rattle.edit_record.specs.Lists.Validity.{make_edits}
use Rattle.edit_record.specs.Lists.PieceEdits.{ChangesAreNonempty, PiecesTransform, PiecesMakeValidEdits}
use Rattle.edit_record.specs.Lists.Pieces.{EditEntry, EditList, Piece, Transforms, as_list, old_text, new_text, changed_entries}
use Rattle.edit_record.specs.declared.lists.edit.BadEdits.{BadEdits}
use Rattle.edit_record.specs.declared.lists.edit.BadEdits.TheVariants.{TooLong}
use Rattle.edit_record.specs.declared.lists.edits.TheConstants.{MAX_TEXT}
use Rattle.hcl_scan.specs.Tokenization.{IsTokenization}
use Rattle.hcl_scan.specs.Follows.{AreApart}
use Rattle.hcl_token.specs.TokenizedText.{TokenizedText}
use Rattle.hcl_token.specs.Tokens.{whole_text}
use Rattle.tf_rules.specs.declared.finding.Finding.{Finding}
use Rattle.tf_rules.specs.declared.rule.Rule.{Rule}
use Rattle.tf_fix.specs.StepText.{fix_step_text}
use Rattle.tf_fix.specs.declared.fault.LintFault.{LintFault}
use Rattle.tf_fix.specs.Edits.CommentEdits.{comment_edit}
use Rattle.tf_fix.specs.Edits.StepEdits.{fix_step_entries}
use Rattle.tf_rules.specs.ValidFindings.{AreValidFindings}
use Rattle.tf_fix.specs.Edits.FindingReplacements.{step_replacements}
use Rattle.tf_fix.specs.OfRule.{AreOfRule}
use Rattle.tf_rules.specs.Table.{is_comment_rule}
use Rattle.tf_fix.specs.Edits.Parts.{parts}
use Rattle.tf_fix.specs.Edits.Replacements.{Replacement, AreReplacementsInOrder, replaced_pieces}
use Rattle.tf_fix.specs.Selection.{selected}
use Rattle.tf_fix.proofs.CommentLemmas.{comment_pieces, pieces_changes, comments_before, comments_after, comments_edits}
use Rattle.tf_fix.proofs.NonemptyLemmas.{tokens_nonempty, selected_real, real_changes}
use Rattle.tf_fix.proofs.PairLemmas.{by_pairs}
use Rattle.tf_fix.proofs.PartLemmas.{parts_length}
use Rattle.tf_fix.proofs.SettledLemmas.{pieces_old, replaced_is, parts_written, apart_text}
use Rattle.tf_fix.proofs.SelectionLemmas.{step_order, selected_are}

-- what the laws of edits say of the pieces of a text
abbrev pub PiecesAlwaysTransform : Type 0
PiecesAlwaysTransform = (ps : List Piece) → PiecesTransform ps

abbrev pub PiecesAlwaysMake : Type 0
PiecesAlwaysMake = (ps : List Piece) → ChangesAreNonempty ps → length (old_text ps) ≤ MAX_TEXT → PiecesMakeValidEdits ps

-- a tokenized text in pieces, of which these edits are those that change, and the new text
pub record InPieces (tokenized : TokenizedText) (new : List ℕ) (es : List EditEntry) : Type 0 where
  pub pieces : List Piece
  pub changes : ChangesAreNonempty pieces
  pub old_is : old_text pieces ≡ whole_text tokenized.pairs tokenized.last
  pub new_is : new_text pieces ≡ new
  pub edits_are : changed_entries 0 pieces ≡ es

-- what edits are to be: those that turn the tokenized text into the new one
abbrev pub edits_of : TokenizedText → List EditEntry → EditList
edits_of tokenized es = as_list (length tokenized.text) es

pub step_turns : PiecesAlwaysTransform → (tokenized : TokenizedText) (new : List ℕ) (es : List EditEntry) → IsTokenization tokenized.text tokenized.pairs tokenized.last → InPieces tokenized new es → Transforms (edits_of tokenized es) tokenized.text new
step_turns loop_step tokenized new es is p =
    let whole : old_text p.pieces ≡ tokenized.text = p.old_is ∙ sym is.tokenizes.text_is in
    let P : List ℕ → Type 0 = λ t. Transforms (as_list (length t) (changed_entries 0 p.pieces)) t (new_text p.pieces) in
    let Q : List ℕ → Type 0 = λ t. Transforms (as_list (length tokenized.text) (changed_entries 0 p.pieces)) tokenized.text t in
    let R : List EditEntry → Type 0 = λ t. Transforms (as_list (length tokenized.text) t) tokenized.text new in
    subst R p.edits_are (subst Q p.new_is (subst P whole (loop_step p.pieces)))

IsMade : (old new : List ℕ) (es : List EditEntry) → Type 0
IsMade old new es =
    make_edits (length old) es ≡ (if nat_lt MAX_TEXT (length new) then Err TooLong else Ok (as_list (length old) es))

made_from : PiecesAlwaysMake → (ps : List Piece) (old new : List ℕ) (es : List EditEntry) → ChangesAreNonempty ps → old_text ps ≡ old → new_text ps ≡ new → changed_entries 0 ps ≡ es
    → length (old_text ps) ≤ MAX_TEXT → IsMade old new es
unfolding IsMade
made_from make ps old new es are o n e short =
    let whole : IsMade (old_text ps) (new_text ps) (changed_entries 0 ps) = make ps are short in
    let P : List ℕ → Type 0 = λ t. IsMade t (new_text ps) (changed_entries 0 ps) in
    let Q : List ℕ → Type 0 = λ t. IsMade old t (changed_entries 0 ps) in
    let R : List EditEntry → Type 0 = λ t. IsMade old new t in
    subst R e (subst Q n (subst P o whole))

step_made : PiecesAlwaysMake → (tokenized : TokenizedText) (new : List ℕ) (es : List EditEntry) → IsTokenization tokenized.text tokenized.pairs tokenized.last → InPieces tokenized new es
    → make_edits (length tokenized.text) es ≡ (if nat_lt MAX_TEXT (length new) then Err TooLong else Ok (edits_of tokenized es))
unfolding IsMade
step_made make tokenized new es is p =
    let whole : old_text p.pieces ≡ tokenized.text = p.old_is ∙ sym is.tokenizes.text_is in
    let short : length (old_text p.pieces) ≤ MAX_TEXT = omega (arith, ap length whole, is.short) in
    made_from make p.pieces tokenized.text new es p.changes whole p.new_is p.edits_are short

answer_cases : (over : Bool) (list : EditList) (answer : Result EditList BadEdits) (k : ℕ) → nat_lt MAX_TEXT k ≡ over → answer ≡ (if over then Err TooLong else Ok list)
    → elim answer as (λ r. Type 0) [ Ok e ↦ k ≤ MAX_TEXT | Err e ↦ MAX_TEXT < k ]
answer_cases true list answer k is same = rw same (ltb-true MAX_TEXT k is)
answer_cases false list answer k is same = rw same (ltb-false MAX_TEXT k is)

pub step_fits : PiecesAlwaysMake → (tokenized : TokenizedText) (new : List ℕ) (es : List EditEntry) (list : EditList) → IsTokenization tokenized.text tokenized.pairs tokenized.last → InPieces tokenized new es
    → make_edits (length tokenized.text) es ≡ Ok list → length new ≤ MAX_TEXT
step_fits make tokenized new es list is p same = answer_cases (nat_lt MAX_TEXT (length new)) (edits_of tokenized es) (Ok list) _ refl (sym same ∙ step_made make tokenized new es is p)

pub step_too_long : PiecesAlwaysMake → (tokenized : TokenizedText) (new : List ℕ) (es : List EditEntry) (fault : BadEdits) → IsTokenization tokenized.text tokenized.pairs tokenized.last → InPieces tokenized new es
    → make_edits (length tokenized.text) es ≡ Err fault → MAX_TEXT < length new
step_too_long make tokenized new es fault is p same = answer_cases (nat_lt MAX_TEXT (length new)) (edits_of tokenized es) (Err fault) _ refl (sym same ∙ step_made make tokenized new es is p)

step_same_if : (over : Bool) (stated list : EditList) → Ok list ≡ (if over then Err TooLong else Ok stated) → list ≡ stated
step_same_if true stated list same = absurd (cc same)
step_same_if false stated list same = cc same

pub step_same : PiecesAlwaysMake → (tokenized : TokenizedText) (new : List ℕ) (es : List EditEntry) (list : EditList) → IsTokenization tokenized.text tokenized.pairs tokenized.last → InPieces tokenized new es
    → make_edits (length tokenized.text) es ≡ Ok list → list ≡ edits_of tokenized es
step_same make tokenized new es list is p same = step_same_if (nat_lt MAX_TEXT (length new)) (edits_of tokenized es) list (sym same ∙ step_made make tokenized new es is p)

-- what is read of the call of `make`
-- what `?` returns
pub handed_on : {T : Type 0} (r : Result T LintFault) (f : LintFault) (P : LintFault → Type 0) → IsErr r × IsErrAnd r (λ e. e ≡ f) → P f → IfErr r P
handed_on (Ok x) f P result_is p = tt
handed_on (Err e) f P result_is p = subst P (sym result_is.1) p

pub read_made : (text read : List ℕ) (es given : List EditEntry) (answer other : Result EditList BadEdits)
    → answer ≡ make_edits (length read) given → read ≡ text → given ≡ es → answer ≡ other → make_edits (length text) es ≡ other
read_made text read es given answer other called t e is =
    sym (ap (λ x. make_edits (length x) given) t ∙ ap (make_edits (length text)) e) ∙ (sym called ∙ is)

wider : (at end more : ℕ) (rs : List Replacement) → end ≤ more → AreReplacementsInOrder at rs end → AreReplacementsInOrder at rs more
wider at end more [] le o = omega (arith, le, o)
wider at end more (r ∷ rs) le o = (o.0, o.1, wider r.to end more rs le o.2)

-- where whole tokens and gaps are replaced
replaced_step : (rule : Rule) (tokenized : TokenizedText) (findings : List Finding) → is_comment_rule rule ≡ false → IsTokenization tokenized.text tokenized.pairs tokenized.last → AreApart tokenized.pairs → AreOfRule rule tokenized.pairs findings → AreValidFindings (length tokenized.pairs) findings
    → InPieces tokenized (fix_step_text tokenized findings) (changed_entries 0 (replaced_pieces (parts tokenized) (step_replacements tokenized.pairs findings)))
replaced_step rule tokenized findings other is apart of valid =
    let rs = step_replacements tokenized.pairs findings in
    let all = parts_length tokenized.pairs tokenized.last in
    record {
      pieces = replaced_pieces (parts tokenized) rs;
      changes = real_changes None 0 (parts tokenized) rs (selected_real tokenized.pairs tokenized.last 0 (selected findings) (tokens_nonempty tokenized.text tokenized.pairs tokenized.last is) (selected_are tokenized.pairs 0 findings (omega arith) valid));
      old_is = pieces_old None 0 (parts tokenized) rs (wider 0 (2 * length tokenized.pairs) (length (parts tokenized)) rs (omega (arith, all)) (step_order tokenized.pairs findings valid)) ∙ parts_written tokenized.pairs tokenized.last;
      new_is = replaced_is (parts tokenized) rs (apart_text tokenized.pairs tokenized.last apart) ∙ sym (by_pairs rule tokenized findings other of valid);
      edits_are = refl;
    }

-- where comments are fixed
comment_step : (rule : Rule) (tokenized : TokenizedText) (findings : List Finding) → is_comment_rule rule ≡ true → AreApart tokenized.pairs → AreOfRule rule tokenized.pairs findings → AreValidFindings (length tokenized.pairs) findings
    → InPieces tokenized (fix_step_text tokenized findings) (map (comment_edit tokenized.pairs) (selected findings))
comment_step rule tokenized findings comment apart of valid = record {
  pieces = comment_pieces 0 tokenized.pairs tokenized.last (selected findings);
  changes = pieces_changes 0 tokenized.pairs tokenized.last (selected findings);
  old_is = comments_before rule tokenized findings comment of valid;
  new_is = comments_after rule tokenized findings comment apart of valid;
  edits_are = comments_edits rule tokenized findings comment of valid;
}

step_if : (rule : Rule) (tokenized : TokenizedText) (findings : List Finding) (here : Bool) → is_comment_rule rule ≡ here → IsTokenization tokenized.text tokenized.pairs tokenized.last → AreApart tokenized.pairs → AreOfRule rule tokenized.pairs findings → AreValidFindings (length tokenized.pairs) findings
    → InPieces tokenized (fix_step_text tokenized findings) (if here then map (comment_edit tokenized.pairs) (selected findings) else changed_entries 0 (replaced_pieces (parts tokenized) (step_replacements tokenized.pairs findings)))
step_if rule tokenized findings true e is apart of valid = comment_step rule tokenized findings e apart of valid
step_if rule tokenized findings false e is apart of valid = replaced_step rule tokenized findings e is apart of valid

-- the step of any rule
pub step_pieces : (rule : Rule) (tokenized : TokenizedText) (findings : List Finding) → IsTokenization tokenized.text tokenized.pairs tokenized.last → AreApart tokenized.pairs → AreOfRule rule tokenized.pairs findings → AreValidFindings (length tokenized.pairs) findings
    → InPieces tokenized (fix_step_text tokenized findings) (fix_step_entries rule tokenized findings)
step_pieces rule tokenized findings is apart of valid = step_if rule tokenized findings (is_comment_rule rule) refl is apart of valid
