-- What a fix makes of a text it makes by edits: each step has valid edits that lead to its text, and those of all steps squash to one list.
use Rattle.std.proofs.Common.{◌≡◌, ◌∙◌, ◌≤◌, ℕ, Bool, true, false, List, [], ◌∷◌, length, Result, Ok, Err, if◌then◌else◌, refl, sym, ap, subst, arith, nat_lt}
use Rattle.std.proofs.lemmas.Bool.{ltb-true, not-false}
use Rattle.std.proofs.lemmas.Slice.Eq.{bytes_eq-Decides}
use Rattle.std.specs.List.{AllByRecursion}
use Rattle.hcl_text_laws.specs.Parses.{ParsedTokensAreApart}
use Rattle.hcl_grammar.specs.declared.bounds.TheConstants.{MAX_NESTING}
use Rattle.edit_record.specs.Lists.Pieces.{EditEntry, EditList, Piece, Transforms, as_list, old_text, new_text, changed_entries}
use Rattle.edit_record.specs.Lists.PieceEdits.{ChangesAreNonempty}
use Rattle.edit_record.specs.Lists.Sequence.{TransformsInOrder}
use Rattle.edit_record.specs.Lists.Validity.{make_edits, IsValidList, MakeIsExact}
use Rattle.edit_record.specs.Squashes.Squash.{ComposableListsSquash}
use Rattle.edit_record.specs.Squashes.SquashLists.{SquashAll}
use Rattle.edit_record.specs.declared.lists.edit.BadEdits.{BadEdits}
use Rattle.edit_record.specs.declared.lists.edit.BadEdits.TheVariants.{TooLong}
use Rattle.edit_record.specs.declared.lists.edits.TheConstants.{MAX_TEXT}
use Rattle.tf_rules.specs.declared.finding.Finding.{Finding}
use Rattle.tf_rules.specs.declared.rule.Rule.{Rule}
use Rattle.tf_rules.specs.declared.rule_set.RuleSet.{RuleSet}
use Rattle.tf_rules.specs.SingleRule.{only}
use Rattle.tf_rules.specs.ValidFindings.{AreValidFindings}
use Rattle.tf_rules_laws.specs.OneRule.{FindingsMatchTheirRule}
use Rattle.tf_findings.specs.Findings.{all_findings}
use Rattle.tf_findings.proofs.ValidLemmas.{SoundIsSound, all_valid, valid_in_order, valid_kept}
use Rattle.tf_fix.specs.declared.parsed.Parsed.{Parsed}
use Rattle.tf_fix.specs.Edits.StepEdits.{fix_step_entries}
use Rattle.tf_fix.specs.OneStep.{RulesFind, step_text_of, step_edits_of}
use Rattle.tf_fix.specs.ParsedTexts.{IsParseOf}
use Rattle.tf_fix.proofs.FoundByLemmas.{of_all}
use Rattle.tf_fix.proofs.StepLemmas.{InPieces, PiecesAlwaysTransform, PiecesAlwaysMake, step_pieces, step_turns}
use Rattle.tf_lint.specs.declared.fault.FixFault.{FixFault}
use Rattle.tf_lint.specs.Steps.{texts_differ, Steps, RunSteps, none_left, not_in_set, stepped, IsSquashOfAll, Rewrite, FixesText, FixHasEdits}

-- ---- the edits of one step

fits_if : (over : Bool) (len : ℕ) (list : EditList) (answer : Result EditList BadEdits) → nat_lt MAX_TEXT len ≡ over → len ≤ MAX_TEXT
    → answer ≡ (if over then Err TooLong else Ok list) → answer ≡ Ok list
fits_if true len list answer is short made = absurd (omega (arith, short, ltb-true MAX_TEXT len is))
fits_if false len list answer is short made = made

-- the changed pieces of two texts within the limit
valid_pieces : PiecesAlwaysMake → ((old_len : ℕ) (es : List EditEntry) → MakeIsExact old_len es) → (ps : List Piece) → ChangesAreNonempty ps → length (old_text ps) ≤ MAX_TEXT → length (new_text ps) ≤ MAX_TEXT
    → IsValidList (as_list (length (old_text ps)) (changed_entries 0 ps))
valid_pieces make exact ps are old_fits new_fits =
    let list = as_list (length (old_text ps)) (changed_entries 0 ps) in
    let made : make_edits (length (old_text ps)) (changed_entries 0 ps) ≡ Ok list = fits_if (nat_lt MAX_TEXT (length (new_text ps))) (length (new_text ps)) list _ refl new_fits (make ps are old_fits) in
    ((exact (length (old_text ps)) (changed_entries 0 ps) list).0 made).1

-- these edits lead from the one text to the other
abbrev Turns : EditList → List ℕ → List ℕ → Type 0
Turns list old new = Transforms list old new × IsValidList list

abbrev StepsTurn : Type 0
StepsTurn = (rule : Rule) (p : Parsed) (found : List Finding) (text : List ℕ) → IsParseOf text p → RulesFind (only rule) p found
    → length (step_text_of p found) ≤ MAX_TEXT → Turns (step_edits_of rule p found) p.scanned.text (step_text_of p found)

valid_found : SoundIsSound → (rules : RuleSet) (p : Parsed) (found : List Finding) → RulesFind rules p found → AreValidFindings (length p.scanned.pairs) found
valid_found sound rules p found finds =
    let count = length p.scanned.pairs in
    let all = valid_in_order count _ finds.all finds.same (all_valid sound count (all_findings rules p.scanned.pairs p.tree.body.members finds.nodes)) in
    rw finds.kept (valid_kept count _ finds.all all)

pub steps_turn : PiecesAlwaysTransform → PiecesAlwaysMake → ((old_len : ℕ) (es : List EditEntry) → MakeIsExact old_len es) → ParsedTokensAreApart → FindingsMatchTheirRule → SoundIsSound → StepsTurn
steps_turn turn make exact tokens_apart of_rule sound rule p found text reads finds short =
    let tokenized = p.scanned in
    let is = reads.1 in
    let apart = tokens_apart tokenized.text tokenized.pairs tokenized.last MAX_NESTING p.tree is reads.2 in
    let of = of_all rule tokenized.pairs found (of_rule rule tokenized.pairs p.tree.body.members found finds) in
    let step : InPieces tokenized (step_text_of p found) (fix_step_entries rule tokenized found) = step_pieces rule tokenized found is apart of (valid_found sound (only rule) p found finds) in
    let whole : old_text step.pieces ≡ tokenized.text = step.old_is ∙ sym is.tokenizes.text_is in
    let old_fits : length (old_text step.pieces) ≤ MAX_TEXT = omega (arith, ap length whole, is.short) in
    let new_fits : length (new_text step.pieces) ≤ MAX_TEXT = omega (arith, ap length step.new_is, short) in
    let valid = valid_pieces make exact step.pieces step.changes old_fits new_fits in
    let here = subst (λ (t : List ℕ). IsValidList (as_list (length t) (changed_entries 0 step.pieces))) whole valid in (
      step_turns turn tokenized (step_text_of p found) (fix_step_entries rule tokenized found) is step,
      subst (λ (es : List EditEntry). IsValidList (as_list (length tokenized.text) es)) step.edits_are here,
    )

-- ---- those of all steps

abbrev AllTurn : List EditList → List ℕ → List ℕ → Type 0
AllTurn lists old new = TransformsInOrder Transforms lists old new × AllByRecursion IsValidList lists

-- the lists of a step that found this, and then of others
step_first : (rule : Rule) (p : Parsed) (found : List Finding) (more : Steps) (b : Bool) → texts_differ p.scanned.text (step_text_of p found) ≡ b
    → Turns (step_edits_of rule p found) p.scanned.text (step_text_of p found) → AllTurn more.lists (step_text_of p found) more.text
    → AllTurn (if b then step_edits_of rule p found ∷ more.lists else more.lists) p.scanned.text more.text
step_first rule p found more true e (turns, valid) (others, all_valid) = ((step_text_of p found, turns, others), (valid, all_valid))
step_first rule p found more false e turns others =
    let same : p.scanned.text ≡ step_text_of p found = (bytes_eq-Decides p.scanned.text (step_text_of p found)).0 (not-false _ e) in
    subst (λ (t : List ℕ). AllTurn more.lists t more.text) (sym same) others

all_turn : StepsTurn → {rules : RuleSet} {order : List Rule} {p : Parsed} {s : Steps} (text : List ℕ)
    → IsParseOf text p → RunSteps rules order p (Ok s) → AllTurn s.lists p.scanned.text s.text
all_turn step text reads none_left = (refl, tt)
all_turn step text reads (not_in_set absent runs) = all_turn step text reads runs
all_turn step text reads (stepped {rule = rule} {p = p} {more = more} found has finds short next_reads runs) =
    let new = step_text_of p found in
    let others = all_turn step new next_reads runs in
    let later = subst (λ (t : List ℕ). AllTurn more.lists t more.text) next_reads.0 others in
    let turns = step rule p found text reads finds (omega (arith, short)) in
    step_first rule p found more (texts_differ p.scanned.text new) refl turns later

-- ---- as one list

-- valid lists that turn a text one after another squash to one
pub squash_exists : ComposableListsSquash → (first : EditList) (others : List EditList) (text top : List ℕ) → IsValidList first → AllByRecursion IsValidList others
    → TransformsInOrder Transforms (first ∷ others) text top → (one : EditList) × SquashAll first others one
squash_exists squashes first [] text top valid rest all = (first, refl)
squash_exists squashes first (b ∷ bs) text top valid rest all =
    let (c, valid_c, is) = squashes first b valid rest.0 (text, all.0, all.2.0, all.1, all.2.1) in
    let whole = (is.equivalent text all.2.0).1 (all.0, all.1, all.2.1) in
    let (one, squashed) = squash_exists squashes c bs text top valid_c rest.1 (all.2.0, whole, all.2.2) in
    (one, (c, is, squashed))

squash_of_all : ComposableListsSquash → (len : ℕ) (lists : List EditList) (old new : List ℕ) → AllTurn lists old new → (one : EditList) × IsSquashOfAll len lists one
squash_of_all squashes len [] old new all = (as_list len [], refl)
squash_of_all squashes len (first ∷ more) old new (turn, valid) = squash_exists squashes first more old new valid.0 valid.1 turn

pub has_edits : StepsTurn → ComposableListsSquash → FixHasEdits
has_edits step squashes rules text made f =
    let all = all_turn step text f.reads f.runs in
    let (edits, is) = squash_of_all squashes (length text) f.steps.lists f.parsed.scanned.text f.steps.text all in
    let by : Rewrite = record { text = made.text; edits = edits; fixed = made.fixed; left = made.left } in
    let of_text : FixesText rules text by = record {
      parsed = f.parsed;
      reads = f.reads;
      steps = f.steps;
      runs = f.runs;
      text_is = f.text_is;
      fixed_is = f.fixed_is;
      new_parsed = f.new_parsed;
      new_reads = f.new_reads;
      left_is = f.left_is;
    } in
    (edits, record { fixes_text = of_text; edits_are = is })
