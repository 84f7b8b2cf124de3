-- One step of a fix.
use Rattle.std.proofs.Common.{◌≡◌, ◌+◌, ℕ, List, [], ◌∷◌, ◌++◌, length, true, refl, sym, ap, subst, ◌∙◌}
use Rattle.edit_record.specs.Lists.Validity.{LengthsMatch}
use Rattle.edit_record.specs.Lists.Pieces.{EditList, Piece, Kept, Changed, old_text, new_text, changed_entries, Transforms}
use Rattle.edit_record.specs.Squashes.Squash.{AreComposable, IsSquashResult}
use Rattle.edit_record.specs.declared.squashes.squash_lists.Unmet.{Unmet}
use Rattle.edit_record.specs.declared.squashes.squash_lists.Unmet.TheVariants.{LengthsDiffer, Contradicts, Memory}
use Rattle.std.specs.Prelude.{Err}
use Rattle.tf_rules.specs.declared.rule.Rule.{Rule}
use Rattle.tf_fix.specs.declared.parsed.Parsed.{Parsed}
use Rattle.tf_fix.specs.OneStep.{step_text_of, step_edits_of, IsFixStep}
use Rattle.tf_lint.specs.Steps.{texts_differ}

-- what the law of edits says of lengths
abbrev pub LengthsAreKept : Type 0
LengthsAreKept = (e : EditList) (t u : List ℕ) → Transforms e t u → LengthsMatch e t u

-- if both lists apply to some text, one after the other, squash fails only if memory runs out
pub never_unmet : LengthsAreKept → (a b : EditList) (unmet : Unmet) → AreComposable a b → IsSquashResult a b (Err unmet) → unmet ≡ Memory
never_unmet lengths a b LengthsDiffer (t, u, v, first, second) other = absurd (other (sym (lengths a t u first).1 ∙ (lengths b u v second).0))
never_unmet lengths a b (Contradicts edit) can said = absurd (said.1.none can)
never_unmet lengths a b Memory can said = refl

-- what the step's edits make of the text is the text after the step
pub made_is : {rule : Rule} {p : Parsed} {count : ℕ} {edits : EditList} (s : IsFixStep rule p count edits) {text made : List ℕ} → text ≡ p.scanned.text
    → ((new : List ℕ) → Transforms edits text new → made ≡ new) → made ≡ step_text_of p s.found
made_is {rule} {p} {count} {edits} s is makes = makes (step_text_of p s.found) (subst (λ t. Transforms edits t (step_text_of p s.found)) (sym is) s.transforms)

-- where nothing is edited the text stays
no_changes : (ps : List Piece) (from : ℕ) → changed_entries from ps ≡ [] → new_text ps ≡ old_text ps
no_changes [] from e = refl
no_changes (Kept b ∷ ps) from e = ap (λ (x : List ℕ). b ++ x) (no_changes ps (from + length b) e)
no_changes (Changed r n ∷ ps) from e = absurd (cc)

pub kept_is : {rule : Rule} {p : Parsed} {count : ℕ} {edits : EditList} (s : IsFixStep rule p count edits) → edits.entries ≡ [] → step_text_of p s.found ≡ p.scanned.text
kept_is {rule} {p} {count} {edits} s none =
    let t = s.transforms in
    sym t.new_is ∙ no_changes t.pieces 0 (t.edits_are ∙ none) ∙ t.old_is

pub differ_is : (old : List ℕ) {new fixed : List ℕ} → new ≡ fixed → texts_differ old new ≡ true → texts_differ old fixed ≡ true
differ_is old made other = subst (λ t. texts_differ old t ≡ true) made other

-- what a step that changes the text changes
pub step_is : {rule : Rule} {p : Parsed} {count : ℕ} {edits : EditList} (s : IsFixStep rule p count edits) {made : List ℕ} → made ≡ step_text_of p s.found
    → texts_differ p.scanned.text (step_text_of p s.found) ≡ true
    → (texts_differ p.scanned.text (step_text_of p s.found) ≡ true) × (made ≡ step_text_of p s.found) × (edits ≡ step_edits_of rule p s.found) × Transforms edits p.scanned.text made
step_is {rule} {p} {count} {edits} s made other = (other, made, s.edits_are, subst (λ t. Transforms edits p.scanned.text t) (sym made) s.transforms)
