-- What a fmt makes of a text is its layout; if there are no edits, that is the text itself.
use Rattle.std.proofs.Common.{◌≡◌, ◌∙◌, ◌≤◌, ◌+◌, ◌↔◌, ℕ, List, [], ◌∷◌, ◌++◌, length, Option, Result, Ok, Err, refl, sym, ap, ap₂, subst}
use Rattle.hcl_scan.specs.Tokenization.{MAX_TEXT}
use Rattle.hcl_grammar.specs.declared.tree.Tree.{Tree}
use Rattle.hcl_layout.specs.Gaps.Layout.{layout_edits}
use Rattle.hcl_layout.specs.Layouts.{IsLayout, IsLayoutEdits}
use Rattle.edit_record.specs.declared.lists.change.Refused.{Refused}
use Rattle.edit_record.specs.Lists.ChangeResults.{AgreesWith}
use Rattle.edit_record.specs.Lists.Pieces.{EditEntry, EditList, Piece, Transforms, as_list, changed_entries, new_text, old_text}
use Rattle.edit_record.specs.Lists.Pieces.Piece.{Kept, Changed}
use Rattle.tf_fix.specs.declared.parsed.Parsed.{Parsed}
use Rattle.tf_fix.specs.ParsedTexts.{IsParseOf}
use Rattle.tf_lint.specs.FixResult.{changed_text, changed_edits}
use Rattle.tf_lint.specs.declared.step.NewText.{NewText}
use Rattle.tf_session.specs.Formatting.{Formats}
use Rattle.tf_session.specs.Inner.Changes.{fmt_rewrite}

-- edits of which there are none leave each text as it is
none_changed : (from : ℕ) (ps : List Piece) → changed_entries from ps ≡ [] → new_text ps ≡ old_text ps
none_changed from [] none = refl
none_changed from (Kept bytes ∷ ps) none = ap (λ (rest : List ℕ). bytes ++ rest) (none_changed (from + length bytes) ps none)
none_changed from (Changed removed added ∷ ps) none = absurd (cc)

-- a text that its layout has no edits for is its own layout
pub stays : (edits : EditList) (text : List ℕ) (t : Tree) → IsLayoutEdits edits text t → edits.entries ≡ []
    → IsLayout text text × (length text ≤ MAX_TEXT) × (as_list (length text) [] ≡ edits)
stays edits text t layout_result none =
    let turns = layout_result.transforms in
    let same : layout_result.new ≡ text = sym turns.new_is ∙ (none_changed 0 turns.pieces (turns.edits_are ∙ none) ∙ turns.old_is) in (
      subst (λ (x : List ℕ). IsLayout text x) same layout_result.layout,
      subst (λ (x : List ℕ). length x ≤ MAX_TEXT) same layout_result.parses.tokenization.short,
      ap₂ (λ (n : ℕ) (es : List EditEntry). as_list n es) turns.len (sym none),
    )

pub changes : (text new : List ℕ) (edits : EditList) (p : Parsed) → IsParseOf text p → IsLayout p.scanned.text new → length new ≤ MAX_TEXT → edits ≡ layout_edits p.scanned
    → Formats text (record { text = new; edits = edits; fixed = 0; left = 0 })
changes text new edits p reads layout short listed = record {
  parsed = p;
  reads = reads;
  layout = subst (λ (x : List ℕ). IsLayout x new) reads.0 layout;
  short = short;
  edits_are = listed;
  fixed_is = refl;
  left_is = refl;
}

-- the same of what was made of a text, if anything was
pub formats : (text : List ℕ) (change : Option NewText) (p : Parsed) → IsParseOf text p → IsLayout p.scanned.text (changed_text p.scanned.text change)
    → length (changed_text p.scanned.text change) ≤ MAX_TEXT → changed_edits p.scanned.text change ≡ layout_edits p.scanned → Formats text (fmt_rewrite text change)
formats text change p reads layout short listed =
    subst (λ (x : List ℕ). Formats text (fmt_rewrite x change)) reads.0 (changes text _ _ p reads layout short listed)

-- the edits of a layout make it
pub made : (edits : EditList) (text new : List ℕ) (t : Tree) → IsLayoutEdits edits text t → ((u v : List ℕ) → Transforms edits text u → Transforms edits text v → u ≡ v) → Transforms edits text new
    → IsLayout text new × (length new ≤ MAX_TEXT)
made edits text new t layout_result one turns =
    let same = one layout_result.new new layout_result.transforms turns in
    (subst (λ (x : List ℕ). IsLayout text x) same layout_result.layout, subst (λ (x : List ℕ). length x ≤ MAX_TEXT) same layout_result.parses.tokenization.short)

given_up : (refused : Refused) (answer : Result (List ℕ) Refused) (new : List ℕ) → answer ≡ Ok new → AgreesWith (Err refused) answer → refused ≡ Refused.Memory
given_up (Refused.Length expected found) answer new represents gives = cc
given_up (Refused.Differs step edit) answer new represents gives = cc
given_up Refused.Memory answer new represents gives = refl

-- the edits of a layout apply to the text, so they fail only if an allocation does
pub only_memory : (forward : List ℕ → Result (List ℕ) Refused) (edits : EditList) (text lent : List ℕ) (t : Tree) (refused : Refused) → ((old new : List ℕ) → (forward old ≡ Ok new) ↔ Transforms edits old new)
    → IsLayoutEdits edits text t → lent ≡ text → AgreesWith (Err refused) (forward lent) → refused ≡ Refused.Memory
only_memory forward edits text lent t refused exact layout_result same gives =
    given_up refused (forward text) layout_result.new ((exact text layout_result.new).1 layout_result.transforms) (subst (λ (x : List ℕ). AgreesWith (Err refused) (forward x)) same gives)
