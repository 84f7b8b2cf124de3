-- What a fmt or a fix made is pushed: a step of the session.
use Rattle.std.proofs.Common.{◌≡◌, ◌≤◌, ℕ, List, [], ◌∷◌, length, Bool, true, false, not, Option, None, Some, IfSome, IfOk, Result, Ok, Err, refl, subst}
use Rattle.std.proofs.lemmas.Slice.Eq.{bytes_eq-Decides}
use Rattle.edit_record.specs.declared.lists.record.Word.{Word}
use Rattle.edit_record.specs.Lists.Journal.{JournalEntry}
use Rattle.edit_record.specs.Lists.Pieces.{EditList, Transforms}
use Rattle.hcl_scan.specs.Tokenization.{MAX_TEXT}
use Rattle.hcl_layout.specs.Gaps.Layout.{layout_edits}
use Rattle.hcl_layout.specs.Layouts.{IsLayout}
use Rattle.tf_fix.specs.declared.parsed.Parsed.{Parsed}
use Rattle.tf_fix.specs.ParsedTexts.{IsParseOf}
use Rattle.tf_session.proofs.LayoutLemmas.{changes}
use Rattle.tf_rules.specs.declared.rule_set.RuleSet.{RuleSet}
use Rattle.tf_session.specs.declared.command.Command.{Command}
use Rattle.tf_session.specs.declared.command.Command.TheVariants.{Fmt, Fix}
use Rattle.tf_session.specs.declared.command.Done.{Done}
use Rattle.tf_session.specs.declared.command.Fault.{Fault}
use Rattle.tf_lint.specs.declared.step.NewText.{NewText}
use Rattle.tf_lint.specs.Steps.{Rewrite, Fixes, texts_differ}
use Rattle.tf_lint.specs.FixResult.{changed_text, changed_edits, fixed_text_or, rewrite_with, FixesTo}
use Rattle.tf_lint.specs.Remaining.{remaining_count}
use Rattle.tf_lint.specs.declared.steps.FixedText.{FixedText}
use Rattle.tf_session.specs.Rewrites.{Rewrites}
use Rattle.tf_session.specs.Machine.{done}
use Rattle.tf_session.specs.Records.{HasWord, AddsRecordOf, ReplacesText, DoesStep, StepsTo}
use Rattle.tf_session.specs.Inner.Changes.{AddsRecord}
use Rattle.tf_session.specs.Session.{with_records, without_records}

-- the edits of a text that differs lead to it
leads : (t : List ℕ) (change : Option NewText) → texts_differ t (changed_text t change) ≡ true → IfSome change (λ c. Transforms c.edits t c.text.items)
    → Transforms (changed_edits t change) t (changed_text t change)
leads t None e h =
    let same = (bytes_eq-Decides t t).1 refl in
    let bad : false ≡ true = subst (λ (b : Bool). not b ≡ true) same e in
    cc
leads t (Some change) e h = h

-- what was made of a text, by its parts
abbrev made_by : List ℕ → Option NewText → ℕ → ℕ → Rewrite
made_by t change fixed left = record { text = changed_text t change; edits = changed_edits t change; fixed = fixed; left = left }

-- what a command makes of a text, by which edits
abbrev Makes : Command → List ℕ → Rewrite → Type 0
Makes (Fix rules) text made = Fixes rules text made
Makes command text made = Rewrites command text (Ok made)

-- what a command made of a text
abbrev pub MakesOf : Command → List ℕ → Option NewText → ℕ → ℕ → Type 0
MakesOf command t change fixed left = Makes command t (made_by t change fixed left)

abbrev Leads : List ℕ → Option NewText → Type 0
Leads t change = IfSome change (λ c. Transforms c.edits t c.text.items)

adds : (command : Command) (word : Word) → HasWord command word → (b : Bool) (t : List ℕ) (js ks : List JournalEntry) (change : Option NewText) (fixed left : ℕ) → texts_differ t (changed_text t change) ≡ b
    → Leads t change
    → AddsRecord b word (changed_edits t change) js ks → AddsRecordOf b command t (made_by t change fixed left) js ks
adds command word has true t js ks change fixed left e turns h = (
  record { word = word; edits = changed_edits t change },
  h,
  record { word = has; edits = refl; transforms = leads t change e turns },
)
adds command word has false t js ks change fixed left e turns h = h

-- the command pushes what it made
abbrev PutsMade : Command → List ℕ → List JournalEntry → Done → List ℕ → List JournalEntry → Type 0
PutsMade command t js d u ks = (made : Rewrite) × Makes command t made × ReplacesText command made (with_records t js) d (with_records u ks)

push_here : (command : Command) (word : Word) → HasWord command word → (t : List ℕ) (js : List JournalEntry) (change : Option NewText) (fixed left : ℕ) (reply : Result Done Fault) (u : List ℕ) (ks : List JournalEntry)
    → MakesOf command t change fixed left → Leads t change
    → IfOk reply (λ d. d ≡ done (texts_differ t (changed_text t change)) fixed left) → IfOk reply (λ d. u ≡ changed_text t change)
    → IfOk reply (λ d. AddsRecord (texts_differ t (changed_text t change)) word (changed_edits t change) js ks) → IfOk reply (λ d. PutsMade command t js d u ks)
push_here command word has t js change fixed left (Ok d) u ks makes turns replied put added =
    (made_by t change fixed left, makes, (put, replied, adds command word has (texts_differ t (changed_text t change)) t js ks change fixed left refl turns added))
push_here command word has t js change fixed left (Err fault) u ks makes turns replied put added = replied

push_lent : (command : Command) (word : Word) → HasWord command word → (lent t : List ℕ) (js : List JournalEntry) (change : Option NewText) (fixed left : ℕ) (reply : Result Done Fault) (u : List ℕ) (ks : List JournalEntry) → lent ≡ t
    → MakesOf command lent change fixed left → Leads lent change
    → IfOk reply (λ d. d ≡ done (texts_differ t (changed_text t change)) fixed left) → IfOk reply (λ d. u ≡ changed_text t change)
    → IfOk reply (λ d. AddsRecord (texts_differ t (changed_text t change)) word (changed_edits t change) js ks) → IfOk reply (λ d. PutsMade command t js d u ks)
push_lent command word has lent t js change fixed left reply u ks same makes turns replied put added =
    push_here command word has t js change fixed left reply u ks
    (subst (λ (x : List ℕ). MakesOf command x change fixed left) same makes)
    (subst (λ (x : List ℕ). Leads x change) same turns)
    replied put added

pub push_layout : (lent t : List ℕ) (js : List JournalEntry) (change : Option NewText) (fixed left : ℕ) (reply : Result Done Fault) (u : List ℕ) (ks : List JournalEntry) → lent ≡ t
    → MakesOf Fmt lent change fixed left → Leads lent change
    → IfOk reply (λ d. d ≡ done (texts_differ t (changed_text t change)) fixed left) → IfOk reply (λ d. u ≡ changed_text t change)
    → IfOk reply (λ d. AddsRecord (texts_differ t (changed_text t change)) Word.Fmt (changed_edits t change) js ks) → IfOk reply (λ d. DoesStep Fmt (with_records t js) d (with_records u ks))
push_layout lent t js change fixed left reply u ks same makes turns replied put added = push_lent Fmt Word.Fmt refl lent t js change fixed left reply u ks same makes turns replied put added

pub push_fix : (rules : RuleSet) (lent t : List ℕ) (js : List JournalEntry) (change : Option NewText) (fixed left : ℕ) (reply : Result Done Fault) (u : List ℕ) (ks : List JournalEntry) → lent ≡ t
    → MakesOf (Fix rules) lent change fixed left → Leads lent change
    → IfOk reply (λ d. d ≡ done (texts_differ t (changed_text t change)) fixed left) → IfOk reply (λ d. u ≡ changed_text t change)
    → IfOk reply (λ d. AddsRecord (texts_differ t (changed_text t change)) Word.Fix (changed_edits t change) js ks) → IfOk reply (λ d. DoesStep (Fix rules) (with_records t js) d (with_records u ks))
push_fix rules lent t js change fixed left reply u ks same makes turns replied put added = push_lent (Fix rules) Word.Fix refl lent t js change fixed left reply u ks same makes turns replied put added

-- ---- a text formatted or fixed, with no record before it

abbrev added_records : Word → Bool → EditList → List JournalEntry
added_records word true edits = record { word = word; edits = edits } ∷ []
added_records word false edits = []

adds_first : (command : Command) (word : Word) → HasWord command word → (b : Bool) (text : List ℕ) (made : Rewrite) → Transforms made.edits text made.text
    → AddsRecordOf b command text made [] (added_records word b made.edits)
adds_first command word has true text made turns =
    (record { word = word; edits = made.edits }, refl, record { word = has; edits = refl; transforms = turns })
adds_first command word has false text made turns = refl

pub formats : (text new : List ℕ) (p : Parsed) → IsParseOf text p → IsLayout p.scanned.text new → length new ≤ MAX_TEXT → Transforms (layout_edits p.scanned) p.scanned.text new
    → StepsTo Fmt text new
formats text new p reads layout short turns =
    let made : Rewrite = record { text = new; edits = layout_edits p.scanned; fixed = 0; left = 0 } in
    let makes = changes text new (layout_edits p.scanned) p reads layout short refl in
    let here = subst (λ (x : List ℕ). Transforms (layout_edits p.scanned) x new) reads.0 turns in
    (done (texts_differ text new) 0 0, added_records Word.Fmt (texts_differ text new) (layout_edits p.scanned), (made, makes, (refl, refl, adds_first Fmt Word.Fmt refl (texts_differ text new) text made here)))

pub fix_transforms : (rules : RuleSet) (text : List ℕ) (made : Rewrite) → Fixes rules text made → Transforms made.edits text made.text
    → (records : List JournalEntry) × DoesStep (Fix rules) (without_records text) (done (texts_differ text made.text) made.fixed made.left) (with_records made.text records)
fix_transforms rules text made makes turns =
    (added_records Word.Fix (texts_differ text made.text) made.edits, (made, makes, (refl, refl, adds_first (Fix rules) Word.Fix refl (texts_differ text made.text) text made turns)))

pub same_differ : (t : List ℕ) → texts_differ t t ≡ false
same_differ t = rw ((bytes_eq-Decides t t).1 refl) refl

-- the same of a text of which no edits were kept
pub fixes_text : (rules : RuleSet) (lent text new : List ℕ) (f : FixedText) (changed : Bool) (d : Done) → lent ≡ text → FixesTo rules lent f → new ≡ fixed_text_or text f.text → changed ≡ texts_differ text new
    → d ≡ done changed f.fixed (remaining_count f.left) → (records : List JournalEntry) × DoesStep (Fix rules) (without_records text) d (with_records new records)
fixes_text rules lent text new f changed d same fixes is changed_is answered =
    let (edits, turns, makes) = subst (λ (t : List ℕ). FixesTo rules t f) same fixes in
    rw (answered, changed_is, is) (fix_transforms rules text (rewrite_with edits text f) makes turns)
