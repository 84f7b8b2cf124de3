-- What a session does is a step of the machine that keeps the edits between its texts.
use Rattle.std.proofs.Common.{◌≡◌, ◌∙◌, ◌+◌, ℕ, zero, suc, List, [], ◌∷◌, ◌++◌, length, take, Bool, true, false, MatchBool, IfOk, IfErr, OnErr, Result, Ok, Err, ap, sym, refl, subst, inl, inr}
use Rattle.std.proofs.lemmas.List.{length-map}
use Rattle.edit_record.specs.declared.lists.change.Refused.{Refused}
use Rattle.edit_record.specs.declared.lists.change.Refused.TheVariants.{Length, Differs}
use Rattle.edit_record.specs.declared.lists.record.Word.{Word}
use Rattle.edit_record.specs.Lists.Journal.{JournalEntry, record_transforms, edits_of, words_of}
use Rattle.edit_record.specs.Lists.Sequence.{TransformsInOrder}
use Rattle.edit_record.specs.Lists.Pieces.{EditList, Transforms}
use Rattle.edit_record.specs.Lists.ChangeResults.{ChangeResultIsUnique}
use Rattle.edit_record.specs.Swaps.Swap.{IsItem}
use Rattle.edit_record.specs.Swaps.MoveToEnd.{IsMovedToEnd, MoveToEndIsUnique}
use Rattle.edit_record.specs.Swaps.MoveToEndResult.{LengthMismatch, FailsAt}
use Rattle.tf_session.specs.declared.command.Command.{Command}
use Rattle.tf_session.specs.declared.command.Command.TheVariants.{Fmt, Fix, Revert, Take}
use Rattle.tf_session.specs.declared.command.Done.{Done}
use Rattle.tf_session.specs.declared.command.Fault.{Fault}
use Rattle.tf_session.specs.declared.command.Fault.TheVariants.{NoRecord, Memory}
use Rattle.tf_lint.specs.Steps.{Rewrite, texts_differ}
use Rattle.tf_session.specs.Rewrites.{Rewrites, is_memory_fault}
use Rattle.tf_lint.specs.ParseFaults.{IsUtf8WithinLimit}
use Rattle.tf_session.specs.Machine.{done}
use Rattle.tf_session.specs.RemovingRecord.{RemovesRecord, FailsAfter, UndoFails, RefusesTake}
use Rattle.tf_session.specs.RemovingRecord.RefusesTake.{no_record, blocked, too_long, lengths_differ, not_undone, memory}
use Rattle.tf_session.specs.Layers.{Layer, History, last_text, top_text, record_of, records_in, LayersAreConsistent, IsHistory, PushesLayer, HistoryStep, HistoryStepOrMemory, HistoryRun}
use Rattle.tf_session.specs.Records.{HasWord, AddsRecordOf, RevertsLast, DoesStep, RefusesRevert, RefusesStep}
use Rattle.tf_session.specs.Session.{SessionContents, with_records}
use Rattle.tf_session.proofs.Contents.{with_same}
use Rattle.tf_session.proofs.JournalOne.{TransformLengths}
use Rattle.tf_session.proofs.Lists.{not_nil}
use Rattle.tf_session.proofs.Runs.{run_more}
use Rattle.tf_session.proofs.Stacks.{same_texts, undone_or_refused}

-- layers on layers
pub last_on : (text : List ℕ) (ls ms : List Layer) → last_text text (ls ++ ms) ≡ last_text (last_text text ls) ms
last_on text [] ms = refl
last_on text (l ∷ ls) ms = last_on l.text ls ms

pub rise_on : (text : List ℕ) (ls ms : List Layer) → LayersAreConsistent text ls → LayersAreConsistent (last_text text ls) ms → LayersAreConsistent text (ls ++ ms)
rise_on text [] ms p q = q
rise_on text (l ∷ ls) ms p q = (p.0, rise_on l.text ls ms p.1 q)

pub rise_low : (text : List ℕ) (ls ms : List Layer) → LayersAreConsistent text (ls ++ ms) → LayersAreConsistent text ls
rise_low text [] ms p = tt
rise_low text (l ∷ ls) ms p = (p.0, rise_low l.text ls ms p.1)

pub rise_high : (text : List ℕ) (ls ms : List Layer) → LayersAreConsistent text (ls ++ ms) → LayersAreConsistent (last_text text ls) ms
rise_high text [] ms p = p
rise_high text (l ∷ ls) ms p = rise_high l.text ls ms p.1

pub records_on : (ls ms : List Layer) → records_in (ls ++ ms) ≡ records_in ls ++ records_in ms
records_on [] ms = refl
records_on (l ∷ ls) ms = ap (λ (x : List JournalEntry). record_of l ∷ x) (records_on ls ms)

-- from the text below the layers to the last one
pub rise_turns : (text : List ℕ) (ls : List Layer) → LayersAreConsistent text ls → TransformsInOrder Transforms (edits_of (records_in ls)) text (last_text text ls)
rise_turns text [] p = refl
rise_turns text (l ∷ ls) p = (l.text, p.0, rise_turns l.text ls p.1)

-- records that turn a text are those of layers on it
abbrev pub layers_of : (text top : List ℕ) (rs : List JournalEntry) → TransformsInOrder Transforms (edits_of rs) text top → List Layer
layers_of text top [] h = []
layers_of text top (r ∷ rs) h = (record { word = r.word; edits = r.edits; text = h.0 }) ∷ layers_of h.0 top rs h.2

pub layers_records : (text top : List ℕ) (rs : List JournalEntry) (h : TransformsInOrder Transforms (edits_of rs) text top) → records_in (layers_of text top rs h) ≡ rs
layers_records text top [] h = refl
layers_records text top (r ∷ rs) h = ap (λ (x : List JournalEntry). r ∷ x) (layers_records h.0 top rs h.2)

pub layers_rise : (text top : List ℕ) (rs : List JournalEntry) (h : TransformsInOrder Transforms (edits_of rs) text top) → LayersAreConsistent text (layers_of text top rs h)
layers_rise text top [] h = tt
layers_rise text top (r ∷ rs) h = (h.1, layers_rise h.0 top rs h.2)

pub layers_last : (text top : List ℕ) (rs : List JournalEntry) (h : TransformsInOrder Transforms (edits_of rs) text top) → last_text text (layers_of text top rs h) ≡ top
layers_last text top [] h = h
layers_last text top (r ∷ rs) h = layers_last h.0 top rs h.2

-- record n of a history is that of its layer n
record Layered (ls : List Layer) (before : List JournalEntry) (it : JournalEntry) (following : List JournalEntry) : Type 0 where
  low : List Layer
  here : Layer
  high : List Layer
  all : ls ≡ low ++ here ∷ high
  before_is : records_in low ≡ before
  it_is : record_of here ≡ it
  records_after_are : records_in high ≡ following

layered : (ls : List Layer) (before : List JournalEntry) (it : JournalEntry) (following : List JournalEntry) → records_in ls ≡ before ++ it ∷ following → Layered ls before it following
layered [] [] it following e = absurd cc
layered [] (b ∷ before) it following e = absurd cc
layered (l ∷ ls) [] it following e = record { low = []; here = l; high = ls; all = refl; before_is = refl; it_is = cc; records_after_are = cc }
layered (l ∷ ls) (b ∷ before) it following e =
    let tail : records_in ls ≡ before ++ it ∷ following = cc in
    let head : record_of l ≡ b = cc in
    let h = layered ls before it following tail in
    record {
      low = l ∷ h.low;
      here = h.here;
      high = h.high;
      all = ap (λ (x : List Layer). l ∷ x) h.all;
      before_is = λ i. head i ∷ h.before_is i;
      it_is = h.it_is;
      records_after_are = h.records_after_are;
    }

-- the first k lists, and the next one
turns_at : (k : ℕ) (next : EditList) (bs : List EditList) (t v : List ℕ) → IsItem k next bs → TransformsInOrder Transforms bs t v → (u : List ℕ) × TransformsInOrder Transforms (take k bs) t u × (w : List ℕ) × Transforms next u w
turns_at k next [] t v a all = absurd a
turns_at zero next (b ∷ bs) t v a all = (t, refl, all.0, subst (λ (x : EditList). Transforms x t all.0) (sym a) all.1)
turns_at (suc k) next (b ∷ bs) t v a all =
    let h = turns_at k next bs all.0 v a all.2 in
    (h.0, (all.0, all.1, h.1), h.2, h.3)

-- if the lists transform texts in order, no length is a mismatch
pub follows : MoveToEndIsUnique → TransformLengths → (a : EditList) (bs : List EditList) (k expected found : ℕ) (t u v : List ℕ) → Transforms a t u → TransformsInOrder Transforms bs u v → FailsAt a bs k (λ n b. LengthMismatch n b expected found) → ⊥
follows takes_one lengths a bs k expected found t u v one all h =
    let m = turns_at k h.next bs u v h.next_is all in
    let w = ((takes_one a (take k bs)).equivalent h.swapped_lists h.moved_edits h.is_moved t m.0).0 (u, one, m.1) in
    h.refuses.0 (sym (lengths h.moved_edits w.0 m.0 w.2).1 ∙ m.3.len)

-- ---- a command that succeeds

abbrev history : List ℕ → List Layer → History
history first layers = record { first = first; layers = layers }

-- the session's text and records are those of the history that the command leaves
abbrev Acted : Command → History → Done → List ℕ → List JournalEntry → Type 0
Acted command p d u ks = (n : History) × HistoryStep command p (Ok d) n × (u ≡ top_text n) × (ks ≡ records_in n.layers) × IsHistory n

abbrev PushesResult : Word → Rewrite → History → Done → List ℕ → List JournalEntry → Type 0
PushesResult word made p d u ks = (n : History) × PushesLayer word (Ok made) p (Ok d) n × (u ≡ top_text n) × (ks ≡ records_in n.layers) × IsHistory n

push_on_layer : (b : Bool) (command : Command) (word : Word) (made : Rewrite) (p : History) (d : Done) (u : List ℕ) (ks : List JournalEntry) → ((w : Word) → HasWord command w → w ≡ word)
    → texts_differ (top_text p) made.text ≡ b → u ≡ made.text → d ≡ done (texts_differ (top_text p) made.text) made.fixed made.left → AddsRecordOf b command (top_text p) made (records_in p.layers) ks → IsHistory p
    → PushesResult word made p d u ks
push_on_layer true command word made p d u ks says e um dd a st =
    let l : Layer = record { word = word; edits = made.edits; text = made.text } in
    let same_word : a.0.word ≡ word = says a.0.word a.2.word in
    let same_edits : a.0.edits ≡ made.edits = a.2.edits in
    let same : a.0 ≡ record_of l = λ i. record { word = same_word i; edits = same_edits i } in
    let turns : Transforms made.edits (top_text p) made.text = subst (λ (x : EditList). Transforms x (top_text p) made.text) same_edits a.2.transforms in (
      history p.first (p.layers ++ l ∷ []),
      (ap (λ (x : Done). Ok x) dd, rw e refl),
      um ∙ sym (last_on p.first p.layers (l ∷ [])),
      a.1 ∙ ap (λ (x : JournalEntry). records_in p.layers ++ x ∷ []) same ∙ sym (records_on p.layers (l ∷ [])),
      rise_on p.first p.layers (l ∷ []) st (turns, tt),
    )
push_on_layer false command word made p d u ks says e um dd a st =
    (p, (ap (λ (x : Done). Ok x) dd, rw e refl), um ∙ sym (same_texts (top_text p) made.text e), a, st)

no_layers : (ls : List Layer) → records_in ls ≡ [] → ls ≡ []
no_layers [] e = refl
no_layers (l ∷ ls) e = absurd cc

removed_last : (p : History) (d : Done) (u : List ℕ) (ks : List JournalEntry) → RevertsLast (with_records (top_text p) (records_in p.layers)) d (with_records u ks) → IsHistory p → Acted Revert p d u ks
removed_last p d u ks h st =
    let l = layered p.layers ks h.0 [] h.1 in
    let all : p.layers ≡ l.low ++ l.here ∷ [] = l.all ∙ ap (λ (x : List Layer). l.low ++ l.here ∷ x) (no_layers l.high l.records_after_are) in
    let whole : LayersAreConsistent p.first (l.low ++ l.here ∷ []) = subst (λ (x : List Layer). LayersAreConsistent p.first x) all st in
    let here = rise_high p.first l.low (l.here ∷ []) whole in
    let top : top_text p ≡ l.here.text = ap (λ (x : List Layer). last_text p.first x) all ∙ last_on p.first l.low (l.here ∷ []) in
    let below : record_transforms h.0 (last_text p.first l.low) (top_text p) =
    subst (λ (x : JournalEntry). record_transforms x (last_text p.first l.low) (top_text p)) l.it_is (subst (λ (x : List ℕ). Transforms l.here.edits (last_text p.first l.low) x) (sym top) here.0) in
    let same : u ≡ last_text p.first l.low = sym (h.2.1 (last_text p.first l.low) below) in (
      history p.first l.low,
      record {
        rest = l.low;
        last = l.here;
        layers_are = all;
        new_is = refl;
        done_is = h.3 ∙ ap (λ (x : List ℕ). done (texts_differ x (top_text p)) 0 0) same;
      },
      same,
      sym l.before_is,
      rise_low p.first l.low (l.here ∷ []) whole,
    )

-- what is known of the texts about record n of a history
record About (p : History) (before : List JournalEntry) (it : JournalEntry) (following : List JournalEntry) : Type 0 where
  layer : Layered p.layers before it following
  low : LayersAreConsistent p.first layer.low
  transforms : Transforms it.edits (last_text p.first layer.low) layer.here.text
  higher : TransformsInOrder Transforms (edits_of following) layer.here.text (top_text p)

about : (p : History) (before : List JournalEntry) (it : JournalEntry) (following : List JournalEntry) → records_in p.layers ≡ before ++ it ∷ following → IsHistory p → About p before it following
about p before it following e st =
    let l = layered p.layers before it following e in
    let whole : LayersAreConsistent p.first (l.low ++ l.here ∷ l.high) = subst (λ (x : List Layer). LayersAreConsistent p.first x) l.all st in
    let here = rise_high p.first l.low (l.here ∷ l.high) whole in
    let top : top_text p ≡ last_text l.here.text l.high = ap (λ (x : List Layer). last_text p.first x) l.all ∙ last_on p.first l.low (l.here ∷ l.high) in
    let rest = rise_turns l.here.text l.high here.1 in
    record {
      layer = l;
      low = rise_low p.first l.low (l.here ∷ l.high) whole;
      transforms = subst (λ (x : JournalEntry). Transforms x.edits (last_text p.first l.low) l.here.text) l.it_is here.0;
      higher = subst (λ (x : List ℕ). TransformsInOrder Transforms (edits_of following) l.here.text x) (sym top) (subst (λ (x : List JournalEntry). TransformsInOrder Transforms (edits_of x) l.here.text (last_text l.here.text l.high)) l.records_after_are rest);
    }

removed_one : MoveToEndIsUnique → (n : ℕ) (p : History) (d : Done) (u : List ℕ) (ks : List JournalEntry) → RemovesRecord n (with_records (top_text p) (records_in p.layers)) d (with_records u ks) → IsHistory p → Acted (Take n) p d u ks
removed_one takes_one n p d u ks h st =
    let a = about p h.nth.before h.nth.item h.nth.after h.nth.all st in
    let l = a.layer in
    let below = last_text p.first l.low in
    let w = ((takes_one h.nth.item.edits (edits_of h.nth.after)).equivalent (edits_of h.new_records) h.moved_edits h.is_moved below (top_text p)).0 (l.here.text, a.transforms, a.higher) in
    let same : u ≡ w.0 = sym (h.only w.0 w.2) in
    let others = layers_of below w.0 h.new_records w.1 in
    let made : records_in others ≡ h.new_records = layers_records below w.0 h.new_records w.1 in
    let rise : LayersAreConsistent below others = layers_rise below w.0 h.new_records w.1 in
    let top : top_text (history p.first (l.low ++ others)) ≡ w.0 = last_on p.first l.low others ∙ layers_last below w.0 h.new_records w.1 in
    let taken : IsMovedToEnd l.here.edits (edits_of (records_in l.high)) (edits_of (records_in others)) h.moved_edits =
    subst (λ (x : JournalEntry). IsMovedToEnd x.edits (edits_of (records_in l.high)) (edits_of (records_in others)) h.moved_edits) (sym l.it_is)
    (subst (λ (x : List JournalEntry). IsMovedToEnd h.nth.item.edits (edits_of x) (edits_of (records_in others)) h.moved_edits) (sym l.records_after_are)
    (subst (λ (x : List JournalEntry). IsMovedToEnd h.nth.item.edits (edits_of h.nth.after) (edits_of x) h.moved_edits) (sym made) h.is_moved)) in
    let count : length l.low ≡ length h.nth.before = sym (length-map l.low record_of) ∙ ap length l.before_is in (
      history p.first (l.low ++ others),
      record {
        nth = record { before = l.low; item = l.here; after = l.high; all = l.all; number = h.nth.number ∙ ap (λ (k : ℕ). k + 1) (sym count) };
        new_layers = others;
        moved_edits = h.moved_edits;
        is_moved = taken;
        words = ap words_of made ∙ h.words ∙ ap words_of (sym l.records_after_are);
        consistent = rise;
        new_is = refl;
        done_is = h.done_is ∙ ap (λ (x : List ℕ). done (texts_differ x (top_text p)) 0 0) (same ∙ sym top);
      },
      same ∙ sym top,
      h.records ∙ sym (λ i. l.before_is i ++ made i) ∙ sym (records_on l.low others),
      rise_on p.first l.low others a.low rise,
    )

pub acted : MoveToEndIsUnique → (command : Command) (p : History) (d : Done) (u : List ℕ) (ks : List JournalEntry) → DoesStep command (with_records (top_text p) (records_in p.layers)) d (with_records u ks) → IsHistory p → Acted command p d u ks
acted takes_one Fmt p d u ks h st =
    let made = h.0 in
    let g = push_on_layer (texts_differ (top_text p) made.text) Fmt Word.Fmt made p d u ks (λ w e. e) refl h.2.0 h.2.1 h.2.2 st in
    (g.0, (Ok made, h.1, g.1), g.2, g.3, g.4)
acted takes_one (Fix rules) p d u ks h st =
    let made = h.0 in
    let g = push_on_layer (texts_differ (top_text p) made.text) (Fix rules) Word.Fix made p d u ks (λ w e. e) refl h.2.0 h.2.1 h.2.2 st in
    (g.0, (Ok made, h.1, g.1), g.2, g.3, g.4)
acted takes_one Revert p d u ks h st = removed_last p d u ks h st
acted takes_one (Take n) p d u ks h st = removed_one takes_one n p d u ks h st

-- ---- a command that is refused

-- a history's last record is undone
undoes_last : (p : History) (before : List JournalEntry) (r : JournalEntry) → records_in p.layers ≡ before ++ r ∷ [] → IsHistory p → (t : List ℕ) × Transforms r.edits t (top_text p)
undoes_last p before r e st =
    let a = about p before r [] e st in
    (last_text p.first a.layer.low, subst (λ (x : List ℕ). Transforms r.edits (last_text p.first a.layer.low) x) a.higher a.transforms)

refused_last : ChangeResultIsUnique → (p : History) (e : Fault) → RefusesRevert (with_records (top_text p) (records_in p.layers)) e → IsHistory p → HistoryStepOrMemory Revert p (Err e) p
refused_last unique p NoRecord h st = (refl, no_layers p.layers h, refl)
refused_last unique p (Fault.Refused refused) h st =
    let back = undoes_last p h.1.0 h.0 h.1.1 st in
    absurd (undone_or_refused unique h.0.edits (top_text p) back.0 refused h.2 back.1)
refused_last unique p Memory h st = ((λ e. not_nil h.1.0 h.0 (sym h.1.1 ∙ ap records_in e)), refl)
refused_last unique p _ h st = absurd h

never_breaks : MoveToEndIsUnique → TransformLengths → (n : ℕ) (p : History) (k expected found : ℕ) → FailsAfter n (records_in p.layers) k (λ a b. LengthMismatch a b expected found) → IsHistory p → ⊥
never_breaks takes_one lengths n p k expected found s st =
    let a = about p s.nth.before s.nth.item s.nth.after s.nth.all st in
    follows takes_one lengths s.nth.item.edits (edits_of s.nth.after) k expected found (last_text p.first a.layer.low) a.layer.here.text (top_text p) a.transforms a.higher s.fails

always_undone : ChangeResultIsUnique → MoveToEndIsUnique → (n : ℕ) (p : History) (r : Refused) → UndoFails n (with_records (top_text p) (records_in p.layers)) r → IsHistory p → ⊥
always_undone unique takes_one n p r h st =
    let a = about p h.nth.before h.nth.item h.nth.after h.nth.all st in
    let w = ((takes_one h.nth.item.edits (edits_of h.nth.after)).equivalent h.new_lists h.moved_edits h.is_moved (last_text p.first a.layer.low) (top_text p)).0 (a.layer.here.text, a.transforms, a.higher) in
    undone_or_refused unique h.moved_edits (top_text p) w.0 r h.refuses w.2

refused_one : ChangeResultIsUnique → MoveToEndIsUnique → TransformLengths → (n : ℕ) (p : History) {e : Fault} → RefusesTake n (with_records (top_text p) (records_in p.layers)) e → IsHistory p → HistoryStepOrMemory (Take n) p (Err e) p
refused_one unique takes_one lengths n p (no_record none) st = (none, refl)
refused_one unique takes_one lengths n p (blocked {k} s) st = ((k, s, refl), refl)
refused_one unique takes_one lengths n p (too_long {k} s) st = ((k, s), refl)
refused_one unique takes_one lengths n p (lengths_differ {k} {expected} {found} s) st = absurd (never_breaks takes_one lengths n p k expected found s st)
refused_one unique takes_one lengths n p (not_undone {refused} u) st = absurd (always_undone unique takes_one n p refused u st)
refused_one unique takes_one lengths n p (memory may) st = (may, refl)

refused_text : (command : Command) (p : History) (e : Fault) → (Rewrites command (top_text p) (Err e) → HistoryStep command p (Err e) p) → MatchBool (is_memory_fault e) (IsUtf8WithinLimit (top_text p)) (Rewrites command (top_text p) (Err e))
    → MatchBool (is_memory_fault e) (IsUtf8WithinLimit (top_text p) × (p ≡ p)) (HistoryStep command p (Err e) p)
refused_text command p Memory f h = (h, refl)
refused_text command p _ f h = f h

pub stays : ChangeResultIsUnique → MoveToEndIsUnique → TransformLengths → (command : Command) (p : History) (e : Fault) → RefusesStep command (with_records (top_text p) (records_in p.layers)) e → IsHistory p → HistoryStepOrMemory command p (Err e) p
stays unique takes_one lengths Fmt p e h st = refused_text Fmt p e (λ m. (Err e, m, (refl, refl))) h
stays unique takes_one lengths (Fix rules) p e h st = refused_text (Fix rules) p e (λ m. (Err e, m, (refl, refl))) h
stays unique takes_one lengths Revert p e h st = refused_last unique p e h st
stays unique takes_one lengths (Take n) p e h st = refused_one unique takes_one lengths n p h st

-- What a session's step ensures takes a run, and the history that its records represent, one
-- command further.
pub moved : ChangeResultIsUnique → MoveToEndIsUnique → TransformLengths → (first mid : History) (cs : List Command) (rs : List (Result Done Fault)) (command : Command) (reply : Result Done Fault) (t : List ℕ) (js : List JournalEntry) (u : List ℕ) (ks : List JournalEntry)
    → HistoryRun first cs rs mid → t ≡ top_text mid → js ≡ records_in mid.layers → IsHistory mid
    → IfOk reply (λ d. DoesStep command (with_records t js) d (with_records u ks)) → IfErr reply (RefusesStep command (with_records t js)) → OnErr reply (u ≡ t) → OnErr reply (ks ≡ js)
    → (n : History) × HistoryRun first (cs ++ command ∷ []) (rs ++ reply ∷ []) n × (u ≡ top_text n) × (ks ≡ records_in n.layers) × IsHistory n
moved unique takes_one lengths first mid cs rs command (Ok d) t js u ks run top recs st does _ _ _ =
    let here = with_same (λ (x : SessionContents). DoesStep command x d (with_records u ks)) t (top_text mid) js (records_in mid.layers) top recs does in
    let h = acted takes_one command mid d u ks here st in
    (h.0, run_more HistoryStepOrMemory first mid h.0 cs rs command (Ok d) run h.1, h.2, h.3, h.4)
moved unique takes_one lengths first mid cs rs command (Err e) t js u ks run top recs st _ why ut kj =
    let here = with_same (λ (x : SessionContents). RefusesStep command x e) t (top_text mid) js (records_in mid.layers) top recs why in
    (mid, run_more HistoryStepOrMemory first mid mid cs rs command (Err e) run (stays unique takes_one lengths command mid e here st), ut ∙ top, kj ∙ recs, st)
