-- The records of a journal, one after another, turn the text at the bottom of the stack into its top; so squashed they are one list that does.
use Rattle.std.proofs.Common.{◌≡◌, ◌∙◌, ℕ, List, [], ◌∷◌, ◌++◌, refl, sym, ap, subst}
use Rattle.std.proofs.lemmas.List.{map_push}
use Rattle.edit_record.specs.Lists.Journal.{JournalEntry, edits_of}
use Rattle.edit_record.specs.Lists.Validity.{LengthsMatch}
use Rattle.edit_record.specs.Lists.Sequence.{TransformsInOrder}
use Rattle.edit_record.specs.Lists.Pieces.{EditList, Transforms}
use Rattle.edit_record.specs.Squashes.Squash.{ComposableListsSquash}
use Rattle.edit_record.specs.Squashes.SquashLists.{SquashAllIsUnique}
use Rattle.tf_lint.proofs.FixEdits.{squash_exists}
use Rattle.tf_session.specs.JournalLaws.{SquashToOne, JournalSquashesToOne}
use Rattle.tf_session.specs.Machine.{StackEntry, initial_stack}
use Rattle.tf_session.specs.Records.{IsJournalOfStack}
use Rattle.tf_session.specs.RunLaws.{completed_commands, completed_replies}
use Rattle.tf_session.proofs.RunLaws.{bottom, same_bottoms, refused_do_not_count}
use Rattle.tf_session.proofs.Stacks.{last_transforms}

-- one list more
turns_push : (cs : List EditList) (c : EditList) (t u v : List ℕ) → TransformsInOrder Transforms cs t u → Transforms c u v → TransformsInOrder Transforms (cs ++ c ∷ []) t v
turns_push [] c t u v all one = (v, subst (λ (x : List ℕ). Transforms c x v) (sym all) one, refl)
turns_push (d ∷ cs) c t u v all one = (all.0, all.1, turns_push cs c all.0 u v all.2 one)

journal_transforms_stack : (records : List JournalEntry) (top : List ℕ) (below : List StackEntry) → IsJournalOfStack records top below → TransformsInOrder Transforms (edits_of records) (bottom top below) top
journal_transforms_stack records top [] h = subst (λ (rs : List JournalEntry). TransformsInOrder Transforms (edits_of rs) top top) (sym h) refl
journal_transforms_stack records top (under ∷ rest) h =
    let earlier = journal_transforms_stack h.0 under.text rest h.8 in
    let all = turns_push (edits_of h.0) h.1.edits (bottom under.text rest) under.text top earlier (last_transforms records top under rest h) in
    let same : edits_of records ≡ edits_of h.0 ++ h.1.edits ∷ [] = ap edits_of h.2 ∙ map_push (λ (r : JournalEntry). r.edits) h.0 h.1 in
    subst (λ (cs : List EditList). TransformsInOrder Transforms cs (bottom under.text rest) top) (sym same) all

-- texts that some lists transform, then one, then others
record Split (cs : List EditList) (c : EditList) (ds : List EditList) (t v : List ℕ) : Type 0 where
  u : List ℕ
  w : List ℕ
  leading : TransformsInOrder Transforms cs t u
  here : Transforms c u w
  back : TransformsInOrder Transforms ds w v

split : (cs : List EditList) (c : EditList) (ds : List EditList) (t v : List ℕ) → TransformsInOrder Transforms (cs ++ c ∷ ds) t v → Split cs c ds t v
split [] c ds t v all = record { u = t; w = all.0; leading = refl; here = all.1; back = all.2 }
split (d ∷ cs) c ds t v all =
    let s = split cs c ds all.0 v all.2 in
    record { u = s.u; w = s.w; leading = (all.0, all.1, s.leading); here = s.here; back = s.back }

-- what the laws of edits and of squashing say of all lists
abbrev pub TransformLengths : Type 0
TransformLengths = (e : EditList) (t u : List ℕ) → Transforms e t u → LengthsMatch e t u

abbrev pub SquashesAreOne : Type 0
SquashesAreOne = (first : EditList) (others : List EditList) → SquashAllIsUnique first others

pub become_one : TransformLengths → ComposableListsSquash → SquashesAreOne → (text top : List ℕ) (first : EditList) (others : List EditList) → TransformsInOrder Transforms (first ∷ others) text top → SquashToOne text top first others
become_one lengths squashes squash_as_one text top first others all = record {
  composable = λ before next following so_far same squashed.
      let whole = subst (λ (cs : List EditList). TransformsInOrder Transforms (first ∷ cs) text top) same all in
      let s = split (first ∷ before) next following text top whole in
      let before_it = ((squash_as_one first before).equivalent so_far squashed text s.u).1 s.leading in
      (sym (lengths so_far text s.u before_it).1 ∙ s.here.len, (text, s.u, s.w, before_it, s.here));
  exists = λ valid. squash_exists squashes first others text top valid.0 valid.1 all;
  transforms = λ one squashed. ((squash_as_one first others).equivalent one squashed text top).1 all;
}

pub journal_is_one : TransformLengths → ComposableListsSquash → SquashesAreOne → JournalSquashesToOne
journal_is_one lengths squashes squash_as_one text commands replies end records run represents first others same =
    let ran = refused_do_not_count (initial_stack text) end commands replies run in
    let lowest = same_bottoms (initial_stack text) end (completed_commands commands replies) (completed_replies replies) ran in
    let all = journal_transforms_stack records end.top end.below represents in
    let from_text = subst (λ (t : List ℕ). TransformsInOrder Transforms (edits_of records) t end.top) lowest all in
    become_one lengths squashes squash_as_one text end.top first others (subst (λ (cs : List EditList). TransformsInOrder Transforms cs text end.top) same from_text)
