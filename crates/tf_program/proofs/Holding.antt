-- Names that are done one after another, and those whose entries are held.
use Rattle.std.proofs.Common.{◌≡◌, ℕ, Bool, ◌+◌, length, ◌∙◌, List, [], ◌∷◌, ◌++◌, Option, Some, refl, sym, ap, subst, append_assoc, append-nil, arith, vec_len}
use Rattle.std.proofs.lemmas.List.{map-append}
use Rattle.std.specs.Borrow.{Bor}
use Rattle.tf_cli.specs.declared.options.Action.{Action}
use Rattle.tf_cli.specs.declared.outcome.RunOutcome.{RunOutcome}
use Rattle.tf_files.specs.Stores.{Files, Spot}
use Rattle.tf_program.specs.declared.batch.Batch.{Batch}
use Rattle.tf_program.specs.declared.entry.Entry.{Entry}
use Rattle.tf_program.specs.Inner.Entries.{Advances, MayFinish, PutsIn, KeepsBatch, KeepsNames, IsWaitingIn, IsEntryIn, IsResultIn, AreWaiting, AreApartFrom, IsApartFromAll, IsApartFromName, names_of, file_of, progress}
use Rattle.tf_program.specs.Printing.{Console}
use Rattle.tf_program.specs.Work.{file_command}
use Rattle.tf_session.specs.declared.command.Command.{Command}
use Rattle.tf_program.specs.Tasks.{Progress, DoesFile, DoesEach}
use Rattle.tf_program.proofs.Keeping.{keeps_here, keeps_then, entry_stays}

-- ---- names that are done

pub does_append : (action : Action) (locate : Bool) (first next : List (Bor (List ℕ))) (x y z : Progress) → DoesEach action locate first x y → DoesEach action locate next y z → DoesEach action locate (first ++ next) x z
does_append action locate [] next x y z same h = subst (λ (o : Progress). DoesEach action locate next o z) same h
does_append action locate (name ∷ first) next x y z does h = (does.0, does.1, does_append action locate first next does.0 y z does.2 h)

pub does_one : (action : Action) (locate : Bool) (name : Bor (List ℕ)) (x y : Progress) → DoesFile action locate name.now x y → DoesEach action locate (name ∷ []) x y
does_one action locate name x y does = (y, does, refl)

-- one more entry
pub names_more : {P : Type 0} (entries : List (Entry P)) (entry : Entry P) → names_of (entries ++ entry ∷ []) ≡ names_of entries ++ entry.name ∷ []
names_more {P} entries entry = map-append (λ (e : Entry P). e.name) entries (entry ∷ [])

pub does_more : {P : Type 0} (action : Action) (locate : Bool) (entries : List (Entry P)) (entry : Entry P) (x y z : Progress) → DoesEach action locate (names_of entries) x y
    → DoesFile action locate entry.name.now y z → DoesEach action locate (names_of (entries ++ entry ∷ [])) x z
does_more action locate entries entry x y z does h =
    subst (λ (names : List (Bor (List ℕ))). DoesEach action locate names x z) (sym (names_more entries entry))
    (does_append action locate (names_of entries) (entry.name ∷ []) x y z does (does_one action locate entry.name y z h))

-- ---- entries that are held

from_all_one_more : {P : Type 0} (spot : P → Spot) (files : Option Files) (first : Entry P) (others : List (Entry P)) (entry : Entry P) → IsApartFromAll spot files first others
    → IsApartFromName spot files (file_of first.made) entry.name.now → IsApartFromAll spot files first (others ++ entry ∷ [])
from_all_one_more spot files first [] entry all apart = (apart, tt)
from_all_one_more spot files first (other ∷ others) entry all apart = (all.0, from_all_one_more spot files first others entry all.1 apart)

pub waiting_one_more : {P : Type 0} (spot : P → Spot) (action : Action) (locate : Bool) (files : Option Files) (entries : List (Entry P)) (entry : Entry P) → AreWaiting spot action locate files entries
    → IsEntryIn spot action locate files entry → AreApartFrom spot files entries entry.name.now → AreWaiting spot action locate files (entries ++ entry ∷ [])
waiting_one_more spot action locate files [] entry waiting is apart = (is, tt, tt)
waiting_one_more spot action locate files (first ∷ entries) entry waiting is apart =
    (waiting.0, from_all_one_more spot files first entries entry waiting.1 apart.0, waiting_one_more spot action locate files entries entry waiting.2 is apart.1)

-- one that is not held yet, once others may have been saved
pub entry_then : {P : Type 0} (spot : P → Spot) (entry : Entry P) (a b : Batch P) (x y : Progress) → MayFinish spot a x b y → AreApartFrom spot x.files a.entries.items entry.name.now
    → IsEntryIn spot a.action a.locate x.files entry → IsEntryIn spot b.action b.locate y.files entry
entry_then spot entry a b x y step apart is =
    let stays = entry_stays spot a.action a.locate x.files y.files entry (step.kept entry.name.now apart) is in
    subst (λ (locate : Bool). IsEntryIn spot b.action locate y.files entry) (sym step.advances.locate)
    (subst (λ (action : Action). IsEntryIn spot action a.locate y.files entry) (sym step.advances.action) stays)

-- ---- a batch

pub keeps_none : {P : Type 0} (batch : Batch P) → KeepsBatch 0 batch batch
keeps_none batch = record { left = omega arith; len = refl; entries = refl; action = refl; locate = refl }

pub keeps_more : {P : Type 0} (count : ℕ) (a b c : Batch P) → KeepsBatch count a b → KeepsBatch 1 b c → KeepsBatch (count + 1) a c
keeps_more count a b c first next = record {
  left = omega (arith, first.left, next.left);
  len = next.len ∙ first.len;
  entries = next.entries ∙ first.entries;
  action = next.action ∙ first.action;
  locate = next.locate ∙ first.locate;
}

advances_none : {P : Type 0} (batch : Batch P) (here : Progress) → Advances [] batch here batch here
advances_none batch here = record { done = []; names = append-nil (names_of batch.entries.items); does = refl; action = refl; locate = refl }

pub none_done : {P : Type 0} (spot : P → Spot) (batch : Batch P) (here : Progress) → IsWaitingIn spot batch here.files → MayFinish spot batch here batch here
none_done spot batch here waiting = record {
  reported = omega arith;
  waiting = waiting;
  advances = advances_none batch here;
  kept = λ name apart. keeps_here name here.files;
  apart = λ name apart. apart;
}

advances_then : {P : Type 0} (p q : List (Bor (List ℕ))) (a b c : Batch P) (x y z : Progress) → Advances p a x b y → Advances q b y c z → Advances (p ++ q) a x c z
advances_then p q a b c x y z first next =
    let whole : names_of a.entries.items ++ (p ++ q) ≡ (first.done ++ next.done) ++ names_of c.entries.items =
    sym (append_assoc (names_of a.entries.items) p q) ∙ ap (λ (ns : List (Bor (List ℕ))). ns ++ q) first.names
    ∙ append_assoc first.done (names_of b.entries.items) q
    ∙ ap (λ (ns : List (Bor (List ℕ))). first.done ++ ns) next.names ∙ sym (append_assoc first.done next.done (names_of c.entries.items)) in
    let does = subst (λ (action : Action). DoesEach action b.locate next.done y z) first.action next.does in
    let does_here = subst (λ (locate : Bool). DoesEach a.action locate next.done y z) first.locate does in
    record {
      done = first.done ++ next.done;
      names = whole;
      does = does_append a.action a.locate first.done next.done x y z first.does does_here;
      action = next.action ∙ first.action;
      locate = next.locate ∙ first.locate;
    }

pub puts_in_after : {P : Type 0} (spot : P → Spot) (name : Bor (List ℕ)) (a b c : Batch P) (x y z : Progress) → MayFinish spot a x b y → PutsIn spot name b y c z → PutsIn spot name a x c z
puts_in_after spot name a b c x y z first next = record {
  reported = omega (arith, first.reported, next.reported);
  waiting = next.waiting;
  advances = advances_then [] (name ∷ []) a b c x y z first.advances next.advances;
}

pub finish_then : {P : Type 0} (spot : P → Spot) (a b c : Batch P) (x y z : Progress) → MayFinish spot a x b y → MayFinish spot b y c z → MayFinish spot a x c z
finish_then spot a b c x y z first next = record {
  reported = omega (arith, first.reported, next.reported);
  waiting = next.waiting;
  advances = advances_then [] [] a b c x y z first.advances next.advances;
  kept = λ name apart. keeps_then name x.files y.files z.files (first.kept name apart) (next.kept name (first.apart name apart));
  apart = λ name apart. next.apart name (first.apart name apart);
}

-- one more is held, and then what is held may be finished
pub pushed : {P : Type 0} (spot : P → Spot) (entry : Entry P) (a b c : Batch P) (x z : Progress) → b.entries.items ≡ a.entries.items ++ entry ∷ [] → vec_len b.entries ≡ vec_len a.entries + 1
    → b.outcome.left ≡ a.outcome.left → b.action ≡ a.action → b.locate ≡ a.locate → MayFinish spot b x c z → PutsIn spot entry.name a x c z
pushed spot entry a b c x z items len left action locate step =
    let names : names_of a.entries.items ++ entry.name ∷ [] ≡ step.advances.done ++ names_of c.entries.items =
    sym (names_more a.entries.items entry) ∙ sym (ap names_of items) ∙ sym (append-nil (names_of b.entries.items)) ∙ step.advances.names in
    let does = subst (λ (act : Action). DoesEach act b.locate step.advances.done x z) action step.advances.does in
    record {
      reported = omega (arith, step.reported, len, left);
      waiting = step.waiting;
      advances = record {
        done = step.advances.done;
        names = names;
        does = subst (λ (l : Bool). DoesEach a.action l step.advances.done x z) locate does;
        action = step.advances.action ∙ action;
        locate = step.advances.locate ∙ locate;
      };
    }

-- all that was held is finished, and then one more is done
pub finished_one : {P : Type 0} (spot : P → Spot) (name : Bor (List ℕ)) (a b c : Batch P) (x y z : Progress) → MayFinish spot a x b y → b.entries.items ≡ [] → KeepsBatch 1 b c
    → DoesFile b.action b.locate name.now y z → PutsIn spot name a x c z
finished_one {P} spot name a b c x y z step none keeps does =
    let none_left : c.entries.items ≡ [] = keeps.entries ∙ none in
    let names : names_of b.entries.items ++ name ∷ [] ≡ (name ∷ []) ++ names_of c.entries.items =
    ap (λ (es : List (Entry P)). names_of es ++ name ∷ []) none ∙ sym (ap (λ (es : List (Entry P)). (name ∷ []) ++ names_of es) none_left) in
    record {
      reported = omega (arith, step.reported, keeps.left, keeps.len);
      waiting = subst (λ (es : List (Entry P)). AreWaiting spot c.action c.locate z.files es) (sym none_left) tt;
      advances = advances_then [] (name ∷ []) a b c x y z step.advances
          (record { done = name ∷ []; names = names; does = does_one b.action b.locate name y z does; action = keeps.action; locate = keeps.locate });
    }

-- all that was held is done
pub all_finished : {P : Type 0} (spot : P → Spot) (a b : Batch P) (x z : Progress) → b.entries.items ≡ [] → vec_len b.entries ≡ 0 → b.outcome.left + vec_len a.entries ≡ a.outcome.left
    → b.action ≡ a.action → b.locate ≡ a.locate → DoesEach a.action a.locate (names_of a.entries.items) x z → KeepsNames spot a.entries.items x.files z.files → MayFinish spot a x b z
all_finished {P} spot a b x z none len left action locate does kept = record {
  reported = omega (arith, len, left);
  waiting = subst (λ (es : List (Entry P)). AreWaiting spot b.action b.locate z.files es) (sym none) tt;
  advances = record {
    done = names_of a.entries.items;
    names = ap (λ (es : List (Entry P)). names_of a.entries.items ++ names_of es) (sym none);
    does = does;
    action = action;
    locate = locate;
  };
  kept = kept;
  apart = λ name apart. subst (λ (es : List (Entry P)). AreApartFrom spot z.files es name) (sym none) tt;
}

-- ---- a command that is done on a file changes no file

-- all that a batch had is done
pub all_done : {P : Type 0} (spot : P → Spot) (a t b : Batch P) (entries : List (Entry P)) (before after : Console) (old new : Option Files) → t.entries.items ≡ [] → vec_len t.entries ≡ 0
    → t.outcome ≡ a.outcome → t.action ≡ a.action → t.locate ≡ a.locate → entries ≡ a.entries.items → length entries ≡ vec_len a.entries → KeepsBatch (length entries) t b
    → DoesEach t.action t.locate (names_of entries) (progress t before old) (progress b after new) → KeepsNames spot entries old new → MayFinish spot a (progress a before old) b (progress b after new)
all_done {P} spot a t b entries before after old new none len outcome action locate same many keeps does kept =
    let by_action = subst (λ (act : Action). DoesEach act t.locate (names_of entries) (progress t before old) (progress b after new)) action does in
    let by_locate = subst (λ (l : Bool). DoesEach a.action l (names_of entries) (progress t before old) (progress b after new)) locate by_action in
    let there = subst (λ (o : RunOutcome). DoesEach a.action a.locate (names_of entries) (record { outcome = o; console = before; files = old }) (progress b after new)) outcome by_locate in
    all_finished spot a b (progress a before old) (progress b after new) (keeps.entries ∙ none) (keeps.len ∙ len)
    (omega (arith, keeps.left, many, ap (λ (o : RunOutcome). o.left) outcome))
    (keeps.action ∙ action) (keeps.locate ∙ locate)
    (subst (λ (es : List (Entry P)). DoesEach a.action a.locate (names_of es) (progress a before old) (progress b after new)) same there)
    (subst (λ (es : List (Entry P)). KeepsNames spot es old new) same kept)

-- they are held there as they were in the batch
pub waiting_there : {P : Type 0} (spot : P → Spot) (a t : Batch P) (entries : List (Entry P)) (files : Option Files) → t.action ≡ a.action → t.locate ≡ a.locate → entries ≡ a.entries.items
    → IsWaitingIn spot a files → AreWaiting spot t.action t.locate files entries
waiting_there {P} spot a t entries files action locate same waiting =
    subst (λ (act : Action). AreWaiting spot act t.locate files entries) (sym action)
    (subst (λ (l : Bool). AreWaiting spot a.action l files entries) (sym locate)
    (subst (λ (es : List (Entry P)). AreWaiting spot a.action a.locate files es) (sym same) waiting))

-- the same where it was done over files that are those from before
pub all_done_there : {P : Type 0} (spot : P → Spot) (a t b : Batch P) (entries : List (Entry P)) (before after : Console) (mid old new : Option Files) → mid ≡ old → t.entries.items ≡ [] → vec_len t.entries ≡ 0
    → t.outcome ≡ a.outcome → t.action ≡ a.action → t.locate ≡ a.locate → entries ≡ a.entries.items → length entries ≡ vec_len a.entries → KeepsBatch (length entries) t b
    → DoesEach t.action t.locate (names_of entries) (progress t before mid) (progress b after new) → KeepsNames spot entries mid new → MayFinish spot a (progress a before old) b (progress b after new)
all_done_there spot a t b entries before after mid old new is none len outcome action locate same many keeps does kept =
    all_done spot a t b entries before after old new none len outcome action locate same many keeps
    (subst (λ (files : Option Files). DoesEach t.action t.locate (names_of entries) (progress t before files) (progress b after new)) is does)
    (subst (λ (files : Option Files). KeepsNames spot entries files new) is kept)
