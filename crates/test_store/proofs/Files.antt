-- The bytes of files in memory, by the number of a file.
use Rattle.std.proofs.Common.{◌≡◌, ℕ, ◌+◌, ◌<◌, ◌≤◌, zero, suc, Bool, true, false, List, [], ◌∷◌, ◌++◌, length, get_or, set, take, drop, Option, Some, None, Result, Ok, Err, ◌∙◌, refl, sym, ap, ap₂, subst, inl, inr, arith, map, bytes_eq, string_bytes}
use Rattle.std.proofs.lemmas.List.{length-set, map-append}
use Rattle.std.specs.Borrow.{Bor}
use Rattle.std.specs.Vec.{with_item}
use Rattle.tf_session.specs.Invocations.{FileContents}
use Rattle.tf_session.specs.declared.fault.RunFault.{RunFault}
use Rattle.tf_files.specs.Stores.{Files, Spot, HasSaved, SavesEach, Saves, IsSaveResult, contents_at, contents_read, contents_to_save}
use Rattle.tf_files.specs.declared.cause.Trouble.{Trouble}
use Rattle.tf_files.specs.declared.store.ChangedFile.{ChangedFile}
use Rattle.tf_files.specs.declared.store.ReadFile.{ReadFile}
use Rattle.test_store.specs.declared.memory_files.Name.{Name}
use Rattle.test_store.specs.declared.memory_files.MemoryFiles.{MemoryFiles}
use Rattle.test_store.specs.Memory.{bytes_in, files_in, number_of, refuses, spot_of}

double : (n : ℕ) → suc n + suc n ≡ suc (suc (n + n))
double n = omega arith

pub text_set : (files : List ReadFile) (n : ℕ) (file : ReadFile) → n < length files → bytes_in (set files n file) (n + n) ≡ file.text.items
text_set [] n file below = absurd (omega (arith, below))
text_set (first ∷ files) zero file below = refl
text_set (first ∷ files) (suc n) file below =
    subst (λ (k : ℕ). bytes_in (set (first ∷ files) (suc n) file) k ≡ file.text.items) (sym (double n)) (text_set files n file (omega (arith, below)))

pub journal_set : (files : List ReadFile) (n : ℕ) (file : ReadFile) → n < length files → bytes_in (set files n file) (suc (n + n)) ≡ file.journal.items
journal_set [] n file below = absurd (omega (arith, below))
journal_set (first ∷ files) zero file below = refl
journal_set (first ∷ files) (suc n) file below =
    subst (λ (k : ℕ). bytes_in (set (first ∷ files) (suc n) file) (suc k) ≡ file.journal.items) (sym (double n)) (journal_set files n file (omega (arith, below)))

pub others_set : (files : List ReadFile) (n : ℕ) (file : ReadFile) (id : ℕ) → ¬ (id ≡ n + n) → ¬ (id ≡ suc (n + n)) → bytes_in (set files n file) id ≡ bytes_in files id
others_set [] n file id text journal = refl
others_set (first ∷ files) zero file zero text journal = absurd (text refl)
others_set (first ∷ files) zero file (suc zero) text journal = absurd (journal refl)
others_set (first ∷ files) zero file (suc (suc id)) text journal = refl
others_set (first ∷ files) (suc n) file zero text journal = refl
others_set (first ∷ files) (suc n) file (suc zero) text journal = refl
others_set (first ∷ files) (suc n) file (suc (suc id)) text journal =
    others_set files n file id (λ same. text (ap (λ (k : ℕ). suc (suc k)) same ∙ sym (double n))) (λ same. journal (ap (λ (k : ℕ). suc (suc k)) same ∙ ap suc (sym (double n))))

pub contents_of : (files : List ReadFile) (n : ℕ) (d : ReadFile) → n < length files
    → (bytes_in files (n + n) ≡ (get_or files n d).text.items) × (bytes_in files (suc (n + n)) ≡ (get_or files n d).journal.items)
contents_of [] n d below = absurd (omega (arith, below))
contents_of (first ∷ files) zero d below = (refl, refl)
contents_of (first ∷ files) (suc n) d below =
    let rest = contents_of files n d (omega (arith, below)) in (
      subst (λ (k : ℕ). bytes_in (first ∷ files) k ≡ (get_or files n d).text.items) (sym (double n)) rest.0,
      subst (λ (k : ℕ). bytes_in (first ∷ files) (suc k) ≡ (get_or files n d).journal.items) (sym (double n)) rest.1,
    )

-- ---- saves one after another

pub saves_more : {P : Type 0} (spot : P → Spot) (files : List (ChangedFile P)) (results : List (Result (Unit {0}) Trouble)) (file : ChangedFile P) (result : Result (Unit {0}) Trouble) (a b c : Option Files)
    → SavesEach spot files results a b → Saves (spot file.place) (contents_to_save file) result b c → IsSaveResult b (spot file.place) result
    → SavesEach spot (files ++ file ∷ []) (results ++ result ∷ []) a c
saves_more {P} spot [] [] file result a b c same saves is =
    subst (λ (o : Option Files). SavesEach spot (file ∷ []) (result ∷ []) o c) same (c, saves, is, refl)
saves_more spot [] (r ∷ results) file result a b c bad saves is = absurd bad
saves_more spot (f ∷ files) [] file result a b c bad saves is = absurd bad
saves_more spot (f ∷ files) (r ∷ results) file result a b c all saves is =
    (all.0, all.1, all.2, saves_more spot files results file result all.0 b c all.3 saves is)

-- the same, as it is met in the loop
pub saves_next : {P : Type 0} (spot : P → Spot) (first taken : List (Bor (ChangedFile P))) (results all : List (Result (Unit {0}) Trouble)) (file : Bor (ChangedFile P)) (result : Result (Unit {0}) Trouble) (a b c : Option Files)
    → taken ≡ first ++ file ∷ [] → all ≡ results ++ result ∷ [] → SavesEach spot (map (λ (f : Bor (ChangedFile P)). f.now) first) results a b
    → Saves (spot file.now.place) (contents_to_save file.now) result b c → IsSaveResult b (spot file.now.place) result
    → SavesEach spot (map (λ (f : Bor (ChangedFile P)). f.now) taken) all a c
saves_next {P} spot first taken results all file result a b c more with_result same saves is =
    let files : map (λ (f : Bor (ChangedFile P)). f.now) taken ≡ map (λ (f : Bor (ChangedFile P)). f.now) first ++ file.now ∷ [] =
    ap (map (λ (f : Bor (ChangedFile P)). f.now)) more ∙ map-append (λ (f : Bor (ChangedFile P)). f.now) first (file ∷ []) in
    subst (λ (fs : List (ChangedFile P)). SavesEach spot fs all a c) (sym files)
    (subst (λ (rs : List (Result (Unit {0}) Trouble)). SavesEach spot (map (λ (f : Bor (ChangedFile P)). f.now) first ++ file.now ∷ []) rs a c) (sym with_result)
    (saves_more spot (map (λ (f : Bor (ChangedFile P)). f.now) first) results file.now result a b c same saves is))

-- ---- a file that is there

pub has_saved : (old : MemoryFiles) (n : ℕ) (file : ReadFile) (contents : FileContents) → n < length old.files.items → contents_read file ≡ contents
    → HasSaved (spot_of n) contents (files_in old) (files_in (record { files = with_item old.files n file; names = old.names; refused = old.refused }))
has_saved old n file contents below same = record {
  holds = ap₂ (λ (t j : List ℕ). record { text = t; journal = j }) (text_set old.files.items n file below) (journal_set old.files.items n file below) ∙ same;
  others = λ id text journal. others_set old.files.items n file id text journal;
  names = ap {B = List ℕ → Spot} (λ (count : ℕ). λ (name : List ℕ). spot_of (number_of old.names.items count name)) (length-set old.files.items n file);
  refuses = ap {B = Spot → RunFault → Bool} (λ (count : ℕ). refuses count old.refused) (length-set old.files.items n file);
}

pub has_read : (memory : MemoryFiles) (n : ℕ) (file read : ReadFile) → n < length memory.files.items → file ≡ get_or memory.files.items n file → read.text.items ≡ file.text.items
    → read.journal.items ≡ file.journal.items → contents_read read ≡ contents_at (files_in memory) (spot_of n)
has_read memory n file read below is text journal =
    let here = contents_of memory.files.items n file below in
    ap₂ (λ (t j : List ℕ). record { text = t; journal = j })
    (text ∙ ap (λ (f : ReadFile). f.text.items) is ∙ sym here.0) (journal ∙ ap (λ (f : ReadFile). f.journal.items) is ∙ sym here.1)
