-- One more file that is saved after others.
use Rattle.std.proofs.Common.{◌≡◌, ℕ, ◌+◌, ◌<◌, List, [], ◌∷◌, ◌++◌, Option, Result, refl, sym, ap, subst, ◌∙◌, take, get_or, length, map}
use Rattle.std.proofs.lemmas.List.{map_more}
use Rattle.std.specs.Borrow.{Bor}
use Rattle.tf_files.specs.Stores.{Files, Spot, Saves, SavesEach, IsSaveResult, contents_to_save}
use Rattle.tf_files.specs.declared.cause.Trouble.{Trouble}
use Rattle.tf_files.specs.declared.store.ChangedFile.{ChangedFile}

pub one_more_saved : {P : Type 0} (spot : P → Spot) (files : List (ChangedFile P)) (results : List (Result (Unit {0}) Trouble)) (file : ChangedFile P) (result : Result (Unit {0}) Trouble)
    (old mid new : Option Files) → SavesEach spot files results old mid → Saves (spot file.place) (contents_to_save file) result mid new → IsSaveResult mid (spot file.place) result
    → SavesEach spot (files ++ file ∷ []) (results ++ result ∷ []) old new
one_more_saved spot [] [] file result old mid new each saves is = (
  new,
  subst (λ (o : Option Files). Saves (spot file.place) (contents_to_save file) result o new) each saves,
  subst (λ (o : Option Files). IsSaveResult o (spot file.place) result) each is,
  refl,
)
one_more_saved spot [] (first ∷ results) file result old mid new each saves is = absurd each
one_more_saved spot (one ∷ files) [] file result old mid new each saves is = absurd each
one_more_saved spot (one ∷ files) (first ∷ results) file result old mid new each saves is =
    (each.0, each.1, each.2, one_more_saved spot files results file result each.0 mid new each.3 saves is)

pub taken_file : {P : Type 0} (files : List (Bor (ChangedFile P))) (i : ℕ) (file : Bor (ChangedFile P)) → i < length files → file ≡ get_or files i file
    → map (λ (f : Bor (ChangedFile P)). f.now) (take (i + 1) files) ≡ map (λ (f : Bor (ChangedFile P)). f.now) (take i files) ++ file.now ∷ []
taken_file {P} files i file below is =
    let now = λ (f : Bor (ChangedFile P)). f.now in
    map_more now files i file below ∙ ap (λ (x : ChangedFile P). map now (take i files) ++ x ∷ []) (sym (ap now is))
