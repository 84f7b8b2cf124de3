-- Where the error of a command that did nothing to a file is located.
use Rattle.std.proofs.Common.{◌≡◌, ◌∙◌, ℕ, Bool, true, false, List, Option, Some, None, refl, sym, subst}
use Rattle.std.proofs.lemmas.Bool.{false≢true}
use Rattle.tf_session.specs.declared.fault.RunFault.{RunFault}
use Rattle.tf_session.specs.Invocations.{is_limit}
use Rattle.tf_program.specs.declared.file_error.FileError.{FileError}
use Rattle.tf_program.specs.declared.location.Location.{Location}
use Rattle.tf_program.specs.Location.{IsLocationOf, IsLocatedIn, byte_of}

pub is_located : (text bytes : List ℕ) (locate : Bool) (fault : RunFault) (error : FileError) → locate ≡ true → bytes ≡ text → error.fault ≡ fault
    → IsLocationOf bytes (byte_of fault) error.location → IsLocatedIn text locate error
is_located text bytes locate fault error on same is located =
    let here = subst (λ (t : List ℕ). IsLocationOf t (byte_of fault) error.location) same located in
    let there = subst (λ (f : RunFault). IsLocationOf text (byte_of f) error.location) (sym is) here in
    (λ _. there, λ off. absurd (false≢true (sym off ∙ on)))

pub is_not_located : (text : List ℕ) (locate : Bool) (error : FileError) → locate ≡ false → error.location ≡ None → IsLocatedIn text locate error
is_not_located text locate error off none = (λ on. absurd (false≢true (sym off ∙ on)), λ _. none)

-- at a limit the text is not kept, and the error is at no byte
same_location : (text kept : List ℕ) (fault : RunFault) (location : Option Location) → (is_limit fault ≡ false → kept ≡ text)
    → IsLocationOf kept (byte_of fault) location → IsLocationOf text (byte_of fault) location
same_location text kept RunFault.Memory None same located = located
same_location text kept RunFault.Memory (Some location) same located = located
same_location text kept RunFault.Endless None same located = located
same_location text kept RunFault.Endless (Some location) same located = located
same_location text kept fault location same located = subst (λ (t : List ℕ). IsLocationOf t (byte_of fault) location) (same refl) located

pub located_in_file : (text kept : List ℕ) (locate : Bool) (fault : RunFault) (error : FileError) → error.fault ≡ fault → (is_limit fault ≡ false → kept ≡ text)
    → IsLocatedIn kept locate error → IsLocatedIn text locate error
located_in_file text kept locate fault error is same located =
    let same_here : is_limit error.fault ≡ false → kept ≡ text = λ within. same (subst (λ (f : RunFault). is_limit f ≡ false) is within) in
    (λ on. same_location text kept error.fault error.location same_here (located.0 on), located.1)
