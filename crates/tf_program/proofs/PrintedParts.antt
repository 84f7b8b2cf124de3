-- Parts that are printed one after another.
use Rattle.std.proofs.Common.{◌≡◌, ◌∙◌, ◌≤◌, ◌+◌, ◌↔◌, ℕ, Bool, true, false, List, [], ◌++◌, length, take, Result, Ok, Err, OnOk, IfErr, ◌⊎◌, inl, inr, refl, sym, ap, subst, append-nil, append_assoc, arith}
use Rattle.std.specs.Prelude.{is_ok, OnErr, codes}
use Rattle.std.proofs.KnownBytes.{Appends-nil, Appends-trans}
use Rattle.std.proofs.Math.Seq.{take-append-add}
use Rattle.std.proofs.lemmas.List.{length-append, take-append-le}
use Rattle.std.specs.Io.KnownBytes.{Appends}
use Rattle.tf_session.specs.declared.fault.RunFault.{RunFault}
use Rattle.tf_session.specs.declared.fault.SessionPart.{SessionPart}
use Rattle.tf_stream.specs.Streams.{WritesBytes}
use Rattle.tf_session.specs.Streams.{IsWriteFault}
use Rattle.tf_program.specs.declared.file_error.FileError.{FileError}
use Rattle.tf_program.specs.Printing.{Channel, between, PrintsAll, FailsToPrint, PrintsPart, Prints, IsLineEnd, IsMessage, IsShortErrorText, error_line}

pub both_printed : (first next : List ℕ) (a b c : Channel) → PrintsAll first a b → PrintsAll next b c → PrintsAll (first ++ next) a c
both_printed first next a b c p q = (Appends-trans a.bytes b.bytes c.bytes first next p.0 q.0, q.1 ∙ p.1)

pub part_after : (first next : List ℕ) (a b c : Channel) → PrintsAll first a b → PrintsPart next b c → PrintsPart (first ++ next) a c
part_after first next a b c p (RunFault.Write part sent, ((named, (within, writes)), failed)) =
    let here : length first + sent ≤ length (first ++ next) = omega (arith, within, length-append first next) in
    let written = subst (Appends a.bytes c.bytes) (sym (take-append-add first next sent)) (Appends-trans a.bytes b.bytes c.bytes first (take sent next) p.0 writes) in
    (RunFault.Write part (length first + sent), ((named, (here, written)), failed))
part_after first next a b c p (fault, (bad, failed)) = absurd bad

pub part_before : (first next : List ℕ) (a c : Channel) → PrintsPart first a c → PrintsPart (first ++ next) a c
part_before first next a c (RunFault.Write part sent, ((named, (within, writes)), failed)) =
    let here : sent ≤ length (first ++ next) = omega (arith, within, length-append first next) in
    let written = subst (Appends a.bytes c.bytes) (sym (take-append-le sent first next within)) writes in
    (RunFault.Write part sent, ((named, (here, written)), failed))
part_before first next a c (fault, (bad, failed)) = absurd bad

-- ---- a call that prints some bytes

kept : (a b : Bool) → (a ≡ false → ((true ≡ false) ↔ (b ≡ true))) → (a ≡ true → b ≡ true) → b ≡ a
kept true b fresh after = after refl
kept false true fresh after = (fresh refl).1 refl
kept false false fresh after = refl

now_failed : (a b : Bool) → (a ≡ false → ((false ≡ false) ↔ (b ≡ true))) → (a ≡ true → b ≡ true) → b ≡ true
now_failed true b fresh after = after refl
now_failed false b fresh after = (fresh refl).0 refl

pub printed : (bytes : List ℕ) (r : Result (Unit {0}) RunFault) (old new : Channel) → OnOk r (WritesBytes (between old new) bytes)
    → (old.failed ≡ false → (is_ok r ≡ false ↔ new.failed ≡ true)) → (old.failed ≡ true → new.failed ≡ true) → OnOk r (PrintsAll bytes old new)
printed bytes (Ok done) old new writes fresh after = (writes, kept old.failed new.failed fresh after)
printed bytes (Err fault) old new writes fresh after = tt

pub prints_of : (bytes sent : List ℕ) (r : Result (Unit {0}) RunFault) (old new : Channel) → sent ≡ bytes → OnOk r (PrintsAll sent old new)
    → IfErr r (λ fault. FailsToPrint sent fault old new) → Prints bytes old new
prints_of bytes sent (Ok done) old new same all part = inl (subst (λ (l : List ℕ). PrintsAll l old new) same all)
prints_of bytes sent (Err fault) old new same all part = inr (fault, subst (λ (l : List ℕ). FailsToPrint l fault old new) same part)

pub prints_here : (bytes sent : List ℕ) (old new : Channel) → sent ≡ bytes → PrintsAll sent old new → PrintsAll bytes old new
prints_here bytes sent old new same = subst (λ (l : List ℕ). PrintsAll l old new) same

pub fails_here : (bytes sent : List ℕ) (fault : RunFault) (old new : Channel) → sent ≡ bytes → FailsToPrint sent fault old new → FailsToPrint bytes fault old new
fails_here bytes sent fault old new same = subst (λ (l : List ℕ). FailsToPrint l fault old new) same

-- ---- five parts

abbrev five : List ℕ → List ℕ → List ℕ → List ℕ → List ℕ → List ℕ
five a b c d e = a ++ (b ++ (c ++ (d ++ e)))

pub ends_in_1 : (a b c d e : List ℕ) (fault : RunFault) (o x : Channel) → FailsToPrint a fault o x → PrintsPart (five a b c d e) o x
ends_in_1 a b c d e fault o x p = part_before a (b ++ (c ++ (d ++ e))) o x (fault, p)

pub ends_in_2 : (a b c d e s : List ℕ) (fault : RunFault) (o p x : Channel) → s ≡ b → PrintsAll a o p → FailsToPrint s fault p x → PrintsPart (five a b c d e) o x
ends_in_2 a b c d e s fault o p x same first then =
    part_after a (b ++ (c ++ (d ++ e))) o p x first (part_before b (c ++ (d ++ e)) p x (fault, fails_here b s fault p x same then))

pub ends_in_3 : (a b c d e s : List ℕ) (fault : RunFault) (o p q x : Channel) → s ≡ b → PrintsAll a o p → PrintsAll s p q → FailsToPrint c fault q x → PrintsPart (five a b c d e) o x
ends_in_3 a b c d e s fault o p q x same first second then =
    part_after a (b ++ (c ++ (d ++ e))) o p x first (part_after b (c ++ (d ++ e)) p q x (prints_here b s p q same second) (part_before c (d ++ e) q x (fault, then)))

pub ends_in_4 : (a b c d e s t : List ℕ) (fault : RunFault) (o p q r x : Channel) → s ≡ b → t ≡ d → PrintsAll a o p → PrintsAll s p q → PrintsAll c q r → FailsToPrint t fault r x
    → PrintsPart (five a b c d e) o x
ends_in_4 a b c d e s t fault o p q r x same also first second third then =
    part_after a (b ++ (c ++ (d ++ e))) o p x first
    (part_after b (c ++ (d ++ e)) p q x (prints_here b s p q same second)
    (part_after c (d ++ e) q r x third (part_before d e r x (fault, fails_here d t fault r x also then))))

pub ends_in_5 : (a b c d e s t : List ℕ) (result : Result (Unit {0}) RunFault) (o p q r y x : Channel) → s ≡ b → t ≡ d → PrintsAll a o p → PrintsAll s p q → PrintsAll c q r → PrintsAll t r y
    → IfErr result (λ fault. FailsToPrint e fault y x) → OnErr result (PrintsPart (five a b c d e) o x)
ends_in_5 a b c d e s t (Ok done) o p q r y x same also first second third fourth then = tt
ends_in_5 a b c d e s t (Err fault) o p q r y x same also first second third fourth then =
    part_after a (b ++ (c ++ (d ++ e))) o p x first
    (part_after b (c ++ (d ++ e)) p q x (prints_here b s p q same second)
    (part_after c (d ++ e) q r x third (part_after d e r y x (prints_here d t r y also fourth) (fault, then))))

-- ---- a text and the end of its last line

pub ends_early : (text sent : List ℕ) (fault : RunFault) (o x : Channel) → sent ≡ text → FailsToPrint sent fault o x
    → (end : List ℕ) × IsLineEnd end × PrintsPart (text ++ end) o x
ends_early text sent fault o x same part = ([], inl refl, part_before text [] o x (fault, fails_here text sent fault o x same part))

pub ends_whole : (text sent end line_end : List ℕ) (r : Result (Unit {0}) RunFault) (o p x : Channel) → sent ≡ text → line_end ≡ end → IsLineEnd end → PrintsAll sent o p → OnOk r (PrintsAll line_end p x)
    → OnOk r ((end : List ℕ) × IsLineEnd end × PrintsAll (text ++ end) o x)
ends_whole text sent end line_end (Ok done) o p x same also is first then =
    (end, is, both_printed text end o p x (prints_here text sent o p same first) (prints_here end line_end p x also then))
ends_whole text sent end line_end (Err fault) o p x same also is first then = tt

pub ends_part : (text sent end line_end : List ℕ) (r : Result (Unit {0}) RunFault) (o p x : Channel) → sent ≡ text → line_end ≡ end → IsLineEnd end → PrintsAll sent o p
    → IfErr r (λ fault. FailsToPrint line_end fault p x) → OnErr r ((end : List ℕ) × IsLineEnd end × PrintsPart (text ++ end) o x)
ends_part text sent end line_end (Ok done) o p x same also is first then = tt
ends_part text sent end line_end (Err fault) o p x same also is first then =
    (end, is, part_after text end o p x (prints_here text sent o p same first) (fault, fails_here end line_end fault p x also then))

-- ---- the lines of an error without memory for them

abbrev IsShortMessage : FileError → List ℕ → Type 0
IsShortMessage error message = IsMessage error.fault message ⊎ (message ≡ codes "out of memory")

abbrev PrintsShort : List ℕ → FileError → Channel → Channel → Type 0
PrintsShort name error o x = (text : List ℕ) × IsShortErrorText name error text × Prints text o x

pub short_part : (name message shown : List ℕ) (error : FileError) (o x : Channel) → shown ≡ message → IsShortMessage error message → PrintsPart (error_line name shown) o x → PrintsShort name error o x
short_part name message shown error o x same is part =
    let line = subst (λ (m : List ℕ). PrintsPart (error_line name m) o x) same part in
    (error_line name message ++ [], (message, is, [], inl refl, refl), inr (part_before (error_line name message) [] o x line))

pub short_line : (name message shown : List ℕ) (error : FileError) (o x : Channel) → shown ≡ message → IsShortMessage error message → PrintsAll (error_line name shown) o x → PrintsShort name error o x
short_line name message shown error o x same is printed =
    let line = subst (λ (m : List ℕ). PrintsAll (error_line name m) o x) same printed in
    (error_line name message ++ [], (message, is, [], inl refl, refl), inl (prints_here (error_line name message ++ []) (error_line name message) o x (sym (append-nil (error_line name message))) line))

pub short_lines : (name message shown : List ℕ) (error : FileError) (r : Result (Unit {0}) RunFault) (o p x : Channel) → shown ≡ message → IsShortMessage error message → PrintsAll (error_line name shown) o p
    → OnOk r (PrintsAll (error_line name (codes "out of memory")) p x) → OnErr r (PrintsPart (error_line name (codes "out of memory")) p x) → PrintsShort name error o x
short_lines name message shown error (Ok done) o p x same is first all part =
    let second = error_line name (codes "out of memory") in
    let line = subst (λ (m : List ℕ). PrintsAll (error_line name m) o p) same first in
    (error_line name message ++ second, (message, is, second, inr refl, refl), inl (both_printed (error_line name message) second o p x line all))
short_lines name message shown error (Err fault) o p x same is first all part =
    let second = error_line name (codes "out of memory") in
    let line = subst (λ (m : List ℕ). PrintsAll (error_line name m) o p) same first in
    (error_line name message ++ second, (message, is, second, inr refl, refl), inr (part_after (error_line name message) second o p x line part))

-- ---- the lines of an error

pub line_then : (name message second : List ℕ) → codes "tfk: " ++ (name ++ (codes ": " ++ (message ++ (codes "\n" ++ second)))) ≡ error_line name message ++ second
line_then name message second =
    let rest = codes ": " ++ (message ++ codes "\n") in
    sym (ap (λ (l : List ℕ). codes "tfk: " ++ l)
    (append_assoc name rest second ∙ ap (λ (l : List ℕ). name ++ (codes ": " ++ l)) (append_assoc message (codes "\n") second)))
