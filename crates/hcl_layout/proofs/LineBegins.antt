-- Lines that are not frozen begin after a line end.
use Rattle.std.proofs.Common.{◌≡◌, ℕ, zero, suc, Bool, true, false, nat_lt, List, [], ◌∷◌, if◌then◌else◌, refl, sym, subst}
use Rattle.std.proofs.lemmas.Bool.{false≢true}
use Rattle.hcl_token.specs.declared.kind.Kind.{Kind}
use Rattle.hcl_token.specs.declared.kind.Kind.TheVariants.{LineEnd, HereOpen}
use Rattle.hcl_token.specs.Tokens.{Pair}
use Rattle.hcl_layout.specs.Gaps.Lines.{Line, heredocs_after, ends_line, lines_of}
use Rattle.hcl_layout.specs.Gaps.Inner.Stages.{prepend_to_first, lines_from}
use Rattle.hcl_layout.proofs.GapsLemmas.SplitLaw.{lines_are}

-- the kind of the last of the tokens; this one, if there is none
abbrev pub last_of : Kind → List Pair → Kind
last_of k [] = k
last_of k (p ∷ ps) = last_of p.kind ps

-- lines after a token of this kind: one that is not frozen begins after a line end
abbrev pub LinesStartAfter : Kind → List Line → Type 0
LinesStartAfter k [] = Unit {0}
LinesStartAfter k (line ∷ lines) = (line.frozen ≡ false → k ≡ LineEnd) × LinesStartAfter (last_of k line.pairs) lines

-- those after the first
abbrev LaterLinesStartAfter : Kind → List Line → Type 0
LaterLinesStartAfter k [] = Unit {0}
LaterLinesStartAfter k (line ∷ lines) = LinesStartAfter (last_of k line.pairs) lines

prepend_later : (k : Kind) (f : Bool) (p : Pair) (lines : List Line) → LaterLinesStartAfter p.kind lines → LaterLinesStartAfter k (prepend_to_first f p lines)
prepend_later k f p [] h = tt
prepend_later k f p (line ∷ lines) h = h

prepend_starts_after : (k : Kind) (f : Bool) (p : Pair) (lines : List Line) → (f ≡ false → k ≡ LineEnd) → LaterLinesStartAfter k (prepend_to_first f p lines) → LinesStartAfter k (prepend_to_first f p lines)
prepend_starts_after k f p [] begins h = (begins, tt)
prepend_starts_after k f p (line ∷ lines) begins h = (begins, h)

-- the first line is frozen where a heredoc is open
all_start_after : (k : Kind) (open_count : ℕ) (ps : List Pair) → (nat_lt 0 open_count ≡ false → k ≡ LineEnd) → LaterLinesStartAfter k (lines_from open_count ps) → LinesStartAfter k (lines_from open_count ps)
all_start_after k open_count [] begins h = tt
all_start_after k open_count (p ∷ ps) begins h =
    (elim (ends_line open_count p.kind) as (λ v. LaterLinesStartAfter k (if v then record { frozen = nat_lt 0 open_count; pairs = p ∷ [] } ∷ lines_from (heredocs_after open_count p.kind) ps else prepend_to_first (nat_lt 0 open_count) p (lines_from (heredocs_after open_count p.kind) ps))
    → LinesStartAfter k (if v then record { frozen = nat_lt 0 open_count; pairs = p ∷ [] } ∷ lines_from (heredocs_after open_count p.kind) ps else prepend_to_first (nat_lt 0 open_count) p (lines_from (heredocs_after open_count p.kind) ps))) [
      | true ↦ λ more. (begins, more)
      | false ↦ λ more. prepend_starts_after k (nat_lt 0 open_count) p (lines_from (heredocs_after open_count p.kind) ps) begins more
    ]) h

-- where a line ends, the next is frozen or follows a line end
next_begins : (open_count : ℕ) (k : Kind) → ends_line open_count k ≡ true → nat_lt 0 (heredocs_after open_count k) ≡ false → k ≡ LineEnd
next_begins zero LineEnd h e = refl
next_begins zero HereOpen h e = absurd (cc)
next_begins zero k h e = absurd (false≢true h)
next_begins (suc open_count) k h e = absurd (false≢true h)

later_start_after : (k : Kind) (open_count : ℕ) (ps : List Pair) → LaterLinesStartAfter k (lines_from open_count ps)
later_start_after k open_count [] = tt
later_start_after k open_count (p ∷ ps) =
    elim (ends_line open_count p.kind) as (λ v. ends_line open_count p.kind ≡ v → LaterLinesStartAfter k (if v then record { frozen = nat_lt 0 open_count; pairs = p ∷ [] } ∷ lines_from (heredocs_after open_count p.kind) ps else prepend_to_first (nat_lt 0 open_count) p (lines_from (heredocs_after open_count p.kind) ps))) [
      | true ↦ λ e. all_start_after p.kind (heredocs_after open_count p.kind) ps (next_begins open_count p.kind e) (later_start_after p.kind (heredocs_after open_count p.kind) ps)
      | false ↦ λ e. prepend_later k (nat_lt 0 open_count) p (lines_from (heredocs_after open_count p.kind) ps) (later_start_after p.kind (heredocs_after open_count p.kind) ps)
    ] refl

pub lines_start_after : (ps : List Pair) → LinesStartAfter LineEnd (lines_of ps)
lines_start_after ps = subst (LinesStartAfter LineEnd) (sym (lines_are ps)) (all_start_after LineEnd 0 ps (λ _. refl) (later_start_after LineEnd 0 ps))
