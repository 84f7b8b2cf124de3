-- What a call has read from a reader, or written to a writer. The words `Consumes` and `Appends` of
-- the standard library speak of the bytes that a reader has left and a writer holds, where these
-- are known.
use Rattle.std.specs.Prelude.{◌≡◌, ◌≤◌, ◌<◌, ◌+◌, ℕ, List, length, take, Option}
use Rattle.std.specs.Io.KnownBytes.{Consumes, Appends, Keeps, IsAtEnd}
use Rattle.tf_stream.specs.declared.fault.ReadFault.{ReadFault}
use Rattle.tf_stream.specs.declared.fault.ReadFault.TheVariants.{Read, Endless, Memory}
use Rattle.tf_stream.specs.declared.told.Told.{Told}
use Rattle.tf_stream.specs.Told.{inner_of}

-- what a reader has left before a call and after it
pub record Source : Type 0 where
  pub before : Option (List ℕ)
  pub after : Option (List ℕ)

-- what a writer holds before a call and after it
pub record Target : Type 0 where
  pub before : Option (List ℕ)
  pub after : Option (List ℕ)

-- this reader as a source, by what readers of its type have left
abbrev pub source_of : {R : Type 0} → (R → Option (List ℕ)) → Told R → Told R → Source
source_of remaining old new =
    record { before = remaining (inner_of old); after = remaining (inner_of new) }

-- this writer as a target, by what writers of its type hold
abbrev pub target_of : {W : Type 0} → (W → Option (List ℕ)) → Told W → Told W → Target
target_of contents old new = record { before = contents (inner_of old); after = contents (inner_of new) }

-- these bytes were read from the start of the source
abbrev pub ReadsBytes : Source → List ℕ → Type 0
ReadsBytes source bytes = Consumes source.before source.after bytes

-- these bytes are all that the source had, and within the limit
abbrev pub ReadsAll : ℕ → Source → List ℕ → Type 0
ReadsAll limit source bytes = ReadsBytes source bytes × IsAtEnd source.after × (length bytes ≤ limit)

-- What was read at each error. A read fails before more than the limit is read. Endless is over the
-- limit alone, after just one byte more. Memory runs out only for what was read, and only within
-- the limit.
abbrev pub ReadAtFault : ℕ → ReadFault → Source → Type 0
ReadAtFault limit Read source = (bytes : List ℕ) × ReadsBytes source bytes × (length bytes ≤ limit)
ReadAtFault limit Endless source =
    (bytes : List ℕ) × ReadsBytes source bytes × (length bytes ≡ limit + 1)
ReadAtFault limit Memory source =
    (bytes : List ℕ) × ReadsBytes source bytes × (0 < length bytes) × (length bytes ≤ limit)

-- these bytes were written to the target, after what it held
abbrev pub WritesBytes : Target → List ℕ → Type 0
WritesBytes target bytes = Appends target.before target.after bytes

-- the first `sent` of these bytes were written to the target
abbrev pub WritesPrefix : ℕ → Target → List ℕ → Type 0
WritesPrefix sent target bytes = (sent ≤ length bytes) × WritesBytes target (take sent bytes)

-- nothing was written to the target
abbrev pub Untouched : Target → Type 0
Untouched target = Keeps target.before target.after
