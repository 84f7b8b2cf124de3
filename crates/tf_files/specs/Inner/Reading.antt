-- What is read of a text and of its journal, by what their readers had left.
use Rattle.std.specs.Prelude.{◌≡◌, ℕ, List, Option, IfSome}
use Rattle.tf_stream.specs.Streams.{Source}
use Rattle.tf_session.specs.declared.fault.RunFault.{RunFault}
use Rattle.tf_session.specs.declared.loader.TheConstants.{MAX_JOURNAL}
use Rattle.tf_session.specs.Streams.{ReadAllFault, IsReadStreamFault}

-- these bytes are all that a reader had left, if that is known
abbrev pub IsAllOf : Option (List ℕ) → List ℕ → Type 0
IsAllOf unread bytes = IfSome unread (λ all. bytes ≡ all)

-- why the text was not read whole
abbrev pub IsTextFault : Option (List ℕ) → RunFault → Type 0
IsTextFault unread fault =
    (source : Source) × (source.before ≡ unread) × IsReadStreamFault fault source

-- why the journal was not read whole
abbrev pub IsJournalFault : Option (List ℕ) → RunFault → Type 0
IsJournalFault unread fault =
    (source : Source) × (source.before ≡ unread) × ReadAllFault MAX_JOURNAL fault source
