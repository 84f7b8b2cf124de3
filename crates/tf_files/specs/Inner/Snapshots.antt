-- What a command knows of a file and its journal from before it read them.
use Rattle.std.specs.Prelude.{Option, Some, None}
use Rattle.tf_files.specs.declared.snapshot.FileState.{FileState}
use Rattle.tf_files.specs.declared.snapshot.Snapshot.{Snapshot}
use Rattle.tf_files.specs.declared.snapshot.Snapshots.{Snapshots}
use Rattle.tf_files.specs.declared.trust.Access.{Access}

-- the owner, group and mode, if it is a regular file
abbrev pub access_of_state : Option FileState → Option Access
access_of_state (Some state) = Some state.access
access_of_state None = None

abbrev pub access_of : Snapshot → Option Access
access_of seen = access_of_state seen.regular

-- of both, if both are known
abbrev pub snapshots_of : Option Snapshot → Option Snapshot → Option Snapshots
snapshots_of (Some text) (Some journal) = Some (record { text = text; journal = Some journal })
snapshots_of _ _ = None

-- where there is no journal
abbrev pub snapshots_of_text : Option Snapshot → Option Snapshots
snapshots_of_text (Some text) = Some (record { text = text; journal = None })
snapshots_of_text None = None
