-- The markers of the heredocs that are open are identifiers, since each was read as one.
use Rattle.std.specs.Prelude.{List, [], ◌∷◌}
use Rattle.hcl_scan.specs.Modes.{Mode}
use Rattle.hcl_scan.specs.Inner.Markers.{HasMarker}

abbrev pub HaveMarkers : List Mode → Type 0
HaveMarkers [] = Unit {0}
HaveMarkers (mode ∷ modes) = HasMarker mode × HaveMarkers modes
