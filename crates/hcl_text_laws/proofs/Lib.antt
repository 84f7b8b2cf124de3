pub mod Longer
pub mod Rows
pub mod Apart
pub mod FaultPlaces
pub mod OneParse
pub mod OwnTokens
