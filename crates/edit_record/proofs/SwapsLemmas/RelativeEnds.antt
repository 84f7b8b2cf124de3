-- Edits that move across records: their ends are kept in runs that are halved
-- (specs/Swaps/Inner/RelativeEnds).
pub mod RelativeEndsLemmas
pub mod BinarySearch
pub mod ShiftLemmas
pub mod PendingEnds
pub mod SetPlaces
pub mod MoveInvariant
pub mod MovePastEach
pub mod FirstMeeting
pub mod MovedPastRecord
pub mod EndsOfList
