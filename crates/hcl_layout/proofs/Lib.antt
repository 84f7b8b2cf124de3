pub mod LineBegins
pub mod LayoutTokens
pub mod LayoutGaps
pub mod LayoutTexts
pub mod LineEnds
pub mod Lower
pub mod AllowedGaps
pub mod GapsLemmas
