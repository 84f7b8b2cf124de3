mod MemberAnswers
mod CleanMemberLemmas
mod TokenLemmas
mod BodyLemmas
mod FileLemmas
mod LineLists
mod LineWords
mod CachedPlace
mod EditLengths
pub mod OneFixLemmas
pub mod FixEdits
pub mod RunLemmas
pub mod LintLemmas
pub mod StepLemmas
pub mod DoesNotParse
