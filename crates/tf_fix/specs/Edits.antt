-- By which edits a step makes its text: it replaces some parts of the old text.
pub mod CommentEdits
pub mod FindingReplacements
pub mod Parts
pub mod Replacements
pub mod SettledSpaces
pub mod StepEdits
