pub mod Window
pub mod RenumberedNodes
pub mod MovedParts
mod MoveLines
pub mod MoveExpressions
pub mod MoveBodies
pub mod RenumberedTrivia
pub mod Renumbering
