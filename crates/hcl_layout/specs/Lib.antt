pub mod LayoutLaws
pub mod Layouts
pub mod Gaps
