pub mod TreeRuns
pub mod RunTexts
