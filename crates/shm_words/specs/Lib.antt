pub mod Headers
pub mod Tags
pub mod Redos
pub mod Classes
pub mod Layout
