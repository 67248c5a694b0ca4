pub mod AsPart
pub mod Laws
pub mod Steps
