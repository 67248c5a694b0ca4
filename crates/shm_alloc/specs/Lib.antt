pub mod Alloc
pub mod Hints
pub mod Proved
