pub mod Effects
pub mod Lived
pub mod Taken
