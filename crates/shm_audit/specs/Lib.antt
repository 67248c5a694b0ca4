pub mod Images
pub mod Faults
pub mod Frames
pub mod Verdicts
pub mod Stops
pub mod Texts
pub mod Tallies
pub mod Streams
