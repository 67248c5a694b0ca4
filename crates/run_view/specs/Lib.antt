pub mod Piped
pub mod Tables
pub mod Replays
