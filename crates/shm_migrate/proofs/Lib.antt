pub mod Places
pub mod Widening
pub mod Kept
pub mod TableKept
pub mod Formats
pub mod WordReading
pub mod Writing
pub mod Migrated
