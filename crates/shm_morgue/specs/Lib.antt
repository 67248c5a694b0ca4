pub mod Entries
pub mod Hands
pub mod Keeps
pub mod Closing
pub mod Dead
pub mod Slots
pub mod Crew
