pub mod Plays
pub mod Rooms
pub mod Sizes
pub mod Told
pub mod Runs
