pub mod Turns
pub mod Orders
pub mod Closings
pub mod Seats
pub mod Gathered
pub mod Replays
pub mod AtWork
