pub mod Widened
pub mod Writing
pub mod Migrations
