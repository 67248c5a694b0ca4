pub mod Allocating
pub mod Clear
pub mod Following
pub mod Running
