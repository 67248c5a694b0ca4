pub mod Bound
pub mod Following
pub mod Laws
pub mod Steps
pub mod Undoing
