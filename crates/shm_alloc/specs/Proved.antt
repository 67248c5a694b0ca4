pub mod Alloc
pub mod BlockPlaces
pub mod Operating
pub mod Turning
