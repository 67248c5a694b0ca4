pub mod Bound
pub mod Events
pub mod Laws
pub mod Operates
