pub mod Bound
pub mod Laws
pub mod SearchLoads
pub mod Tells
