pub mod Bound
pub mod Items
pub mod Laws
