pub mod Bound
pub mod Fresh
pub mod Laws
