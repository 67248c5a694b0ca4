pub mod Bound
pub mod Laws
pub mod Tells
pub mod UnderLatch
