pub mod Sizes
pub mod Shrinking
pub mod Falling
pub mod Paying
pub mod Lasting
