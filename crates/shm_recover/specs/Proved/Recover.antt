pub mod Laws
pub mod Losses
