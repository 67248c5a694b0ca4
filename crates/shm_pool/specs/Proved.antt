pub mod Lasts
pub mod Shows
