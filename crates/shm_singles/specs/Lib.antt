-- what the crate's contracts cite
pub mod Steering
pub mod Steps
pub mod Parts
pub mod Scripts
pub mod Numbers
pub mod Singles
