-- what the crate's contracts cite
pub mod Runs
pub mod Steps
