-- what the crate's contracts cite
pub mod Logs
pub mod Kept
