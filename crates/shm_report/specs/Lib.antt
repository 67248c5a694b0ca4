pub mod Logs
pub mod PoolWords
pub mod Counts
pub mod Report
pub mod TableRows
pub mod ValueNames
