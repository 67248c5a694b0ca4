pub mod PoolReading
pub mod Counting
pub mod ChainReading
pub mod TableReading
pub mod ValueNaming
