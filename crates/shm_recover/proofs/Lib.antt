pub mod JoinPart
pub mod Steady
pub mod Departing
pub mod Spent
