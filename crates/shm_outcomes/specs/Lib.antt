pub mod Histories
pub mod Crews
pub mod Turning
pub mod Happened
pub mod Written
pub mod Maps
pub mod Costs
