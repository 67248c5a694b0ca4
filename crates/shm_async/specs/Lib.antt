pub mod Finished
pub mod Polled
pub mod Cancelled
pub mod Rescued
pub mod Members
pub mod Limited
pub mod Each
pub mod LimitedMembers
