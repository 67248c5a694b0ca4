pub mod Lefts
pub mod Dones
pub mod Working
pub mod Visits
pub mod Jobs
pub mod Rans
