pub mod Answered
pub mod Knowing
pub mod Naming
pub mod Plans
pub mod Stands
