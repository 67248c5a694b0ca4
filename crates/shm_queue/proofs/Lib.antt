pub mod Causes
pub mod RefusedTakes
pub mod Queues
pub mod Steady
