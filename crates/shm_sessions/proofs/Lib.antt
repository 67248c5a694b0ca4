pub mod Views
pub mod Standing
pub mod Turning
pub mod Running
