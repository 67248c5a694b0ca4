pub mod Faults
pub mod Reading
pub mod Standard
pub mod Stops
pub mod Store
pub mod Supply
pub mod Writing
