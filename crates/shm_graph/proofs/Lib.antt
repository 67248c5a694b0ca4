pub mod Spots
pub mod States
pub mod Runs
pub mod Memos
pub mod Machines
pub mod StepKinds
pub mod Idles
