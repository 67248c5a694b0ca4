pub mod Now
pub mod WordRuns
pub mod TurnsOf
pub mod MachineRuns
pub mod Headline
