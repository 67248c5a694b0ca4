-- what the own map of an identity is, and what it has sent, while its machines over tables are running
pub mod AsMade
pub mod Steps
pub mod Still
pub mod SentSteps
pub mod Quiet
pub mod Reading
pub mod Fetching
pub mod Entries
pub mod Entering
pub mod Roots
pub mod Puts
pub mod Commands
pub mod SentMachines
pub mod SentCommands
