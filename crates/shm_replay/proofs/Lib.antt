mod Worked
mod OwnEras
mod Enough
mod Visiting
mod Reviving
mod Giving
pub mod Seating
mod Lone
mod Rows
pub mod Telling
pub mod Aside
pub mod Firsts
pub mod Later
pub mod Gathering
pub mod Visited
pub mod Ending
pub mod WholeRun
pub mod Starting
mod Answering
mod SomeSteps
mod SameTurns
pub mod SameRuns
pub mod SameLogs
pub mod SameReplays
