-- what follows of states that hold, are sound, or are clean
pub mod Reading
pub mod FirstHeld
pub mod Counting
pub mod Holders
pub mod HeldSound
pub mod StillClean
pub mod HomeTarget
pub mod HeadSlot
pub mod Reached
pub mod Roles
pub mod Claims
pub mod SoundStates
pub mod GoneStates
pub mod CleanPools
pub mod RedoNames
