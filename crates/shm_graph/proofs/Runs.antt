-- runs of a pool: their turns and events
pub mod Lists
pub mod Running
pub mod Going
pub mod CallEventsOf
pub mod OwnEvents
pub mod OwnTurns
pub mod Shapes
pub mod TurnsTaken
pub mod EraRises
