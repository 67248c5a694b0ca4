pub mod HeaderExchanges
pub mod OwnWords
pub mod Segments
pub mod Preparing
pub mod Slotting
pub mod Latches
pub mod Loads
