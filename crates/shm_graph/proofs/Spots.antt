-- spots: their addresses, the words at them, stores, and sums over them
pub mod Spotting
pub mod Fixed
pub mod Seeing
pub mod WordsAt
pub mod Sums
pub mod SpotPlaces
pub mod PageSpots
pub mod Storing
pub mod ClassStoring
pub mod Starting
pub mod Summing
pub mod FirstStoring
pub mod Updating
