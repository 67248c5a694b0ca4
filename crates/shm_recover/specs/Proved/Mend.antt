pub mod Laws
pub mod SecondWord
pub mod Slots
pub mod Steps
pub mod Tied
pub mod Words
