-- what the crate's contracts cite
pub mod Numbers
pub mod Work
pub mod Tables
pub mod TablesSeats
pub mod SinglesSeats
pub mod Seats
