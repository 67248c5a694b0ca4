pub mod Clients
pub mod Tables
