pub mod Changes
pub mod Downs
pub mod Parts
pub mod Ups
