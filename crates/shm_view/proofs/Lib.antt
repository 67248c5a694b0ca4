pub mod Summing
pub mod Chaining
pub mod Listing
pub mod Pushing
pub mod Tabling
pub mod JsonLines
pub mod JsonLists
pub mod VerdictWords
