pub mod Laws
pub mod Memos
pub mod Steps
