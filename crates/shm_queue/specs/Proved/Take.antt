pub mod Laws
pub mod Memos
