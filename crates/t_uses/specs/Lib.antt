pub mod Blocks
pub mod Compare
pub mod Images
pub mod Polling
pub mod Sharing
pub mod Singles
