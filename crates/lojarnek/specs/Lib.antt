-- what the crate's contracts cite
pub mod Amid
pub mod Blocks
pub mod Following
pub mod Homes
pub mod Passing
pub mod Pending
pub mod Pools
pub mod Progressing
pub mod Queues
pub mod Refusing
pub mod Rests
pub mod Roots
pub mod Running
pub mod Setting
pub mod Sizes
pub mod Standing
pub mod Tables
