-- word steps as parts: what each needs of the memo
pub mod Own
pub mod Shared
pub mod Queues
pub mod Blocks
pub mod Test
pub mod FormerBlock
