pub mod AllocBound
pub mod AllocCounting
pub mod MadeBlocks
pub mod MadeRoots
pub mod Passed
pub mod Searched
