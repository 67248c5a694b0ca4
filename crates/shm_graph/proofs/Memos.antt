-- memos: what a change of one part leaves, and what they tell of words
pub mod MemoSteps
pub mod Frames
pub mod RecallHeld
pub mod MemoParts
pub mod Calls
pub mod Looking
pub mod KnownChange
pub mod BodyTold
pub mod LoadTold
