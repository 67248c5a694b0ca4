-- kinds of word step, from their laws over views to what machines ask for
pub mod StatusStore
pub mod SameGraph
pub mod Keeping
pub mod Loads
pub mod OpEnd
pub mod LoadKeeping
pub mod StatusKeeping
pub mod SlotRead
pub mod KindKeeping
