-- machines: their calls, parts and laws
pub mod Composing
pub mod Wholes
pub mod Calling
pub mod TellsAlong
pub mod ManySteps
