pub mod ReadSteps
pub mod WriteSteps
