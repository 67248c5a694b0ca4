pub mod ManySteps
