pub mod FirstTokens
pub mod Opens
