pub mod Regions
pub mod Placing
pub mod Words
pub mod Classing
