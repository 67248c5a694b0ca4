pub mod Headed
pub mod Told
