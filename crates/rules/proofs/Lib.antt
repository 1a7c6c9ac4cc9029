pub mod Levels
pub mod Tested
