pub mod Part
pub mod Tape
