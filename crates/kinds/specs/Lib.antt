pub mod Row
pub mod Interrupts
pub mod Body
