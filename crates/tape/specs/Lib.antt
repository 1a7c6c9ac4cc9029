pub mod Next
pub mod Line
pub mod Play
pub mod Prints
pub mod Reads
