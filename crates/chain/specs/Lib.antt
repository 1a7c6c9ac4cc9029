pub mod Carry
pub mod Given
pub mod States
pub mod Local
pub mod Rings
