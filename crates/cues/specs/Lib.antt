pub mod Plays
pub mod Evening
pub mod InOrder
