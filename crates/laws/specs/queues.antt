-- What a move changes and leaves, where tasks stand, and that each move keeps the queues.
pub mod Rows
pub mod Put
pub mod Fields
pub mod Shapes
pub mod Stands
pub mod Neighbours
pub mod Ready
pub mod Queues
