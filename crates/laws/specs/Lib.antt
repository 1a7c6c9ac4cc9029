pub mod chains
pub mod local
pub mod queues
pub mod keeps
pub mod order
pub mod numbers
