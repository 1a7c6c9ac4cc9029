-- Two tasks that stay keep their order, and so demand 3; messages keep theirs.
pub mod Order
pub mod Ahead
pub mod Moved
pub mod Rising
pub mod Ordering
pub mod Demand
pub mod Mail
pub mod Passing
pub mod Served
pub mod Histories
pub mod HistoryProof
