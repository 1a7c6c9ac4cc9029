-- Who waits for whom, the number worked out afresh, and the walk that puts it in place.
pub mod Walk
pub mod Change
pub mod Graph
pub mod Priorities
