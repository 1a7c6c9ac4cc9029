-- The columns of each kind of record, each kind behind the one before: their widths, what is made of a row, and the row.
pub mod Task
pub mod Semaphore
pub mod Mutex
pub mod Group
pub mod Channel
