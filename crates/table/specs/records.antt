-- Laws by kind of record: what is read, and what is put.
pub mod Task
pub mod Semaphore
pub mod Mutex
pub mod Group
pub mod Channel
