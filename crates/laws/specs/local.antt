-- Without rings the number worked out afresh is a local one, and a walk may stop early.
pub mod Local
pub mod Ring
pub mod Least
pub mod First
pub mod Cheap
pub mod Turn
pub mod Table
pub mod Walk
pub mod Keeps
pub mod Locally
