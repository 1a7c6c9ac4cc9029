pub mod Answers
pub mod Served
pub mod Serving
pub mod Told
pub mod Places
