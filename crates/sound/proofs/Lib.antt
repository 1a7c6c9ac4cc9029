mod Turns
mod Messages
