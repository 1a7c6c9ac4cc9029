mod Turns
mod Parts
