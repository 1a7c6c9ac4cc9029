mod Bytes
mod Numbers
