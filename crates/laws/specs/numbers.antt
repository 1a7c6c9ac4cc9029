-- Which number a call is answered and when, the impostors that this shuts out, and the tape.
pub mod Numbers
pub mod Found
pub mod Presumes
pub mod Numbering
pub mod Impostors
pub mod Tape
