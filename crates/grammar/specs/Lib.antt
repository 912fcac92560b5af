-- What the productions by value hold, the least sets that are found by rounds, and FIRST, each in the words of the definitions.
pub mod Productions
pub mod Sets
pub mod Least
pub mod Rules
pub mod First
pub mod Gathered
pub mod Turns
pub mod Known
