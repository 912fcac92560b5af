-- The small program: what it reads, what it prints, and the laws of writing it byte by byte.
pub mod Program
pub mod Put
pub mod Numerals
pub mod Answered
pub mod Input
