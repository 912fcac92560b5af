-- Kept numbers in code: records and spot words, how they are found, what they mean, the backward pass, and the words written.
pub mod Records
pub mod Spots
pub mod Runs
pub mod Pointwise
pub mod Roots
pub mod Given
pub mod Verdicts
pub mod Copies
pub mod Back
pub mod Whole
pub mod Write
pub mod Kept
pub mod Renumber
pub mod Lent
