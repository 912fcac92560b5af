-- The theorems over the definitions.
pub mod Decide
pub mod Check
pub mod Table
pub mod Machine
pub mod Numbers
pub mod Edits
pub mod Tree
pub mod Records
pub mod Answers
pub mod Demands
pub mod Promises
pub mod Ties
pub mod Starred
pub mod Cases
pub mod AtHouse
