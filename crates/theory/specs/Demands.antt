-- The demands of the project, sentence by sentence.
pub mod Rows
pub mod Afresh
pub mod Update
pub mod Calls
pub mod Exactly
