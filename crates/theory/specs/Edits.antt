-- The edited text and the reading list; edits in order, decided.
pub mod FromMarks
pub mod Edited
pub mod Clean
pub mod Listing
pub mod EditsD
pub mod ListValid
pub mod EditedText
