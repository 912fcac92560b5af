-- What the crate's contracts cite: edits in order judged on the lent words, what the marks of the edits are, and their list.
pub mod Codes
pub mod Before
pub mod Length
pub mod Fits
pub mod Words
pub mod Judged
pub mod Marks
pub mod CleanMarks
pub mod LastPiece
pub mod Pushing
pub mod Going
pub mod Stepping
pub mod Begin
pub mod Passing
pub mod Made
pub mod Listing
