-- The reading list in the working room.
pub mod Entries
pub mod Pieces
pub mod Pending
pub mod Runs
pub mod Opening
pub mod Lent
pub mod Peek
pub mod Weigh
