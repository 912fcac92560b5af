-- The moves of an update over the reading list.
pub mod Records
pub mod Cut
pub mod Copy
pub mod Break
pub mod Shift
pub mod Turns
pub mod Tokens
pub mod Next
pub mod Shrink
pub mod Running
pub mod Finish
