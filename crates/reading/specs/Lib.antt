-- The fresh reading in code: its text, its turns, the tree's words, and what the whole call tells.
pub mod Text
pub mod Turns
pub mod Write
pub mod Fresh
