-- Kept numbers: the rule, the numbering that follows it, and that there is no other.
pub mod Counting
pub mod Identities
pub mod Number
pub mod Seek
pub mod Rule
pub mod Owner
pub mod Order
pub mod Base
pub mod Unchanged
pub mod NewText
pub mod KeptNumbers
