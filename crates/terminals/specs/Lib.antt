-- What the operations on sets of terminals do, and the laws of it.
pub mod Members
