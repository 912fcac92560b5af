-- What the machine needs of an accepted table, and that every accepted sheet has it.
pub mod Lr
pub mod Sides
pub mod Transitions
pub mod FirstMeets
pub mod Bridge
