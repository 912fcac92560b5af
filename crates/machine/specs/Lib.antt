-- How the working room holds the machine, and what the moves of the code say of the definitions' moves.
pub mod Room
pub mod Lookups
pub mod Laws
pub mod Back
pub mod Steps
pub mod Lent
pub mod Wiped
