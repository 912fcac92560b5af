-- What is judged of one state of a table sheet: where it lies, its productions, and each state condition at it.
pub mod View
pub mod All
pub mod Places
pub mod Finding
pub mod Items
pub mod Gathering
pub mod Weak
pub mod Chains
pub mod Dots
pub mod First
pub mod Zeros
