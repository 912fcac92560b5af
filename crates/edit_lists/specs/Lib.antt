-- What the crate's contracts cite: the words of a list of edit structs.
pub mod Words
