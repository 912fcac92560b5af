-- What the answers of the code stand for.
pub mod Values
