-- What the crate's contracts cite: records of a lent row, its shape told record by record, and the laws that tie this to a tree in order.
pub mod Rows
pub mod Shape
pub mod Walk
pub mod Grown
pub mod Shaped
pub mod Cells
pub mod Buckets
pub mod Digits
pub mod Counters
pub mod Dealing
pub mod Numbers
pub mod Climb
pub mod Sorted
pub mod Ranges
pub mod Tokens
pub mod Order
