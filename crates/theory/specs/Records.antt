-- Kept numbers over the written records: one offset per piece, in one pass.
pub mod Flat
pub mod FlatStack
pub mod Stand
pub mod Scan
pub mod Locate
pub mod Words
pub mod Walk
