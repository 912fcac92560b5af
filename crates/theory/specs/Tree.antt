-- A row of words that is a tree in order, decided; there is one such tree.
pub mod FitD
pub mod Derive
pub mod Build
pub mod InOrderD
pub mod InOrderTest
