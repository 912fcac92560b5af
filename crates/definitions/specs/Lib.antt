-- Document 01 as definitions: one file for each of its sections, each definition under the sentence it renders.
pub mod Sheet
pub mod Grammar
pub mod States
pub mod Table
pub mod Tree
pub mod Reading
pub mod Moves
pub mod Edits
pub mod Numbers
pub mod Answers
pub mod House
pub mod Examples
