-- What the check of a whole table goes by: the conditions' numbers, condition 2 at a state, what the answers of a state tell, what the
-- search finds, the answer, and the refusal that it makes.
pub mod Conditions
pub mod Needs
pub mod Codes
pub mod Search
pub mod Answer
pub mod Refusals
