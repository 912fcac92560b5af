-- What the public calls judge, and what they tell.
pub mod Text
pub mod Afresh
pub mod Update
pub mod Stages
