-- The machine: complete, sound, one answer, updating as afresh, right-breaks, room, counts and the place of refusal 7.
pub mod Rows
pub mod Steps
pub mod Complete
pub mod Sound
pub mod Answer
pub mod Update
pub mod Same
pub mod Break
pub mod Shifts
pub mod Room
pub mod Fewer
pub mod NoMore
pub mod Counted
pub mod Begun
pub mod Place
pub mod Bare
