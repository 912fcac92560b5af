-- What the functions of the boundary answer.
pub mod Said
