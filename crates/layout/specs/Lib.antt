-- The parts of a sheet's layout, as the functions that test them tell of them.
pub mod Parts
