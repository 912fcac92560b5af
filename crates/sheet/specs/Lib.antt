-- Where the parts of a table sheet stand: how large a number of one, two or eight bytes can be, the places and their order, and that
-- those of a sheet well laid out lie within it.
pub mod Sizes
pub mod Places
pub mod Within
pub mod Once
pub mod Tests
