pub mod SliceGet
pub mod Edits
pub mod Records
pub mod Changes
pub mod Lattices
