-- In the order of reading: what a route is and costs, what a sheet shows and when it is right, the check, then names for what it was given.
pub mod Graph
pub mod Routes
pub mod Sheet
pub mod Right
pub mod Tables
pub mod SameLines
pub mod Verdict
pub mod Check
pub mod Given
