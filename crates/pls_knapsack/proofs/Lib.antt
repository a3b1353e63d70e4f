pub mod Sums
pub mod Stored
pub mod Tables
pub mod Tallies
pub mod Vectors
pub mod Points
pub mod Greedy
mod WorkedRows
pub mod Counts
