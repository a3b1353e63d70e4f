pub mod AnyOrder
pub mod Chosen
pub mod Corners
pub mod Covering
pub mod Distances
pub mod Dividing
pub mod Filtered
pub mod First
pub mod Inserting
pub mod Joining
pub mod Paired
pub mod Parts
pub mod Removing
pub mod Siblings
pub mod Splitting
pub mod Sums
pub mod Totals
mod WorkedSplits
