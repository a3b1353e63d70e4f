pub mod Looks
pub mod Remembered
pub mod Sides
pub mod Corners
pub mod Pending
pub mod Following
pub mod Left
pub mod Asking
pub mod Finding
pub mod FoundPoints
pub mod Gathering
pub mod Links
pub mod PointRows
pub mod Below
pub mod Pops
pub mod PinnedTrees
pub mod PointWords
mod WorkedTrees
