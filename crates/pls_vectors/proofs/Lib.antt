pub mod Archive
pub mod ArchiveOfMembers
pub mod Bool
mod WorkedBoxes
pub mod Boxes
pub mod Dominance
pub mod Entries
pub mod FromEnd
pub mod Lists
pub mod Ranges
pub mod Rearranged
pub mod Signs
pub mod Solution
pub mod Stored
