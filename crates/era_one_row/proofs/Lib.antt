pub mod Replacing
pub mod Preparing
pub mod Finishing
pub mod Starting
pub mod GoingOn
pub mod Counting
pub mod FindingRows
