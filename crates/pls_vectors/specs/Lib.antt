pub mod Dominance
pub mod Archive
pub mod ArchiveLaws
pub mod Solution
pub mod Vector
pub mod Limits
pub mod Box
pub mod Word
