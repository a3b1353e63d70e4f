pub mod Nodes
pub mod Layout
pub mod Entries
pub mod NdLaws
pub mod Reads
pub mod Walk
