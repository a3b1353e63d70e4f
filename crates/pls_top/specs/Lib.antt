pub mod Kept
pub mod Runs
pub mod Report
pub mod Due
pub mod Answer
pub mod Ending
pub mod Front
