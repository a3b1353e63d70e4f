pub mod Words
pub mod Line
pub mod Parse
pub mod Limits
