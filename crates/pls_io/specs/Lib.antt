pub mod Streams
pub mod Refusals
pub mod Memory
pub mod Words
pub mod WordRuns
pub mod Lines
