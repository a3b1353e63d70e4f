pub mod Transfers
pub mod WordSteps
pub mod WordExamples
pub mod LongestRuns
pub mod Joins
