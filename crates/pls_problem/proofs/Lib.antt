mod ReadingDigits
mod ReadingSteps
mod ReadingSized
pub mod Sizing
mod ShuffleSteps
mod Shuffles
pub mod Starting
pub mod Feasible
mod Making
mod Limited
mod LimitedReading
pub mod NumberRanges
mod WritingNumbers
mod ReadBack
mod Worked
