mod Pieces
mod Numerals
mod Parsing
pub mod Limits
mod WorkedLines
mod Rules
mod Rows
mod Settled
mod Steps
mod ParserEndings
mod Lines
mod Command
