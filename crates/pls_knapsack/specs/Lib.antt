pub mod Instance
pub mod Neighbours
pub mod Stored
pub mod Table
pub mod Text
pub mod Walk
