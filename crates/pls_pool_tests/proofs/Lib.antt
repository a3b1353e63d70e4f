pub mod Apartness
pub mod Taken
