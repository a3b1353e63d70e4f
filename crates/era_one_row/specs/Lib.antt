pub mod OneRow
pub mod OneRowLaw
pub mod Ready
pub mod Finding
