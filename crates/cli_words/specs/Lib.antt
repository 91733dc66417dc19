-- In reading order.
pub mod DecodeOptions
pub mod ListLine
pub mod BareDigits
pub mod Rounding
pub mod Rounder
pub mod RoundList
pub mod LengthExplanation
pub mod NumberHint
pub mod WordHint
pub mod Questions
pub mod Tasks
pub mod FileHint
