-- In reading order.
pub mod Refusal
pub mod Word
pub mod WordText
pub mod DigitValue
pub mod Layout
pub mod Permissions
pub mod ObjType
