-- In reading order.
pub mod Capability
pub mod Canonical
pub mod Defect
pub mod Derivation
pub mod Reach
pub mod WordRules
pub mod WordTelling
pub mod LineText
pub mod Many
pub mod Bounds
pub mod Cap
