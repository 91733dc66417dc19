-- In reading order.
pub mod ReplayValues
pub mod Settings
pub mod Charting
pub mod Outputs
pub mod Replaying
