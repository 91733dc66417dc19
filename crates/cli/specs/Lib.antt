-- In reading order.
pub mod Usage
pub mod Invocation
pub mod Input
pub mod Devices
pub mod Notices
pub mod Outcome
