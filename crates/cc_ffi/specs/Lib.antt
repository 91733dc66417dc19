-- In reading order.
pub mod Numbers
pub mod Words
pub mod Bounds
pub mod Windows
pub mod Defects
pub mod Measures
pub mod Rules
pub mod Many
pub mod Memory
pub mod Search
