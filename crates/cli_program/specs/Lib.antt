-- In reading order.
pub mod Report
pub mod Runs
pub mod Execution
pub mod Ending
pub mod Refusals
