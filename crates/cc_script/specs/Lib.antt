-- In reading order.
pub mod Output
pub mod Main
pub mod Failures
pub mod Laws
pub mod Answering
pub mod Running
pub mod Session
