-- In reading order.
pub mod Texts
