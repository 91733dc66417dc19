-- In reading order.
pub mod Numbers
pub mod Digits
pub mod Values
pub mod RoundedLength
