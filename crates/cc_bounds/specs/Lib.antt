-- In reading order.
pub mod Span
pub mod Granule
pub mod Window
pub mod Encoding
pub mod Decoding
pub mod Tightest
pub mod Align
