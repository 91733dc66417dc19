-- In reading order.
pub mod Input
pub mod Row
pub mod Tags
pub mod Place
pub mod Search
pub mod Output
pub mod Part
pub mod Correct
pub mod Elf
pub mod Core
pub mod Skip
pub mod Decoder
pub mod Annotate
pub mod Runs
pub mod Annotator
