-- In reading order.
pub mod Placement
pub mod PlacerState
pub mod Align
