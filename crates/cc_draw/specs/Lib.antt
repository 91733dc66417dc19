-- In reading order.
pub mod Usage
pub mod Cells
pub mod Map
pub mod Drawing
