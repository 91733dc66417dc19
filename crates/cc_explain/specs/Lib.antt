-- In reading order.
pub mod Listing
pub mod Steps
pub mod Picture
pub mod Explanation
pub mod WindowDrawing
pub mod Request
