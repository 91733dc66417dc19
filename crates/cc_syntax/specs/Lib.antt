-- In reading order.
pub mod Commands
pub mod Replies
pub mod Planning
pub mod Request
pub mod LineHints
pub mod Tally
pub mod Statistics
pub mod Hints
