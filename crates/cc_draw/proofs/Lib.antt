mod UsageLemmas
mod MapLemmas
mod WritingLemmas
pub mod DrawingLemmas
