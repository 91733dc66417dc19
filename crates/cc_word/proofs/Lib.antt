pub mod WordLemmas
pub mod UnpackLemmas
pub mod TextLemmas
pub mod PairLemmas
pub mod ReadingLemmas
pub mod DigitLemmas
pub mod LaneLemmas
pub mod ReadBackLemmas
