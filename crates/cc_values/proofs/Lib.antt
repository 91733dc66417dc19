pub mod NumberLemmas
pub mod EightLemmas
pub mod PieceLemmas
pub mod ValueLemmas
pub mod SpaceLemmas
pub mod ReadBackLemmas
pub mod NameLemmas
