pub mod PlacementLemmas
pub mod SameSpansLemmas
pub mod SortedLemmas
pub mod AlignLemmas
pub mod UnitLemmas
