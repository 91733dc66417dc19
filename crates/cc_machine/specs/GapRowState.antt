-- The value of a row of gaps.
use Rattle.std.specs.Prelude.{ℕ, ◌≡◌, ◌+◌, ◌<◌, ◌≤◌, List, [], flat_map, length, take}
use Rattle.std.specs.List.{slice_index_or}
use Rattle.cc_bounds.specs.declared.span.Span.{Span}
use Rattle.cc_placer.specs.declared.hint.Hint.{Hint}

-- A row: its gaps, in blocks, in the order of their addresses, and the maximum number of gaps.
pub record GapRowState : Type 0 where
  pub blocks : List (List Span)
  pub room : ℕ

-- The gaps of blocks, one after another.
abbrev pub gaps_of : List (List Span) → List Span
gaps_of blocks = flat_map (λ block. block) blocks

-- The gaps of a row.
abbrev pub gaps_in : GapRowState → List Span
gaps_in row = gaps_of row.blocks

-- The number of gaps before a position in a block.
abbrev pub index_at : List (List Span) → (block at : ℕ) → ℕ
index_at blocks block at = length (gaps_of (take block blocks)) + at

-- The number of gaps before a place.
abbrev pub index_of : GapRowState → (place : Hint) → ℕ
index_of row place = index_at row.blocks place.block place.at

-- IsPlaceAt holds if the position in a block has a gap, or is the end of the blocks.
pub record IsPlaceAt (blocks : List (List Span)) (block at : ℕ) : Type 0 where
  pub within : block ≤ length blocks
  pub inside : block < length blocks → at < length (slice_index_or blocks block [])
  pub end : length blocks ≤ block → at ≡ 0

-- IsPlaceIn holds if the place has a gap of the row, or is its end.
abbrev pub IsPlaceIn : GapRowState → (place : Hint) → Type 0
IsPlaceIn row place = IsPlaceAt row.blocks place.block place.at
