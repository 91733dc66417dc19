-- The invariant of a row of gaps. No public clause cites this file.
use Rattle.std.specs.Prelude.{ℕ, ◌≡◌, ◌+◌, ◌-◌, ◌/◌, ◌<◌, ◌≤◌, ◌^◌, List, [], All, length, take}
use Rattle.std.specs.List.{AllZip, slice_index_or}
use Rattle.cc_bounds.specs.declared.span.Span.{Span}
use Rattle.cc_machine.specs.declared.gap_heads.Head.{Head}
use Rattle.cc_machine.specs.Gaps.{AreGaps, FitsGap}
use Rattle.cc_machine.specs.GapRowState.{gaps_of}

-- IsAtMost holds if the gap has at most one byte more than the bound.
abbrev pub IsAtMost : (bound : ℕ) → Span → Type 0
IsAtMost bound gap = gap.top ≤ gap.base + bound + 1

-- IsHead holds if the block has gaps, the last of which ends with the head's last byte, and none of
-- which exceeds its bound.
pub record IsHead (block : List Span) (head : Head) : Type 0 where
  pub some : 0 < length block
  pub few : length block ≤ 64
  pub last : (d : Span) → head.last + 1 ≡ (slice_index_or block (length block - 1) d).top
  pub bound : All (IsAtMost head.bound) block

-- AreHeaded holds if each block has its head, in order.
abbrev pub AreHeaded : List (List Span) → List Head → Type 0
AreHeaded blocks heads = AllZip IsHead blocks heads

-- The number of blocks that a row of `most` gaps reserves.
abbrev pub gap_block_count : ℕ → ℕ
gap_block_count most = most / 24 + 2

-- IsGapRow holds if a row of at most `most` gaps has these blocks and heads, with `block_room` blocks
-- reserved.
pub record IsGapRow (blocks : List (List Span)) (heads : List Head) (most block_room head_room : ℕ) : Type 0 where
  pub are_gaps : AreGaps (gaps_of blocks)
  pub at_most : length (gaps_of blocks) ≤ most
  pub few : most ≤ 2 ^ 24 + 1
  pub headed : AreHeaded blocks heads
  pub fits : length blocks ≤ block_room
  pub reserved : block_room ≡ gap_block_count most
  pub heads_reserved : head_room ≡ block_room

-- IsLocated holds if the gaps before a position end at or below the address, and the one there, if
-- any, ends above it.
pub record IsLocated (gaps : List Span) (address at : ℕ) : Type 0 where
  pub within : at ≤ length gaps
  pub below : (k : ℕ) (d : Span) → k < at → (slice_index_or gaps k d).top ≤ address
  pub above : (d : Span) → at < length gaps → address < (slice_index_or gaps at d).top

-- HaveNoFit holds if no start fits a gap of the blocks before a position.
abbrev pub HaveNoFit : List (List Span) → (to size align : ℕ) → Type 0
HaveNoFit blocks to size align =
    (at : ℕ) (d : List Span) (start : ℕ) → at < to → at < length blocks
    → ¬ FitsGap (slice_index_or blocks at d) size align start

-- IsSplit holds if `new` is `blocks` with the upper half of the full block at a position in a new block
-- after it.
pub record IsSplit (blocks : List (List Span)) (at : ℕ) (new : List (List Span)) : Type 0 where
  pub gaps : gaps_of new ≡ gaps_of blocks
  pub before : take at new ≡ take at blocks
  pub lower : length (slice_index_or new at []) ≡ 32
  pub upper : length (slice_index_or new (at + 1) []) ≡ 32
