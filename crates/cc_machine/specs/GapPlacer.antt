-- A placer that keeps gaps.
use Rattle.std.specs.Prelude.{ℕ, ◌≡◌, ◌+◌, ◌<◌, ◌≤◌, ◌^◌, List, [], Option, Some, None, IfSome, length}
use Rattle.cc_bounds.specs.declared.span.Span.{Span}
use Rattle.cc_placer.specs.PlacerState.{IsPoolSpan}
use Rattle.cc_machine.specs.Gaps.{AreGaps}
use Rattle.cc_machine.specs.FreeSpace.{AreGapsOf}
use Rattle.cc_machine.specs.GapRowState.{GapRowState, gaps_in}

-- A placer of gaps: the maximum number of spans that it holds, its pool, the number of its spans, and
-- the gaps between them.
pub record GapPlacerState : Type 0 where
  pub limit : ℕ
  pub pool : Option Span
  pub count : ℕ
  pub gaps : List Span

-- AreFreeIn holds if the gaps are the free space of the pool next to the held spans. Without a pool
-- there are neither.
abbrev pub AreFreeIn : Option Span → (held gaps : List Span) → Type 0
AreFreeIn None held gaps = (held ≡ []) × (gaps ≡ [])
AreFreeIn (Some pool) held gaps = AreGapsOf pool held gaps

-- MayHold holds if the placer may be holding these spans: they are as many as it counts, and its gaps
-- are the free space next to them.
pub record MayHold (placer : GapPlacerState) (held : List Span) : Type 0 where
  pub counted : placer.count ≡ length held
  pub free : AreFreeIn placer.pool held placer.gaps

-- IsGapPlacer holds if one placer has this count, pool and row. The row has capacity for one gap more than
-- the placer has spans at most.
pub record IsGapPlacer (count : ℕ) (pool : Option Span) (row : GapRowState) : Type 0 where
  pub at_most : count < row.room
  pub few : row.room ≤ 2 ^ 24 + 1
  pub is_pool : IfSome pool IsPoolSpan
  pub are_gaps : AreGaps (gaps_in row)
  pub none_before : pool ≡ None → gaps_in row ≡ []
