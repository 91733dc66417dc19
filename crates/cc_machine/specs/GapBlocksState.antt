-- The value of a row of blocks of gaps.
use Rattle.std.specs.Prelude.{ℕ, List}
use Rattle.cc_bounds.specs.declared.span.Span.{Span}

-- A row of blocks: the gaps of each, in the order of their addresses, and the maximum number of
-- blocks.
pub record GapBlocksState : Type 0 where
  pub blocks : List (List Span)
  pub room : ℕ
