-- The value of the heads of blocks of gaps.
use Rattle.std.specs.Prelude.{ℕ, List}
use Rattle.cc_machine.specs.declared.gap_heads.Head.{Head}

-- The head of each block, and the maximum number of heads.
pub record GapHeadsState : Type 0 where
  pub heads : List Head
  pub room : ℕ
