-- The heads of blocks of gaps, in groups of 16 with a bound each. No public clause cites this file.
use Rattle.std.specs.Prelude.{ℕ, ◌*◌, ◌/◌, ◌<◌, ◌≤◌, List, length}
use Rattle.std.specs.List.{slice_index_or}
use Rattle.cc_machine.specs.declared.gap_heads.Head.{Head}

-- AreAtMost holds if no head has a larger bound than this.
abbrev pub AreAtMost : (bound : ℕ) → List Head → Type 0
AreAtMost bound heads = (at : ℕ) (d : Head) → at < length heads → (slice_index_or heads at d).bound ≤ bound

-- AreBounded holds if no head has a larger bound than its group.
abbrev pub AreBounded : List Head → (groups : List ℕ) → Type 0
AreBounded heads groups =
    (at : ℕ) (d : Head) (e : ℕ) → at < length heads
    → (slice_index_or heads at d).bound ≤ slice_index_or groups (at / 16) e

-- AreBoundedBut holds if no head has a larger bound than its group, except those at positions
-- `from` to `to - 1`.
abbrev pub AreBoundedBut : (from to : ℕ) → List Head → (groups : List ℕ) → Type 0
AreBoundedBut from to heads groups =
    (at : ℕ) (d : Head) (e : ℕ) → at < length heads → (from ≤ at → to ≤ at)
    → (slice_index_or heads at d).bound ≤ slice_index_or groups (at / 16) e

-- AreHeads holds if no head has a larger bound than its group and than all, and memory is reserved
-- for `room` heads and the groups of them.
pub record AreHeads (heads : List Head) (groups : List ℕ) (bound room capacity : ℕ) : Type 0 where
  pub fits : length heads ≤ room
  pub reserved : room ≤ capacity
  pub grouped : room ≤ 16 * length groups
  pub bounded : AreBounded heads groups
  pub most : AreAtMost bound heads
