use Rattle.std.proofs.Common.{◌+◌, ◌<◌, ◌≤◌, ℕ, [], length}
use Rattle.std.specs.List.{slice_index_or}
use Rattle.cc_machine.proofs.gap_row.small_pair.Given as goal

-- the pairs so far have many
abbrev pub invariant-loop-upper : goal.invariant-loop-upper
invariant-loop-upper l = (k : ℕ) → k + 1 < l.upper
    → 49 ≤ length (slice_index_or l.blocks.blocks k []) + length (slice_index_or l.blocks.blocks (k + 1) [])
