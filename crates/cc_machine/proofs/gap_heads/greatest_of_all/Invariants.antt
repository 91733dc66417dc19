use Rattle.std.proofs.Common.{ℕ, ◌*◌, ◌<◌, ◌≤◌, length}
use Rattle.std.specs.List.{slice_index_or}
use Rattle.cc_machine.specs.declared.gap_heads.Head.{Head}
use Rattle.cc_machine.proofs.gap_heads.greatest_of_all.Given as goal

-- no head of the groups so far has a larger bound
abbrev pub invariant-loop-group : goal.invariant-loop-group
invariant-loop-group l =
    (at : ℕ) (d : Head) → at < 16 * l.group → at < length l.heads → (slice_index_or l.heads at d).bound ≤ l.most
