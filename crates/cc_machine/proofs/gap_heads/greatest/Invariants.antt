use Rattle.std.proofs.Common.{ℕ, ◌*◌, ◌<◌, ◌≤◌}
use Rattle.std.specs.List.{slice_index_or}
use Rattle.cc_machine.specs.declared.gap_heads.Head.{Head}
use Rattle.cc_machine.proofs.gap_heads.greatest.Given as goal

-- no head so far has a larger bound
abbrev pub invariant-loop-at : goal.invariant-loop-at
invariant-loop-at l = (at : ℕ) (d : Head) → 16 * l.group ≤ at → at < l.at → (slice_index_or l.heads at d).bound ≤ l.most
