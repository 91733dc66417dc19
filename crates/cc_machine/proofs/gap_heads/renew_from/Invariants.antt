use Rattle.std.proofs.Common.{◌≡◌, ◌*◌, length}
use Rattle.cc_machine.specs.GapHeads.{AreBoundedBut}
use Rattle.cc_machine.proofs.gap_heads.renew_from.Given as goal

-- the heads of the groups so far are bounded, and those below them
abbrev pub invariant-loop-group : goal.invariant-loop-group
invariant-loop-group l = record {
  bounded : AreBoundedBut (16 * l.group) (length l.heads) l.heads l.groups;
  len : length l.groups ≡ length l.initial.groups;
}
