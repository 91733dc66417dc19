-- The laws of one state that everybody cites.
use Rattle.cc_machine.specs.State.{State}
use Rattle.cc_machine.specs.Laws.{IsMonotonicTree}
use Rattle.cc_machine.specs.ObjectLaws.{HasDisjointObjects, HasExactObjects}

-- IsSafe holds if no slot grants a byte or a permission that an ancestor does not, slots of
-- different held objects share no byte, and each object has exact bounds.
pub record IsSafe (state : State) : Type 0 where
  pub tree : IsMonotonicTree state
  pub disjoint : HasDisjointObjects state
  pub exact : HasExactObjects state
