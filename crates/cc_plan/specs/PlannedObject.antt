-- The objects of a planner.
use Rattle.std.specs.Prelude.{ℕ, zero, suc, ◌+◌, ◌-◌, ◌*◌, ◌/◌, ◌%◌}
use Rattle.cc_bounds.specs.declared.span.Span.{Span}
use Rattle.cc_plan.specs.declared.planned_object.ObjectState.{ObjectState}
use Rattle.cc_plan.specs.declared.planned_object.ObjectState.TheVariants.{Live, Freed, Swept}

-- An object of a planner: the bytes that it takes, including padding, its state, and the requested
-- size.
pub record PlannedObject : Type 0 where
  pub span : Span
  pub state : ObjectState
  pub size : ℕ

-- ---- How an object is stored, for its model alone.

-- The number of a state, in two bits.
abbrev pub number_of_state : ObjectState → ℕ
number_of_state Live = 0
number_of_state Freed = 1
number_of_state Swept = 2

-- The state of this number.
abbrev pub state_numbered : ℕ → ObjectState
state_numbered zero = Live
state_numbered (suc zero) = Freed
state_numbered _ = Swept

-- The object that these fields store.
abbrev pub object_of : (base size_less padding_and_state : ℕ) → PlannedObject
object_of base size_less padding_and_state = record {
  span = record { base = base; top = base + size_less + padding_and_state / 4 + 1 };
  state = state_numbered (padding_and_state % 4);
  size = size_less + 1;
}

-- The field that has the padding and the state of an object.
unfoldable pub padding_and_state_of : PlannedObject → ℕ
padding_and_state_of object = (object.span.top - object.span.base - object.size) * 4 + number_of_state object.state
