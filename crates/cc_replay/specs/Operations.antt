-- The operations of a machine that correspond to the changes of a heap, and the numbers of its objects.
use Rattle.std.specs.Prelude.{ℕ, ◌+◌, List, [], ◌∷◌, ◌++◌, codes, decimal, nat_eq, if◌then◌else◌}
use Rattle.cc_values.specs.declared.op.Op.{Op}
use Rattle.cc_values.specs.declared.op.Op.TheVariants.{Alloc, Free, Sweep}
use Rattle.cc_heap.specs.declared.policy.Policy.{Policy}
use Rattle.cc_heap.specs.Policy.{is_immediate}
use Rattle.cc_replay.specs.Changes.{Change}
use Rattle.cc_replay.specs.Changes.Change.{Make, Free as FreeLive, Replace, Sweep as SweepAll}

-- ---- The numbers of objects.

-- The number of objects that were made, and the number of the object that was made last under each id.
-- A machine numbers its objects from 1, in the order in which they are made.
pub record Numbers : Type 0 where
  pub made : ℕ
  pub number_of : ℕ → ℕ

-- The numbers before the first object.
abbrev pub no_numbers : Numbers
no_numbers = record { made = 0; number_of = λ id. 0 }

-- The numbers once one more object is made, under this id.
abbrev pub with_number : Numbers → (id : ℕ) → Numbers
with_number numbers id = record {
  made = numbers.made + 1;
  number_of = λ other. if nat_eq id other then numbers.made + 1 else numbers.number_of other;
}

-- ---- The operations of changes.

-- The operations of a free: the object is freed, and it is swept at once if there is no quarantine.
abbrev pub freeing : Policy → (number : ℕ) → List Op
freeing policy number = Free number ∷ (if is_immediate policy then Sweep ∷ [] else [])

-- The operations of the changes, from these numbers on.
abbrev pub operations_of : Policy → Numbers → List Change → List Op
operations_of policy numbers [] = []
operations_of policy numbers (Make id object ∷ changes) =
    Alloc object.size ∷ operations_of policy (with_number numbers id) changes
operations_of policy numbers (FreeLive id object ∷ changes) =
    freeing policy (numbers.number_of id) ++ operations_of policy numbers changes
operations_of policy numbers (Replace id before object ∷ changes) =
    Alloc object.size ∷ (freeing policy (numbers.number_of id) ++ operations_of policy (with_number numbers id) changes)
operations_of policy numbers (SweepAll ∷ changes) = Sweep ∷ operations_of policy numbers changes

-- The numbers after the changes.
abbrev pub numbers_after : Numbers → List Change → Numbers
numbers_after numbers [] = numbers
numbers_after numbers (Make id object ∷ changes) = numbers_after (with_number numbers id) changes
numbers_after numbers (FreeLive id object ∷ changes) = numbers_after numbers changes
numbers_after numbers (Replace id before object ∷ changes) = numbers_after (with_number numbers id) changes
numbers_after numbers (SweepAll ∷ changes) = numbers_after numbers changes

-- ---- The lines of operations.

-- The line of an operation that a change has.
abbrev pub operation_line : Op → List ℕ
operation_line (Alloc size) = codes "alloc " ++ decimal size ++ codes "\n"
operation_line (Free number) = codes "free " ++ decimal number ++ codes "\n"
operation_line Sweep = codes "sweep\n"
operation_line _ = []

-- The lines of operations, in order.
abbrev pub operation_lines : List Op → List ℕ
operation_lines [] = []
operation_lines (op ∷ ops) = operation_line op ++ operation_lines ops
