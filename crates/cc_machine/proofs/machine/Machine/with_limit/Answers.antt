use Rattle.std.proofs.Common.{ℕ, ◌≡◌, List, [], ◌∷◌, ◌++◌, None, length, map, refl, ap, arith}
use Rattle.cc_cap.specs.Capability.{Capability, root_capability}
use Rattle.cc_plan.specs.Plan.{Plan, initial_plan}
use Rattle.cc_machine.specs.declared.slot.Slot.{Slot}
use Rattle.cc_machine.specs.State.{initial_state}
use Rattle.cc_machine.specs.Run.{IsReached}
use Rattle.cc_machine.specs.Owners.{slot_state, CountsSlots, TellsOwners}
use Rattle.cc_machine.specs.Machine.{objects_in}
use Rattle.cc_machine.specs.Planned.{plan_of}
use Rattle.cc_machine.proofs.ActionLemmas.{state_with}
use Rattle.cc_machine.proofs.OwnerLemmas.{TellsOwners-initial}
use Rattle.cc_machine.proofs.KeptSlotLemmas.{CountsSlots-initial}
use Rattle.cc_machine.proofs.machine.Machine.with_limit.Goals as goal

-- the root's slot
abbrev root : Slot
root = record { capability = root_capability; after_parent = 0; owner = 0 }

-- the opening state: it is reached by no operation, and the planner knows of no pool and no object
record IsOpened (limit : ℕ) (slots : List Slot) (plan : Plan) (own counts : List ℕ) : Type 0 where
  is_initial : state_with limit (map (slot_state plan.objects) slots) None plan own ≡ initial_state limit
  reached : IsReached (state_with limit (map (slot_state plan.objects) slots) None plan own)
  planned : plan ≡ plan_of (state_with limit (map (slot_state plan.objects) slots) None plan own)
  as_many : length own ≡ length plan.objects
  owned : TellsOwners (map (λ (s : Slot). s.owner) slots) (state_with limit (map (slot_state plan.objects) slots) None plan own)
  counted : CountsSlots plan.objects slots counts 0

opened : (limit : ℕ) (none : List Slot) (slots : List Slot) (first : Slot) (plan : Plan) (own none_counted counts : List ℕ) → none ≡ [] → first ≡ root
    → slots ≡ none ++ first ∷ [] → plan ≡ initial_plan limit → own ≡ [] → none_counted ≡ [] → counts ≡ none_counted ++ 1 ∷ []
    → IsOpened limit slots plan own counts
unfolding objects_in
opened limit none slots first plan own none_counted counts is_none is_root is_slots is_plan is_own is_uncounted is_counts =
    rw (is_plan, is_own, is_slots, is_none, is_root, is_counts, is_uncounted) (record {
      is_initial = refl;
      reached = record { limit = limit; ops = []; replies = []; run = refl };
      planned = refl;
      as_many = refl;
      owned = TellsOwners-initial limit;
      counted = CountsSlots-initial root refl;
    })

facts : (c : goal.In_ok-planner) → IsOpened c.args.limit c.push_reserved.new.self.items c.in_ok-planner.planner c.in_ok-object_slots.object_slots.items c.push_reserved-2.new.self.items
facts c =
    opened c.args.limit c.in_ok-slots.slots.items c.push_reserved.new.self.items
    (record { capability = c.root.result; after_parent = 0; owner = 0 }) c.in_ok-planner.planner
    c.in_ok-object_slots.object_slots.items c.in_ok-slot_counts.slot_counts.items c.push_reserved-2.new.self.items c.in_ok-slots.ensures.items
    (ap (λ (cap : Capability). record { capability = cap; after_parent = 0; owner = 0 }) c.root.ensures) c.push_reserved.ensures.items
    c.in_ok-planner.ensures c.in_ok-object_slots.ensures.items c.in_ok-slot_counts.ensures.items c.push_reserved-2.ensures.items

pub invariant_of-result : goal.invariant_of-result
invariant_of-result c = record {
  limit_fits = c.requires.at_most;
  within_limit = omega (arith, c.push_reserved.ensures.len, c.in_ok-slots.ensures.len, c.requires.from_one);
  has_room = omega (arith, c.push_reserved.ensures.capacity, c.in_ok-slots.ensures.exact);
  has_object_room = omega (arith, c.in_ok-object_slots.ensures.exact);
  has_count_room = omega (arith, c.push_reserved-2.ensures.capacity, c.in_ok-slot_counts.ensures.exact);
  each_has_slot = (facts c).as_many;
  planned = (facts c).planned;
  owned = (facts c).owned;
  counted = (facts c).counted;
  reached = (facts c).reached;
}

pub returns : goal.returns
returns c = (facts c).is_initial
