use Rattle.std.proofs.Common.{ℕ, ◌≡◌, ◌∙◌, List, Some, Result, map, sym, ap, subst}
use Rattle.cc_word.specs.declared.refusal.Refusal.{Refusal}
use Rattle.cc_plan.specs.PlannedObject.{PlannedObject}
use Rattle.cc_plan.specs.Plan.{Plan, GivesPool}
use Rattle.cc_values.specs.declared.op.Op.TheVariants.{Pool}
use Rattle.cc_machine.specs.declared.slot.Slot.{Slot}
use Rattle.cc_values.specs.declared.reply.Reply.{Reply}
use Rattle.cc_values.specs.declared.reply.Reply.TheVariants.{PoolSet}
use Rattle.cc_machine.specs.State.{State, tagged_slot}
use Rattle.cc_machine.specs.Step.{usable_slot, SetsPool}
use Rattle.cc_machine.specs.Run.{IsReached}
use Rattle.cc_machine.specs.Owners.{parent_of, slot_state, CountsSlots, TellsOwners}
use Rattle.cc_machine.specs.Machine.{IsMachine, state_of}
use Rattle.cc_machine.specs.Planned.{plan_of}
use Rattle.cc_machine.proofs.RunLemmas.{IsReached-step}
use Rattle.cc_machine.proofs.OwnerLemmas.{TellsOwners-pool}
use Rattle.cc_machine.proofs.StepLemmas.{usable-told}
use Rattle.cc_machine.proofs.ActionLemmas.{state_with, SetsPoolTo, give-refused, give-sets}
use Rattle.cc_machine.proofs.machine.Machine.set_pool.Goals as goal

-- a refused pool leaves the planner
pub invariant_of-self : goal.invariant_of-self
invariant_of-self c =
    let same : c.give_pool_aligned.new.self ≡ c.self.inside.planner =
    give-refused c.self.inside.planner c.give_pool_aligned.new.self c.in-Ok.slot.capability c.args.align c.in-Err-give_pool_aligned.refusal
    (subst (λ (r : Result (Unit {0}) Refusal). GivesPool c.self.inside.planner c.in-Ok.slot.capability c.args.align r c.give_pool_aligned.new.self)
    c.in-Err-give_pool_aligned.is c.give_pool_aligned.ensures) in
    subst (λ (plan : Plan). IsMachine (record c.self.inside { planner = plan })) (sym same) c.self.invariant

-- what is set
sets : (c : goal.After-span) → SetsPoolTo c.self.inside.limit (map (slot_state c.self.inside.planner.objects) c.self.inside.slots.items) c.self.inside.pool
    c.self.inside.planner c.self.inside.object_slots.items c.self.invariant.each_has_slot c.self.invariant.planned c.self.invariant.reached
    c.args.number c.args.align (PoolSet c.args.number c.span.result c.args.align) c.give_pool_aligned.new.self
sets c =
    give-sets c.self.inside.limit (map (slot_state c.self.inside.planner.objects) c.self.inside.slots.items) c.self.inside.pool
    c.self.inside.planner c.self.inside.object_slots.items c.self.invariant.each_has_slot c.self.invariant.planned c.self.invariant.reached
    c.args.number c.args.align (tagged_slot c.in-Ok.slot.capability (parent_of c.in-Ok.slot)) c.span.result c.in_default.field-0 c.give_pool_aligned.new.self
    (ap (λ (s : State). usable_slot s.slots c.args.number) c.self.view_is
    ∙ usable-told c.args.self.now.slots c.args.number c.usable.result c.in-Ok.slot c.usable.ensures c.in-Ok.is)
    c.span.ensures.span
    (subst (λ (r : Result (Unit {0}) Refusal). GivesPool c.self.inside.planner c.in-Ok.slot.capability c.args.align r c.give_pool_aligned.new.self)
    c.in_default.is c.give_pool_aligned.ensures)

pub invariant_of-self-2 : goal.invariant_of-self-2
invariant_of-self-2 c =
    let at : List PlannedObject → State = λ objects.
    state_with c.self.inside.limit (map (slot_state objects) c.self.inside.slots.items) (Some c.args.number) c.give_pool_aligned.new.self c.self.inside.object_slots.items in
    let objects = sym (sets c).same_objects in
    let owners : List ℕ = map (λ (s : Slot). s.owner) c.self.inside.slots.items in
    record {
      limit_fits = c.self.invariant.limit_fits;
      within_limit = c.self.invariant.within_limit;
      has_room = c.self.invariant.has_room;
      has_object_room = c.self.invariant.has_object_room;
      has_count_room = c.self.invariant.has_count_room;
      each_has_slot = (sets c).as_many;
      planned = subst (λ (os : List PlannedObject). c.give_pool_aligned.new.self ≡ plan_of (at os)) objects (sets c).is_plan;
      owned =
          subst (λ (os : List PlannedObject). TellsOwners owners (at os)) objects
          (subst (λ (s : State). TellsOwners owners s) (sym (sets c).same_state)
          (TellsOwners-pool owners (state_of c.self.inside) (Some c.args.number) c.args.align c.self.invariant.owned));
      counted =
          subst (λ (os : List PlannedObject). CountsSlots os c.self.inside.slots.items c.self.inside.slot_counts.items c.self.inside.freed_slots) objects
          c.self.invariant.counted;
      reached =
          subst (λ (os : List PlannedObject). IsReached (at os)) objects
          (IsReached-step (state_of c.self.inside) (at c.self.inside.planner.objects) (Pool c.args.number c.args.align) (PoolSet c.args.number c.span.result c.args.align)
          c.self.invariant.reached (sets c).sets);
    }

pub returns : goal.returns
returns c =
    let at : List PlannedObject → State = λ objects.
    state_with c.self.inside.limit (map (slot_state objects) c.self.inside.slots.items) (Some c.args.number) c.give_pool_aligned.new.self c.self.inside.object_slots.items in
    let reply : Reply = PoolSet c.args.number c.span.result c.args.align in
    subst (λ (old : State). SetsPool old c.args.number c.args.align reply (at c.give_pool_aligned.new.self.objects)) c.self.view_is
    (subst (λ (os : List PlannedObject). SetsPool (state_of c.self.inside) c.args.number c.args.align reply (at os)) (sym (sets c).same_objects) (sets c).sets)
