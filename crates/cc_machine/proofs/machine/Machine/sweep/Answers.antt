use Rattle.std.proofs.Common.{List, map, sym, ap, subst}
use Rattle.cc_plan.specs.PlannedObject.{PlannedObject}
use Rattle.cc_plan.specs.Plan.{Plan}
use Rattle.cc_values.specs.declared.op.Op.TheVariants.{Sweep}
use Rattle.cc_values.specs.declared.reply.Reply.TheVariants.{Swept as ToldSwept}
use Rattle.cc_machine.specs.State.{State}
use Rattle.cc_machine.specs.Step.{Sweeps}
use Rattle.cc_machine.specs.Owners.{slot_state, CountsSlots}
use Rattle.cc_machine.specs.Machine.{state_of}
use Rattle.cc_machine.proofs.RunLemmas.{IsReached-step}
use Rattle.cc_machine.proofs.KeptSlotLemmas.{CountsSlots-swept}
use Rattle.cc_machine.proofs.ActionLemmas.{state_with}
use Rattle.cc_machine.proofs.SweepLemmas.{SweepsTo, sweep-sweeps}
use Rattle.cc_machine.proofs.machine.Machine.sweep.Goals as goal

swept : (c : goal.After-held_bytes) → SweepsTo c.self.inside.limit c.self.inside.slots.items c.self.inside.pool c.self.inside.planner
    c.self.inside.object_slots.items c.self.invariant.each_has_slot c.self.invariant.planned c.self.invariant.reached c.self.invariant.owned
    c.sweep-objects.new.self c.sweep-objects.ensures.rule.1 c.sweep-objects.result c.self.inside.freed_slots c.held_bytes.result
swept c =
    sweep-sweeps c.self.inside.limit c.self.inside.slots.items c.self.inside.pool c.self.inside.planner
    c.self.inside.object_slots.items c.self.invariant.each_has_slot c.self.invariant.planned c.self.invariant.reached c.self.invariant.owned
    c.sweep-objects.new.self c.sweep-objects.ensures.rule.1 c.sweep-objects.result c.self.inside.freed_slots c.held_bytes.result
    c.sweep-objects.ensures.rule.0 c.self.invariant.counted.all_freed c.held_bytes.ensures.value

-- the state after it
abbrev new_state : goal.After-held_bytes → State
new_state c =
    state_with c.self.inside.limit (map (slot_state c.sweep-objects.new.self.objects) c.self.inside.slots.items) c.self.inside.pool
    c.sweep-objects.new.self c.self.inside.object_slots.items

pub invariant_of-self : goal.invariant_of-self
invariant_of-self c = record {
  limit_fits = c.self.invariant.limit_fits;
  within_limit = c.self.invariant.within_limit;
  has_room = c.self.invariant.has_room;
  has_object_room = c.self.invariant.has_object_room;
  has_count_room = c.self.invariant.has_count_room;
  each_has_slot = (swept c).as_many;
  planned = (swept c).is_plan;
  owned = (swept c).tells_now;
  counted =
      subst (λ (os : List PlannedObject). CountsSlots os c.self.inside.slots.items c.self.inside.slot_counts.items 0)
      (sym (ap (λ (p : Plan). p.objects) c.sweep-objects.ensures.rule.1))
      (CountsSlots-swept c.self.inside.planner.objects c.self.inside.slots.items c.self.inside.slot_counts.items c.self.inside.freed_slots
      c.self.invariant.counted);
  reached =
      IsReached-step (state_of c.self.inside) (new_state c) Sweep
      (ToldSwept c.sweep-objects.result c.self.inside.freed_slots c.held_bytes.result) c.self.invariant.reached (swept c).sweeps;
}

pub returns : goal.returns
returns c =
    subst (λ (old : State). Sweeps old (ToldSwept c.sweep-objects.result c.self.inside.freed_slots c.held_bytes.result) (new_state c)) c.self.view_is
    (swept c).sweeps
