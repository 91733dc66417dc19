-- The planner's sweep is the machine's step: it revokes what belongs to freed objects.
use Rattle.std.proofs.Common.{ℕ, Bool, true, false, ◌≡◌, ◌-◌, ◌<◌, ◌||◌, ◌∙◌, List, Option, Some, length, map, slice_index, sum_by, refl, sym, ap, subst, inl, inr, arith}
use Rattle.std.specs.List.{slice_get}
use Rattle.std.proofs.lemmas.List.{length-map}
use Rattle.cc_bounds.specs.declared.span.Span.{Span}
use Rattle.cc_bounds.specs.Span.{length_of}
use Rattle.cc_plan.specs.declared.planned_object.ObjectState.TheVariants.{Freed}
use Rattle.cc_plan.specs.PlannedObject.{PlannedObject}
use Rattle.cc_plan.specs.Plan.{Plan, is_freed, plan_bytes as planned_bytes, plan_freed as planned_freed_count, plan_swept as planned_swept}
use Rattle.cc_machine.specs.declared.object.Object.{Object}
use Rattle.cc_machine.specs.declared.slot.Slot.{Slot}
use Rattle.cc_values.specs.declared.reply.Reply.TheVariants.{Swept as ToldSwept}
use Rattle.cc_machine.specs.State.{State, SlotState}
use Rattle.cc_machine.specs.Objects.{IsObject, BelongsToSome, held_bytes_of}
use Rattle.cc_machine.specs.Step.{RevokesIf, RevokesFreed, Sweeps}
use Rattle.cc_machine.specs.Objects.{freed_count, swept}
use Rattle.cc_machine.specs.Run.{IsReached}
use Rattle.cc_machine.specs.Planned.{planned_object, plan_of}
use Rattle.cc_machine.specs.Owners.{is_swept_at, is_freed_at, parent_of, slot_state, freed_slot_count, TellsOwners}
use Rattle.cc_machine.proofs.SlotLemmas.{IsSlot-within}
use Rattle.cc_machine.proofs.RevokingLemmas.{RevokesFreed-same}
use Rattle.cc_machine.proofs.TreeLemmas.{Keeps, Keeps-reached}
use Rattle.cc_machine.proofs.ObjectTreeLemmas.{KeepsObjects}
use Rattle.cc_machine.proofs.ObjectLawLemmas.{KeepsObjects-reached}
use Rattle.cc_machine.proofs.ObjectSweptLemmas.{was-swept}
use Rattle.cc_machine.proofs.OwnerLemmas.{TellsOwners-stays}
use Rattle.cc_machine.proofs.KeptSlotLemmas.{freed-object, freed-at, kept-slot, owner-of, swept-at, revoked-swept}
use Rattle.cc_machine.proofs.PlanLemmas.{objects_in-count, objects_in-swept, planned-swept, held-planned, planned-stay, pool-stays, with_own}
use Rattle.cc_machine.proofs.ActionLemmas.{state_with}
use Rattle.cc_machine.proofs.FreeLemmas.{own-at, planned-of}

module _ (limit : ℕ) (slots : List Slot) (pool : Option ℕ) (plan : Plan) (own : List ℕ)
    (each_has_slot : length own ≡ length plan.objects) (planned : plan ≡ plan_of (state_with limit (map (slot_state plan.objects) slots) pool plan own))
    (reached : IsReached (state_with limit (map (slot_state plan.objects) slots) pool plan own))
    (tells : TellsOwners (map (λ (s : Slot). s.owner) slots) (state_with limit (map (slot_state plan.objects) slots) pool plan own))
    (new_plan : Plan) (is_new : new_plan ≡ record plan { objects = map planned_swept plan.objects }) where
  abbrev state : State
  state = state_with limit (map (slot_state plan.objects) slots) pool plan own

  -- the state in terms of the plan before
  abbrev new : State
  new = state_with limit (map (slot_state (map planned_swept plan.objects)) slots) pool (record plan { objects = map planned_swept plan.objects }) own

  keeps : Keeps state
  keeps = Keeps-reached state reached

  objects : KeepsObjects state
  objects = KeepsObjects-reached state reached

  -- a freed object of the state is freed in the planner
  planned-freed : (number : ℕ) (object : Object) → IsObject state number object → object.state ≡ Freed → is_freed_at plan.objects number ≡ true
  planned-freed number object is freed =
      let it = planned-of plan.objects own each_has_slot number object is.found in
      freed-at plan.objects number it.before it.found (sym (ap (λ (o : Object). o.state) it.is) ∙ freed)

  -- a slot with a freed owner belongs to that object
  belongs-freed : (number : ℕ) (kept : Slot) → slice_get slots number ≡ Some kept → number < length state.slots → is_freed_at plan.objects kept.owner ≡ true
      → BelongsToSome state Freed number
  belongs-freed number kept found within is =
      let it = freed-object plan.objects kept.owner is in
      let is_object : IsObject state kept.owner (with_own it.object (slice_index own (kept.owner - 1))) =
      record { found = own-at plan.objects own each_has_slot kept.owner it.object it.found } in
      record {
        number = kept.owner;
        object = with_own it.object (slice_index own (kept.owner - 1));
        is_object = is_object;
        has_mark = it.freed;
        belongs =
            (tells.each number kept.owner (with_own it.object (slice_index own (kept.owner - 1))) within is_object).0 (owner-of slots number kept found);
      }

  -- and one that belongs to a freed object has it as its owner
  freed-belongs : (number : ℕ) (kept : Slot) → slice_get slots number ≡ Some kept → number < length state.slots → BelongsToSome state Freed number
      → is_freed_at plan.objects kept.owner ≡ true
  freed-belongs number kept found within it =
      let owns : kept.owner ≡ it.number =
      sym (owner-of slots number kept found) ∙ (tells.each number it.number it.object within it.is_object).1 it.belongs in
      subst (λ (n : ℕ). is_freed_at plan.objects n ≡ true) (sym owns) (planned-freed it.number it.object it.is_object it.has_mark)

  revokes : RevokesFreed state new
  revokes = record {
    as_many = length-map slots (slot_state (map planned_swept plan.objects)) ∙ sym (length-map slots (slot_state plan.objects));
    each = λ number before after is_before is_after.
        let one = kept-slot plan.objects slots number before is_before.found in
        let two = kept-slot (map planned_swept plan.objects) slots number after is_after.found in
        let same : two.kept ≡ one.kept = (let e : Some two.kept ≡ Some one.kept = sym two.found ∙ one.found in cc) in
        let now : after ≡ slot_state (map planned_swept plan.objects) one.kept = two.is ∙ ap (slot_state (map planned_swept plan.objects)) same in
        let mark = swept-at plan.objects one.kept.owner in
        by_mark number before after one.kept one.found (IsSlot-within is_before) one.is now mark (is_freed_at plan.objects one.kept.owner) refl;
  }
    where
      either : (b : Bool) → (b || true) ≡ true
      either true = refl
      either false = refl

      neither : (b : Bool) → (b || false) ≡ b
      neither true = refl
      neither false = refl

      by_mark : (number : ℕ) (before after : SlotState) (kept : Slot) → slice_get slots number ≡ Some kept → number < length state.slots
          → before ≡ slot_state plan.objects kept → after ≡ slot_state (map planned_swept plan.objects) kept
          → is_swept_at (map planned_swept plan.objects) kept.owner ≡ (is_swept_at plan.objects kept.owner || is_freed_at plan.objects kept.owner)
          → (freed : Bool) → is_freed_at plan.objects kept.owner ≡ freed → RevokesIf (BelongsToSome state Freed number) before after
      by_mark number before after kept found within was now mark true is =
          let marked : is_swept_at (map planned_swept plan.objects) kept.owner ≡ true =
          mark ∙ ap (λ (b : Bool). is_swept_at plan.objects kept.owner || b) is ∙ either (is_swept_at plan.objects kept.owner) in
          let like : after ≡ record { capability = kept.capability; revoked = true; parent = parent_of kept } =
          now ∙ ap (λ (b : Bool). record { capability = kept.capability; revoked = b; parent = parent_of kept }) marked in
          inl (belongs-freed number kept found within is, like ∙ ap (λ (s : SlotState). record s { revoked = true }) (sym was))
      by_mark number before after kept found within was now mark false is =
          let stays : is_swept_at (map planned_swept plan.objects) kept.owner ≡ is_swept_at plan.objects kept.owner =
          mark ∙ ap (λ (b : Bool). is_swept_at plan.objects kept.owner || b) is ∙ neither (is_swept_at plan.objects kept.owner) in
          let like : after ≡ slot_state plan.objects kept =
          now ∙ ap (λ (b : Bool). record { capability = kept.capability; revoked = b; parent = parent_of kept }) stays in
          inr (λ it. (let e = freed-belongs number kept found within it in cc), like ∙ sym was)

  pub record SweepsTo (count freed held : ℕ) : Type 0 where
    pub sweeps : Sweeps state (ToldSwept count freed held) (state_with limit (map (slot_state new_plan.objects) slots) pool new_plan own)
    pub is_plan : new_plan ≡ plan_of (state_with limit (map (slot_state new_plan.objects) slots) pool new_plan own)
    pub as_many : length own ≡ length new_plan.objects
    pub tells_now : TellsOwners (map (λ (s : Slot). s.owner) slots) (state_with limit (map (slot_state new_plan.objects) slots) pool new_plan own)

  pub sweep-sweeps : (count freed held : ℕ) → count ≡ planned_freed_count plan.objects → freed ≡ freed_slot_count plan.objects slots
      → held ≡ planned_bytes new_plan.objects → SweepsTo count freed held
  sweep-sweeps count freed held count_is freed_is held_is =
      let now : state_with limit (map (slot_state new_plan.objects) slots) pool new_plan own ≡ new =
      ap (λ (p : Plan). state_with limit (map (slot_state p.objects) slots) pool p own) is_new in
      let same = RevokesFreed-same state new revokes in
      let all_objects : new.objects ≡ map swept state.objects = objects_in-swept plan.objects own in
      let objects_are : plan.objects ≡ map (planned_object state.slots) state.objects = ap (λ (p : Plan). p.objects) planned in
      let mapped : map (planned_object new.slots) new.objects ≡ map planned_swept plan.objects =
      ap (λ (os : List Object). map (planned_object new.slots) os) all_objects
      ∙ planned-swept new.slots state.objects
      ∙ ap (λ (os : List PlannedObject). map planned_swept os) (planned-stay state new keeps objects same.there ∙ sym objects_are) in
      let limit_is : plan.limit ≡ limit = ap (λ (p : Plan). p.limit) planned in
      let pool_is = ap (λ (p : Plan). p.pool) planned ∙ sym (pool-stays state new keeps objects same.there refl) in
      let swept_plan : record plan { objects = map planned_swept plan.objects } ≡ plan_of new =
      λ j. record { limit = limit_is j; pool = pool_is j; align = plan.align; objects = sym mapped j } in
      let is_plan : new_plan ≡ plan_of new = is_new ∙ swept_plan in
      let held_now : held ≡ held_bytes_of new =
      held_is ∙ ap (λ (spans : List Span). sum_by length_of spans) (held-planned new_plan new is_plan) in
      let count_now : count ≡ freed_count state.objects = count_is ∙ sym (objects_in-count is_freed plan.objects own each_has_slot) in
      let it : Sweeps state (ToldSwept count freed held) new = record {
        limit_stays = refl;
        pool_stays = refl;
        align_stays = refl;
        swept_all = all_objects;
        revoked = revokes;
        more = freed;
        counted = omega (arith, revoked-swept plan.objects slots, freed_is);
        replied = ap (λ (n : ℕ). ToldSwept n freed held) count_now ∙ ap (λ (n : ℕ). ToldSwept (freed_count state.objects) freed n) held_now;
      } in
      record {
        sweeps = subst (λ (s : State). Sweeps state (ToldSwept count freed held) s) (sym now) it;
        is_plan = is_plan ∙ ap plan_of (sym now);
        as_many = each_has_slot ∙ sym (ap (λ (p : Plan). length p.objects) is_new ∙ length-map plan.objects planned_swept);
        tells_now =
            subst (λ (s : State). TellsOwners (map (λ (k : Slot). k.owner) slots) s) (sym now)
            (TellsOwners-stays (map (λ (k : Slot). k.owner) slots) state new tells same
            (ap (λ (os : List Object). length os) all_objects ∙ length-map state.objects swept)
            (was-swept state new (ToldSwept count freed held) it));
      }
