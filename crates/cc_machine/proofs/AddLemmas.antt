-- Adding what an operation made to the slots is the machine's step.
use Rattle.std.proofs.Common.{ℕ, false, ◌≡◌, ◌<◌, ◌≤◌, ◌+◌, ◌∙◌, List, [], ◌∷◌, ◌++◌, Option, Some, Ok, length, map, slice_index, sym, ap, subst, inl, arith}
use Rattle.std.specs.List.{slice_get}
use Rattle.std.proofs.lemmas.List.{length-map, map_push}
use Rattle.cc_bounds.specs.declared.span.Span.{Span}
use Rattle.cc_cap.specs.Capability.{Capability}
use Rattle.cc_cap.specs.Canonical.{IsWordOf}
use Rattle.cc_plan.specs.Plan.{Plan}
use Rattle.cc_machine.specs.declared.slot.Slot.{Slot}
use Rattle.cc_values.specs.declared.reply.Reply.{Reply}
use Rattle.cc_values.specs.declared.reply.Reply.TheVariants.{Made}
use Rattle.cc_machine.specs.State.{State, SlotState, with_slot}
use Rattle.cc_machine.specs.Step.{Adds}
use Rattle.cc_machine.specs.Run.{IsReached}
use Rattle.cc_machine.specs.Making.{IsMade}
use Rattle.cc_machine.specs.Owners.{is_swept_at, slot_state, TellsOwners}
use Rattle.cc_machine.specs.Planned.{plan_of, planned_object}
use Rattle.cc_machine.proofs.SlotLemmas.{IsSlot-within}
use Rattle.cc_machine.proofs.StepLemmas.{IsMade-tagged}
use Rattle.cc_machine.proofs.RunLemmas.{IsReached-step}
use Rattle.cc_machine.proofs.TreeLemmas.{Keeps, Keeps-reached}
use Rattle.cc_machine.proofs.ObjectTreeLemmas.{KeepsObjects}
use Rattle.cc_machine.proofs.ObjectLawLemmas.{KeepsObjects-reached}
use Rattle.cc_machine.proofs.OwnerLemmas.{TellsOwners-next}
use Rattle.cc_machine.proofs.KeptSlotLemmas.{before-next, kept-slot, owner-of, slots-push}
use Rattle.cc_machine.proofs.PlanLemmas.{plan_of-adds}
use Rattle.cc_machine.proofs.ActionLemmas.{state_with}

module _ (limit : ℕ) (slots : List Slot) (pool : Option ℕ) (plan : Plan) (own : List ℕ)
    (planned : plan ≡ plan_of (state_with limit (map (slot_state plan.objects) slots) pool plan own))
    (reached : IsReached (state_with limit (map (slot_state plan.objects) slots) pool plan own))
    (owned : TellsOwners (map (λ (s : Slot). s.owner) slots) (state_with limit (map (slot_state plan.objects) slots) pool plan own))
    (parent : ℕ) (cap : Capability)
    (made : IsMade (state_with limit (map (slot_state plan.objects) slots) pool plan own) parent (Ok cap)) where
  abbrev state : State
  state = state_with limit (map (slot_state plan.objects) slots) pool plan own

  -- the parent exists
  pub parent-within : parent < length slots
  parent-within = omega (arith, IsSlot-within (IsMade-tagged state parent cap made).is_slot, length-map slots (slot_state plan.objects))

  -- its owner fits
  pub owner-fits : (up : Slot) → slice_get slots parent ≡ Some up → up.owner ≤ length plan.objects
  owner-fits up found =
      let known = owned.fits parent in
      let count = ap (λ (p : Plan). length p.objects) planned in
      omega (arith, known, owner-of slots parent up found, count, length-map state.objects (planned_object state.slots))

  -- and was not swept
  not-swept : (up : Slot) → slice_get slots parent ≡ Some up → is_swept_at plan.objects up.owner ≡ false
  not-swept up found =
      let above = IsMade-tagged state parent cap made in
      let kept = kept-slot plan.objects slots parent above.slot above.is_slot.found in
      let same : kept.kept ≡ up = (let e : Some kept.kept ≡ Some up = sym kept.found ∙ found in cc) in
      sym (ap (λ (s : Slot). is_swept_at plan.objects s.owner) same) ∙ sym (ap (λ (s : SlotState). s.revoked) kept.is) ∙ above.tagged

  -- the slots with one more
  abbrev with_more : Slot → List Slot
  with_more up = slots ++ record { capability = cap; after_parent = parent + 1; owner = up.owner } ∷ []

  pub record AddsTo (up : Slot) (reply : Reply) : Type 0 where
    pub adds : Adds state parent (Ok cap) reply (state_with limit (map (slot_state plan.objects) (with_more up)) pool plan own)
    pub is_plan : plan ≡ plan_of (state_with limit (map (slot_state plan.objects) (with_more up)) pool plan own)
    pub owned_now :
        TellsOwners (map (λ (s : Slot). s.owner) (with_more up))
        (state_with limit (map (slot_state plan.objects) (with_more up)) pool plan own)
    pub reached_now : IsReached (state_with limit (map (slot_state plan.objects) (with_more up)) pool plan own)

  pub add-adds : (up : Slot) (number word : ℕ) (span : Span) → slice_get slots parent ≡ Some up → length slots < limit → number ≡ length slots
      → IsWordOf cap word → span ≡ cap.span → AddsTo up (Made number word span)
  add-adds up number word span found left is_number is_word is_span =
      let keeps : Keeps state = Keeps-reached state reached in
      let objects : KeepsObjects state = KeepsObjects-reached state reached in
      let new : State = state_with limit (map (slot_state plan.objects) (with_more up)) pool plan own in
      let long = length-map slots (slot_state plan.objects) in
      let all_slots = slots-push plan.objects slots (record { capability = cap; after_parent = parent + 1; owner = up.owner }) (Some parent) (before-next parent) (not-swept up found) in
      let same : new ≡ with_slot state cap parent = λ i. record { limit = limit; slots = all_slots i; pool = pool; align = plan.align; objects = state.objects } in
      let count : number ≡ length state.slots = omega (arith, is_number, long) in
      let adds : Adds state parent (Ok cap) (Made number word span) new =
      inl (
        omega (arith, left, long),
        record {
          word = word;
          is_word = is_word;
          replied = λ i. Made (count i) word (is_span i);
          added = same;
        },
      ) in
      let owners : map (λ (s : Slot). s.owner) (with_more up) ≡ map (λ (s : Slot). s.owner) slots ++ slice_index (map (λ (s : Slot). s.owner) slots) parent ∷ [] =
      map_push (λ (s : Slot). s.owner) slots (record { capability = cap; after_parent = parent + 1; owner = up.owner })
      ∙ ap (λ (n : ℕ). map (λ (s : Slot). s.owner) slots ++ n ∷ []) (sym (owner-of slots parent up found)) in
      let within : parent < length state.slots = omega (arith, parent-within, long) in
      let next = TellsOwners-next (map (λ (s : Slot). s.owner) slots) state cap parent owned within keeps.parent_first objects in
      record {
        adds = adds;
        is_plan = planned ∙ sym (plan_of-adds state new parent (Ok cap) (Made number word span) keeps objects adds);
        owned_now =
            subst (λ (s : State). TellsOwners (map (λ (k : Slot). k.owner) (with_more up)) s) (sym same)
            (subst (λ (list : List ℕ). TellsOwners list (with_slot state cap parent)) (sym owners) next);
        reached_now = IsReached-step state new made.op (Made number word span) reached (made.makes.step (Made number word span) new adds);
      }
