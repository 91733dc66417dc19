-- The laws of objects hold of every state that a run reaches.
use Rattle.std.proofs.Common.{ℕ, zero, suc, false, ◌≡◌, ◌<◌, ◌∙◌, List, [], ◌∷◌, Some, length, refl, sym, subst, inl, inr, arith}
use Rattle.cc_bounds.specs.Span.{IsWithin}
use Rattle.cc_cap.specs.Capability.{Capability}
use Rattle.cc_plan.specs.Plan.{capability_over, span_at}
use Rattle.cc_machine.specs.declared.object.Object.{Object}
use Rattle.cc_values.specs.declared.op.Op.{Op}
use Rattle.cc_values.specs.declared.reply.Reply.{Reply}
use Rattle.cc_machine.specs.State.{State, SlotState, initial_state, IsSlot, IsParent, IsAncestor}
use Rattle.cc_machine.specs.State.IsAncestor.{parent_of, above_parent}
use Rattle.cc_machine.specs.Objects.{IsObject, BelongsTo}
use Rattle.cc_machine.specs.ObjectLaws.{HangsFromPool, HasDisjointObjects, KeepsObjectLaws}
use Rattle.cc_machine.specs.Run.{Run, IsReached}
use Rattle.cc_machine.specs.Safety.{IsSafe}
use Rattle.cc_machine.proofs.SlotLemmas.{IsSlot-same, IsSlot-within, slot_at, ancestor-before, IsParent-one}
use Rattle.cc_machine.proofs.GrowthLemmas.{Effect, Step-effect}
use Rattle.cc_machine.proofs.GrowthLemmas.Effect.{stays, grows, gives, makes, frees, sweeps}
use Rattle.cc_machine.proofs.TreeLemmas.{IsMonotonicTree-reached, Keeps, Keeps-initial, Keeps-effect, Keeps-run, Keeps-reached, less-above}
use Rattle.cc_machine.proofs.ObjectTreeLemmas.{KeepsObjects, KeepsObjects-none, KeepsObjects-with_slot, no-objects}
use Rattle.cc_machine.proofs.ObjectMadeLemmas.{KeepsObjects-with_object, KeepsObjects-given}
use Rattle.cc_machine.proofs.ObjectFreedLemmas.{KeepsObjects-freed}
use Rattle.cc_machine.proofs.ObjectSweptLemmas.{KeepsObjects-swept}

-- ---- steps and runs

pub KeepsObjects-initial : (limit : ℕ) → KeepsObjects (initial_state limit)
KeepsObjects-initial limit =
    KeepsObjects-none (initial_state limit) (no-objects (initial_state limit) refl) tagged (omega arith)
  where
    tagged : (number : ℕ) (slot : SlotState) → IsSlot (initial_state limit) number slot → slot.revoked ≡ false
    tagged zero slot is = let e = is.found in cc
    tagged (suc number) slot is = let e = is.found in cc

-- the pool's slot exists
pool-within : (state : State) → Keeps state → (number : ℕ) → state.pool ≡ Some number → number < length state.slots
pool-within state keeps number is = IsSlot-within (keeps.pool number is).is_slot

pub KeepsObjects-effect : (old new : State) (op : Op) (reply : Reply) → Keeps old → KeepsObjects old → Effect old op reply new → KeepsObjects new
KeepsObjects-effect old new op reply keeps objects (stays same) = subst (λ (s : State). KeepsObjects s) (sym same) objects
KeepsObjects-effect old new op reply keeps objects (grows grown) =
    let g = grown.grows in
    subst (λ (s : State). KeepsObjects s) (sym g.is_new)
    (KeepsObjects-with_slot old g.capability g.parent g.above g.is_slot grown.tagged keeps.parent_first objects (pool-within old keeps))
KeepsObjects-effect old new op reply keeps objects (gives given) =
    subst (λ (s : State). KeepsObjects s) (sym given.is_new) (KeepsObjects-given old given.number given.align given.no_pool objects)
KeepsObjects-effect old new op reply keeps objects (makes made) =
    let cap : Capability = capability_over (span_at made.unit made.start made.size) made.above.capability in
    let tagged = objects.revoked.pool_stays made.pool made.above made.is_pool in
    let mid =
    KeepsObjects-with_slot old cap made.pool made.above made.is_pool.is_slot tagged keeps.parent_first objects (pool-within old keeps) in
    subst (λ (s : State). KeepsObjects s) (sym made.is_new)
    (KeepsObjects-with_object old cap made.pool made.size made.above made.is_pool made.exact made.placement.place.apart objects mid)
KeepsObjects-effect old new op reply keeps objects (frees freed) =
    KeepsObjects-freed old new freed.number reply freed.frees objects
KeepsObjects-effect old new op reply keeps objects (sweeps swept) =
    KeepsObjects-swept old new reply swept keeps.parent_first objects

KeepsObjects-run : (old new : State) (ops : List Op) (replies : List Reply) → Keeps old → KeepsObjects old → Run old ops replies new → KeepsObjects new
KeepsObjects-run old new [] [] keeps objects run = subst (λ (s : State). KeepsObjects s) (sym run) objects
KeepsObjects-run old new (op ∷ ops) (reply ∷ replies) keeps objects run =
    let effect = Step-effect old run.0 op reply keeps.holds keeps.pool run.1 in
    KeepsObjects-run run.0 new ops replies (Keeps-effect old run.0 op reply keeps effect)
    (KeepsObjects-effect old run.0 op reply keeps objects effect) run.2
KeepsObjects-run old new [] (reply ∷ replies) keeps objects run = absurd run
KeepsObjects-run old new (op ∷ ops) [] keeps objects run = absurd run

pub KeepsObjects-reached : (state : State) → IsReached state → KeepsObjects state
KeepsObjects-reached state reached =
    KeepsObjects-run (initial_state reached.limit) state reached.ops reached.replies (Keeps-initial reached.limit)
    (KeepsObjects-initial reached.limit) reached.run

-- ---- the laws

-- two ancestors of a slot are one, or one is an ancestor of the other
data AreInLine (state : State) (one other : ℕ) : Type 0 where
  same : one ≡ other → AreInLine state one other
  above : IsAncestor state one other → AreInLine state one other
  below : IsAncestor state other one → AreInLine state one other

in_line : {state : State} {one other number : ℕ} → IsAncestor state one number → IsAncestor state other number → AreInLine state one other
in_line (parent_of is) (parent_of also) = same (IsParent-one is also)
in_line {state} {one} {other} (parent_of is) (above_parent also further) =
    below (subst (λ (n : ℕ). IsAncestor state other n) (IsParent-one also is) further)
in_line {state} {one} {other} (above_parent is further) (parent_of also) =
    above (subst (λ (n : ℕ). IsAncestor state one n) (IsParent-one is also) further)
in_line {state} {one} {other} (above_parent is further) (above_parent also more) =
    in_line further (subst (λ (n : ℕ). IsAncestor state other n) (IsParent-one also is) more)

module _ (state : State) (keeps : Keeps state) (objects : KeepsObjects state) where
  -- no object's slot is above another's
  not-above : (one other : ℕ) (first second : Object) → IsObject state one first → IsObject state other second
      → IsAncestor state first.slot second.slot → ⊥
  not-above one other first second is also up =
      let child = objects.child one first is in
      let beside = objects.child other second also in
      let at : child.pool ≡ beside.pool = (let e = child.is_pool.is_pool in let f = beside.is_pool.is_pool in cc) in
      let less = keeps.parent_first child.pool first.slot child.is_parent in
      by_step at less beside.is_parent up
    where
      by_step : {pool beside : ℕ} → pool ≡ beside → pool < first.slot → IsParent state beside second.slot
          → IsAncestor state first.slot second.slot → ⊥
      by_step at less is_parent (parent_of up) = absurd (omega (arith, at, less, IsParent-one is_parent up))
      by_step at less is_parent (above_parent up further) =
          let before = ancestor-before state keeps.parent_first further in
          absurd (omega (arith, at, less, before, IsParent-one is_parent up))

  same-slot : (one other : ℕ) (first second : Object) (slot : ℕ) → IsObject state one first → IsObject state other second
      → BelongsTo state first slot → BelongsTo state second slot → first.slot ≡ second.slot
  same-slot one other first second slot is also (inl at) (inl too) = sym at ∙ too
  same-slot one other first second slot is also (inl at) (inr up) =
      absurd (not-above other one second first also is (subst (λ (n : ℕ). IsAncestor state second.slot n) at up))
  same-slot one other first second slot is also (inr up) (inl at) =
      absurd (not-above one other first second is also (subst (λ (n : ℕ). IsAncestor state first.slot n) at up))
  same-slot one other first second slot is also (inr up) (inr too) = by_line (in_line up too)
    where
      by_line : AreInLine state first.slot second.slot → first.slot ≡ second.slot
      by_line (same at) = at
      by_line (above up) = absurd (not-above one other first second is also up)
      by_line (below up) = absurd (not-above other one second first also is up)

  hangs : HangsFromPool state
  hangs = record {
    child = objects.child;
    at_most_one = λ one other first second slot is also belongs too.
        objects.differ one other first second is also (same-slot one other first second slot is also belongs too);
  }

  -- what belongs to an object lies within it
  within-object : (object : Object) (number : ℕ) (slot top : SlotState) → BelongsTo state object number → IsSlot state number slot
      → IsSlot state object.slot top → IsWithin slot.capability.span top.capability.span
  within-object object number slot top (inl at) is is_top =
      let one : slot ≡ top = IsSlot-same (subst (λ (n : ℕ). IsSlot state n slot) at is) is_top in
      subst (λ (s : SlotState). IsWithin slot.capability.span s.capability.span) one
      (record { from_base = omega arith; to_top = omega arith })
  within-object object number slot top (inr up) is is_top = (less-above state keeps top slot up is_top is).bytes

  disjoint : HasDisjointObjects state
  disjoint = record {
    apart = λ one other first second number others slot beside is also differ belongs too at and_at shares.
        let top = slot_at state first.slot (IsSlot-within (objects.child one first is.is_object).is_parent.is_slot) in
        let and_top = slot_at state second.slot (IsSlot-within (objects.child other second also.is_object).is_parent.is_slot) in
        let inner = within-object first number slot top.slot belongs at top.is_slot in
        let and_inner = within-object second others beside and_top.slot too and_at and_top.is_slot in
        objects.apart one other first second top.slot and_top.slot is also differ top.is_slot and_top.is_slot (record {
          byte = shares.byte;
          in_one = record {
            from_base = omega (arith, inner.from_base, shares.in_one.from_base);
            below_top = omega (arith, inner.to_top, shares.in_one.below_top);
          };
          in_other = record {
            from_base = omega (arith, and_inner.from_base, shares.in_other.from_base);
            below_top = omega (arith, and_inner.to_top, shares.in_other.below_top);
          };
        });
  }

  pub KeepsObjectLaws-kept : KeepsObjectLaws state
  KeepsObjectLaws-kept = record {
    hang = hangs;
    exact = objects.exact;
    disjoint = disjoint;
    revoked = objects.revoked;
  }

-- every reached state keeps the laws of objects
pub KeepsObjectLaws-reached : (state : State) → IsReached state → KeepsObjectLaws state
KeepsObjectLaws-reached state reached =
    KeepsObjectLaws-kept state (Keeps-reached state reached) (KeepsObjects-reached state reached)

-- and a run from one keeps them
pub KeepsObjectLaws-run : (old new : State) (ops : List Op) (replies : List Reply) → IsReached old → Run old ops replies new → KeepsObjectLaws new
KeepsObjectLaws-run old new ops replies reached run =
    let keeps = Keeps-reached old reached in
    KeepsObjectLaws-kept new (Keeps-run old new ops replies keeps run)
    (KeepsObjects-run old new ops replies keeps (KeepsObjects-reached old reached) run)

pub IsSafe-reached : (state : State) → IsReached state → IsSafe state
IsSafe-reached state reached =
    let objects = KeepsObjectLaws-reached state reached in
    record { tree = IsMonotonicTree-reached state reached; disjoint = objects.disjoint; exact = objects.exact }
