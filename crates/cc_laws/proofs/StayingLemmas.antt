-- Slots, objects and the pool stay through every run.
use Rattle.std.specs.List.{slice_get}
use Rattle.std.proofs.Common.{ℕ, ◌≡◌, ◌≤◌, ◌∙◌, List, [], ◌∷◌, Ok, length, refl, sym, ap, subst, inl, inr, arith}
use Rattle.std.proofs.Math.Decide.{ℕ_discrete}
use Rattle.cc_plan.specs.declared.planned_object.ObjectState.{ObjectState}
use Rattle.cc_plan.specs.declared.planned_object.ObjectState.TheVariants.{Live, Freed, Swept}
use Rattle.cc_plan.specs.Plan.{capability_over, span_at}
use Rattle.cc_values.specs.declared.op.Op.{Op}
use Rattle.cc_values.specs.declared.reply.Reply.{Reply}
use Rattle.cc_machine.specs.declared.object.Object.{Object}
use Rattle.cc_machine.specs.State.{State, SlotState, IsSlot}
use Rattle.cc_machine.specs.Objects.{object_at, IsObject, BelongsToSome, swept}
use Rattle.cc_machine.specs.Step.{RevokesIf}
use Rattle.cc_machine.specs.Run.{Run}
use Rattle.cc_machine.proofs.SlotLemmas.{slot_at, IsSlot-within, IsSlot-stays}
use Rattle.cc_machine.proofs.SameSlotsLemmas.{IsSlot-along}
use Rattle.cc_machine.proofs.GrowthLemmas.{Effect, Step-effect}
use Rattle.cc_machine.proofs.GrowthLemmas.Effect.{stays, grows, gives, makes, frees, sweeps}
use Rattle.cc_machine.proofs.TreeLemmas.{Keeps, Keeps-effect}
use Rattle.cc_machine.proofs.ObjectLemmas.{IsObject-same, object_at-append, object_at-set, object_at-other}
use Rattle.cc_machine.proofs.ObjectSweptLemmas.{is-swept, swept-of}
use Rattle.cc_laws.specs.Staying.{stage, KeepsSlot, KeepsObject, KeepsSlots}

-- ---- a state keeps its slots, and keeping goes on

slot-itself : (state : State) (number : ℕ) (slot : SlotState) → IsSlot state number slot → KeepsSlot state number slot
slot-itself state number slot is = record { after = slot; is_slot = is; capability = refl; parent = refl; revoked = λ was. was }

object-itself : (state : State) (number : ℕ) (object : Object) → IsObject state number object → KeepsObject state number object
object-itself state number object is = record { after = object; is_object = is; size = refl; slot = refl; goes_on = omega arith }

pub KeepsSlots-itself : (state : State) → KeepsSlots state state
KeepsSlots-itself state = record {
  limit = refl;
  slots = slot-itself state;
  objects = object-itself state;
  pool = λ pool is. (is, refl);
}

pub KeepsSlots-chain : (old mid new : State) → KeepsSlots old mid → KeepsSlots mid new → KeepsSlots old new
KeepsSlots-chain old mid new first next = record {
  limit = next.limit ∙ first.limit;
  slots = λ number slot is.
      let one = first.slots number slot is in
      let two = next.slots number one.after one.is_slot in
      record {
        after = two.after;
        is_slot = two.is_slot;
        capability = two.capability ∙ one.capability;
        parent = two.parent ∙ one.parent;
        revoked = λ was. two.revoked (one.revoked was);
      };
  objects = λ number object is.
      let one = first.objects number object is in
      let two = next.objects number one.after one.is_object in
      record {
        after = two.after;
        is_object = two.is_object;
        size = two.size ∙ one.size;
        slot = two.slot ∙ one.slot;
        goes_on = omega (arith, one.goes_on, two.goes_on);
      };
  pool = λ pool is.
      let one = first.pool pool is in
      let two = next.pool pool one.0 in
      (two.0, two.1 ∙ one.1);
}

-- ---- lists that stay

same-slots : (old new : State) → new.slots ≡ old.slots → (number : ℕ) (slot : SlotState) → IsSlot old number slot → KeepsSlot new number slot
same-slots old new same number slot is = slot-itself new number slot (IsSlot-along same is)

same-objects : (old new : State) → new.objects ≡ old.objects → (number : ℕ) (object : Object) → IsObject old number object
    → KeepsObject new number object
same-objects old new same number object is =
    object-itself new number object (record { found = ap (λ (l : List Object). object_at l number) same ∙ is.found })

-- ---- each step

-- a sweep takes no object back
stage-swept : (state : ObjectState) (object : Object) → object.state ≡ state → stage object.state ≤ stage (swept object).state
stage-swept Live object is = subst (λ (s : ObjectState). stage s ≤ stage (swept (record object { state = s })).state) (sym is) (omega arith)
stage-swept Freed object is = subst (λ (s : ObjectState). stage s ≤ stage (swept (record object { state = s })).state) (sym is) (omega arith)
stage-swept Swept object is = subst (λ (s : ObjectState). stage s ≤ stage (swept (record object { state = s })).state) (sym is) (omega arith)

KeepsSlots-effect : (old new : State) (op : Op) (reply : Reply) → Effect old op reply new → KeepsSlots old new
KeepsSlots-effect old new op reply (stays same) = subst (λ (s : State). KeepsSlots old s) (sym same) (KeepsSlots-itself old)
KeepsSlots-effect old new op reply (grows grown) =
    let g = grown.grows in
    let now = g.is_new in
    record {
      limit = ap (λ (s : State). s.limit) now;
      slots = λ number slot is.
          slot-itself new number slot
          (subst (λ (s : State). IsSlot s number slot) (sym now) (IsSlot-stays old g.capability g.parent is));
      objects = same-objects old new (ap (λ (s : State). s.objects) now);
      pool = λ pool is. (ap (λ (s : State). s.pool) now ∙ is, ap (λ (s : State). s.align) now);
    }
KeepsSlots-effect old new op reply (gives it) =
    let now = it.is_new in
    record {
      limit = ap (λ (s : State). s.limit) now;
      slots = same-slots old new (ap (λ (s : State). s.slots) now);
      objects = same-objects old new (ap (λ (s : State). s.objects) now);
      pool = λ pool is. let none = it.no_pool in absurd (let e = is in cc);
    }
KeepsSlots-effect old new op reply (makes made) =
    let now = made.is_new in
    let added : Object = record { size = made.size; slot = length old.slots; state = Live } in
    let capability = capability_over (span_at made.unit made.start made.size) made.above.capability in
    record {
      limit = ap (λ (s : State). s.limit) now;
      slots = λ number slot is.
          let later = IsSlot-stays old capability made.pool is in
          slot-itself new number slot (record { found = ap (λ (s : State). slice_get s.slots number) now ∙ later.found });
      objects = λ number object is.
          object-itself new number object (record {
            found = ap (λ (s : State). object_at s.objects number) now ∙ object_at-append old.objects added number object is.found;
          });
      pool = λ pool is. (ap (λ (s : State). s.pool) now ∙ is, ap (λ (s : State). s.align) now);
    }
KeepsSlots-effect old new op reply (frees freed) =
    let now = freed.frees.is_new in
    record {
      limit = ap (λ (s : State). s.limit) now;
      slots = same-slots old new (ap (λ (s : State). s.slots) now);
      objects = λ number object is. decided number object is (ℕ_discrete number freed.number);
      pool = λ pool is. (ap (λ (s : State). s.pool) now ∙ is, ap (λ (s : State). s.align) now);
    }
  where
    decided : (number : ℕ) (object : Object) → IsObject old number object → Dec (number ≡ freed.number) → KeepsObject new number object
    decided number object is (yes same) =
        let it : Object = freed.frees.object in
        let ended : Object = record it { state = Freed } in
        let is' : IsObject old freed.number object = subst (λ (n : ℕ). IsObject old n object) same is in
        let one : it ≡ object = IsObject-same freed.frees.is_live.is_object is' in
        let live : object.state ≡ Live = ap (λ (o : Object). o.state) (sym one) ∙ freed.frees.is_live.live in
        let early : stage object.state ≡ 0 = ap stage live in
        let found : object_at new.objects freed.number ≡ Ok ended =
        ap (λ (s : State). object_at s.objects freed.number) freed.frees.is_new
        ∙ object_at-set old.objects freed.number it ended freed.frees.is_live.is_object.found in
        subst (λ (n : ℕ). KeepsObject new n object) (sym same) (record {
          after = ended;
          is_object = record { found = found };
          size = ap (λ (o : Object). o.size) one;
          slot = ap (λ (o : Object). o.slot) one;
          goes_on = omega (arith, early);
        })
    decided number object is (no differ) =
        let it : Object = freed.frees.object in
        object-itself new number object (record {
          found =
              ap (λ (s : State). object_at s.objects number) freed.frees.is_new
              ∙ object_at-other old.objects freed.number number it (record it { state = Freed }) freed.frees.is_live.is_object.found differ
              ∙ is.found;
        })
KeepsSlots-effect old new op reply (sweeps sweep) = record {
  limit = sweep.limit_stays;
  slots = λ number slot is.
      let later = slot_at new number (omega (arith, IsSlot-within is, sweep.revoked.as_many)) in
      marked number slot later.slot later.is_slot (sweep.revoked.each number slot later.slot is later.is_slot);
  objects = λ number object is.
      let told = is-swept object in
      record {
        after = swept object;
        is_object = record { found = ap (λ (l : List Object). object_at l number) sweep.swept_all ∙ swept-of old.objects number object is.found };
        size = told.same_size;
        slot = told.same_slot;
        goes_on = stage-swept object.state object refl;
      };
  pool = λ pool is. (sweep.pool_stays ∙ is, sweep.align_stays);
}
  where
    marked : (number : ℕ) (before after : SlotState) → IsSlot new number after
        → RevokesIf (BelongsToSome old Freed number) before after → KeepsSlot new number before
    marked number before after is (inl revoked) =
        let now = revoked.1 in
        record {
          after = after;
          is_slot = is;
          capability = ap (λ (s : SlotState). s.capability) now;
          parent = ap (λ (s : SlotState). s.parent) now;
          revoked = λ was. ap (λ (s : SlotState). s.revoked) now;
        }
    marked number before after is (inr same) =
        let now = same.1 in
        record {
          after = after;
          is_slot = is;
          capability = ap (λ (s : SlotState). s.capability) now;
          parent = ap (λ (s : SlotState). s.parent) now;
          revoked = λ was. ap (λ (s : SlotState). s.revoked) now ∙ was;
        }

pub KeepsSlots-run : (old new : State) (ops : List Op) (replies : List Reply) → Keeps old → Run old ops replies new → KeepsSlots old new
KeepsSlots-run old new [] [] keeps run = subst (λ (s : State). KeepsSlots old s) (sym run) (KeepsSlots-itself old)
KeepsSlots-run old new (op ∷ ops) (reply ∷ replies) keeps run =
    let effect = Step-effect old run.0 op reply keeps.holds keeps.pool run.1 in
    KeepsSlots-chain old run.0 new (KeepsSlots-effect old run.0 op reply effect)
    (KeepsSlots-run run.0 new ops replies (Keeps-effect old run.0 op reply keeps effect) run.2)
KeepsSlots-run old new [] (reply ∷ replies) keeps run = absurd run
KeepsSlots-run old new (op ∷ ops) [] keeps run = absurd run
