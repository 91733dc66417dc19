-- A run that uses only an object's slots is confined to the object, and bytes are reused only after revocation.
use Rattle.std.proofs.Common.{ℕ, Bool, true, ◌≡◌, ◌≢◌, ◌<◌, ◌≤◌, ◌∙◌, IsTrue, List, [], ◌∷◌, Ok, length, refl, sym, ap, subst, inl, inr, arith}
use Rattle.std.proofs.Math.Decide.{ℕ_discrete}
use Rattle.cc_bounds.specs.Span.{IsWithin, SharesByte}
use Rattle.cc_plan.specs.declared.planned_object.ObjectState.{ObjectState}
use Rattle.cc_plan.specs.declared.planned_object.ObjectState.TheVariants.{Live, Freed, Swept}
use Rattle.cc_plan.specs.Plan.{is_held}
use Rattle.cc_cap.specs.Capability.{Capability, GrantsNoMore}
use Rattle.cc_values.specs.declared.op.Op.{Op}
use Rattle.cc_values.specs.declared.reply.Reply.{Reply}
use Rattle.cc_machine.specs.declared.object.Object.{Object}
use Rattle.cc_machine.specs.State.{State, SlotState, IsSlot, IsParent, IsAncestor}
use Rattle.cc_machine.specs.State.IsAncestor.{parent_of, above_parent}
use Rattle.cc_machine.specs.Objects.{object_at, IsObject, IsHeldObject, BelongsTo, BelongsToSome, swept}
use Rattle.cc_machine.specs.ObjectLaws.{KeepsObjectLaws}
use Rattle.cc_machine.specs.Run.{Run, IsReached}
use Rattle.cc_machine.specs.Confinement.{RunsWithin}
use Rattle.cc_machine.specs.ObjectConfinement.{ReusesAfterRevocation, AreOfObject, IsConfinedToObject}
use Rattle.cc_machine.proofs.SlotLemmas.{slot_at, IsSlot-within}
use Rattle.cc_machine.proofs.GrowthLemmas.{Effect, Step-effect}
use Rattle.cc_machine.proofs.GrowthLemmas.Effect.{stays, grows, gives, makes, frees, sweeps}
use Rattle.cc_machine.proofs.TreeLemmas.{Keeps, Keeps-reached, Keeps-effect, less-above}
use Rattle.cc_machine.proofs.RunLemmas.{IsReached-run}
use Rattle.cc_machine.proofs.ObjectLemmas.{IsObject-same, object_at-append, object_at-set, object_at-other}
use Rattle.cc_machine.proofs.ObjectSweptLemmas.{is-swept, swept-of}
use Rattle.cc_machine.proofs.ObjectLawLemmas.{KeepsObjectLaws-reached}
use Rattle.cc_machine.proofs.ConfinementLemmas.{IsConfinedSoFar, confined-start, confined-run}

-- ---- reuse

-- an object that is not held is swept
not_held : (state : ObjectState) → (state ≡ Swept → IsTrue (is_held state)) → IsTrue (is_held state)
not_held Live h = refl
not_held Freed h = refl
not_held Swept h = h refl

pub reuses : (state : State) → KeepsObjectLaws state → ReusesAfterRevocation state
reuses state laws = record {
  same = λ one other first second mine theirs slot beside is held belongs belongs' at at' tagged shares.
      let own : IsTrue (is_held first.state) = not_held first.state (λ mark.
      let some : BelongsToSome state Swept mine = record { number = one; object = first; is_object = is; has_mark = mark; belongs = belongs } in
      let revoked = (laws.revoked.revoked mine slot at).1 some in
      absurd (let e = revoked in let f = tagged in cc)) in
      decided (ℕ_discrete one other) (λ differ.
      laws.disjoint.apart one other first second mine theirs slot beside (record { is_object = is; held = own }) held differ belongs belongs' at at' shares);
}
  where
    decided : {one other : ℕ} → Dec (one ≡ other) → ((one ≢ other) → ⊥) → one ≡ other
    decided (yes same) none = same
    decided (no differ) none = absurd (none differ)

-- ---- objects stay

-- the object of this number has the slot and the size of this one
pub record ObjectLike (state : State) (number : ℕ) (object : Object) : Type 0 where
  pub other : Object
  pub is_object : IsObject state number other
  pub same_slot : other.slot ≡ object.slot
  pub same_size : other.size ≡ object.size

own-like : (state : State) (number : ℕ) (object : Object) → IsObject state number object → ObjectLike state number object
own-like state number object is = record { other = object; is_object = is; same_slot = refl; same_size = refl }

-- objects in the same list
list-like : (old new : State) (number : ℕ) (object : Object) → new.objects ≡ old.objects → IsObject old number object → ObjectLike new number object
list-like old new number object same is =
    own-like new number object (record { found = ap (λ (l : List Object). object_at l number) same ∙ is.found })

object-effect : (old new : State) (op : Op) (reply : Reply) (number : ℕ) (object : Object) → Effect old op reply new
    → IsObject old number object → ObjectLike new number object
object-effect old new op reply number object (stays same) is = list-like old new number object (ap (λ (s : State). s.objects) same) is
object-effect old new op reply number object (grows grown) is =
    list-like old new number object (ap (λ (s : State). s.objects) grown.grows.is_new) is
object-effect old new op reply number object (gives it) is = list-like old new number object (ap (λ (s : State). s.objects) it.is_new) is
object-effect old new op reply number object (makes made) is =
    let added : Object = record { size = made.size; slot = length old.slots; state = Live } in
    own-like new number object (record {
      found = ap (λ (s : State). object_at s.objects number) made.is_new ∙ object_at-append old.objects added number object is.found;
    })
object-effect old new op reply number object (frees freed) is = decided (ℕ_discrete number freed.number)
  where
    decided : Dec (number ≡ freed.number) → ObjectLike new number object
    decided (yes same) =
        let it : Object = freed.frees.object in
        let ended : Object = record it { state = Freed } in
        let is' : IsObject old freed.number object = subst (λ (n : ℕ). IsObject old n object) same is in
        let one : it ≡ object = IsObject-same freed.frees.is_live.is_object is' in
        let found : object_at new.objects freed.number ≡ Ok ended =
        ap (λ (s : State). object_at s.objects freed.number) freed.frees.is_new
        ∙ object_at-set old.objects freed.number it ended freed.frees.is_live.is_object.found in
        subst (λ (n : ℕ). ObjectLike new n object) (sym same) (record {
          other = ended;
          is_object = record { found = found };
          same_slot = ap (λ (o : Object). o.slot) one;
          same_size = ap (λ (o : Object). o.size) one;
        })
    decided (no differ) =
        let it : Object = freed.frees.object in
        own-like new number object (record {
          found =
              ap (λ (s : State). object_at s.objects number) freed.frees.is_new
              ∙ object_at-other old.objects freed.number number it (record it { state = Freed }) freed.frees.is_live.is_object.found differ ∙ is.found;
        })
object-effect old new op reply number object (sweeps sweep) is =
    let told = is-swept object in
    record {
      other = swept object;
      is_object = record { found = ap (λ (l : List Object). object_at l number) sweep.swept_all ∙ swept-of old.objects number object is.found };
      same_slot = told.same_slot;
      same_size = told.same_size;
    }

pub object-run : (old new : State) (ops : List Op) (replies : List Reply) (number : ℕ) (object : Object) → Keeps old → Run old ops replies new
    → IsObject old number object → ObjectLike new number object
object-run old new [] [] number object keeps run is = subst (λ (s : State). ObjectLike s number object) (sym run) (own-like old number object is)
object-run old new (op ∷ ops) (reply ∷ replies) number object keeps run is =
    let effect = Step-effect old run.0 op reply keeps.holds keeps.pool run.1 in
    let like = object-effect old run.0 op reply number object effect is in
    let next = object-run run.0 new ops replies number like.other (Keeps-effect old run.0 op reply keeps effect) run.2 like.is_object in
    record { other = next.other; is_object = next.is_object; same_slot = next.same_slot ∙ like.same_slot; same_size = next.same_size ∙ like.same_size }
object-run old new [] (reply ∷ replies) number object keeps run is = absurd run
object-run old new (op ∷ ops) [] number object keeps run is = absurd run

-- ---- a run within given slots

pub within-run : (given : ℕ → Bool) (start old new : State) (ops : List Op) (replies : List Reply) → RunsWithin given start old ops replies new
    → Run old ops replies new
within-run given start old new [] [] run = run
within-run given start old new (op ∷ ops) (reply ∷ replies) run =
    (run.0, run.1.step, within-run given start run.0 new ops replies run.2)
within-run given start old new [] (reply ∷ replies) run = absurd run
within-run given start old new (op ∷ ops) [] run = absurd run

module _ (given : ℕ → Bool) (old new : State) (so_far : IsConfinedSoFar given old new) where
  -- parents and ancestors of the slots of the start stay
  parent-later : {above number : ℕ} → IsParent old above number → IsParent new above number
  parent-later {above} {number} is =
      let like = so_far.kept_slots number is.slot is.is_slot in
      record { slot = like.other; is_slot = like.is_slot; is_parent = like.parent ∙ is.is_parent }

  ancestor-later : {above number : ℕ} → IsAncestor old above number → IsAncestor new above number
  ancestor-later (parent_of is) = parent_of (parent-later is)
  ancestor-later (above_parent is further) = above_parent (parent-later is) (ancestor-later further)

  -- an ancestor of an ancestor is one
  ancestor-through : {first second number : ℕ} → IsAncestor new first second → IsAncestor new second number → IsAncestor new first number
  ancestor-through up (parent_of is) = above_parent is up
  ancestor-through up (above_parent is further) = above_parent is (ancestor-through up further)

  below-object : (object : Object) (above number : ℕ) → BelongsTo old object above → IsAncestor new above number → IsAncestor new object.slot number
  below-object object above number (inl same) up = subst (λ (n : ℕ). IsAncestor new n number) same up
  below-object object above number (inr over) up = ancestor-through (ancestor-later over) up

-- what a run within the slots of an object makes
module _ (given : ℕ → Bool) (old new : State) (ops : List Op) (replies : List Reply) (number : ℕ) (object : Object)
    (reached : IsReached old) (held : IsHeldObject old number object) (own : AreOfObject given old object)
    (run : RunsWithin given old old ops replies new) where
  so_far : IsConfinedSoFar given old new
  so_far = confined-run given old old new ops replies (confined-start given old (Keeps-reached old reached)) run

  below : (made : ℕ) → length old.slots ≤ made → made < length new.slots → IsAncestor new object.slot made
  below made past within =
      let up = so_far.confined.derived made past within in
      below-object given old new so_far object up.ancestor made (own up.ancestor up.was_there up.is_given) up.is_ancestor

  apart : (other : ℕ) (second : Object) (made theirs : ℕ) (slot beside : SlotState)
      → IsHeldObject old other second → number ≢ other → BelongsTo old second theirs → IsSlot old theirs beside
      → length old.slots ≤ made → IsSlot new made slot
      → SharesByte slot.capability.span beside.capability.span → ⊥
  apart other second made theirs slot beside also differ belongs at past is shares =
      let laws = KeepsObjectLaws-reached old reached in
      let child = laws.hang.child number object held.is_object in
      let top = slot_at old object.slot (IsSlot-within child.is_parent.is_slot) in
      let like = so_far.kept_slots object.slot top.slot top.is_slot in
      let up = below made past (IsSlot-within is) in
      let less : GrantsNoMore slot.capability like.other.capability = less-above new so_far.keeps like.other slot up like.is_slot is in
      let inner : IsWithin slot.capability.span top.slot.capability.span =
      subst (λ (c : Capability). IsWithin slot.capability.span c.span) like.capability less.bytes in
      laws.disjoint.apart number other object second object.slot theirs top.slot beside held also differ (inl refl) belongs top.is_slot at (record {
        byte = shares.byte;
        in_one = record {
          from_base = omega (arith, inner.from_base, shares.in_one.from_base);
          below_top = omega (arith, inner.to_top, shares.in_one.below_top);
        };
        in_other = shares.in_other;
      })

  revoked : (now : Object) (made : ℕ) (slot : SlotState) → IsObject new number now → now.state ≡ Swept
      → length old.slots ≤ made → IsSlot new made slot → slot.revoked ≡ true
  revoked now made slot is mark past at =
      let runs = within-run given old old new ops replies run in
      let like = object-run old new ops replies number object (Keeps-reached old reached) runs held.is_object in
      let one : like.other ≡ now = IsObject-same like.is_object is in
      let same : object.slot ≡ now.slot = sym like.same_slot ∙ ap (λ (o : Object). o.slot) one in
      let up = subst (λ (n : ℕ). IsAncestor new n made) same (below made past (IsSlot-within at)) in
      let laws = KeepsObjectLaws-reached new (IsReached-run old new ops replies reached runs) in
      (laws.revoked.revoked made slot at).1 (record { number = number; object = now; is_object = is; has_mark = mark; belongs = inr up })

  pub confined-to-object : IsConfinedToObject old new number object
  confined-to-object = record {
    belongs = λ made past within. inr (below made past within);
    apart = apart;
    revoked = revoked;
  }
