-- From a state that a run leads to every operation has an outcome, and so has every list of operations.
use Rattle.std.specs.List.{AllByRecursion}
use Rattle.std.specs.Int.{div_ceil}
use Rattle.std.proofs.Common.{ℕ, slice_set, ◌≡◌, ◌⊎◌, ◌+◌, ◌-◌, ◌*◌, ◌^◌, ◌<◌, ◌∙◌, List, [], ◌∷◌, Option, Some, None, IsSome, IsNone, Result, Ok, Err, MatchResult, length, map, refl, sym, ap}
use Rattle.std.proofs.Common.{subst, inl, inr, arith}
use Rattle.std.proofs.Math.Decide.{ℕ_discrete, dec_lt}
use Rattle.cc_word.specs.Refusal.{RefusedUnless}
use Rattle.cc_word.specs.declared.refusal.Refusal.{Refusal}
use Rattle.cc_word.specs.declared.refusal.Refusal.TheVariants.{Sealed, PoolAlreadySet, NoRoom, NoObject, Full}
use Rattle.cc_bounds.specs.declared.span.Span.{Span}
use Rattle.cc_bounds.proofs.SoundDecodingLemmas.{inside-Represents}
use Rattle.cc_bounds.proofs.DecisionLemmas.{length-HasGranule}
use Rattle.cc_word.specs.Permissions.{bits_of}
use Rattle.cc_word.specs.ObjType.{unsealed_type}
use Rattle.cc_cap.specs.Capability.{Capability, IsCapability, IsUnsealed}
use Rattle.cc_cap.specs.Derivation.{SetsAddress, Increments, SetsBounds, SetsExactBounds, MasksPermissions, SetsFlag, Seals, Unseals, Rebuilds}
use Rattle.cc_laws.proofs.ResultLemmas.{HasResult, has_word, SetsAddress-result, Increments-result, SetsBounds-result, SetsExactBounds-result, MasksPermissions-result, SetsFlag-result}
use Rattle.cc_laws.proofs.ResultLemmas.{Seals-result, Unseals-result, Rebuilds-result}
use Rattle.cc_bounds.specs.declared.align.Align.{Align}
use Rattle.cc_plan.specs.declared.planned_object.ObjectState.{ObjectState}
use Rattle.cc_plan.specs.declared.planned_object.ObjectState.TheVariants.{Live, Freed, Swept}
use Rattle.cc_placer.specs.Align.{IsUnit, rounded_up}
use Rattle.cc_placer.proofs.UnitLemmas.{size-HasUnit}
use Rattle.cc_placer.specs.Placement.{HasNoPlace}
use Rattle.cc_plan.specs.Plan.{span_at, capability_over}
use Rattle.cc_laws.proofs.SearchLemmas.{HasPlacement, placement_or_none}
use Rattle.cc_values.specs.declared.op.Op.{Op}
use Rattle.cc_values.specs.declared.op.Op.TheVariants.{Show, Bounds, Exact, Addr, Inc, Perms, Flag}
use Rattle.cc_values.specs.declared.op.Op.TheVariants.{Seal, Unseal, Rebuild, Round, Pool, Alloc, Free, Sweep}
use Rattle.cc_machine.specs.declared.object.Object.{Object}
use Rattle.cc_values.specs.declared.reply.Reply.{Reply}
use Rattle.cc_values.specs.declared.reply.Reply.TheVariants.{Made, Shown, Rounded, PoolSet, Allocated, Refused, Freed as ToldFreed, Swept as ToldSwept}
use Rattle.cc_machine.specs.State.{State, SlotState, IsSlot, with_slot}
use Rattle.cc_machine.specs.Objects.{object_at, BelongsToSome, IsLiveObject, IsPool, held_spans, held_bytes_of, freed_count, swept, with_object}
use Rattle.cc_values.specs.RoundedLength.{RoundsLength}
use Rattle.cc_machine.specs.Step.{usable_slot, OnSlot, Refuses, Adds, Derives, ShowsSlot, Shows, SetsPool, PlacesObject, Allocates, Frees, RevokesIf, Sweeps, Step}
use Rattle.cc_machine.specs.Run.{Run, IsReached, IsInAddressSpace}
use Rattle.cc_machine.specs.Laws.{HoldsCapabilities}
use Rattle.cc_machine.proofs.StepLemmas.{usable-is}
use Rattle.cc_machine.proofs.PlaceLemmas.{placed-exact}
use Rattle.cc_machine.proofs.TreeLemmas.{Keeps, Keeps-reached}
use Rattle.cc_machine.proofs.RunLemmas.{IsReached-step}
use Rattle.cc_laws.proofs.BelongingLemmas.{dec-BelongsToFreed, mark_all}

-- a reply and a state of which this is true
pub record HasOutcome (Leads : Reply → State → Type 0) : Type 0 where
  pub reply : Reply
  pub new : State
  pub leads : Leads reply new

refuses : (old : State) (refusal : Refusal) → HasOutcome (Refuses refusal old)
refuses old refusal = record { reply = Refused refusal; new = old; leads = (refl, refl) }

-- an operation of which the first condition is decided
unless : (old : State) (condition : Type 0) (refusal : Refusal) (Rest : Reply → State → Type 0) → Dec condition
    → (condition → HasOutcome Rest)
    → HasOutcome (λ reply new. RefusedUnless condition (Refuses refusal old reply new) (Rest reply new))
unless old condition refusal Rest (yes holds) rest =
    let next = rest holds in record { reply = next.reply; new = next.new; leads = inl (holds, next.leads) }
unless old condition refusal Rest (no not) rest =
    record { reply = Refused refusal; new = old; leads = inr (not, (refl, refl)) }

-- ---- derivations

adds : (old : State) (parent : ℕ) (result : Result Capability Refusal)
    → ((cap : Capability) → result ≡ Ok cap → IsCapability cap) → HasOutcome (Adds old parent result)
adds old parent (Err refusal) exists = refuses old refusal
adds old parent (Ok cap) exists = by_room (dec_lt (length old.slots) old.limit)
  where
    by_room : Dec (length old.slots < old.limit) → HasOutcome (Adds old parent (Ok cap))
    by_room (no full) = record { reply = Refused Full; new = old; leads = inr (full, (refl, refl)) }
    by_room (yes room) =
        let word = has_word cap (exists cap refl) in
        record {
          reply = Made (length old.slots) word.word cap.span;
          new = with_slot old cap parent;
          leads = inl (room, record { word = word.word; is_word = word.is_word; replied = refl; added = refl });
        }

module _ (old : State) (holds : HoldsCapabilities old) where
  -- a rule that has a result for each capability has one on a slot
  on_slot : (number : ℕ) (Rule : Capability → Result Capability Refusal → Type 0)
      → ((cap : Capability) → IsCapability cap → HasResult (Rule cap))
      → HasResult (λ result. OnSlot old.slots number result (λ cap. Rule cap result))
  on_slot number Rule rule = by_found (usable_slot old.slots number) refl
    where
      by_found : (found : Result SlotState Refusal) → usable_slot old.slots number ≡ found
          → HasResult (λ result. MatchResult found (λ slot. Rule slot.capability result) (λ refusal. result ≡ Err refusal))
      by_found (Err refusal) is = record { result = Err refusal; holds = refl; exists = λ cap e. let f = e in cc }
      by_found (Ok slot) is =
          let there : IsSlot old number slot = record { found = usable-is old.slots number slot is } in
          let made = rule slot.capability (holds number slot there) in
          record { result = made.result; holds = made.holds; exists = made.exists }

  derives : (number : ℕ) (Rule : Capability → Result Capability Refusal → Type 0)
      → ((cap : Capability) → IsCapability cap → HasResult (Rule cap)) → HasOutcome (Derives old number Rule)
  derives number Rule rule =
      let made = on_slot number Rule rule in
      let added = adds old number made.result made.exists in
      record {
        reply = added.reply;
        new = added.new;
        leads = record { result = made.result; made = made.holds; added = added.leads };
      }

  shows : (number : ℕ) → HasOutcome (λ reply new. Shows old.slots number reply × (new ≡ old))
  shows number = by_found (usable_slot old.slots number) refl
    where
      by_found : (found : Result SlotState Refusal) → usable_slot old.slots number ≡ found
          → HasOutcome (λ reply new. MatchResult found (λ slot. ShowsSlot slot reply) (λ refusal. reply ≡ Refused refusal) × (new ≡ old))
      by_found (Err refusal) is = record { reply = Refused refusal; new = old; leads = (refl, refl) }
      by_found (Ok slot) is =
          let there : IsSlot old number slot = record { found = usable-is old.slots number slot is } in
          let word = has_word slot.capability (holds number slot there) in
          record {
            reply = Shown word.word slot.capability.span (record { 0 = slot.capability.permissions })
                slot.capability.flag slot.capability.otype slot.parent;
            new = old;
            leads = (record { word = word.word; is_word = word.is_word; replied = refl }, refl);
          }

rounds : (old : State) (size : ℕ) → HasOutcome (λ reply new. RoundsLength size reply × (new ≡ old))
rounds old size =
    let has = length-HasGranule size in
    record {
      reply = Rounded (div_ceil size has.granule * has.granule) has.granule (2 ^ 64 - has.granule);
      new = old;
      leads = (record { granule = has.granule; is_granule = has.is; replied = refl }, refl);
    }

-- ---- the pool and its objects

dec-IsNone : (pool : Option ℕ) → Dec (IsNone pool)
dec-IsNone None = yes refl
dec-IsNone (Some number) = no (λ e. let f = e in cc)

dec-IsSome : (pool : Option ℕ) → Dec (IsSome pool)
dec-IsSome None = no (λ e. let f = e in cc)
dec-IsSome (Some number) = yes refl

sets_pool : (old : State) (number : ℕ) (align : Align) → HasOutcome (SetsPool old number align)
sets_pool old number align = by_found (usable_slot old.slots number)
  where
    by_found : (found : Result SlotState Refusal) → HasOutcome (λ reply new. MatchResult found (λ slot.
        RefusedUnless (IsUnsealed slot.capability) (Refuses Sealed old reply new) (
        RefusedUnless (IsNone old.pool) (Refuses PoolAlreadySet old reply new) (
        (reply ≡ PoolSet number slot.capability.span align) × (new ≡ record old { pool = Some number; align = align }))))
        (λ refusal. Refuses refusal old reply new))
    by_found (Err refusal) = refuses old refusal
    by_found (Ok slot) =
        unless old _ _ _ (ℕ_discrete slot.capability.otype unsealed_type) (λ unsealed.
        unless old _ _ _ (dec-IsNone old.pool) (λ none. record {
          reply = PoolSet number slot.capability.span align;
          new = record old { pool = Some number; align = align };
          leads = (refl, refl);
        }))

module _ (old : State) (holds : HoldsCapabilities old) (keeps : Keeps old) where
  places_in : (size unit pool : ℕ) (slot : SlotState) → IsUnit old.align size unit → 0 < size → IsPool old pool slot
      → HasOutcome (PlacesObject old size)
  places_in size unit pool slot is_unit some is_pool =
      by_place (placement_or_none slot.capability.span (held_spans old) (rounded_up size unit) unit)
    where
      by_place : HasPlacement slot.capability.span (held_spans old) (rounded_up size unit) unit
          ⊎ HasNoPlace slot.capability.span (held_spans old) (rounded_up size unit) unit
          → HasOutcome (PlacesObject old size)
      by_place (inr none) = record {
        reply = Refused NoRoom;
        new = old;
        leads = record {
          pool = pool;
          slot = slot;
          is_pool = is_pool;
          unit = unit;
          is_unit = is_unit;
          placed = inr (record { none = none; refused = (refl, refl) });
        };
      }
      by_place (inl place) =
          let is_cap = holds pool slot is_pool.is_slot in
          let exact = placed-exact old.align slot.capability.span (held_spans old) size unit place.start is_unit is_cap.is_span some place.is in
          let span : Span = span_at unit place.start size in
          let cap : Capability = capability_over span slot.capability in
          let word = has_word cap (record {
            is_span = exact.is_span;
            sound = exact.sound;
            address_fits = exact.is_span.base_fits;
            representable = inside-Represents span place.start exact.is_span exact.sound (omega arith) exact.is_span.in_order;
            permissions_fit = is_cap.permissions_fit;
            is_type = is_cap.is_type;
          }) in
          let new : State = with_object old cap pool size in
          record {
            reply = Allocated (length old.objects + 1) (length old.slots) word.word span (held_bytes_of new);
            new = new;
            leads = record {
              pool = pool;
              slot = slot;
              is_pool = is_pool;
              unit = unit;
              is_unit = is_unit;
              placed = inl (record {
                start = place.start;
                placement = place.is;
                word = word.word;
                is_word = word.is_word;
                made = refl;
                replied = refl;
              });
            };
          }

  places : (size : ℕ) → 0 < size → IsSome old.pool → HasOutcome (PlacesObject old size)
  places size some is_some = by_pool old.pool refl
    where
      by_pool : (pool : Option ℕ) → old.pool ≡ pool → HasOutcome (PlacesObject old size)
      by_pool None none = let e = none in let f = is_some in cc
      by_pool (Some pool) is =
          let has = keeps.pool pool is in
          let unit = size-HasUnit old.align size in
          places_in size unit.unit pool has.slot unit.is some (record { is_pool = is; is_slot = has.is_slot })

  allocates : (size : ℕ) → HasOutcome (Allocates old size)
  allocates size =
      unless old _ _ _ (dec-IsSome old.pool) (λ is_some.
      unless old _ _ _ (dec_lt 0 size) (λ some.
      unless old _ _ _ (dec_lt (length old.slots) old.limit) (λ room.
      places size some is_some)))

frees : (old : State) (number : ℕ) → HasOutcome (Frees old number)
frees old number = by_found (object_at old.objects number) refl
  where
    none_live : ((object : Object) → ¬ IsLiveObject old number object) → HasOutcome (Frees old number)
    none_live none = record { reply = Refused NoObject; new = old; leads = inr (none, (refl, refl)) }

    other : (object : Object) → object_at old.objects number ≡ Ok object → (live : Object) → IsLiveObject old number live → object.state ≡ Live
    other object found live is =
        let e = is.is_object.found in
        let same : object ≡ live = (let f : Ok object ≡ Ok live = sym found ∙ e in cc) in
        ap (λ (o : Object). o.state) same ∙ is.live

    by_state : (object : Object) (mark : ObjectState) → object.state ≡ mark → object_at old.objects number ≡ Ok object → HasOutcome (Frees old number)
    by_state object Live is found =
        let new : State = record old { objects = slice_set old.objects (number - 1) (record object { state = Freed }) } in
        record {
          reply = ToldFreed number 0 (held_bytes_of new);
          new = new;
          leads = inl (record {
            object = object;
            is_live = record { is_object = record { found = found }; live = is };
            is_new = refl;
            replied = refl;
          });
        }
    by_state object Freed is found = none_live (λ live h. let e = other object found live h in cc)
    by_state object Swept is found = none_live (λ live h. let e = other object found live h in cc)

    by_found : (found : Result Object Refusal) → object_at old.objects number ≡ found → HasOutcome (Frees old number)
    by_found (Err refusal) is = none_live (λ live h. let e = h.is_object.found in cc)
    by_found (Ok object) is = by_state object object.state refl is

sweeps : (old : State) → Keeps old → HasOutcome (Sweeps old)
sweeps old keeps =
    let marked = mark_all (BelongsToSome old Freed) (dec-BelongsToFreed old keeps.parent_first) 0 old.slots in
    let new : State = record old { slots = marked.after; objects = map swept old.objects } in
    record {
      reply = ToldSwept (freed_count old.objects) marked.more (held_bytes_of new);
      new = new;
      leads = record {
        limit_stays = refl;
        pool_stays = refl;
        align_stays = refl;
        swept_all = refl;
        revoked = record {
          as_many = marked.as_many;
          each = λ number before after is is'.
              let here : 0 + number ≡ number = omega arith in
              subst (λ (n : ℕ). RevokesIf (BelongsToSome old Freed n) before after) here
              (marked.each number before after is.found is'.found);
        };
        more = marked.more;
        counted = marked.counted;
        replied = refl;
      };
    }

-- ---- steps and runs

pub Step-outcome : (old : State) (op : Op) → IsReached old → IsInAddressSpace op → HasOutcome (Step old op)
Step-outcome old op reached fits = by_op op fits
  where
    keeps : Keeps old
    keeps = Keeps-reached old reached

    holds : HoldsCapabilities old
    holds = keeps.holds

    by_op : (op : Op) → IsInAddressSpace op → HasOutcome (Step old op)
    by_op (Show number) fits = shows old holds number
    by_op (Bounds number size) fits =
        derives old holds number (λ cap result. SetsBounds cap size result) (λ cap is. SetsBounds-result cap is size)
    by_op (Exact number size) fits =
        derives old holds number (λ cap result. SetsExactBounds cap size result) (λ cap is. SetsExactBounds-result cap is size)
    by_op (Addr number address) fits =
        derives old holds number (λ cap result. SetsAddress cap address result) (λ cap is. SetsAddress-result cap is address fits)
    by_op (Inc number amount) fits =
        derives old holds number (λ cap result. Increments cap amount result) (λ cap is. Increments-result cap is amount)
    by_op (Perms number mask) fits =
        derives old holds number (λ cap result. MasksPermissions cap (bits_of mask) result) (λ cap is. MasksPermissions-result cap is (bits_of mask))
    by_op (Flag number flag) fits =
        derives old holds number (λ cap result. SetsFlag cap flag result) (λ cap is. SetsFlag-result cap is flag)
    by_op (Seal number authority) fits =
        derives old holds number (λ cap result. OnSlot old.slots authority result (λ by. Seals cap by result))
        (λ cap is. on_slot old holds authority (λ by result. Seals cap by result) (λ by _. Seals-result cap is by))
    by_op (Unseal number authority) fits =
        derives old holds number (λ cap result. OnSlot old.slots authority result (λ by. Unseals cap by result))
        (λ cap is. on_slot old holds authority (λ by result. Unseals cap by result) (λ by _. Unseals-result cap is by))
    by_op (Rebuild authority word) fits =
        derives old holds authority (λ by result. Rebuilds by word result) (λ by is. Rebuilds-result by word)
    by_op (Round size) fits = rounds old size
    by_op (Pool number align) fits = sets_pool old number align
    by_op (Alloc size) fits = allocates old holds keeps size
    by_op (Free number) fits = frees old number
    by_op Sweep fits = sweeps old keeps

-- replies and a state that a run leads to
pub record HasRun (old : State) (ops : List Op) : Type 0 where
  pub replies : List Reply
  pub new : State
  pub run : Run old ops replies new

pub Run-outcome : (old : State) (ops : List Op) → IsReached old → AllByRecursion IsInAddressSpace ops → HasRun old ops
Run-outcome old [] reached fit = record { replies = []; new = old; run = refl }
Run-outcome old (op ∷ ops) reached fit =
    let first = Step-outcome old op reached fit.0 in
    let rest = Run-outcome first.new ops (IsReached-step old first.new op first.reply reached first.leads) fit.1 in
    record { replies = first.reply ∷ rest.replies; new = rest.new; run = (first.new, first.leads, rest.run) }
