-- The machine once its pool is made.
use Rattle.std.proofs.Common.{ℕ, ◌≡◌, List, [], ◌∷◌, Some, None, Result, Ok, Err, IsNone, MatchResult, length, slice_get, refl, sym, ap, subst, ◌∙◌, inl, inr}
use Rattle.std.specs.List.{AllByRecursion}
use Rattle.cc_word.specs.declared.refusal.Refusal.{Refusal}
use Rattle.cc_word.specs.declared.refusal.Refusal.TheVariants.{PoolAlreadySet, Sealed}
use Rattle.cc_word.specs.Refusal.{RefusedUnless}
use Rattle.cc_bounds.specs.declared.align.Align.{Align}
use Rattle.cc_bounds.specs.Span.{span_from}
use Rattle.cc_cap.specs.Capability.{Capability, IsUnsealed, at_address, root_capability, with_span}
use Rattle.cc_cap.specs.Derivation.{SetsAddress, SetsExactBounds}
use Rattle.cc_values.specs.declared.op.Op.TheVariants as op
use Rattle.cc_values.specs.declared.reply.Reply.{Reply}
use Rattle.cc_values.specs.declared.reply.Reply.TheVariants.{PoolSet, Refused}
use Rattle.cc_machine.specs.State.{State, SlotState, initial_state, tagged_slot, with_slot}
use Rattle.cc_machine.specs.Run.{IsReached, Run}
use Rattle.cc_machine.specs.Step.{Adds, Derives, Refuses, SetsPool, Step, usable_slot}
use Rattle.cc_syntax.specs.Planning.{plan_opening}
use Rattle.cc_laws.specs.Translation.{IsAccepted}
use Rattle.cc_laws.proofs.PlacedStepLemmas.{IsReady, objects_of}

-- a refusal is not accepted
pub refused : (reply : Reply) (refusal : Refusal) → reply ≡ Refused refusal → IsAccepted reply → ⊥
refused reply refusal is accepted = subst IsAccepted is accepted

-- what an accepted operation added
added : (old new : State) (parent : ℕ) (capability : Capability) (reply : Reply) → IsAccepted reply
    → Adds old parent (Ok capability) reply new → new ≡ with_slot old capability parent
added old new parent capability reply accepted (inl is) = is.1.added
added old new parent capability reply accepted (inr full) = absurd (refused reply _ full.1.0 accepted)

-- a capability that was derived
abbrev ok_of : Capability → Result Capability Refusal
ok_of capability = Ok capability

same_ok : (one other : Capability) → ok_of one ≡ ok_of other → one ≡ other
same_ok one other is = cc

not_err : (one : Capability) (refusal : Refusal) → ok_of one ≡ Err refusal → ⊥
not_err one refusal is = cc

set_address : (cap result : Capability) (address : ℕ) → SetsAddress cap address (Ok result)
    → result ≡ at_address cap address
set_address cap result address (inr sealed) = absurd (not_err result _ sealed.1)
set_address cap result address (inl (unsealed, inr outside)) = absurd (not_err result _ outside.1)
set_address cap result address (inl (unsealed, inl (represents, is))) = same_ok result (at_address cap address) is

set_bounds : (cap result : Capability) (size : ℕ) → SetsExactBounds cap size (Ok result)
    → result ≡ with_span cap (span_from cap.address size)
set_bounds cap result size (inr sealed) = absurd (not_err result _ sealed.1)
set_bounds cap result size (inl (unsealed, inr outside)) = absurd (not_err result _ outside.1)
set_bounds cap result size (inl (unsealed, inl (within, inr inexact))) = absurd (not_err result _ inexact.1)
set_bounds cap result size (inl (unsealed, inl (within, inl (sound, is)))) =
    same_ok result (with_span cap (span_from cap.address size)) is

-- what an accepted operation derived from a slot
record IsDerived (old : State) (number : ℕ) (cap : Capability) (Rule : Capability → Result Capability Refusal → Type 0)
    (new : State) : Type 0 where
  result : Capability
  rule : Rule cap (Ok result)
  is_new : new ≡ with_slot old result number

derived : (old new : State) (number : ℕ) (slot : SlotState) (Rule : Capability → Result Capability Refusal → Type 0)
    (reply : Reply) → IsAccepted reply → usable_slot old.slots number ≡ Ok slot → Derives old number Rule reply new
    → IsDerived old number slot.capability Rule new
derived old new number slot Rule reply accepted usable_is derives =
    by_result derives.result
    (subst (λ (found : Result SlotState Refusal). MatchResult found (λ s. Rule s.capability derives.result)
    (λ refusal. derives.result ≡ Err refusal)) usable_is derives.made) derives.added
  where
    by_result : (result : Result Capability Refusal) → Rule slot.capability result → Adds old number result reply new
        → IsDerived old number slot.capability Rule new
    by_result (Err refusal) rule refuses = absurd (refused reply refusal refuses.0 accepted)
    by_result (Ok capability) rule adds = record {
      result = capability;
      rule = rule;
      is_new = added old new number capability reply accepted adds;
    }

set_pool : (old new : State) (number : ℕ) (slot : SlotState) (align : Align) (reply : Reply) → IsAccepted reply
    → usable_slot old.slots number ≡ Ok slot
    → SetsPool old number align reply new → new ≡ record old { pool = Some number; align = align }
set_pool old new number slot align reply accepted usable_is sets =
    by_rule (subst (λ (found : Result SlotState Refusal). MatchResult found (λ s.
    RefusedUnless (IsUnsealed s.capability) (Refuses Sealed old reply new) (
    RefusedUnless (IsNone old.pool) (Refuses PoolAlreadySet old reply new) (
    (reply ≡ PoolSet number s.capability.span align) × (new ≡ record old { pool = Some number; align = align }))))
    (λ refusal. Refuses refusal old reply new)) usable_is sets)
  where
    by_rule : RefusedUnless (IsUnsealed slot.capability) (Refuses Sealed old reply new) (
        RefusedUnless (IsNone old.pool) (Refuses PoolAlreadySet old reply new) (
        (reply ≡ PoolSet number slot.capability.span align) × (new ≡ record old { pool = Some number; align = align })))
        → new ≡ record old { pool = Some number; align = align }
    by_rule (inr sealed) = absurd (refused reply Sealed sealed.1.0 accepted)
    by_rule (inl (unsealed, inr has_pool)) = absurd (refused reply PoolAlreadySet has_pool.1.0 accepted)
    by_rule (inl (unsealed, inl (none, is))) = is.1

-- the slot of the root
abbrev root_slot : SlotState
root_slot = tagged_slot root_capability None

module _ (limit base size : ℕ) (align : Align) (first second third : Reply) (one two opened : State)
    (sets_address : Step (initial_state limit) (op.Addr 0 base) first one)
    (sets_bounds : Step one (op.Exact 1 size) second two)
    (sets_pool : Step two (op.Pool 2 align) third opened)
    (accepts_first : IsAccepted first) (accepts_second : IsAccepted second) (accepts_third : IsAccepted third) where
  at_base : IsDerived (initial_state limit) 0 root_capability (λ cap result. SetsAddress cap base result) one
  at_base = derived (initial_state limit) one 0 root_slot (λ cap result. SetsAddress cap base result) first accepts_first
      refl sets_address

  abbrev base_slot : SlotState
  base_slot = tagged_slot at_base.result (Some 0)

  base_usable : usable_slot one.slots 1 ≡ Ok base_slot
  base_usable = ap (λ (s : State). usable_slot s.slots 1) at_base.is_new

  over_pool : IsDerived one 1 at_base.result (λ cap result. SetsExactBounds cap size result) two
  over_pool = derived one two 1 base_slot (λ cap result. SetsExactBounds cap size result) second accepts_second
      base_usable sets_bounds

  abbrev pool_slot : SlotState
  pool_slot = tagged_slot over_pool.result (Some 1)

  two_is : two ≡ with_slot (with_slot (initial_state limit) at_base.result 0) over_pool.result 1
  two_is = over_pool.is_new ∙ ap (λ (s : State). with_slot s over_pool.result 1) at_base.is_new

  pool_usable : usable_slot two.slots 2 ≡ Ok pool_slot
  pool_usable = ap (λ (s : State). usable_slot s.slots 2) two_is

  opened_is : opened ≡ record (with_slot (with_slot (initial_state limit) at_base.result 0) over_pool.result 1) {
    pool = Some 2;
    align = align;
  }
  opened_is = set_pool two opened 2 pool_slot align third accepts_third pool_usable sets_pool
      ∙ ap (λ (s : State). record s { pool = Some 2; align = align }) two_is

  span_is : over_pool.result.span ≡ span_from base size
  span_is =
      ap (λ (c : Capability). c.span) (set_bounds at_base.result over_pool.result size over_pool.rule)
      ∙ ap (λ (c : Capability). span_from c.address size) (set_address root_capability at_base.result base at_base.rule)

  ready : IsReached opened → IsReady (span_from base size) align limit 0 opened × (objects_of opened ≡ [])
  ready reached = (
    record {
      reached = reached;
      number = 2;
      slot = pool_slot;
      is_pool = record {
        is_pool = ap (λ (s : State). s.pool) opened_is;
        is_slot = record { found = ap (λ (s : State). slice_get s.slots 2) opened_is };
      };
      pool_is = span_is;
      align_is = ap (λ (s : State). s.align) opened_is;
      limit_is = ap (λ (s : State). s.limit) opened_is;
      slots = ap (λ (s : State). length s.slots) opened_is;
    },
    ap objects_of opened_is,
  )

pub opened_ready : (limit base size : ℕ) (align : Align) (replies : List Reply) (opened : State)
    → Run (initial_state limit) (plan_opening base size align) replies opened → AllByRecursion IsAccepted replies
    → IsReady (span_from base size) align limit 0 opened × (objects_of opened ≡ [])
opened_ready limit base size align (first ∷ second ∷ third ∷ []) opened
    (one, sets_address, (two, sets_bounds, (three, sets_pool, same))) (accepts_first, (accepts_second, (accepts_third, all))) =
    ready limit base size align first second third one two opened sets_address sets_bounds
    (subst (λ (s : State). Step two (op.Pool 2 align) third s) (sym same) sets_pool)
    accepts_first accepts_second accepts_third (record {
      limit = limit;
      ops = plan_opening base size align;
      replies = first ∷ second ∷ third ∷ [];
      run = (one, sets_address, (two, sets_bounds, (three, sets_pool, same)));
    })
opened_ready limit base size align [] opened run accepted = absurd run
opened_ready limit base size align (first ∷ []) opened (one, step, run) accepted = absurd run
opened_ready limit base size align (first ∷ second ∷ []) opened (one, step, (two, next, run)) accepted = absurd run
opened_ready limit base size align (first ∷ second ∷ third ∷ fourth ∷ replies) opened
    (one, step, (two, next, (three, last, run))) accepted = absurd run
