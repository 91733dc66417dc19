-- What operations make, and the slots that they look up.
use Rattle.std.specs.List.{slice_get}
use Rattle.std.specs.Result.{result_map_both}
use Rattle.std.specs.Prelude.{⊤}
use Rattle.std.proofs.Common.{ℕ, Bool, true, false, ap, ◌≡◌, ◌∙◌, List, Option, Some, None, Result, Ok, Err, MatchResult, sym, subst}
use Rattle.cc_word.specs.declared.refusal.Refusal.{Refusal}
use Rattle.cc_cap.specs.Capability.{Capability}
use Rattle.cc_values.specs.declared.op.Op.{Op}
use Rattle.cc_values.specs.declared.reply.Reply.{Reply}
use Rattle.cc_machine.specs.declared.slot.Slot.{Slot}
use Rattle.cc_machine.specs.State.{State, SlotState, tagged_slot, IsSlot}
use Rattle.cc_machine.specs.Step.{usable, usable_slot, OnSlot, Derives, Step}
use Rattle.cc_machine.specs.Owners.{parent_of}
use Rattle.cc_machine.specs.Making.{IsMade, Makes}
use Rattle.cc_machine.proofs.DerivingLemmas.{OnSlot-usable_slot}

-- a rule that holds of the capability of a usable slot
pub OnSlot-usable : (slots : List SlotState) (number : ℕ) (result : Result Capability Refusal) (slot : SlotState)
    (Rule : Capability → Type 0) → usable_slot slots number ≡ Ok slot → Rule slot.capability → OnSlot slots number result Rule
OnSlot-usable slots number result slot Rule is_usable holds =
    let P : Result SlotState Refusal → Type 0 =
    λ usable. MatchResult usable (λ s. Rule s.capability) (λ refusal. result ≡ Err refusal) in
    subst P (sym is_usable) holds

-- what a look-up found
pub usable-told : (slots : List SlotState) (number : ℕ) (found : Result Slot Refusal) (slot : Slot)
    → usable_slot slots number ≡ result_map_both (λ s. tagged_slot s.capability (parent_of s)) (λ refusal. refusal) found → found ≡ Ok slot
    → usable_slot slots number ≡ Ok (tagged_slot slot.capability (parent_of slot))
usable-told slots number found slot told is =
    told
    ∙ ap (λ (result : Result Slot Refusal). result_map_both (λ (s : Slot). tagged_slot s.capability (parent_of s)) (λ (refusal : Refusal). refusal) result) is

-- a slot that can be used exists
pub usable-is : (slots : List SlotState) (number : ℕ) (slot : SlotState) → usable_slot slots number ≡ Ok slot → slice_get slots number ≡ Some slot
usable-is slots number slot is = by_found (slice_get slots number) is
  where
    by_tag : (found : SlotState) (revoked : Bool) → usable (Some (record found { revoked = revoked })) ≡ Ok slot → record found { revoked = revoked } ≡ slot
    by_tag found true is = cc
    by_tag found false is = cc

    by_found : (found : Option SlotState) → usable found ≡ Ok slot → found ≡ Some slot
    by_found None is = cc
    by_found (Some found) is = ap (λ (s : SlotState). Some s) (by_tag found found.revoked is)

-- the same, of what equals them
pub Makes-along : {old : State} {op op' : Op} {pair pair' : ℕ × Result Capability Refusal}
    → op ≡ op' → pair ≡ pair' → Makes old op' pair'.0 pair'.1 → Makes old op pair.0 pair.1
Makes-along {old} {op} {op'} {pair} {pair'} same_op same_pair makes =
    let Q : Op → Type 0 = λ o. Makes old o pair.0 pair.1 in
    let R : (ℕ × Result Capability Refusal) → Type 0 = λ p. Makes old op' p.0 p.1 in
    subst Q (sym same_op) (subst R (sym same_pair) makes)

-- whatever rule decided, the slot was looked up
looked-up : (slots : List SlotState) (number : ℕ) (result : Result Capability Refusal) (Rule : Capability → Type 0) → OnSlot slots number result Rule
    → OnSlot slots number result (λ cap. ⊤)
looked-up slots number result Rule on = by_used (usable_slot slots number) on
  where
    by_used : (used : Result SlotState Refusal) → MatchResult used (λ slot. Rule slot.capability) (λ refusal. result ≡ Err refusal)
        → MatchResult used (λ slot. ⊤) (λ refusal. result ≡ Err refusal)
    by_used (Ok slot) holds = tt
    by_used (Err refusal) is = is

-- an operation makes the result of a rule for a slot, if its step is to derive by the rule
pub derived : (old : State) (op : Op) (number : ℕ) (Rule : Capability → Result Capability Refusal → Type 0) (result : Result Capability Refusal)
    → OnSlot old.slots number result (λ cap. Rule cap result) → ((reply : Reply) (new : State) → Derives old number Rule reply new → Step old op reply new)
    → Makes old op number result
derived old op number Rule result made is_step = record {
  used = looked-up old.slots number result (λ cap. Rule cap result) made;
  step = λ reply new added. is_step reply new (record { result = result; made = made; added = added });
}

-- a slot that exists and is tagged
pub record IsTagged (state : State) (number : ℕ) : Type 0 where
  pub slot : SlotState
  pub is_slot : IsSlot state number slot
  pub tagged : slot.revoked ≡ false

-- what is made is made of a tagged slot
pub IsMade-tagged : (old : State) (parent : ℕ) (cap : Capability) → IsMade old parent (Ok cap) → IsTagged old parent
IsMade-tagged old parent cap made =
    let used = OnSlot-usable_slot old parent cap (λ c. ⊤) made.makes.used in
    record { slot = used.slot; is_slot = used.is_slot; tagged = used.tagged }
