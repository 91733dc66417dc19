-- A run that makes an object, and a run of a client within it.
use Rattle.std.proofs.Common.{ℕ, Bool, true, false, ◌≡◌, ◌<◌, ◌^◌, IsTrue, None, [], ◌∷◌, refl, sym, subst, inl, inr, Ok, arith}
use Rattle.std.proofs.lemmas.Bool.Decides.{nat_tests}
use Rattle.cc_bounds.specs.declared.span.Span.{Span}
use Rattle.cc_bounds.specs.declared.align.Align.TheVariants.{One}
use Rattle.cc_bounds.specs.Span.{IsSpan, from_zero, span_from}
use Rattle.cc_bounds.specs.Granule.{IsGranule, IsGranted, IsSound, exponent_of, first_exponent, granule_of, granted_span}
use Rattle.cc_bounds.proofs.ComputingLemmas.{granted_span-is, granule_of-is}
use Rattle.cc_bounds.proofs.SoundDecodingLemmas.{inside-Represents}
use Rattle.cc_cap.specs.Capability.{IsCapability, root_capability, with_flag}
use Rattle.cc_cap.proofs.BoundsLemmas.{root-IsCapability}
use Rattle.cc_placer.specs.Align.{IsUnit}
use Rattle.cc_placer.specs.Placement.{IsPlacement}
use Rattle.cc_values.specs.declared.op.Op.TheVariants.{Flag, Pool, Alloc}
use Rattle.cc_values.specs.declared.reply.Reply.TheVariants.{Made, PoolSet, Allocated}
use Rattle.cc_machine.specs.State.{SlotState, initial_state, tagged_slot}
use Rattle.cc_machine.specs.Objects.{BelongsTo, IsHeldObject, IsPool}
use Rattle.cc_machine.specs.ObjectConfinement.{AreOfObject}
use Rattle.cc_machine.specs.Run.{Run, IsReached}
use Rattle.cc_machine.specs.Step.{Step, PlacesObject}
use Rattle.cc_machine.specs.Confinement.{RunsWithin}
use Rattle.cc_machine.proofs.SlotLemmas.{ancestor-before}
use Rattle.cc_machine.proofs.TreeLemmas.{IsMonotonicTree-reached}
use Rattle.cc_laws.specs.Counterexamples.{is_first}
use Rattle.cc_laws.specs.Witnesses.{pooled_state, first_object, sixteen_capability, with_first_object, is_of_object, with_derived_slot}
use Rattle.cc_laws.proofs.ResultLemmas.{HasWord, has_word}

-- ---- the object's capability

abbrev sixteen : Span
sixteen = span_from 0 16

pub sixteen-is_span : IsSpan sixteen
sixteen-is_span = record { in_order = omega arith; base_fits = omega arith; top_fits = omega arith }

sixteen-granted : sixteen ≡ granted_span sixteen
unfolding granule_of exponent_of first_exponent
sixteen-granted = refl

sixteen-granule : granule_of sixteen ≡ 1
unfolding granule_of exponent_of first_exponent
sixteen-granule = refl

pub sixteen-sound : IsSound sixteen
sixteen-sound = subst (λ (s : Span). IsGranted sixteen s) (sym sixteen-granted) (granted_span-is sixteen sixteen-is_span)

is-cap : (flag : Bool) → IsCapability (with_flag sixteen_capability flag)
is-cap flag = record {
  is_span = sixteen-is_span;
  sound = sixteen-sound;
  address_fits = omega arith;
  representable = inside-Represents sixteen 0 sixteen-is_span sixteen-sound (omega arith) (omega arith);
  permissions_fit = root-IsCapability.permissions_fit;
  is_type = root-IsCapability.is_type;
}

object-word : HasWord sixteen_capability
object-word = has_word sixteen_capability (is-cap false)

derived-word : HasWord (with_flag sixteen_capability true)
derived-word = has_word (with_flag sixteen_capability true) (is-cap true)

-- ---- the run that makes it

pub sixteen-is_granule : IsGranule sixteen 1
sixteen-is_granule = subst (λ (g : ℕ). IsGranule sixteen g) sixteen-granule (granule_of-is sixteen sixteen-is_span)

pub unit : IsUnit One 16 1
unit = record { granule = 1; is_granule = sixteen-is_granule; is_larger = refl }

pub placement : IsPlacement (from_zero (2 ^ 64)) [] 16 1 0
placement = record {
  place = record {
    aligned = refl;
    in_pool = record { from_base = omega arith; to_top = omega arith };
    apart = λ other among. absurd (omega (arith, among.1));
  };
  least = λ other place. omega arith;
}

places : PlacesObject pooled_state 16 (Allocated 1 1 object-word.word sixteen 16) with_first_object
places = record {
  pool = 0;
  slot = _;
  is_pool = record { is_pool = refl; is_slot = record { found = refl } };
  unit = 1;
  is_unit = unit;
  placed = inl (record {
    start = 0;
    placement = placement;
    word = object-word.word;
    is_word = object-word.is_word;
    made = refl;
    replied = refl;
  });
}

pub makes : (word : ℕ) × Run (initial_state 8) (Pool 0 One ∷ Alloc 16 ∷ [])
    (PoolSet 0 (from_zero (2 ^ 64)) One ∷ Allocated 1 1 word sixteen 16 ∷ []) with_first_object
makes = (
  object-word.word,
  (
    pooled_state,
    inl (refl, inl (refl, (refl, refl))),
    (with_first_object, inl (refl, inl (omega arith, inl (omega arith, places))), refl),
  ),
)

pub reached : IsReached with_first_object
reached = record {
  limit = 8;
  ops = Pool 0 One ∷ Alloc 16 ∷ [];
  replies = PoolSet 0 (from_zero (2 ^ 64)) One ∷ Allocated 1 1 makes.0 sixteen 16 ∷ [];
  run = makes.1;
}

pub held : IsHeldObject with_first_object 1 first_object
held = record { is_object = record { found = refl }; held = refl }

pub pool : (slot : SlotState) × IsPool with_first_object 0 slot
pool = (tagged_slot root_capability None, record { is_pool = refl; is_slot = record { found = refl } })

-- the pool's slot is neither the object's, nor has it as an ancestor
pub not_given : ¬ AreOfObject is_first with_first_object first_object
not_given given = by_belongs (given 0 (omega arith) refl)
  where
    by_belongs : BelongsTo with_first_object first_object 0 → ⊥
    by_belongs (inl same) = omega (arith, same)
    by_belongs (inr up) =
        let less : 1 < 0 =
        ancestor-before with_first_object (IsMonotonicTree-reached with_first_object reached).parent_first up in omega (arith, less)

-- ---- the run within it

is-one : (slot : ℕ) → IsTrue (is_of_object slot) → slot ≡ 1
is-one slot given = grind (arith, nat_tests)

pub given : AreOfObject is_of_object with_first_object first_object
given number within is = inl (is-one number is)

derives : Step with_first_object (Flag 1 true) (Made 2 derived-word.word sixteen) with_derived_slot
derives = record {
  result = Ok (with_flag sixteen_capability true);
  made = inl (refl, refl);
  added = inl (omega arith, record { word = derived-word.word; is_word = derived-word.is_word; replied = refl; added = refl });
}

pub within : (word : ℕ) × RunsWithin is_of_object with_first_object with_first_object (Flag 1 true ∷ [])
    (Made 2 word sixteen ∷ []) with_derived_slot
within = (
  derived-word.word,
  (
    with_derived_slot,
    record {
      step = derives;
      uses_available = λ answered slot is.
          inl (subst (λ (n : ℕ). IsTrue (is_of_object n)) (sym is) refl);
    },
    refl,
  ),
)

-- ---- those of each function

pub ruleset object_made = (makes, reached, held, pool)

pub ruleset object_used = (given, within)
