-- The effect of an event on a heap, as far as the operations of its changes have it. Only private contracts
-- cite these definitions.
use Rattle.std.specs.Prelude.{ℕ, Bool, false, not, ◌≡◌, ◌≤◌, ◌-◌, ◌&&◌, nat_eq, List, [], ◌∷◌, ◌++◌, replicate, is_some, Option, Some, None, unwrap_or, if◌then◌else◌}
use Rattle.std.specs.List.{AllByRecursion}
use Rattle.std.specs.Map.{lookup}
use Rattle.cc_values.specs.declared.op.Op.{Op}
use Rattle.cc_values.specs.declared.op.Op.TheVariants.{Alloc, Sweep}
use Rattle.cc_heap.specs.declared.event.Event.{Event}
use Rattle.cc_heap.specs.declared.event.Event.TheVariants.{Allocate, Clear, Reallocate}
use Rattle.cc_heap.specs.declared.making.Making.{Making}
use Rattle.cc_heap.specs.declared.outcome.Outcome.{Outcome}
use Rattle.cc_heap.specs.declared.policy.Policy.{Policy}
use Rattle.cc_heap.specs.Events.{size_of}
use Rattle.cc_heap.specs.Heap.{Heap, is_made}
use Rattle.cc_heap.specs.Ids.{freed_id, made_id}
use Rattle.cc_heap.specs.Memory.{usage_of}
use Rattle.cc_heap.specs.Policy.{is_immediate}
use Rattle.cc_replay.specs.declared.deeds.Deeds.{Deeds}
use Rattle.cc_replay.specs.declared.deeds.MadeEntry.{MadeEntry}
use Rattle.cc_replay.specs.Counts.{one_if}
use Rattle.cc_replay.specs.Changes.{CanBePlanned, Change, Changes, objects_made}
use Rattle.cc_replay.specs.Operations.{Numbers, freeing, numbers_after, operations_of, with_number}

-- The id and the size of the object that an event requests, or none.
abbrev pub asked_entry : Event → Option MadeEntry
asked_entry (Allocate id size align) = Some (record { id = id; size = size_of size })
asked_entry (Clear id size) = Some (record { id = id; size = size_of size })
asked_entry (Reallocate old new size) = Some (record { id = new; size = size_of size })
asked_entry _ = None

-- Whether an object was made.
abbrev pub was_made : Option Making → Bool
was_made (Some making) = is_made making
was_made None = false

-- The id of the object that an event frees after it made one, if that is live.
abbrev pub freed_last : Event → Outcome → Option ℕ
freed_last event outcome = if outcome.unknown then None else freed_id event

-- Whether the quarantine is empty and the policy has one.
abbrev pub is_swept_clean : Heap → Bool
is_swept_clean heap = not (is_immediate heap.settings.policy) && nat_eq (usage_of heap.memory).quarantine 0

-- The deeds of an event with this outcome, in which there was this number of sweeps, and after which the
-- quarantine is empty or is not.
abbrev pub deeds_of : Event → Outcome → (sweeps : ℕ) → (clean : Bool) → Deeds
deeds_of event outcome sweeps clean = record {
  cleared = if outcome.was_live then made_id event else None;
  sweeps = sweeps - one_if (is_some (freed_last event outcome) && clean);
  made = if was_made outcome.making then asked_entry event else None;
  freed = freed_last event outcome;
  is_swept = is_some (freed_last event outcome) && clean;
}

-- The deeds of an event that leads from the heap `old` to `new`.
abbrev pub told_deeds : (old : Heap) → Event → Outcome → (new : Heap) → Deeds
told_deeds old event outcome new =
    deeds_of event outcome (new.totals.sweeps - old.totals.sweeps) (is_swept_clean new)

-- The number of objects that were made, and the number of the object that was made last under each id, in no
-- order.
pub record NumberedIds : Type 0 where
  pub made : ℕ
  pub entries : List (ℕ × ℕ)

-- The numbers of ids: 0 for an id under which none was made.
abbrev pub numbers_of : NumberedIds → Numbers
numbers_of ids = record { made = ids.made; number_of = λ id. unwrap_or (lookup (nat_eq id) ids.entries) 0 }

-- The number of the object under an id, if there is one.
abbrev pub deed_number : Numbers → Option ℕ → Option ℕ
deed_number numbers (Some id) = Some (numbers.number_of id)
deed_number numbers None = None

-- The operations of a free of the object of a number, if there is one.
abbrev pub numbered_free : Policy → (number : Option ℕ) → List Op
numbered_free policy (Some number) = freeing policy number
numbered_free policy None = []

-- The operations of a free of the object under an id, if there is one.
abbrev pub free_operations : Policy → Numbers → Option ℕ → List Op
free_operations policy numbers id = numbered_free policy (deed_number numbers id)

-- The operations by which an object is made, if there is one.
abbrev pub alloc_operations : Option MadeEntry → List Op
alloc_operations (Some entry) = Alloc entry.size ∷ []
alloc_operations None = []

-- The operations of deeds that free the objects of these numbers.
abbrev pub numbered_operations : Policy → (cleared freed : Option ℕ) → Deeds → List Op
numbered_operations policy cleared freed deeds =
    numbered_free policy cleared
    ++ (replicate deeds.sweeps Sweep
    ++ (alloc_operations deeds.made
    ++ (numbered_free policy freed ++ replicate (one_if deeds.is_swept) Sweep)))

-- The operations of deeds, from these numbers on.
abbrev pub deed_operations : Policy → Numbers → Deeds → List Op
deed_operations policy numbers deeds =
    numbered_operations policy (deed_number numbers deeds.cleared) (deed_number numbers deeds.freed) deeds

-- The numbers after deeds.
abbrev pub numbers_with : Numbers → Option MadeEntry → Numbers
numbers_with numbers (Some entry) = with_number numbers entry.id
numbers_with numbers None = numbers

-- DoesDeeds holds if changes with these deeds turn the heap `old` into `new`.
pub record DoesDeeds (old : Heap) (deeds : Deeds) (new : Heap) : Type 0 where
  pub few : deeds.sweeps ≤ 2
  pub changes : List Change
  pub are : Changes old changes new
  pub settings : new.settings ≡ old.settings
  pub plannable : AllByRecursion (CanBePlanned old.settings.align) (objects_made changes)
  pub operations :
      (numbers : Numbers) → operations_of old.settings.policy numbers changes ≡ deed_operations old.settings.policy numbers deeds
  pub numbers : (numbers : Numbers) → numbers_after numbers changes ≡ numbers_with numbers deeds.made
