-- A worked trace and its script, and a machine with its pool.
use Rattle.std.proofs.Common.{ℕ, Bool, true, false, cond, ◌≡◌, ◌+◌, ◌-◌, ◌^◌, nat_eq, if◌then◌else◌, List, [], ◌∷◌, Some, None, Ok, unwrap_or, refl, sym, subst, inl, inr, arith}
use Rattle.std.specs.List.{AllByRecursion}
use Rattle.std.specs.Fmt.{digits}
use Rattle.std.specs.Map.{lookup}
use Rattle.std.proofs.lemmas.Bool.Decides.{nat_tests}
use Rattle.std.proofs.lemmas.List.Sorted.{IsPermutation-refl}
use Rattle.cc_bounds.specs.declared.align.Align.TheVariants.{One}
use Rattle.cc_bounds.specs.Granule.{exponent_of, first_exponent, granule_of}
use Rattle.cc_bounds.specs.Span.{from_zero}
use Rattle.cc_bounds.proofs.SoundDecodingLemmas.{inside-Represents}
use Rattle.cc_cap.proofs.BoundsLemmas.{root-IsCapability}
use Rattle.cc_io.specs.Answers.{Output}
use Rattle.cc_io.specs.Frames.{lines}
use Rattle.cc_values.specs.declared.op.Op.{Op}
use Rattle.cc_values.specs.declared.op.Op.TheVariants as op
use Rattle.cc_values.specs.declared.reply.Reply.{Reply}
use Rattle.cc_values.specs.declared.reply.Reply.TheVariants as reply
use Rattle.cc_syntax.specs.Commands.{operation_of}
use Rattle.cc_syntax.specs.Planning.{plan_opening}
use Rattle.cc_machine.specs.State.{State, initial_state, with_slot}
use Rattle.cc_machine.specs.Step.{Step}
use Rattle.cc_machine.specs.Run.{Run}
use Rattle.cc_placer.specs.Align.{padded_size_for, unit_of}
use Rattle.cc_placer.specs.Placement.{IsPlacement}
use Rattle.cc_heap.specs.declared.event.Event.{Event}
use Rattle.cc_heap.specs.declared.event.Event.TheVariants as event
use Rattle.cc_replay.specs.declared.reading.Progress.TheVariants.{Running}
use Rattle.cc_heap.specs.declared.making.Making.TheVariants.{Made}
use Rattle.cc_heap.specs.declared.object.Object.{Object}
use Rattle.cc_heap.specs.Events.{FreesInHeap, IsEvent, outcome_of}
use Rattle.cc_heap.specs.Heap.{FreesHeapObject, Heap, MakesHeapObject, empty_heap, swept_heap}
use Rattle.cc_heap.specs.Memory.{memory_object, start_unit, usage_of}
use Rattle.cc_heap.specs.Run.{Runs}
use Rattle.cc_heap.specs.declared.policy.Policy.TheVariants.{Trace}
use Rattle.cc_heap.specs.Totals.{with_made, with_usage}
use Rattle.cc_replay.specs.Changes.Change.{Make, Free as FreeLive, Sweep as SweepAll}
use Rattle.cc_replay.specs.Changes.{AsksForUnit, CanBePlanned, Change, Changes, IsChange, objects_made}
use Rattle.cc_replay.specs.Deeds.{NumberedIds}
use Rattle.cc_replay.specs.Operations.{no_numbers, operation_lines, operations_of}
use Rattle.cc_replay.specs.Script.{ScriptState, ScriptsEvent, ScriptsLine, ScriptsRest, can_have, script_begun}
use Rattle.cc_replay.specs.Trace.{entry_of}
use Rattle.cc_laws.specs.Translation.{IsAccepted, IsReadAs}
use Rattle.cc_laws.specs.WorkedTrace.{worked_settings, worked_reading, worked_trace, worked_trace_script}
use Rattle.cc_laws.proofs.StepTotalLemmas.{Run-outcome}
use Rattle.cc_laws.proofs.WorkedScriptLemmas.{base_capability, base-word, pool_capability, pool_span, pool-sound, pool-word}

-- ---- the object and its place

pub unit-one : unit_of One 16 ≡ 1
unfolding granule_of exponent_of first_exponent
unit-one = refl

starts-one : start_unit One 1 16 ≡ 1
unfolding granule_of exponent_of first_exponent
starts-one = refl

padded-sixteen : padded_size_for One 16 ≡ 16
unfolding granule_of exponent_of first_exponent
padded-sixteen = refl

placed : IsPlacement pool_span [] 16 1 0x10000
placed = record {
  place = record {
    aligned = refl;
    in_pool = record { from_base = omega arith; to_top = omega arith };
    apart = λ other among. absurd (omega (arith, among.1));
  };
  least = λ other place. place.in_pool.from_base;
}

placement : IsPlacement pool_span [] (padded_size_for One 16) (start_unit One 1 16) 0x10000
placement =
    subst (λ (unit : ℕ). IsPlacement pool_span [] (padded_size_for One 16) unit 0x10000) (sym starts-one)
    (subst (λ (size : ℕ). IsPlacement pool_span [] size 1 0x10000) (sym padded-sixteen) placed)

abbrev pub object : Object
object = memory_object One 1 0x10000 16

-- ---- the heaps

abbrev pub none : Heap
none = empty_heap worked_settings

abbrev pub with_object : Heap
with_object = record none {
  memory = record { live = (1, object) ∷ []; quarantined = [] };
  totals = with_made none.totals object (0x10000 + padded_size_for One 16 - 0x10000)
      (usage_of (record { live = (1, object) ∷ []; quarantined = [] }));
}

abbrev pub with_freed : Heap
with_freed = record with_object {
  memory = record { live = []; quarantined = object.span ∷ [] };
  totals = with_usage with_object.totals (usage_of (record { live = []; quarantined = object.span ∷ [] }));
}

abbrev makes : MakesHeapObject none 1 1 16 with_object
makes = record {
  start = 0x10000;
  live = (1, object) ∷ [];
  few = omega arith;
  placement = placement;
  adds = IsPermutation-refl ((1, object) ∷ []);
  is_new = refl;
}

frees_object : FreesHeapObject with_object 1 object with_freed
frees_object = record { live = []; takes = IsPermutation-refl ((1, object) ∷ []); is_new = refl }

frees : FreesInHeap with_object 1 with_freed
frees = record {
  object = object;
  is_live = refl;
  freed = with_freed;
  frees = frees_object;
  follows = inr (λ must. must.asks, refl);
}

-- ---- the script

abbrev pub ids : NumberedIds
ids = record { made = 1; entries = (1, 1) ∷ [] }

abbrev pub state_of : Heap → NumberedIds → ScriptState
state_of heap numbered = record {
  heap = heap;
  reading = worked_reading;
  pending = None;
  ids = numbered;
  progress = Running;
}

abbrev pub begun : ScriptState
begun = state_of none (record { made = 0; entries = [] })

abbrev NumberIs : ℕ → ℕ → Type 0
NumberIs one other = one ≡ other

numbered : (id : ℕ) → NumberIs (unwrap_or (lookup (nat_eq id) ids.entries) 0) (if nat_eq 1 id then 1 else 0)
numbered id = by_test (nat_eq id 1) (nat_eq 1 id) (flips id 1)
  where
    flips : (one other : ℕ) → nat_eq one other ≡ nat_eq other one
    flips one other = grind (arith, nat_tests)

    by_test : (one other : Bool) → one ≡ other → NumberIs (unwrap_or (cond one (Some 1) None) 0) (if other then 1 else 0)
    by_test true true same = refl
    by_test false false same = refl
    by_test true false same = absurd (let e = same in cc)
    by_test false true same = absurd (let e = same in cc)

makes_event : IsEvent none (event.Allocate 1 16 1) (outcome_of false false (Some Made)) with_object
makes_event = record {
  was_live = false;
  cleared = none;
  clears = (refl, refl);
  making = Made;
  tries = inl (refl, makes);
  is_told = refl;
}

makes_change : IsChange none (Make 1 object) with_object
makes_change = (refl, record { makes = makes; is = refl })

plannable : AllByRecursion (CanBePlanned One) (object ∷ [])
plannable = (record { some = omega arith; aligned = omega (arith, unit-one) }, _)

can-make : can_have begun (event.Allocate 1 16 1) ≡ true
unfolding granule_of exponent_of first_exponent
can-make = refl

pub makes_line : ScriptsEvent begun (event.Allocate 1 16 1) (operation_lines (op.Alloc 16 ∷ [])) false (state_of with_object ids)
makes_line = record {
  outcome = outcome_of false false (Some Made);
  heap = with_object;
  ids = ids;
  changes = Make 1 object ∷ [];
  can = can-make;
  is_event = makes_event;
  are = (with_object, makes_change, refl);
  plannable = plannable;
  numbers = λ i. record { made = 1; number_of = λ id. numbered id i };
  few = λ fits. omega arith;
  is_new = refl;
  error_is = refl;
  text_is = refl;
}

frees_event : IsEvent with_object (event.Free 1) (outcome_of false false None) with_freed
frees_event = record { is_live = true; frees = frees; is_told = refl }

-- sweeps are still counted
can-free : can_have (state_of with_object ids) (event.Free 1) ≡ true
can-free = refl

pub frees_line : ScriptsEvent (state_of with_object ids) (event.Free 1) (operation_lines (op.Free 1 ∷ [])) false (state_of with_freed ids)
frees_line = record {
  outcome = outcome_of false false None;
  heap = with_freed;
  ids = ids;
  changes = FreeLive 1 object ∷ [];
  can = can-free;
  is_event = frees_event;
  are = (with_freed, frees_object, refl);
  plannable = _;
  numbers = refl;
  few = λ fits. fits;
  is_new = refl;
  error_is = refl;
  text_is = refl;
}

can-sweep : can_have (state_of with_freed ids) event.Sweep ≡ true
can-sweep = refl

pub sweeps_line : ScriptsEvent (state_of with_freed ids) event.Sweep (operation_lines (op.Sweep ∷ [])) false (state_of (swept_heap with_freed) ids)
sweeps_line = record {
  outcome = outcome_of false false None;
  heap = swept_heap with_freed;
  ids = ids;
  changes = SweepAll ∷ [];
  can = can-sweep;
  is_event = (refl, refl);
  are = (swept_heap with_freed, refl, refl);
  plannable = _;
  numbers = refl;
  few = λ fits. fits;
  is_new = refl;
  error_is = refl;
  text_is = refl;
}

-- ---- the output

pub output : Output ScriptsLine ScriptsRest lines (script_begun worked_settings worked_reading) worked_trace worked_trace_script false
    (state_of (swept_heap with_freed) ids)
unfolding entry_of digits lib.Count.ones
output = record {
  answers =
      record { text = operation_lines (op.Alloc 16 ∷ []); is_error = false }
      ∷ record { text = operation_lines (op.Free 1 ∷ []); is_error = false }
      ∷ record { text = operation_lines (op.Sweep ∷ []); is_error = false }
      ∷ [];
  mid = state_of (swept_heap with_freed) ids;
  takes = (
    state_of with_object ids,
    inl makes_line,
    (state_of with_freed ids, inl frees_line, (state_of (swept_heap with_freed) ids, inl sweeps_line, refl)),
  );
  ending = record { text = []; is_error = false };
  ends = (refl, refl, refl);
  output_is = refl;
  error_is = refl;
}

-- ---- the pool

abbrev with_base : State
with_base = with_slot (initial_state 65536) base_capability 0

abbrev with_pool_slot : State
with_pool_slot = with_slot with_base pool_capability 1

pub pool : (opening : List Reply) × (opened : State)
    × Run (initial_state 65536) (plan_opening 0x10000 65536 One) opening opened × AllByRecursion IsAccepted opening
pool = (
  reply.Made 1 0xffff0000000000000000000000010000 (from_zero (2 ^ 64))
      ∷ reply.Made 2 0xffff0000000190000000000000010000 pool_span
      ∷ reply.PoolSet 2 pool_span One
      ∷ [],
  record with_pool_slot { pool = Some 2; align = One },
  (
    with_base,
    sets_base,
    (with_pool_slot, sets_bounds, (record with_pool_slot { pool = Some 2; align = One }, inl (refl, inl (refl, (refl, refl))), refl)),
  ),
  _,
)
  where
    sets_base : Step (initial_state 65536) (op.Addr 0 0x10000)
        (reply.Made 1 0xffff0000000000000000000000010000 (from_zero (2 ^ 64))) with_base
    sets_base = record {
      result = Ok base_capability;
      made = inl (
        refl,
        inl (
          inside-Represents (from_zero (2 ^ 64)) 0x10000 root-IsCapability.is_span root-IsCapability.sound (omega arith) (omega arith),
          refl,
        ),
      );
      added = inl (
        omega arith,
        record { word = 0xffff0000000000000000000000010000; is_word = base-word; replied = refl; added = refl },
      );
    }

    sets_bounds : Step with_base (op.Exact 1 65536) (reply.Made 2 0xffff0000000190000000000000010000 pool_span) with_pool_slot
    sets_bounds = record {
      result = Ok pool_capability;
      made = inl (refl, inl (record { from_base = omega arith; to_top = omega arith }, inl (pool-sound, refl)));
      added = inl (
        omega arith,
        record { word = 0xffff0000000190000000000000010000; is_word = pool-word; replied = refl; added = refl },
      );
    }

-- ---- the events, the changes and the operations

abbrev worked_events : List Event
worked_events = event.Allocate 1 16 1 ∷ event.Free 1 ∷ event.Sweep ∷ []

abbrev worked_operations : List Op
worked_operations = op.Alloc 16 ∷ op.Free 1 ∷ op.Sweep ∷ []

pub events : (heap : Heap) × Runs (empty_heap worked_settings) worked_events heap × (heap.totals.made ≡ 1)
events = (
  swept_heap with_freed,
  (
    outcome_of false false (Some Made),
    with_object,
    makes_event,
    (outcome_of false false None, with_freed, frees_event, (outcome_of false false None, swept_heap with_freed, (refl, refl), refl)),
  ),
  refl,
)

pub asks : AllByRecursion (AsksForUnit One) worked_events
asks = (omega (arith, unit-one), _)

pub changes : (changes : List Change) × (heap : Heap) × Changes (empty_heap worked_settings) changes heap
    × AllByRecursion (CanBePlanned One) (objects_made changes)
    × (operations_of Trace no_numbers changes ≡ worked_operations)
changes = (
  Make 1 object ∷ FreeLive 1 object ∷ SweepAll ∷ [],
  swept_heap with_freed,
  (with_object, makes_change, (with_freed, frees_object, (swept_heap with_freed, refl, refl))),
  plannable,
  refl,
)

pub reads : IsReadAs worked_trace_script worked_operations
unfolding operation_of
reads = (refl, refl)

pub runs : (limit : ℕ) (opening : List Reply) (opened : State) → Run (initial_state limit) (plan_opening 0x10000 65536 One) opening opened
    → (replies : List Reply) × (state : State) × Run opened worked_operations replies state
runs limit opening opened run =
    let has =
    Run-outcome opened worked_operations
    (record { limit = limit; ops = plan_opening 0x10000 65536 One; replies = opening; run = run }) _ in
    (has.replies, has.new, has.run)
