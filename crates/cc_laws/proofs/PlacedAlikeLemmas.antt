-- Each change of a heap, and its operations.
use Rattle.std.proofs.Common.{ℕ, suc, nat_eq, Bool, true, false, if◌then◌else◌, cond, ◌≡◌, ◌+◌, ◌<◌, ◌≤◌, max, List, [], ◌∷◌, ◌++◌, Some, None, map, set, length, slice_get, sum_by, arith, refl}
use Rattle.std.proofs.Common.{sym, ap, subst, ◌∙◌, IsPermutation, IsNone, Option}
use Rattle.std.specs.List.{AllByRecursion}
use Rattle.std.specs.Map.{lookup, remove_entry}
use Rattle.std.proofs.lemmas.List.{set-append_left}
use Rattle.std.proofs.lemmas.Option.{slice_get_within}
use Rattle.std.proofs.lemmas.List.Sorted.{IsPermutation-sym}
use Rattle.cc_bounds.specs.declared.align.Align.{Align}
use Rattle.cc_bounds.specs.declared.span.Span.{Span}
use Rattle.cc_bounds.specs.Span.{span_from}
use Rattle.cc_placer.specs.Placement.{HaveSameSpans, IsPlacement}
use Rattle.cc_placer.proofs.SameSpansLemmas.{placement_along}
use Rattle.cc_plan.specs.declared.planned_object.ObjectState.TheVariants.{Live}
use Rattle.cc_plan.specs.PlannedObject.{PlannedObject}
use Rattle.cc_plan.specs.Plan.{plan_swept as planned_swept}
use Rattle.cc_placer.specs.Align.{padded_size_for, unit_of}
use Rattle.cc_plan.proofs.HeldSpanLemmas.{as_freed}
use Rattle.cc_values.specs.declared.op.Op.{Op}
use Rattle.cc_values.specs.declared.op.Op.TheVariants as op
use Rattle.cc_values.specs.declared.reply.Reply.{Reply}
use Rattle.cc_values.specs.declared.reply.Reply.TheVariants.{Allocated, Freed, Swept}
use Rattle.cc_machine.specs.State.{State, initial_state}
use Rattle.cc_machine.specs.Objects.{held_spans}
use Rattle.cc_machine.specs.Planned.{plan_of}
use Rattle.cc_machine.specs.Run.{Run}
use Rattle.cc_machine.specs.Step.{Step}
use Rattle.cc_machine.proofs.PlanLemmas.{held-planned}
use Rattle.cc_machine.proofs.SlotLemmas.{slice_get-append}
use Rattle.cc_syntax.specs.Planning.{plan_opening}
use Rattle.cc_heap.specs.declared.object.Object.{Object}
use Rattle.cc_heap.specs.declared.settings.Settings.{Settings}
use Rattle.cc_heap.specs.Policy.{is_immediate}
use Rattle.cc_heap.specs.Memory.{Memory, memory_spans as heap_spans, memory_object, start_unit}
use Rattle.cc_heap.specs.Heap.{FreesHeapObject, Heap, empty_heap, swept_heap}
use Rattle.cc_heap.proofs.HeapLemmas.{memory_of}
use Rattle.cc_heap.proofs.MemoryLemmas.{found_first}
use Rattle.cc_replay.specs.Changes.{CanBePlanned, Change, Changes, MakesThis, ReplacesThis, objects_made}
use Rattle.cc_replay.specs.Changes.Change.{Make, Free, Replace, Sweep}
use Rattle.cc_replay.specs.Operations.{Numbers, freeing, no_numbers, operations_of, with_number}
use Rattle.cc_laws.specs.Translation.{IsAccepted, PlacesAlike, spans_in, spans_of}
use Rattle.cc_replay.specs.Kept.{id_weight}
use Rattle.cc_replay.proofs.EntryLemmas.{HasOneMore, itself, none_counted, one_fewer, one_more}
use Rattle.cc_laws.proofs.HoldLemmas.{HoldAlike, alike_freed, alike_made, alike_swept, hold_same_spans, new_object, numbered}
use Rattle.cc_laws.proofs.PlacedStepLemmas.{IsAllocated, IsReady, alloc_step, free_step, objects_of, sweep_step}
use Rattle.cc_laws.proofs.OpeningLemmas.{opened_ready}

-- a heap and a machine that hold alike
record AreAlike (settings : Settings) (limit : ℕ) (heap : Heap) (numbers : Numbers) (state : State) : Type 0 where
  settings_is : heap.settings ≡ settings
  ready : IsReady settings.pool settings.align limit numbers.made state
  hold : HoldAlike numbers heap.memory (objects_of state)
  none_waits : is_immediate settings.policy ≡ true → heap.memory.quarantined ≡ []

-- they hold the same spans
same_held : (settings : Settings) (limit : ℕ) (heap : Heap) (numbers : Numbers) (state : State)
    → AreAlike settings limit heap numbers state → HaveSameSpans (heap_spans heap.memory) (held_spans state)
same_held settings limit heap numbers state alike =
    subst (λ (spans : List Span). HaveSameSpans (heap_spans heap.memory) spans)
    (held-planned (plan_of state) state refl)
    (hold_same_spans numbers heap.memory (objects_of state) alike.hold)

-- ---- an object is made

-- an alignment that is at most the unit does not count
unit_counts : (align : Align) (requested size : ℕ) → requested ≤ unit_of align size
    → start_unit align requested size ≡ unit_of align size
unit_counts align requested size few = larger (unit_of align size) requested few
  where
    larger : (one other : ℕ) → other ≤ one → max one other ≡ one
    larger one other less = omega (arith, less)

allocates : (settings : Settings) (limit id : ℕ) (object : Object) (heap new : Heap) (numbers : Numbers)
    (state next : State) (reply : Reply) → AreAlike settings limit heap numbers state
    → MakesThis heap id object new → CanBePlanned settings.align object → numbers.made + 3 < limit
    → Step state (op.Alloc object.size) reply next
    → IsAllocated settings.pool settings.align limit numbers.made object.size object.span state reply next
allocates settings limit id object heap new numbers state next reply alike makes can fits step =
    let start : ℕ = makes.makes.start in
    let first : IsPlacement settings.pool (heap_spans heap.memory) (padded_size_for settings.align object.size)
    (start_unit settings.align object.align object.size) start =
    subst (λ (s : Settings). IsPlacement s.pool (heap_spans heap.memory) (padded_size_for s.align object.size)
    (start_unit s.align object.align object.size) start) alike.settings_is makes.makes.placement in
    let of_unit : IsPlacement settings.pool (heap_spans heap.memory) (padded_size_for settings.align object.size)
    (unit_of settings.align object.size) start =
    subst (λ (u : ℕ). IsPlacement settings.pool (heap_spans heap.memory) (padded_size_for settings.align object.size) u start)
    (unit_counts settings.align object.align object.size can.aligned) first in
    let placed : IsPlacement settings.pool (held_spans state) (padded_size_for settings.align object.size)
    (unit_of settings.align object.size) start =
    placement_along settings.pool (heap_spans heap.memory) (held_spans state)
    (padded_size_for settings.align object.size) (unit_of settings.align object.size) start
    (same_held settings limit heap numbers state alike) of_unit in
    let span_is : object.span ≡ span_from start (padded_size_for settings.align object.size) =
    ap (λ (o : Object). o.span) makes.is
    ∙ ap (λ (s : Settings). span_from start (padded_size_for s.align object.size)) alike.settings_is in
    subst (λ (s : Span). IsAllocated settings.pool settings.align limit numbers.made object.size s state reply next)
    (sym span_is)
    (alloc_step settings.pool settings.align limit numbers.made object.size start state next reply alike.ready fits
    can.some placed step)

-- ---- an object is freed

-- the plan's objects once one is freed, and swept if there is no quarantine
abbrev freed_objects : Bool → List PlannedObject → List PlannedObject
freed_objects immediate objects = if immediate then map planned_swept objects else objects

-- the machine after the operations of a free, and what is left to run
record IsFreedRun (pool : Span) (align : Align) (limit made position : ℕ) (object : PlannedObject) (immediate : Bool)
    (ops : List Op) (replies : List Reply) (old last : State) : Type 0 where
  next : State
  others : List Reply
  ready : IsReady pool align limit made next
  objects : objects_of next ≡ freed_objects immediate (set (objects_of old) position (as_freed object))
  run : Run next ops others last
  accepted : AllByRecursion IsAccepted others → AllByRecursion IsAccepted replies
  spans : spans_in replies ≡ spans_in others

accepted_freed : (reply : Reply) (number held : ℕ) → reply ≡ Freed number 0 held → IsAccepted reply
accepted_freed reply number held is = subst IsAccepted (sym is) tt

accepted_swept : (reply : Reply) (count revoked held : ℕ) → reply ≡ Swept count revoked held → IsAccepted reply
accepted_swept reply count revoked held is = subst IsAccepted (sym is) tt

free_run : (pool : Span) (align : Align) (limit made position number : ℕ) (object : PlannedObject) (immediate : Bool)
    (ops : List Op) (replies : List Reply) (old last : State) → IsReady pool align limit made old
    → slice_get (objects_of old) position ≡ Some object → object.state ≡ Live → number ≡ suc position
    → Run old (op.Free number ∷ ((if immediate then op.Sweep ∷ [] else []) ++ ops)) replies last
    → IsFreedRun pool align limit made position object immediate ops replies old last
free_run pool align limit made position number object immediate ops [] old last ready at live number_is run = absurd run
free_run pool align limit made position number object false ops (reply ∷ replies) old last ready at live number_is
    (next, step, run) =
    let freed = free_step pool align limit made position object old next reply ready at live
    (subst (λ (n : ℕ). Step old (op.Free n) reply next) number_is step) in
    record {
      next = next;
      others = replies;
      ready = freed.ready;
      objects = freed.objects;
      run = run;
      accepted = λ all. (accepted_freed reply (suc position) freed.held freed.replied, all);
      spans = ap (λ (r : Reply). spans_in (r ∷ replies)) freed.replied;
    }
free_run pool align limit made position number object true ops (reply ∷ []) old last ready at live number_is
    (next, step, run) = absurd run
free_run pool align limit made position number object true ops (reply ∷ second ∷ replies) old last ready at live number_is
    (mid, step, (next, sweeps, run)) =
    let freed = free_step pool align limit made position object old mid reply ready at live
    (subst (λ (n : ℕ). Step old (op.Free n) reply mid) number_is step) in
    let cleared = sweep_step pool align limit made mid next second freed.ready sweeps in
    record {
      next = next;
      others = replies;
      ready = cleared.ready;
      objects = cleared.objects ∙ ap (λ (os : List PlannedObject). map planned_swept os) freed.objects;
      run = run;
      accepted = λ all. (
        accepted_freed reply (suc position) freed.held freed.replied,
        (accepted_swept second cleared.count cleared.revoked cleared.held cleared.replied, all),
      );
      spans = ap (λ (r : Reply). spans_in (r ∷ second ∷ replies)) freed.replied
          ∙ ap (λ (r : Reply). spans_in (r ∷ replies)) cleared.replied;
    }

-- the quarantine of a free
abbrev waiting_with : Bool → List Span → Span → List Span
waiting_with immediate waiting span = if immediate then waiting else waiting ++ span ∷ []

hold_freed : (immediate : Bool) (numbers : Numbers) (live : List (ℕ × Object)) (waiting : List Span) (span : Span)
    (objects : List PlannedObject) → (immediate ≡ true → waiting ≡ [])
    → HoldAlike numbers (record { live = live; quarantined = waiting ++ span ∷ [] }) objects
    → HoldAlike numbers (record { live = live; quarantined = waiting_with immediate waiting span })
    (freed_objects immediate objects)
hold_freed false numbers live waiting span objects none alike = alike
hold_freed true numbers live waiting span objects none alike =
    subst (λ (spans : List Span). HoldAlike numbers (record { live = live; quarantined = spans }) (map planned_swept objects))
    (sym (none refl)) (alike_swept numbers live (waiting ++ span ∷ []) objects alike)

still_none : (immediate : Bool) (waiting : List Span) (span : Span) → (immediate ≡ true → waiting ≡ [])
    → immediate ≡ true → waiting_with immediate waiting span ≡ []
still_none true waiting span none is = none refl
still_none false waiting span none is = absurd (never is)
  where
    never : false ≡ true → ⊥
    never e = cc

-- the memory of a heap in which an object was freed
freed_memory : (settings : Settings) (old new : Heap) (id : ℕ) (object : Object) → old.settings ≡ settings
    → (frees : FreesHeapObject old id object new)
    → new.memory ≡ memory_of frees.live (waiting_with (is_immediate settings.policy) old.memory.quarantined object.span)
freed_memory settings old new id object settings_is frees =
    ap (λ (h : Heap). h.memory) frees.is_new
    ∙ ap (λ (s : Settings). memory_of frees.live
    (waiting_with (is_immediate s.policy) old.memory.quarantined object.span)) settings_is

-- ---- the changes, one after another

-- what a change leaves: the heap and the machine alike, and what is left to run
record Follows (settings : Settings) (limit : ℕ) (heap : Heap) (numbers : Numbers) (made : List Object) (ops : List Op)
    (replies : List Reply) (last : State) : Type 0 where
  state : State
  others : List Reply
  alike : AreAlike settings limit heap numbers state
  run : Run state ops others last
  accepted : AllByRecursion IsAccepted others → AllByRecursion IsAccepted replies
  spans : (objects : List Object) → spans_in others ≡ spans_of objects
      → spans_in replies ≡ spans_of (made ++ objects)

accepted_made : (reply : Reply) (number slot word held : ℕ) (span : Span)
    → reply ≡ Allocated number slot word span held → IsAccepted reply
accepted_made reply number slot word held span is = subst IsAccepted (sym is) tt

make_follows : (settings : Settings) (limit id : ℕ) (object : Object) (heap new : Heap) (numbers : Numbers)
    (state last : State) (ops : List Op) (replies : List Reply) → AreAlike settings limit heap numbers state
    → lookup (nat_eq id) heap.memory.live ≡ None
    → MakesThis heap id object new → CanBePlanned settings.align object → numbers.made + 3 < limit
    → Run state (op.Alloc object.size ∷ ops) replies last
    → Follows settings limit new (with_number numbers id) (object ∷ []) ops replies last
make_follows settings limit id object heap new numbers state last ops [] alike none makes can fits run = absurd run
make_follows settings limit id object heap new numbers state last ops (reply ∷ replies) alike none makes can fits
    (next, step, run) =
    let is = allocates settings limit id object heap new numbers state next reply alike makes can fits step in
    let entry : memory_object heap.settings.align object.align makes.makes.start object.size ≡ object = sym makes.is in
    let adds : IsPermutation ((id, object) ∷ heap.memory.live) makes.makes.live =
    subst (λ (o : Object). IsPermutation ((id, o) ∷ heap.memory.live) makes.makes.live) entry makes.makes.adds in
    let memory : new.memory ≡ memory_of makes.makes.live heap.memory.quarantined =
    ap (λ (h : Heap). h.memory) makes.makes.is_new in
    let hold : HoldAlike (with_number numbers id) (record { live = makes.makes.live; quarantined = heap.memory.quarantined })
    (objects_of state ++ new_object object.size object.span ∷ []) =
    alike_made numbers heap.memory.live makes.makes.live heap.memory.quarantined (objects_of state) id object.size object
    alike.hold (none_counted id heap.memory.live none) (one_more heap.memory.live makes.makes.live (id, object) adds) in
    record {
      state = next;
      others = replies;
      alike = record {
        settings_is = ap (λ (h : Heap). h.settings) makes.makes.is_new ∙ alike.settings_is;
        ready = is.ready;
        hold = subst (λ (os : List PlannedObject). HoldAlike (with_number numbers id) new.memory os) (sym is.objects)
            (subst (λ (m : Memory). HoldAlike (with_number numbers id) m
            (objects_of state ++ new_object object.size object.span ∷ [])) (sym memory) hold);
        none_waits = λ immediate. ap (λ (m : Memory). m.quarantined) memory ∙ alike.none_waits immediate;
      };
      run = run;
      accepted = λ all. (accepted_made reply is.number is.slot is.word is.held object.span is.replied, all);
      spans = λ objects same.
          ap (λ (r : Reply). spans_in (r ∷ replies)) is.replied
          ∙ ap (λ (spans : List Span). object.span ∷ spans) same;
    }

free_follows : (settings : Settings) (limit id : ℕ) (object : Object) (heap new : Heap) (numbers : Numbers)
    (state last : State) (ops : List Op) (replies : List Reply) → AreAlike settings limit heap numbers state
    → FreesHeapObject heap id object new
    → Run state (freeing settings.policy (numbers.number_of id) ++ ops) replies last
    → Follows settings limit new numbers [] ops replies last
free_follows settings limit id object heap new numbers state last ops replies alike frees run =
    let immediate : Bool = is_immediate settings.policy in
    let takes = one_fewer heap.memory.live frees.live (id, object) frees.takes in
    let at = numbered numbers heap.memory.live frees.live heap.memory.quarantined (objects_of state) id object alike.hold
    takes in
    let freed = free_run settings.pool settings.align limit numbers.made at.position (numbers.number_of id) at.object
    immediate ops replies state last alike.ready at.at at.live at.number_is run in
    let hold = hold_freed immediate numbers frees.live heap.memory.quarantined object.span
    (set (objects_of state) at.position (as_freed at.object)) alike.none_waits
    (alike_freed numbers heap.memory.live frees.live heap.memory.quarantined (objects_of state) id object alike.hold takes
    at) in
    let memory = freed_memory settings heap new id object alike.settings_is frees in
    record {
      state = freed.next;
      others = freed.others;
      alike = record {
        settings_is = ap (λ (h : Heap). h.settings) frees.is_new ∙ alike.settings_is;
        ready = freed.ready;
        hold = subst (λ (os : List PlannedObject). HoldAlike numbers new.memory os) (sym freed.objects)
            (subst (λ (m : Memory). HoldAlike numbers m
            (freed_objects immediate (set (objects_of state) at.position (as_freed at.object)))) (sym memory) hold);
        none_waits = λ is. ap (λ (m : Memory). m.quarantined) memory
            ∙ still_none immediate heap.memory.quarantined object.span alike.none_waits is;
      };
      run = freed.run;
      accepted = freed.accepted;
      spans = λ objects same. freed.spans ∙ same;
    }

sweep_follows : (settings : Settings) (limit : ℕ) (heap new : Heap) (numbers : Numbers) (state last : State)
    (ops : List Op) (replies : List Reply) → AreAlike settings limit heap numbers state → new ≡ swept_heap heap
    → Run state (op.Sweep ∷ ops) replies last
    → Follows settings limit new numbers [] ops replies last
sweep_follows settings limit heap new numbers state last ops [] alike is run = absurd run
sweep_follows settings limit heap new numbers state last ops (reply ∷ replies) alike is (next, step, run) =
    let cleared = sweep_step settings.pool settings.align limit numbers.made state next reply alike.ready step in
    let memory : new.memory ≡ memory_of heap.memory.live [] = ap (λ (h : Heap). h.memory) is in
    record {
      state = next;
      others = replies;
      alike = record {
        settings_is = ap (λ (h : Heap). h.settings) is ∙ alike.settings_is;
        ready = cleared.ready;
        hold = subst (λ (os : List PlannedObject). HoldAlike numbers new.memory os) (sym cleared.objects)
            (subst (λ (m : Memory). HoldAlike numbers m (map planned_swept (objects_of state))) (sym memory)
            (alike_swept numbers heap.memory.live heap.memory.quarantined (objects_of state) alike.hold));
        none_waits = λ immediate. ap (λ (m : Memory). m.quarantined) memory;
      };
      run = run;
      accepted = λ all. (accepted_swept reply cleared.count cleared.revoked cleared.held cleared.replied, all);
      spans = λ objects same. ap (λ (r : Reply). spans_in (r ∷ replies)) cleared.replied ∙ same;
    }

-- the entries of a memory in which an object was replaced
replaced_entries : (before object : ℕ × Object) (live others made rest : List (ℕ × Object))
    → HasOneMore others before live → HasOneMore live object made → HasOneMore rest before made
    → HasOneMore others object rest
replaced_entries before object live others made rest one two three weight =
    omega (arith, one weight, two weight, three weight)

-- the ids of the others, if the id is there once
others_differ : (id : ℕ) (before : Object) (live others : List (ℕ × Object)) → HasOneMore others (id, before) live
    → sum_by (id_weight id) live ≤ 1 → sum_by (id_weight id) others ≡ 0
others_differ id before live others more most =
    let own : id_weight id (id, before) ≡ 1 = ap (λ (t : Bool). cond t 1 0) (itself id) in
    omega (arith, own, more (id_weight id), most)

replace_follows : (settings : Settings) (limit id : ℕ) (before object : Object) (heap new : Heap) (numbers : Numbers)
    (state last : State) (ops : List Op) (replies : List Reply) → AreAlike settings limit heap numbers state
    → ReplacesThis heap id before object new → CanBePlanned settings.align object → numbers.made + 3 < limit
    → Run state (op.Alloc object.size ∷ (freeing settings.policy (numbers.number_of id) ++ ops)) replies last
    → Follows settings limit new (with_number numbers id) (object ∷ []) ops replies last
replace_follows settings limit id before object heap new numbers state last ops [] alike replaces can fits run = absurd run
replace_follows settings limit id before object heap new numbers state last ops (reply ∷ replies) alike replaces can fits
    (next, step, run) =
    let makes = replaces.makes in
    let frees = replaces.frees in
    let immediate : Bool = is_immediate settings.policy in
    let objects : List PlannedObject = objects_of state in
    let waiting : List Span = heap.memory.quarantined in
    let others : List (ℕ × Object) = remove_entry (nat_eq id) heap.memory.live in
    let is = allocates settings limit id object heap replaces.made numbers state next reply alike makes can fits step in
    let entry : memory_object heap.settings.align object.align makes.makes.start object.size ≡ object = sym makes.is in
    let adds : IsPermutation ((id, object) ∷ heap.memory.live) makes.makes.live =
    subst (λ (o : Object). IsPermutation ((id, o) ∷ heap.memory.live) makes.makes.live) entry makes.makes.adds in
    let made_memory : replaces.made.memory ≡ memory_of makes.makes.live waiting =
    ap (λ (h : Heap). h.memory) makes.makes.is_new in
    let made_live : replaces.made.memory.live ≡ makes.makes.live = ap (λ (m : Memory). m.live) made_memory in
    let made_waiting : replaces.made.memory.quarantined ≡ waiting = ap (λ (m : Memory). m.quarantined) made_memory in
    let takes : HasOneMore others (id, before) heap.memory.live =
    one_fewer heap.memory.live others (id, before) (found_first id before heap.memory.live replaces.is_live) in
    let adds_one : HasOneMore heap.memory.live (id, object) makes.makes.live =
    one_more heap.memory.live makes.makes.live (id, object) adds in
    let takes_again : HasOneMore frees.live (id, before) makes.makes.live =
    one_fewer makes.makes.live frees.live (id, before)
    (subst (λ (l : List (ℕ × Object)). IsPermutation l ((id, before) ∷ frees.live)) made_live frees.takes) in
    let rest : HasOneMore others (id, object) frees.live =
    replaced_entries (id, before) (id, object) heap.memory.live others makes.makes.live frees.live takes adds_one
    takes_again in
    let at = numbered numbers heap.memory.live others waiting objects id before alike.hold takes in
    let within : at.position < length objects = slice_get_within objects at.position at.object at.at in
    let freed_hold = alike_freed numbers heap.memory.live others waiting objects id before alike.hold takes at in
    let made_hold = alike_made numbers others frees.live (waiting ++ before.span ∷ [])
    (set objects at.position (as_freed at.object)) id object.size object freed_hold
    (others_differ id before heap.memory.live others takes (alike.hold.ids id)) rest in
    let order : set (objects ++ new_object object.size object.span ∷ []) at.position (as_freed at.object)
    ≡ set objects at.position (as_freed at.object) ++ new_object object.size object.span ∷ [] =
    set-append_left objects (new_object object.size object.span ∷ []) at.position (as_freed at.object) within in
    let objects_are : set (objects_of next) at.position (as_freed at.object)
    ≡ set objects at.position (as_freed at.object) ++ new_object object.size object.span ∷ [] =
    ap (λ (os : List PlannedObject). set os at.position (as_freed at.object)) is.objects ∙ order in
    let at_next : slice_get (objects_of next) at.position ≡ Some at.object =
    ap (λ (os : List PlannedObject). slice_get os at.position) is.objects
    ∙ slice_get-append objects (new_object object.size object.span ∷ []) at.position at.object at.at in
    let freed = free_run settings.pool settings.align limit (numbers.made + 1) at.position (numbers.number_of id) at.object
    immediate ops replies next last is.ready at_next at.live at.number_is run in
    let hold = hold_freed immediate (with_number numbers id) frees.live waiting before.span
    (set objects at.position (as_freed at.object) ++ new_object object.size object.span ∷ []) alike.none_waits made_hold in
    let made_settings : replaces.made.settings ≡ settings =
    ap (λ (h : Heap). h.settings) makes.makes.is_new ∙ alike.settings_is in
    let memory : new.memory ≡ memory_of frees.live (waiting_with immediate waiting before.span) =
    freed_memory settings replaces.made new id before made_settings frees
    ∙ ap (λ (spans : List Span). memory_of frees.live (waiting_with immediate spans before.span)) made_waiting in
    record {
      state = freed.next;
      others = freed.others;
      alike = record {
        settings_is = ap (λ (h : Heap). h.settings) frees.is_new ∙ made_settings;
        ready = freed.ready;
        hold = subst (λ (os : List PlannedObject). HoldAlike (with_number numbers id) new.memory os)
            (sym (freed.objects ∙ ap (freed_objects immediate) objects_are))
            (subst (λ (m : Memory). HoldAlike (with_number numbers id) m (freed_objects immediate
            (set objects at.position (as_freed at.object) ++ new_object object.size object.span ∷ []))) (sym memory) hold);
        none_waits = λ waits. ap (λ (m : Memory). m.quarantined) memory
            ∙ still_none immediate waiting before.span alike.none_waits waits;
      };
      run = freed.run;
      accepted = λ all. (
        accepted_made reply is.number is.slot is.word is.held object.span is.replied,
        freed.accepted all,
      );
      spans = λ more same.
          ap (λ (r : Reply). spans_in (r ∷ replies)) is.replied
          ∙ ap (λ (spans : List Span). object.span ∷ spans) (freed.spans ∙ same);
    }

-- what is not there
none_is : (found : Option Object) → IsNone found → found ≡ None
none_is None none = refl
none_is (Some object) none = absurd (never none)
  where
    never : true ≡ false → ⊥
    never e = cc

-- the others after a change
and_then : (settings : Settings) (limit : ℕ) (heap new : Heap) (numbers : Numbers) (made : List Object) (ops : List Op)
    (replies : List Reply) (last : State) (changes all : List Change)
    → objects_made all ≡ made ++ objects_made changes
    → (follows : Follows settings limit heap numbers made ops replies last)
    → PlacesAlike changes new follows.others last → PlacesAlike all new replies last
and_then settings limit heap new numbers made ops replies last changes all are follows places = record {
  accepted = follows.accepted places.accepted;
  spans = follows.spans (objects_made changes) places.spans ∙ ap spans_of (sym are);
  held = places.held;
}

alike_along : (settings : Settings) (limit : ℕ) (changes : List Change) (heap new : Heap) (numbers : Numbers)
    (state last : State) (replies : List Reply) → AreAlike settings limit heap numbers state
    → Changes heap changes new → AllByRecursion (CanBePlanned settings.align) (objects_made changes)
    → numbers.made + (length (objects_made changes) + 3) ≤ limit
    → Run state (operations_of settings.policy numbers changes) replies last
    → PlacesAlike changes new replies last
alike_along settings limit [] heap new numbers state last (reply ∷ replies) alike changes can fits run = absurd run
alike_along settings limit [] heap new numbers state last [] alike same can fits run = record {
  accepted = tt;
  spans = refl;
  held = subst (λ (s : State). HaveSameSpans (held_spans s) (heap_spans new.memory)) (sym run)
      (subst (λ (h : Heap). HaveSameSpans (held_spans state) (heap_spans h.memory)) (sym same)
      (IsPermutation-sym (heap_spans heap.memory) (held_spans state) (same_held settings limit heap numbers state alike)));
}
alike_along settings limit (Make id object ∷ changes) heap new numbers state last replies alike
    (next, (none, makes), rest) (can, all) fits run =
    let ops : List Op = operations_of settings.policy (with_number numbers id) changes in
    let fits_now : numbers.made + (suc (length (objects_made changes)) + 3) ≤ limit = fits in
    let fits_then : numbers.made + 1 + (length (objects_made changes) + 3) ≤ limit = omega (arith, fits_now) in
    let follows = make_follows settings limit id object heap next numbers state last ops replies alike
    (none_is (lookup (nat_eq id) heap.memory.live) none) makes can (omega (arith, fits_now)) run in
    and_then settings limit next new (with_number numbers id) (object ∷ []) ops replies last changes (Make id object ∷ changes) refl
    follows (alike_along settings limit changes next new (with_number numbers id) follows.state last follows.others
    follows.alike rest all fits_then follows.run)
alike_along settings limit (Free id object ∷ changes) heap new numbers state last replies alike
    (next, frees, rest) all fits run =
    let ops : List Op = operations_of settings.policy numbers changes in
    let follows = free_follows settings limit id object heap next numbers state last ops replies alike frees run in
    and_then settings limit next new numbers [] ops replies last changes (Free id object ∷ changes) refl
    follows (alike_along settings limit changes next new numbers follows.state last follows.others
    follows.alike rest all fits follows.run)
alike_along settings limit (Replace id before object ∷ changes) heap new numbers state last replies alike
    (next, replaces, rest) (can, all) fits run =
    let ops : List Op = operations_of settings.policy (with_number numbers id) changes in
    let fits_now : numbers.made + (suc (length (objects_made changes)) + 3) ≤ limit = fits in
    let fits_then : numbers.made + 1 + (length (objects_made changes) + 3) ≤ limit = omega (arith, fits_now) in
    let follows = replace_follows settings limit id before object heap next numbers state last ops replies alike
    replaces can (omega (arith, fits_now)) run in
    and_then settings limit next new (with_number numbers id) (object ∷ []) ops replies last changes
    (Replace id before object ∷ changes) refl
    follows (alike_along settings limit changes next new (with_number numbers id) follows.state last follows.others
    follows.alike rest all fits_then follows.run)
alike_along settings limit (Sweep ∷ changes) heap new numbers state last replies alike (next, is, rest) all fits run =
    let ops : List Op = operations_of settings.policy numbers changes in
    let follows = sweep_follows settings limit heap next numbers state last ops replies alike is run in
    and_then settings limit next new numbers [] ops replies last changes (Sweep ∷ changes) refl
    follows (alike_along settings limit changes next new numbers follows.state last follows.others
    follows.alike rest all fits follows.run)

-- ---- the law

pub places_alike : (limit base size : ℕ) (settings : Settings) (changes : List Change) (heap : Heap)
    (opening replies : List Reply) (opened state : State)
    → settings.pool ≡ span_from base size
    → Run (initial_state limit) (plan_opening base size settings.align) opening opened
    → AllByRecursion IsAccepted opening
    → Changes (empty_heap settings) changes heap
    → AllByRecursion (CanBePlanned settings.align) (objects_made changes)
    → length (objects_made changes) + 3 ≤ limit
    → Run opened (operations_of settings.policy no_numbers changes) replies state
    → PlacesAlike changes heap replies state
places_alike limit base size settings changes heap opening replies opened state pool_is opens accepted along can fits run =
    let at = opened_ready limit base size settings.align opening opened opens accepted in
    let nothing : HoldAlike no_numbers (record { live = []; quarantined = [] }) [] = record {
      made = refl;
      live = λ weight. refl;
      freed = λ weight. refl;
      ids = λ id. (let few : 0 ≤ 1 = omega arith in few);
    } in
    let all_fit : 0 + (length (objects_made changes) + 3) ≤ limit = omega (arith, fits) in
    alike_along settings limit changes (empty_heap settings) heap no_numbers opened state replies (record {
      settings_is = refl;
      ready = subst (λ (p : Span). IsReady p settings.align limit 0 opened) (sym pool_is) at.0;
      hold = subst (λ (os : List PlannedObject). HoldAlike no_numbers (record { live = []; quarantined = [] }) os)
          (sym at.1) nothing;
      none_waits = λ immediate. refl;
    }) along can all_fit run
