-- At the end of a trace's script, as many bytes are held as at the end of its replay.
use Rattle.std.proofs.Common.{ℕ, Bool, ◌≡◌, ◌≢◌, ◌+◌, ◌≤◌, List, [], ◌∷◌, ◌++◌, map, None, Result, Ok, arith, refl, sym, ap, subst, ◌∙◌, append-nil}
use Rattle.std.specs.List.{AllByRecursion}
use Rattle.std.proofs.lemmas.List.Sorted.{sum_by-IsPermutation}
use Rattle.std.proofs.lemmas.List.Sums.{sum_by-append}
use Rattle.cc_word.specs.declared.refusal.Refusal.{Refusal}
use Rattle.cc_bounds.specs.declared.span.Span.{Span}
use Rattle.cc_bounds.specs.Span.{length_of, span_from}
use Rattle.cc_io.specs.Answers.{Output}
use Rattle.cc_io.specs.Frames.{lines}
use Rattle.cc_io.specs.Lines.{lines_of}
use Rattle.cc_values.specs.declared.op.Op.{Op}
use Rattle.cc_values.specs.declared.reply.Reply.{Reply}
use Rattle.cc_syntax.specs.Planning.{plan_opening}
use Rattle.cc_machine.specs.State.{State, initial_state}
use Rattle.cc_machine.specs.Objects.{held_bytes_of, held_spans}
use Rattle.cc_machine.specs.Run.{Run}
use Rattle.cc_placer.specs.Placement.{HaveSameSpans}
use Rattle.cc_heap.specs.declared.event.Event.{Event}
use Rattle.cc_replay.specs.declared.reading.Progress.{Progress}
use Rattle.cc_replay.specs.declared.reading.Progress.TheVariants.{Running, OutOfMemory}
use Rattle.cc_replay.specs.declared.reading.Reading.{Reading}
use Rattle.cc_heap.specs.declared.settings.Settings.{Settings}
use Rattle.cc_heap.specs.declared.usage.Usage.{Usage}
use Rattle.cc_heap.specs.Heap.{Heap, empty_heap}
use Rattle.cc_heap.specs.Lost.{empty_run}
use Rattle.cc_heap.specs.Memory.{Memory, memory_spans as heap_spans, object_span, usage_of}
use Rattle.cc_heap.specs.Run.{Runs}
use Rattle.cc_replay.specs.Replay.{ReplayState, TakesLine, TakesRest, begun, events_in}
use Rattle.cc_replay.specs.Changes.{AreChangesOf, Change}
use Rattle.cc_replay.specs.Operations.{no_numbers, operations_of}
use Rattle.cc_replay.specs.Script.{ScriptState, ScriptsLine, ScriptsRest, script_begun}
use Rattle.cc_laws.specs.OneOutcome.{AreAlike}
use Rattle.cc_laws.specs.Translation.{IsAccepted, IsReadAs}
use Rattle.cc_laws.proofs.AlikeHeapLemmas.{usage_along, sum_spans}
use Rattle.cc_laws.proofs.OneSummaryLemmas.{one_heap}
use Rattle.cc_laws.proofs.OutputLemmas.{followed}
use Rattle.cc_laws.proofs.TakenLemmas.{replays_run_heaps}

-- the bytes that a heap holds
abbrev pub heap_bytes : Memory → ℕ
heap_bytes memory = (usage_of memory).live + (usage_of memory).quarantine

held-bytes : (memory : Memory) (state : State) → HaveSameSpans (held_spans state) (heap_spans memory) → held_bytes_of state ≡ heap_bytes memory
held-bytes memory state same =
    omega (
      arith,
      sum_by-IsPermutation length_of (held_spans state) (heap_spans memory) same,
      sum_by-append length_of (map object_span memory.live) memory.quarantined,
      sum_spans length_of memory.live,
    )

alike-bytes : (one other : Heap) → AreAlike one other → heap_bytes other.memory ≡ heap_bytes one.memory
alike-bytes one other alike =
    ap (λ (q : List Span). heap_bytes (record { live = other.memory.live; quarantined = q })) alike.quarantined
    ∙ ap (λ (u : Usage). u.live + u.quarantine)
    (usage_along one.memory.live other.memory.live one.memory.quarantined (λ weight.
    sum_by-IsPermutation weight one.memory.live other.memory.live alike.live))

-- the changes of events are of a run of these
changes-run : (old new : Heap) (events : List Event) (changes : List Change) → AreChangesOf old events changes new → Runs old events new
changes-run old new [] changes are = are.1
changes-run old new (event ∷ events) changes are = (are.2, are.3, are.5, changes-run are.3 new events are.1 are.7)

-- a text is read as one list of operations
one-reading : (ops others : List Op) → map {B = Result Op Refusal} Ok ops ≡ map Ok others → ops ≡ others
one-reading [] [] same = refl
one-reading (op ∷ ops) (other ∷ others) same =
    let first : op ≡ other = (let e = same in cc) in
    let rest : map {B = Result Op Refusal} Ok ops ≡ map Ok others = (let e = same in cc) in
    let tail = one-reading ops others rest in
    λ i. first i ∷ tail i
one-reading [] (other ∷ others) same = absurd (let e = same in cc)
one-reading (op ∷ ops) [] same = absurd (let e = same in cc)

pub held-again : (limit base size : ℕ) (settings : Settings) (reading : Reading) (text script series : List ℕ) (any_error is_error : Bool)
    (scripted : ScriptState) (replayed : ReplayState) (opening replies : List Reply) (opened state : State) (ops : List Op)
    → Output ScriptsLine ScriptsRest lines (script_begun settings reading) text script any_error scripted → scripted.progress ≡ Running
    → Output TakesLine TakesRest lines (begun (empty_run settings) reading) text series is_error replayed → replayed.progress ≡ Running
    → settings.pool ≡ span_from base size
    → Run (initial_state limit) (plan_opening base size settings.align) opening opened → AllByRecursion IsAccepted opening → 65536 ≤ limit
    → IsReadAs script ops → Run opened ops replies state
    → held_bytes_of state ≡ (usage_of replayed.run.heap.memory).live + (usage_of replayed.run.heap.memory).quarantine
held-again limit base size settings reading text script series any_error is_error scripted replayed opening replies opened state ops
    writes taken replays taken_too pool_is opens accepted slots reads run =
    let events = events_in reading.format None (lines_of text) in
    let follows = followed limit base size settings reading scripted text script any_error opening opened writes (running scripted.progress taken)
    pool_is opens accepted slots in
    let has = follows.script in
    let all : has.taken ≡ events = sym (append-nil has.taken) ∙ ap (λ (left : List Event). has.taken ++ left) (sym (has.all taken)) ∙ sym has.in_order in
    let scripts : Runs (empty_heap settings) events scripted.heap =
    subst (λ (e : List Event). Runs (empty_heap settings) e scripted.heap) all
    (changes-run (empty_heap settings) scripted.heap has.taken has.changes has.of_events) in
    let runs = replays_run_heaps (begun (empty_run settings) reading) replayed text series is_error replays taken_too in
    let alike = one_heap settings events scripted.heap replayed.run.heap scripts runs in
    let own : ops ≡ operations_of settings.policy no_numbers has.changes =
    one-reading ops (operations_of settings.policy no_numbers has.changes) (sym reads.0 ∙ follows.reads.0) in
    let places = follows.places replies state (subst (λ (o : List Op). Run opened o replies state) own run) in
    held-bytes scripted.heap.memory state places.held ∙ sym (alike-bytes scripted.heap replayed.run.heap alike)
  where
    running : (progress : Progress) → progress ≡ Running → progress ≢ OutOfMemory
    running progress is out = let e = sym is ∙ out in cc
