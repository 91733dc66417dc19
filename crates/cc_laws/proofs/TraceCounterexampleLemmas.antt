-- Charts, scripts and machines that break the claims of the laws of traces.
use Rattle.std.proofs.Common.{ℕ, ◌≡◌, ◌<◌, List, [], ◌∷◌, ◌++◌, Result, length, refl, sym, ap, subst, ◌∙◌, arith}
use Rattle.std.proofs.lemmas.List.Sorted.{length_permutation}
use Rattle.cc_word.specs.declared.refusal.Refusal.{Refusal}
use Rattle.cc_bounds.specs.declared.span.Span.{Span}
use Rattle.cc_bounds.specs.Span.{span_from}
use Rattle.cc_values.specs.declared.op.Op.{Op}
use Rattle.cc_values.specs.declared.reply.Reply.TheVariants.{Allocated, Refused}
use Rattle.cc_machine.specs.State.{State}
use Rattle.cc_machine.specs.Run.{Run}
use Rattle.cc_heap.specs.declared.event.Event.{Event}
use Rattle.cc_heap.specs.declared.event.Event.TheVariants.{Clock}
use Rattle.cc_heap.specs.declared.levels.Levels.{Levels}
use Rattle.cc_heap.specs.Chart.{IsChartOf, no_chart}
use Rattle.cc_heap.specs.Levels.{greatest_of, no_levels}
use Rattle.cc_replay.specs.declared.reading.Progress.TheVariants.{Running}
use Rattle.cc_replay.specs.declared.reading.Reading.{Reading}
use Rattle.cc_heap.specs.declared.settings.Settings.{Settings}
use Rattle.cc_heap.specs.Heap.{Heap, empty_heap, no_totals}
use Rattle.cc_heap.specs.Lost.{empty_run}
use Rattle.cc_heap.specs.Memory.{Memory, usage_of}
use Rattle.cc_replay.specs.Replay.{ReplayState, begun}
use Rattle.cc_replay.specs.Changes.{AreChangesOf, Change}
use Rattle.cc_replay.specs.Changes.Change.{Sweep}
use Rattle.cc_replay.specs.Operations.{no_numbers, operation_lines, operations_of}
use Rattle.cli_replay.specs.Charting.{begun_chart}
use Rattle.cc_laws.specs.ChartedRun.{HasLevels, RunsWithLevels, ShowsRun}
use Rattle.cc_laws.specs.OneOutcome.{AreAlikeReplays}
use Rattle.cc_laws.specs.Translation.{HasScript, IsFollowed, IsReadAs, IsTranslated, PlacesAlike}
use Rattle.cc_laws.specs.Witnesses.{with_first_object}

-- ---- charts

-- an empty chart shows no events
none-shown : (first : Levels) (others : List Levels) → ¬ IsChartOf (first ∷ others) no_chart
none-shown first others shows =
    let same : length (first ∷ others) ≡ length shows.remaining = ap (λ (l : List Levels). length l) shows.columns in
    let filled : 0 ≡ length shows.remaining = shows.filled in
    absurd (omega (arith, same, filled))

pub event-breaks : (levels : Levels) → ¬ IsChartOf (levels ∷ []) no_chart
event-breaks levels = none-shown levels []

pub levels-break : (levels : Levels) → 0 < levels.live → ¬ IsChartOf (levels ∷ []) (record no_chart { columns = no_levels ∷ [] })
levels-break levels some shows = by_column shows.columns.0 shows.columns.1 shows.columns.2 shows.columns.3 shows.columns.4
  where
    by_column : (mine others : List Levels) → levels ∷ [] ≡ mine ++ others → length mine ≡ 1 → no_levels ≡ greatest_of mine → ⊥
    by_column [] others parts one is = absurd (omega (arith, one))
    by_column (first ∷ []) others parts one is =
        let same : levels ≡ first = (let e = parts in cc) in
        let live : 0 ≡ (greatest_of (first ∷ [])).live = ap (λ (l : Levels). l.live) is in
        let first_live : levels.live ≡ first.live = ap (λ (l : Levels). l.live) same in
        absurd (omega (arith, live, first_live, some))
    by_column (first ∷ second ∷ more) others parts one is = absurd (omega (arith, one))

pub run-breaks : (settings : Settings) (reading : Reading) (time : ℕ)
    → ¬ ShowsRun (empty_heap settings) (Clock time ∷ []) (begun_chart settings reading)
run-breaks settings reading time shown = by_parts shown.taken shown.left shown.in_order (shown.all refl) shown.levels shown.runs shown.shows
  where
    by_parts : (taken left : List Event) → Clock time ∷ [] ≡ taken ++ left → left ≡ [] → (levels : List Levels)
        → RunsWithLevels (empty_heap settings) taken levels (empty_heap settings) → ¬ IsChartOf levels no_chart
    by_parts [] left parts none levels runs shows =
        let same : 1 ≡ length left = ap (λ (l : List Event). length l) parts in
        let nothing : length left ≡ 0 = ap (λ (l : List Event). length l) none in
        absurd (omega (arith, same, nothing))
    by_parts (event ∷ taken) left parts none [] runs shows = absurd runs
    by_parts (event ∷ taken) left parts none (first ∷ others) runs shows = none-shown first others shows

-- ---- scripts

-- of no events no events are the first
none-taken : (taken left : List Event) → [] ≡ taken ++ left → taken ≡ []
none-taken [] left parts = refl
none-taken (event ∷ taken) left parts = let same : 0 ≡ length (event ∷ taken ++ left) = ap (λ (l : List Event). length l) parts in absurd (omega (arith, same))

-- and they have no changes
no-changes : (settings : Settings) (output : List ℕ) (heap : Heap) (script : HasScript settings [] Running output heap) → script.changes ≡ []
no-changes settings output heap script =
    let none = none-taken script.taken script.left script.in_order in
    (subst (λ (taken : List Event). AreChangesOf (empty_heap settings) taken script.changes heap) none script.of_events).0

pub line-breaks : (settings : Settings) → ¬ HasScript settings [] Running (10 ∷ []) (empty_heap settings)
line-breaks settings script =
    let none = no-changes settings (10 ∷ []) (empty_heap settings) script in
    let same : 10 ∷ [] ≡ [] =
    script.output_is ∙ ap (λ (changes : List Change). operation_lines (operations_of settings.policy no_numbers changes)) none in
    let count : 1 ≡ 0 = ap (λ (l : List ℕ). length l) same in
    absurd (omega (arith, count))

-- ---- machines

pub accepted-breaks : (heap : Heap) (state : State) (refusal : Refusal) → ¬ PlacesAlike [] heap (Refused refusal ∷ []) state
accepted-breaks heap state refusal places = places.accepted.0

pub spans-break : (heap : Heap) (state : State) → ¬ PlacesAlike [] heap (Allocated 1 1 0 (span_from 0 16) 16 ∷ []) state
spans-break heap state places =
    let count : 1 ≡ 0 = ap (λ (l : List Span). length l) places.spans in
    absurd (omega (arith, count))

pub held-breaks : (settings : Settings) → ¬ PlacesAlike [] (empty_heap settings) [] with_first_object
held-breaks settings places =
    let count : 0 ≡ 1 = length_permutation (span_from 0 16 ∷ []) [] places.held in
    absurd (omega (arith, count))

pub machine-breaks : (settings : Settings) → ¬ IsFollowed settings [] Running [] (empty_heap settings) with_first_object
machine-breaks settings followed =
    let script = followed.script in
    let none = no-changes settings [] (empty_heap settings) script in
    let run : Run with_first_object (operations_of settings.policy no_numbers script.changes) [] with_first_object =
    subst (λ (changes : List Change). Run with_first_object (operations_of settings.policy no_numbers changes) [] with_first_object) (sym none) refl in
    held-breaks settings
    (subst (λ (changes : List Change). PlacesAlike changes (empty_heap settings) [] with_first_object) none
    (followed.places [] with_first_object run))

-- ---- levels

pub high-breaks : (settings : Settings) (levels : Levels) → 0 < levels.high → ¬ HasLevels (empty_heap settings) (empty_heap settings) levels
high-breaks settings levels some has = let high : levels.high ≡ 0 = has.high in absurd (omega (arith, some, high))

abbrev waiting : Memory
waiting = record { live = []; quarantined = span_from 0 16 ∷ [] }

quarantine-bytes : (usage_of waiting).quarantine ≡ 16
quarantine-bytes = refl

pub quarantine-breaks : (settings : Settings) (old : Heap) (levels : Levels) → levels.quarantine ≡ 0
    → ¬ HasLevels old (record (empty_heap settings) { memory = waiting }) levels
quarantine-breaks settings old levels none has =
    let quarantine = has.quarantine in absurd (omega (arith, none, quarantine, quarantine-bytes))

pub no_event-breaks : (old new : Heap) (levels : Levels) → ¬ RunsWithLevels old [] (levels ∷ []) new
no_event-breaks old new levels runs = runs

-- ---- replays

pub time-breaks : (settings : Settings) (reading : Reading) → ¬ AreAlikeReplays (begun (empty_run settings) reading)
    (record (begun (empty_run settings) reading) { time = 1 })
time-breaks settings reading alike =
    let same : 1 ≡ 0 = ap (λ (s : ReplayState). s.time) alike.rest in absurd (omega (arith, same))

-- ---- changes

pub changes-break : (settings : Settings) → ¬ AreChangesOf (empty_heap settings) [] (Sweep ∷ []) (empty_heap settings)
changes-break settings are =
    let count : 1 ≡ 0 = ap (λ (l : List Change). length l) are.0 in absurd (omega (arith, count))

pub heap-breaks : (settings : Settings) (opened : State) → ¬ IsTranslated settings []
    (record (empty_heap settings) { totals = record no_totals { sweeps = 1 } }) opened
heap-breaks settings opened translated =
    let same : 1 ≡ 0 = ap (λ (h : Heap). h.totals.sweeps) translated.of_events.1 in absurd (omega (arith, same))

pub opened-breaks : (settings : Settings) → ¬ IsTranslated settings [] (empty_heap settings) with_first_object
opened-breaks settings translated =
    let none = translated.of_events.0 in
    let run : Run with_first_object (operations_of settings.policy no_numbers translated.changes) [] with_first_object =
    subst (λ (changes : List Change). Run with_first_object (operations_of settings.policy no_numbers changes) [] with_first_object) (sym none) refl in
    held-breaks settings
    (subst (λ (changes : List Change). PlacesAlike changes (empty_heap settings) [] with_first_object) none
    (translated.places [] with_first_object run))

pub read-breaks : ¬ IsReadAs (10 ∷ []) []
read-breaks reads =
    let count : 1 ≡ 0 = ap (λ (l : List (Result Op Refusal)). length l) reads.0 in absurd (omega (arith, count))

pub rest-breaks : ¬ IsReadAs (120 ∷ []) []
rest-breaks reads = let count : 1 ≡ 0 = ap (λ (l : List ℕ). length l) reads.1 in absurd (omega (arith, count))
