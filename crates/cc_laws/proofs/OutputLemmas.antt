-- The script of a trace, and a machine that takes it.
use Rattle.std.proofs.Common.{ℕ, Bool, ◌≡◌, ◌≢◌, ◌+◌, ◌<◌, ◌≤◌, ◌^◌, List, None, length, arith, refl, sym, ap, subst, ◌∙◌}
use Rattle.std.specs.List.{AllByRecursion}
use Rattle.cc_bounds.specs.declared.span.Span.{Span}
use Rattle.cc_bounds.specs.Span.{IsSpan, span_from}
use Rattle.cc_io.specs.Answers.{Output}
use Rattle.cc_io.specs.Frames.{lines}
use Rattle.cc_io.specs.Lines.{lines_of}
use Rattle.cc_values.specs.declared.op.Op.{Op}
use Rattle.cc_values.specs.declared.reply.Reply.{Reply}
use Rattle.cc_syntax.specs.Planning.{plan_opening}
use Rattle.cc_machine.specs.State.{State, initial_state}
use Rattle.cc_machine.specs.Run.{Run}
use Rattle.cc_machine.proofs.TreeLemmas.{Keeps-reached}
use Rattle.cc_laws.proofs.StepTotalLemmas.{Run-outcome}
use Rattle.cc_heap.specs.declared.settings.Settings.{Settings}
use Rattle.cc_heap.specs.Heap.{empty_heap}
use Rattle.cc_replay.specs.declared.reading.Progress.TheVariants.{OutOfMemory}
use Rattle.cc_replay.specs.declared.reading.Reading.{Reading}
use Rattle.cc_replay.specs.Replay.{events_in}
use Rattle.cc_replay.specs.Changes.{objects_made}
use Rattle.cc_replay.specs.Operations.{no_numbers, operations_of}
use Rattle.cc_replay.specs.Script.{ScriptState, ScriptsLine, ScriptsRest, script_begun}
use Rattle.cc_laws.proofs.ScriptedLemmas.{output_is_script}
use Rattle.cc_laws.specs.Translation.{IsAccepted, IsFollowed, IsReadAs}
use Rattle.cc_laws.proofs.PlacedAlikeLemmas.{places_alike}
use Rattle.cc_laws.proofs.OpeningLemmas.{opened_ready}
use Rattle.cc_laws.proofs.ReadLemmas.{CanBeRead, all_can, all_in_space, read_back}

pub followed : (limit base size : ℕ) (settings : Settings) (reading : Reading) (new : ScriptState) (text output : List ℕ)
    (any_error : Bool) (opening : List Reply) (opened : State)
    → Output ScriptsLine ScriptsRest lines (script_begun settings reading) text output any_error new
    → new.progress ≢ OutOfMemory
    → settings.pool ≡ span_from base size
    → Run (initial_state limit) (plan_opening base size settings.align) opening opened
    → AllByRecursion IsAccepted opening
    → 65536 ≤ limit
    → IsFollowed settings (events_in reading.format None (lines_of text)) new.progress output new.heap opened
followed limit base size settings reading new text output any_error opening opened is has_memory pool_is opens accepted slots =
    let script = output_is_script settings reading new text output any_error is has_memory in
    let ready = (opened_ready limit base size settings.align opening opened opens accepted).0 in
    let span : IsSpan ready.slot.capability.span =
    ((Keeps-reached opened ready.reached).holds ready.number ready.slot ready.is_pool.is_slot).is_span in
    let pool_top : ready.slot.capability.span.top ≡ settings.pool.top =
    ap (λ (s : Span). s.top) (ready.pool_is ∙ sym pool_is) in
    let top : settings.pool.top ≤ 2 ^ 64 = omega (arith, span.top_fits, pool_top) in
    let few : 0 + length (objects_made script.changes) < 2 ^ 32 = omega (arith, script.few) in
    let ops : List Op = operations_of settings.policy no_numbers script.changes in
    let can : AllByRecursion CanBeRead ops =
    all_can settings script.changes (empty_heap settings) new.heap no_numbers refl top script.are few
    (λ id. (let none : 0 ≤ 0 = omega arith in none)) in
    let outcome = Run-outcome opened ops ready.reached (all_in_space ops can) in
    record {
      script = script;
      reads = subst (λ (t : List ℕ). IsReadAs t ops) (sym script.output_is)
          (read_back ops can);
      runs = (outcome.replies, outcome.new, outcome.run);
      places = λ replies state run.
          places_alike limit base size settings script.changes new.heap opening replies opened state pool_is opens accepted
          script.are script.plannable (omega (arith, script.few, slots)) run;
    }
