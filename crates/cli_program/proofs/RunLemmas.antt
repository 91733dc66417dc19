-- The output of a script, from that of its run.
use Rattle.std.proofs.Common.{◌≡◌, ℕ, Bool, true, false, List, Option, Some, Result, Ok, MatchResult, subst, sym}
use Rattle.std.specs.Prelude.{IfSome}
use Rattle.std.specs.Borrow.{Bor}
use Rattle.std.proofs.lemmas.Bool.{false≢true}
use Rattle.clap.specs.Words.{Text}
use Rattle.cc_word.specs.declared.refusal.Refusal.{Refusal}
use Rattle.cc_io.specs.Devices.{InputState}
use Rattle.cc_io.specs.declared.summary.Summary.{Summary}
use Rattle.cc_bounds.specs.declared.align.Align.{Align}
use Rattle.cc_values.specs.declared.op.Op.{Op}
use Rattle.cc_machine.specs.State.{State, initial_state}
use Rattle.cc_syntax.specs.Planning.{plan_opening, pool_of}
use Rattle.cc_script.specs.declared.session.Session.{Session}
use Rattle.cli.specs.declared.invocation.PoolTexts.{PoolTexts}
use Rattle.cli.specs.Devices.{Console, FromInput, OnDevices, traffic_of}
use Rattle.cli.specs.Input.{file_input}
use Rattle.cc_io.specs.CommandOutput.{WritesRefusal}
use Rattle.cli.specs.declared.fault.Fault.{Fault}
use Rattle.cli.specs.declared.input.InputName.{InputName}
use Rattle.cli.proofs.DeviceLemmas.{from_input, on_devices-map}
use Rattle.cli_program.specs.Runs.{DrawsMap, DrawsPage, DrawsPool, DrawsRun, MapsFile, ReportsRun, StarvesPlan, StarvesRun}
use Rattle.cli_program.specs.declared.report.Report.{Report}

-- ---- drawings

pub draws_page : (svg : Bool) (session : Session) (output output_now : Option (List ℕ)) → svg ≡ true → DrawsPage session output output_now
    → DrawsPool svg session output output_now
draws_page true session output output_now is drawn = drawn
draws_page false session output output_now is drawn = absurd (false≢true is)

pub draws_map : (svg : Bool) (session : Session) (output output_now : Option (List ℕ)) → svg ≡ false → DrawsMap session output output_now
    → DrawsPool svg session output output_now
draws_map true session output output_now is drawn = absurd (false≢true (sym is))
draws_map false session output output_now is drawn = drawn

-- A drawing after a run that read an input.
pub draws_input : (svg : Bool) (opening : List Op) (start new : State) (input : InputName) (console : Console) (bytes_of : InputName → Option (List ℕ))
    (source : InputState) (remaining : Option (List ℕ)) (result : Result Summary Fault) → start ≡ new → console.input ≡ bytes_of → source.unread ≡ remaining
    → IfSome (bytes_of input) (λ bytes. remaining ≡ Some bytes) → OnDevices (DrawsRun svg opening start (traffic_of console source)) result
    → OnDevices (FromInput input console (DrawsRun svg opening new)) result
draws_input svg opening start new input console bytes_of source remaining result is same has told draws =
    on_devices-map (DrawsRun svg opening start (traffic_of console source)) (FromInput input console (DrawsRun svg opening new))
    (λ io holds. from_input input console (DrawsRun svg opening new) bytes_of source remaining io same has told
    (subst (λ (state : State). DrawsRun svg opening state (traffic_of console source) io) is holds))
    result draws

-- ---- inputs

-- The drawing of the pool that BASE and LENGTH name, from that of the pool of these numbers.
pub maps_file : (limit : ℕ) (pool : PoolTexts) (align : Align) (svg : Bool) (file : Option (Bor Text)) (console : Console) (numbers : ℕ × ℕ)
    (opening : List Op) (input : InputName) (result : Result Summary Fault) → pool_of pool.base.now pool.length.now ≡ Ok numbers
    → opening ≡ plan_opening numbers.0 numbers.1 align → input ≡ file_input file
    → OnDevices (FromInput input console (DrawsRun svg opening (initial_state limit))) result
    → OnDevices (MapsFile limit pool align svg file console) result
maps_file limit pool align svg file console numbers opening input result is_pool is_opening is_input draws =
    on_devices-map (FromInput input console (DrawsRun svg opening (initial_state limit))) (MapsFile limit pool align svg file console)
    (λ io holds.
    subst (λ (found : Result (ℕ × ℕ) Refusal). MatchResult found
    (λ pair. FromInput (file_input file) console (DrawsRun svg (plan_opening pair.0 pair.1 align) (initial_state limit)) io)
    (λ refusal. WritesRefusal console.output console.output_now refusal io)) (sym is_pool)
    (subst (λ (name : InputName). FromInput name console (DrawsRun svg (plan_opening numbers.0 numbers.1 align) (initial_state limit)) io) is_input
    (subst (λ (ops : List Op). FromInput input console (DrawsRun svg ops (initial_state limit)) io) is_opening holds)))
    result draws

-- The end of a plan for lack of memory, from that of its run.
pub plan_starves : (report : Report) (limit : ℕ) (pool : PoolTexts) (align : Align) (file : Option (Bor Text)) (console : Console) (numbers : ℕ × ℕ)
    (opening : List Op) (input : InputName) → pool_of pool.base.now pool.length.now ≡ Ok numbers → opening ≡ plan_opening numbers.0 numbers.1 align
    → input ≡ file_input file → StarvesRun report opening (initial_state limit) input console → StarvesPlan report limit pool align file console
plan_starves report limit pool align file console numbers opening input is_pool is_opening is_input starves =
    subst (λ (found : Result (ℕ × ℕ) Refusal). MatchResult found
    (λ pair. StarvesRun report (plan_opening pair.0 pair.1 align) (initial_state limit) (file_input file) console) (λ refusal. ⊥)) (sym is_pool)
    (subst (λ (name : InputName). StarvesRun report (plan_opening numbers.0 numbers.1 align) (initial_state limit) name console) is_input
    (subst (λ (ops : List Op). StarvesRun report ops (initial_state limit) input console) is_opening starves))

-- A run that read an input.
pub runs_input : (report : Report) (opening : List Op) (pool : Option ℕ) (start new : State) (input : InputName) (console : Console)
    (bytes_of : InputName → Option (List ℕ)) (source : InputState) (remaining : Option (List ℕ)) (result : Result Summary Fault) → start ≡ new → console.input ≡ bytes_of
    → source.unread ≡ remaining → IfSome (bytes_of input) (λ bytes. remaining ≡ Some bytes)
    → OnDevices (ReportsRun report opening pool start (traffic_of console source)) result
    → OnDevices (FromInput input console (ReportsRun report opening pool new)) result
runs_input report opening pool start new input console bytes_of source remaining result is same has told runs =
    on_devices-map (ReportsRun report opening pool start (traffic_of console source)) (FromInput input console (ReportsRun report opening pool new))
    (λ io holds. from_input input console (ReportsRun report opening pool new) bytes_of source remaining io same has told
    (subst (λ (state : State). ReportsRun report opening pool state (traffic_of console source) io) is holds))
    result runs
