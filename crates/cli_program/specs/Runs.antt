-- The output of `run`, `plan` and `map`, by their input.
use Rattle.std.specs.Prelude.{◌≡◌, ◌⊎◌, ⊤, ℕ, Bool, true, false, IfSome, List, ◌++◌, Option, Some, None, Result, Ok, Err, OnOk, MatchResult}
use Rattle.std.specs.Borrow.{Bor}
use Rattle.std.specs.Io.KnownBytes.{Appends}
use Rattle.clap.specs.Words.{Text}
use Rattle.cc_io.specs.Devices.{InputState}
use Rattle.cc_io.specs.declared.summary.IoError.{IoError}
use Rattle.cc_io.specs.declared.summary.IoError.TheVariants.{Read, Write}
use Rattle.cc_io.specs.declared.summary.Summary.{Summary}
use Rattle.cc_bounds.specs.declared.align.Align.{Align}
use Rattle.cc_values.specs.declared.op.Op.{Op}
use Rattle.cc_values.specs.declared.reply.Reply.{Reply}
use Rattle.cc_machine.specs.State.{State, initial_state}
use Rattle.cc_machine.specs.Planned.{plan_of}
use Rattle.cc_draw.specs.Drawing.{IsDrawing}
use Rattle.cc_draw.specs.Map.{IsMap}
use Rattle.cc_syntax.specs.Planning.{plan_opening, pool_of}
use Rattle.cc_script.specs.Main.{Main}
use Rattle.cc_script.specs.Running.{RunsSession}
use Rattle.cc_script.specs.declared.session.Session.{Session}
use Rattle.cc_syntax.specs.Statistics.{statistics_text}
use Rattle.cc_syntax.specs.Tally.{Exchange, IsTally}
use Rattle.cc_values.specs.declared.usage.Usage.{Usage}
use Rattle.cli.specs.declared.invocation.PoolTexts.{PoolTexts}
use Rattle.cli.specs.Devices.{Console, FromInput, Traffic, traffic_of}
use Rattle.cli.specs.declared.input.InputName.{InputName}
use Rattle.cli.specs.Input.{file_input}
use Rattle.cc_io.specs.CommandOutput.{WritesRefusal}
use Rattle.cli_program.specs.Report.{IsMachineUsage, WritesReport}
use Rattle.cli_program.specs.declared.report.Report.{Report}

-- MeetsFrom holds if the main theorem does of a run from the state `start` that wrote to this output.
abbrev pub MeetsFrom : (opening : List Op) (start : State) (unread left output output_now : Option (List ℕ)) → Result Summary IoError → Type 0
MeetsFrom opening start unread left output output_now result =
    (end : State)
    × Main opening (record { machine = start; unread = unread; taken = output }) result (record { machine = end; unread = left; taken = output_now })

-- CompletesRun holds if the main theorem does of a run that came to its end: the whole output of the script was written.
abbrev pub CompletesRun : (opening : List Op) (start : State) → Traffic → Type 0
CompletesRun opening start traffic =
    (summary : Summary) × MeetsFrom opening start traffic.source.unread traffic.source_now.unread traffic.output.taken traffic.output_now.taken (Ok summary)

-- StarvesRun holds if memory ran out in a run before anything was written, or, if a summary is requested, after all was.
abbrev pub StarvesRun : Report → (opening : List Op) (start : State) → InputName → Console → Type 0
StarvesRun report opening start input console =
    (console.output_now.taken ≡ console.output.taken)
    ⊎ ((report.stats ≡ true) × (source : InputState) × IfSome (console.input input) (λ bytes. source.unread ≡ Some bytes)
    × CompletesRun opening start (traffic_of console source))

-- ReportsRun holds if a machine in the state `start` took the operations of `opening` and then the script, the bytes written are
-- its replies, up to a failure, and a run that came to its end was reported.
pub record ReportsRun (report : Report) (opening : List Op) (pool : Option ℕ) (start : State) (traffic : Traffic) (result : Result Summary IoError) : Type 0 where
  pub session : Session
  pub runs :
      RunsSession 65536 opening (record { machine = start; unread = traffic.source.unread; taken = traffic.output.taken }) result session.tally
      (record { machine = session.machine.now; unread = traffic.source_now.unread; taken = traffic.output_now.taken })
  pub reported : OnOk result (traffic.errors_now.has_failed ≡ false → (first : List Reply) (exchanges : List Exchange)
      → IsTally first exchanges session.tally → WritesReport report session first exchanges pool traffic.errors.taken traffic.errors_now.taken)

-- DrawsMap holds if the map of the machine's pool was written, and then the statistics of the run: what the machine uses, and the
-- tally of the replies.
pub record DrawsMap (session : Session) (output output_now : Option (List ℕ)) : Type 0 where
  pub map : List ℕ
  pub usage : Usage
  pub is_map : IsMap (plan_of session.machine.now) map
  pub is_usage : IsMachineUsage session.machine.now usage
  pub written : Appends output output_now (map ++ statistics_text usage session.tally)

-- DrawsPage holds if the drawing of the machine's pool was written.
pub record DrawsPage (session : Session) (output output_now : Option (List ℕ)) : Type 0 where
  pub page : List ℕ
  pub is_drawing : IsDrawing (plan_of session.machine.now) page
  pub written : Appends output output_now page

-- DrawsPool holds if the pool was drawn: as an SVG document, or as a map.
abbrev pub DrawsPool : (svg : Bool) → Session → (output output_now : Option (List ℕ)) → Type 0
DrawsPool true session output output_now = DrawsPage session output output_now
DrawsPool false session output output_now = DrawsMap session output output_now

-- DrawsEnd holds if a machine in the state `start` took the operations of `opening` and then the script to its end, and its pool was
-- drawn as it is then. The summary says whether a reply is an error.
pub record DrawsEnd (svg : Bool) (opening : List Op) (start : State) (traffic : Traffic) (summary : Summary) : Type 0 where
  pub session : Session
  pub runs :
      RunsSession 65536 opening (record { machine = start; unread = traffic.source.unread; taken = None }) (Ok summary) session.tally
      (record { machine = session.machine.now; unread = traffic.source_now.unread; taken = None })
  pub drawn : DrawsPool svg session traffic.output.taken traffic.output_now.taken

-- DrawsRun holds if the pool was drawn at the end of the run. Nothing was written if a read failed.
abbrev pub DrawsRun : (svg : Bool) (opening : List Op) (start : State) → Traffic → Result Summary IoError → Type 0
DrawsRun svg opening start traffic (Ok summary) = DrawsEnd svg opening start traffic summary
DrawsRun svg opening start traffic (Err Read) = traffic.output_now.taken ≡ traffic.output.taken
DrawsRun svg opening start traffic (Err Write) = ⊤

-- WithPool holds if `Does` holds for BASE and LENGTH, or if they are not numbers that a pool can have and are refused.
abbrev pub WithPool : (pool : PoolTexts) → Console → (Does : (base size : ℕ) → Result Summary IoError → Type 0) → Result Summary IoError → Type 0
WithPool pool console Does result =
    MatchResult (pool_of pool.base.now pool.length.now) (λ numbers. Does numbers.0 numbers.1 result)
    (λ refusal. WritesRefusal console.output console.output_now refusal result)

-- PlansFile holds if the script that FILE names ran on a machine with a pool, and the run was reported, or the pool was refused.
abbrev pub PlansFile : Report → (limit : ℕ) → PoolTexts → Align → (file : Option (Bor Text)) → Console → Result Summary IoError → Type 0
PlansFile report limit pool align file console result =
    WithPool pool console
    (λ base size. FromInput (file_input file) console (ReportsRun report (plan_opening base size align) (Some size) (initial_state limit))) result

-- MapsFile holds if the script that FILE names ran on a machine with a pool, and the pool was drawn, or was refused.
abbrev pub MapsFile : (limit : ℕ) → PoolTexts → Align → (svg : Bool) → (file : Option (Bor Text)) → Console → Result Summary IoError → Type 0
MapsFile limit pool align svg file console result =
    WithPool pool console (λ base size. FromInput (file_input file) console (DrawsRun svg (plan_opening base size align) (initial_state limit))) result

-- StarvesPlan holds if BASE and LENGTH are an address and a length, and memory ran out in the run on it as `StarvesRun` says.
abbrev pub StarvesPlan : Report → (limit : ℕ) → PoolTexts → Align → (file : Option (Bor Text)) → Console → Type 0
StarvesPlan report limit pool align file console =
    MatchResult (pool_of pool.base.now pool.length.now)
    (λ numbers. StarvesRun report (plan_opening numbers.0 numbers.1 align) (initial_state limit) (file_input file) console) (λ refusal. ⊥)
