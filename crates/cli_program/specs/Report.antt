-- The report of a run on standard error.
use Rattle.std.specs.Prelude.{ℕ, Bool, true, false, ◌≡◌, ◌||◌, List, [], ◌++◌, Option, if◌then◌else◌, length}
use Rattle.std.specs.Io.KnownBytes.{Appends}
use Rattle.cc_values.specs.declared.reply.Reply.{Reply}
use Rattle.cc_syntax.specs.Hints.{hints_of, hints_text}
use Rattle.cc_machine.specs.Planned.{plan_of}
use Rattle.cc_machine.specs.State.{State}
use Rattle.cc_script.specs.declared.session.Session.{Session}
use Rattle.cc_syntax.specs.Statistics.{statistics_text}
use Rattle.cc_syntax.specs.Tally.{Exchange}
use Rattle.cc_draw.specs.Usage.{IsUsage}
use Rattle.cc_values.specs.declared.usage.Usage.{Usage}
use Rattle.cli_program.specs.declared.report.Report.{Report}
use Rattle.cli_program.specs.declared.terminals.Terminals.{Terminals}

-- The report with or without `--stats`: the statistics if they are requested; hints if they are, or if standard error is a terminal.
abbrev pub report_of : (stats : Bool) → Terminals → Report
report_of stats terminals = record { stats = stats; hints = stats || terminals.errors }

-- IsMachineUsage holds if a machine in this state has this usage: of its slots and of its plan.
abbrev pub IsMachineUsage : State → Usage → Type 0
IsMachineUsage state usage = IsUsage (length state.slots) (plan_of state) usage

-- IsStatistics holds if the text is the statistics of a run that ends with this session, or is empty if none are requested.
abbrev pub IsStatistics : (requested : Bool) → Session → (text : List ℕ) → Type 0
IsStatistics false session text = text ≡ []
IsStatistics true session text = (usage : Usage) × IsMachineUsage session.machine.now usage × (text ≡ statistics_text usage session.tally)

-- The hints after a run with these replies to its opening, and these lines with their replies, or no bytes if no hints are
-- written.
abbrev pub hints_given : (given : Bool) (opening : List Reply) (exchanges : List Exchange) (pool : Option ℕ) → List ℕ
hints_given given opening exchanges pool = if given then hints_text (hints_of opening exchanges pool) else []

-- WritesReport holds if the statistics of a run were written, and then the hints, as far as the report has them. `session` is the
-- one at the end of the run; `opening` are the replies to the opening, and `exchanges` the lines with their replies.
pub record WritesReport (report : Report) (session : Session) (opening : List Reply) (exchanges : List Exchange) (pool : Option ℕ) (taken taken_now : Option (List ℕ)) : Type 0 where
  pub statistics : List ℕ
  pub is_statistics : IsStatistics report.stats session statistics
  pub written : Appends taken taken_now (statistics ++ hints_given report.hints opening exchanges pool)
