-- The output of `replay`, by its trace.
use Rattle.std.specs.Prelude.{ℕ, ⊤, List, [], ◌∷◌, Option, Some, Result, MatchResult}
use Rattle.cc_io.specs.Correct.{Pumps}
use Rattle.cc_io.specs.Frames.{lines}
use Rattle.cc_io.specs.declared.summary.IoError.{IoError}
use Rattle.cc_io.specs.declared.summary.Summary.{Summary}
use Rattle.cc_heap.specs.Lost.{empty_run}
use Rattle.cc_replay.specs.Group.{EachTakes, any_ran_out, are_over, begun_group, policies_text}
use Rattle.cc_replay.specs.Replay.{ReplayState, TakesLine, TakesRest, begun, figures_of, last_sample, most_sample, series_header}
use Rattle.cc_replay.specs.Rows.{table_text}
use Rattle.cc_replay.specs.Script.{ScriptState, ScriptsLine, ScriptsRest, script_begun}
use Rattle.cc_replay.specs.SizeTable.{sizes_text}
use Rattle.cc_replay.specs.Summary.{summary_rows}
use Rattle.cc_replay.specs.declared.reading.Reading.{Reading}
use Rattle.cc_replay.specs.Reading.{is_over, ran_out}
use Rattle.cc_heap.specs.declared.policy.Policy.{Policy}
use Rattle.cc_heap.specs.declared.settings.Settings.{Settings}
use Rattle.cc_replay.specs.declared.table.Format.{Format}
use Rattle.cc_replay.specs.declared.table.Format.TheVariants.{Text, Csv, Json}
use Rattle.cli.specs.declared.invocation.ReplayOutput.{ReplayOutput}
use Rattle.cli.specs.declared.invocation.ReplayOutput.TheVariants as output
use Rattle.cli.specs.declared.invocation.ReplayValues.{ReplayValues}
use Rattle.cli.specs.declared.invocation.SummaryFormat.{SummaryFormat}
use Rattle.cli.specs.declared.invocation.SummaryFormat.TheVariants as summary
use Rattle.cli.specs.Devices.{Console, Traffic}
use Rattle.cli_replay.specs.Charting.{Charted, ChartsLine, ChartsRest, begun_chart, charted_text}
use Rattle.cli_replay.specs.Outputs.{Samples, Scripts, SumsUp, Taking}
use Rattle.cli_replay.specs.ReplayValues.{replay_in}
use Rattle.cli_replay.specs.declared.replay_values.ReplayRequest.{ReplayRequest}
use Rattle.cc_io.specs.CommandOutput.{WritesRefusal}

-- The format of a table.
abbrev pub table_format : SummaryFormat → Format
table_format summary.Text = Text
table_format summary.Csv = Csv
table_format summary.Json = Json

-- The text that is written of a replay at the end of its trace: the summary, the table of sizes, or of a series the last sample.
abbrev pub replay_text : ReplayOutput → ReplayState → List ℕ
replay_text (output.Summary format) state = table_text (table_format format) (summary_rows (figures_of state))
replay_text (output.Sizes format) state = sizes_text (table_format format) state.run.sizes
replay_text _ state = last_sample state

-- The format of the tables of an output, or `text`.
abbrev pub format_of : ReplayOutput → SummaryFormat
format_of (output.Summary format) = format
format_of (output.Sizes format) = format
format_of _ = summary.Text

-- The text that is written of several replays: the table of their summaries.
abbrev pub group_text : ReplayOutput → List ReplayState → List ℕ
group_text output states = policies_text (table_format (format_of output)) states

-- Replays holds if the replay took the lines that the source gave, and the bytes after the last of them, until it had the state `new`.
-- The samples were written. With a result that is `Ok` the source was read to its end, or until no further line is taken.
abbrev pub Replays : (old : ReplayState) → Taking ReplayState
Replays old = Pumps (λ state. is_over state.progress) TakesLine TakesRest lines 65536 most_sample old (series_header old)

-- Like `Replays`, but of a replay and the chart of its heap.
abbrev pub Charts : (old : Charted) → Taking Charted
Charts old = Pumps (λ state. is_over state.replay.progress) ChartsLine ChartsRest lines 65536 most_sample old []

-- Like `Replays`, but of replays that each take every line.
abbrev pub GroupReplays : (old : List ReplayState) → Taking (List ReplayState)
GroupReplays old = Pumps are_over (EachTakes TakesLine) (EachTakes TakesRest) lines 65536 0 old []

-- Like `Replays`, but of a script. The lines of its operations were written.
abbrev pub Writes : (old : ScriptState) → Taking ScriptState
Writes old = Pumps (λ state. is_over state.progress) ScriptsLine ScriptsRest lines 65536 128 old []

-- ReplaysEach holds if the trace was replayed on a heap of these settings that held nothing, and on one with each other policy, and
-- this output of it was written. Only a summary is of several heaps.
abbrev pub ReplaysEach : ReplayOutput → Settings → (others : List Policy) → Reading → Traffic → Result Summary IoError → Type 0
ReplaysEach (output.Summary format) settings (policy ∷ policies) reading =
    SumsUp (GroupReplays (begun_group settings (policy ∷ policies) reading)) any_ran_out (group_text (output.Summary format))
ReplaysEach output.Chart settings others reading = SumsUp (Charts (begun_chart settings reading)) (λ state. ran_out state.replay.progress) (charted_text settings)
ReplaysEach output.Script settings others reading = Scripts (Writes (script_begun settings reading)) (λ state. ran_out state.progress)
ReplaysEach (output.Series text) settings others reading =
    Samples (Replays (begun (empty_run settings) reading)) (λ state. ran_out state.progress) (replay_text (output.Series text))
ReplaysEach table settings others reading = SumsUp (Replays (begun (empty_run settings) reading)) (λ state. ran_out state.progress) (replay_text table)

-- ReplaysTrace holds if the trace was replayed as the request says, and the requested output was written.
abbrev pub ReplaysTrace : ReplayRequest → Traffic → Result Summary IoError → Type 0
ReplaysTrace request traffic result = ReplaysEach request.output request.settings request.others request.reading traffic result

-- IsStreaming holds if the output is written while the trace is read: a script or a series.
abbrev pub IsStreaming : Option ReplayOutput → Type 0
IsStreaming (Some output.Script) = ⊤
IsStreaming (Some (output.Series text)) = ⊤
IsStreaming _ = ⊥

-- WithReplay holds if `Does` holds for the request of the values, or if one of them is refused.
abbrev pub WithReplay : ReplayValues → Console → (Does : ReplayRequest → Result Summary IoError → Type 0) → Result Summary IoError → Type 0
WithReplay values console Does result =
    MatchResult (replay_in values) (λ request. Does request result)
    (λ refusal. WritesRefusal console.output console.output_now refusal result)
