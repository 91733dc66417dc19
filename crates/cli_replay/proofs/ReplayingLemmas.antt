-- The output of `replay`, from that of its parts.
use Rattle.std.proofs.Common.{◌≡◌, ◌≢◌, true, false, ◌==◌, List, [], ◌∷◌, length, arith, Option, Some, Result, Ok, MatchResult, refl, subst, sym}
use Rattle.std.specs.Prelude.{IfSome}
use Rattle.std.specs.Borrow.{Bor}
use Rattle.std.proofs.lemmas.Bool.{eqb-true}
use Rattle.clap.specs.Words.{Text}
use Rattle.cc_word.specs.declared.refusal.Refusal.{Refusal}
use Rattle.cc_io.specs.CommandOutput.{WritesRefusal}
use Rattle.cc_io.specs.Devices.{InputState}
use Rattle.cc_io.specs.declared.summary.Summary.{Summary}
use Rattle.cc_replay.specs.declared.reading.Reading.{Reading}
use Rattle.cc_heap.specs.Lost.{empty_run}
use Rattle.cc_heap.specs.declared.policy.Policy.{Policy}
use Rattle.cc_heap.specs.declared.settings.Settings.{Settings}
use Rattle.cc_replay.specs.Group.{any_ran_out, begun_group}
use Rattle.cc_replay.specs.Reading.{ran_out}
use Rattle.cc_replay.specs.Replay.{ReplayState, begun, last_sample}
use Rattle.cc_replay.specs.Script.{ScriptState}
use Rattle.cli.specs.Devices.{Console, FromInput, OnDevices, Traffic, traffic_of}
use Rattle.cli.specs.Input.{file_input}
use Rattle.cli.specs.declared.fault.Fault.{Fault}
use Rattle.cli.specs.declared.input.InputName.{InputName}
use Rattle.cli.specs.declared.invocation.ReplayOutput.{ReplayOutput}
use Rattle.cli.specs.declared.invocation.ReplayOutput.TheVariants as output
use Rattle.cli.specs.declared.invocation.ReplayValues.{ReplayValues}
use Rattle.cli.specs.declared.invocation.SummaryFormat.{SummaryFormat}
use Rattle.cli.proofs.DeviceLemmas.{on_devices-map}
use Rattle.cli_replay.specs.Charting.{Charted, charted_text}
use Rattle.cli_replay.specs.Outputs.{Samples, Scripts, SumsUp}
use Rattle.cli_replay.specs.ReplayValues.{replay_in}
use Rattle.cli_replay.specs.declared.replay_values.ReplayRequest.{ReplayRequest}
use Rattle.cli_replay.specs.Replaying.{Charts, GroupReplays, Replays, ReplaysEach, ReplaysTrace, WithReplay, Writes, group_text, replay_text}

-- The replay that the values request, from that of their request.
pub with_replay : (values : ReplayValues) (file : Option (Bor Text)) (console : Console) (source : InputState)
    (request : ReplayRequest) (input : InputName) (result : Result Summary Fault) → replay_in values ≡ Ok request → input ≡ file_input file
    → IfSome (console.input input) (λ bytes. source.unread ≡ Some bytes)
    → OnDevices (ReplaysTrace request (traffic_of console source)) result
    → OnDevices (WithReplay values console (λ request. FromInput (file_input file) console (ReplaysTrace request))) result
with_replay values file console source request input result is_found is_input known holds =
    on_devices-map (ReplaysTrace request (traffic_of console source))
    (WithReplay values console (λ request. FromInput (file_input file) console (ReplaysTrace request)))
    (λ io done.
    subst (λ (given : Result ReplayRequest Refusal). MatchResult given
    (λ request. FromInput (file_input file) console (ReplaysTrace request) io)
    (λ refusal. WritesRefusal console.output console.output_now refusal io)) (sym is_found)
    (subst (λ (name : InputName). FromInput name console (ReplaysTrace request) io) is_input
    (record { source = source; known = known; does = done })))
    result holds

-- The claim on each output, from the taker before the first line.
abbrev pub Drawn : Settings → Charted → Traffic → Result Summary Fault → ReplayOutput → Type 0
Drawn settings begun traffic result kind = OnDevices (SumsUp (Charts begun) (λ state. ran_out state.replay.progress) (charted_text settings) traffic) result

abbrev pub Scripted : ScriptState → Traffic → Result Summary Fault → ReplayOutput → Type 0
Scripted begun traffic result kind = OnDevices (Scripts (Writes begun) (λ state. ran_out state.progress) traffic) result

abbrev pub Sampled : ReplayState → Traffic → Result Summary Fault → ReplayOutput → Type 0
Sampled begun traffic result kind = OnDevices (Samples (Replays begun) (λ state. ran_out state.progress) (replay_text kind) traffic) result

abbrev pub Alone : ReplayState → Traffic → Result Summary Fault → ReplayOutput → Type 0
Alone begun traffic result kind = OnDevices (SumsUp (Replays begun) (λ state. ran_out state.progress) (replay_text kind) traffic) result

abbrev pub Swept : List ReplayState → Traffic → Result Summary Fault → ReplayOutput → Type 0
Swept begun traffic result kind = OnDevices (SumsUp (GroupReplays begun) any_ran_out (group_text kind) traffic) result

abbrev pub Written : Settings → (others : List Policy) → Reading → Traffic → Result Summary Fault → ReplayOutput → Type 0
Written settings others reading traffic result kind = OnDevices (ReplaysEach kind settings others reading traffic) result

-- A claim that follows for an output follows for an equal one.
pub by_output : (P Q : ReplayOutput → Type 0) (kind other : ReplayOutput) → kind ≡ other → (P other → Q other) → P kind → Q kind
by_output P Q kind other is so = subst (λ (output : ReplayOutput). P output → Q output) (sym is) so

-- The summary of one heap, if there is no other policy.
pub alone : (format : SummaryFormat) (settings : Settings) (others : List Policy) (reading : Reading) (traffic : Traffic) (result : Result Summary Fault)
    → (length others == 0) ≡ true → Alone (begun (empty_run settings) reading) traffic result (output.Summary format) → Written settings others reading traffic result (output.Summary format)
alone format settings [] reading traffic result none holds = holds
alone format settings (policy ∷ others) reading traffic result none holds = absurd (omega (arith, eqb-true (length (policy ∷ others)) 0 none))

-- The table of the summaries, if there is another policy.
pub swept : (format : SummaryFormat) (settings : Settings) (others : List Policy) (reading : Reading) (traffic : Traffic) (result : Result Summary Fault)
    → (length others == 0) ≡ false → Swept (begun_group settings others reading) traffic result (output.Summary format) → Written settings others reading traffic result (output.Summary format)
swept format settings [] reading traffic result some holds = cc some
swept format settings (policy ∷ others) reading traffic result some holds = holds

-- The last sample, for another output than a table.
pub last_text : (kind : ReplayOutput) (state : ReplayState) → ((format : SummaryFormat) → kind ≢ output.Summary format) → ((format : SummaryFormat) → kind ≢ output.Sizes format)
    → last_sample state ≡ replay_text kind state
last_text (output.Summary format) state unsummed unsized = absurd (unsummed format refl)
last_text (output.Sizes format) state unsummed unsized = absurd (unsized format refl)
last_text (output.Series text) state unsummed unsized = refl
last_text output.Script state unsummed unsized = refl
last_text output.Chart state unsummed unsized = refl
