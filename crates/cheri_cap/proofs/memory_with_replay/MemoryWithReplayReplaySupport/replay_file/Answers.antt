use Rattle.std.specs.Prelude.{◌≡◌, []}
use Rattle.cheri_cap.specs.Replaying.{trace_replay}
use Rattle.cli.specs.Devices.{console_of}
use Rattle.cli_program.proofs.ExecutionLemmas.{asks, does, opens, starves_if}
use Rattle.cli_replay.specs.ReplayValues.{replay_in}
use Rattle.cheri_cap.proofs.memory_with_replay.MemoryWithReplayReplaySupport.replay_file.Goals as goal

pub returns-clause-executes : goal.returns-clause-executes
returns-clause-executes g c = λ errors errors_now.
    does (replay_in c.args.values) (trace_replay c.args.values c.args.file)
    (console_of (g.I.Inputs.bytes_of c.args.inputs.now) (g.I.Opened.Source.state c.replay_file.new.source) (g.W.Sink.state c.args.sink.now)
    (g.W.Sink.state c.replay_file.new.sink) errors errors_now) c.replay_file.result (c.replay_file.ensures.replays errors errors_now)

pub returns-clause-starved : goal.returns-clause-starved
returns-clause-starved g c = λ ran_out errors errors_now.
    starves_if (replay_in c.args.values) (trace_replay c.args.values c.args.file)
    (console_of (g.I.Inputs.bytes_of c.args.inputs.now) (g.I.Opened.Source.state c.replay_file.new.source) (g.W.Sink.state c.args.sink.now)
    (g.W.Sink.state c.replay_file.new.sink) errors errors_now) (c.replay_file.ensures.memory ran_out)
    (λ values unstreamed. c.replay_file.ensures.starved unstreamed ran_out)

pub returns-clause-open : goal.returns-clause-open
returns-clause-open g c = λ refused.
    opens (replay_in c.args.values) (trace_replay c.args.values c.args.file) (λ values. c.replay_file.ensures.open refused)

pub returns-clause-asked : goal.returns-clause-asked
returns-clause-asked g c =
    asks (replay_in c.args.values) (trace_replay c.args.values c.args.file) (g.I.Inputs.requested c.replay_file.new.inputs)
    ((c.replay_file.new.inputs ≡ c.args.inputs.now) × (c.replay_file.new.source ≡ c.args.source.now)) c.replay_file.ensures.unused (λ values. c.replay_file.ensures.asked [] c.requires.unasked)
