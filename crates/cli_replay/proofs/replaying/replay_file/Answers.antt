use Rattle.std.proofs.Common.{◌∙◌, sym}
use Rattle.cli.specs.Devices.{console_of}
use Rattle.cli_replay.proofs.ReplayingLemmas.{with_replay}
use Rattle.cli_replay.proofs.replaying.replay_file.Goals as goal

pub returns-in_ok-open-in-Ok-clause-replays : goal.returns-in_ok-open-in-Ok-clause-replays
returns-in_ok-open-in-Ok-clause-replays g c = λ errors errors_now.
    let console = console_of (g.I.Inputs.bytes_of c.args.inputs.now) (g.I.Opened.Source.state c.replay_source.new.source) (g.W.Sink.state c.args.sink.now) (g.W.Sink.state c.replay_source.new.sink)
    errors errors_now in
    with_replay c.args.values c.args.file console (g.I.Opened.Source.state c.open.new.source) c.in-Ok.request c.file_input.result c.replay_source.result
    (sym c.replay_of.ensures.value ∙ c.in-Ok.is) c.file_input.ensures c.in_ok-open-in-Ok.ensures.opened (c.replay_source.ensures.replays errors errors_now)
