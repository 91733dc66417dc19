use Rattle.std.proofs.Common.{subst}
use Rattle.cc_machine.specs.State.{State}
use Rattle.cli.specs.Devices.{FromInput, OnDevices, console_of}
use Rattle.cli_program.specs.Runs.{DrawsRun}
use Rattle.cli_program.proofs.maps.draw.Goals as goal

pub returns-clause-draws : goal.returns-clause-draws
returns-clause-draws g c = λ errors errors_now.
    subst (λ (start : State). OnDevices (FromInput c.args.input
    (console_of (g.I.Inputs.bytes_of c.args.inputs.now) (g.I.Opened.Source.state c.open_and_draw-drawn.new.source)
    (g.W.Sink.state c.args.sink.now) (g.W.Sink.state c.open_and_draw-drawn.new.sink) errors errors_now)
    (DrawsRun c.args.svg c.args.opening.now start)) c.open_and_draw-drawn.result)
    c.in_ok-machine.ensures.machine (c.open_and_draw-drawn.ensures.draws errors errors_now)
