use Rattle.std.proofs.Common.{subst}
use Rattle.cc_machine.specs.State.{State}
use Rattle.cli.specs.Devices.{Console, FromInput, OnDevices, console_of}
use Rattle.cli_program.specs.Runs.{ReportsRun, StarvesRun}
use Rattle.cli_program.proofs.runs.run.Goals as goal

pub returns-clause-runs : goal.returns-clause-runs
returns-clause-runs g c =
    let console : Console = console_of (g.I.Inputs.bytes_of c.args.inputs.now) (g.I.Opened.Source.state c.open_and_run-ran.new.source) (g.W.Sink.state c.args.sink.now)
    (g.W.Sink.state c.open_and_run-ran.new.sink) (g.E.Sink.state c.args.errors.now) (g.E.Sink.state c.open_and_run-ran.new.errors) in
    subst (λ (start : State). OnDevices (FromInput c.args.input console (ReportsRun c.args.report c.args.opening.now c.args.pool start)) c.open_and_run-ran.result)
    c.in_ok-machine.ensures.machine c.open_and_run-ran.ensures.runs

pub returns-clause-starved : goal.returns-clause-starved
returns-clause-starved g c = λ is.
    let console : Console = console_of (g.I.Inputs.bytes_of c.args.inputs.now) (g.I.Opened.Source.state c.open_and_run-ran.new.source) (g.W.Sink.state c.args.sink.now)
    (g.W.Sink.state c.open_and_run-ran.new.sink) (g.E.Sink.state c.args.errors.now) (g.E.Sink.state c.open_and_run-ran.new.errors) in
    subst (λ (start : State). StarvesRun c.args.report c.args.opening.now start c.args.input console)
    c.in_ok-machine.ensures.machine (c.open_and_run-ran.ensures.starved is)
