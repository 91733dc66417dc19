use Rattle.std.proofs.Common.{inr, refl}
use Rattle.cli.specs.Devices.{console_of}
use Rattle.cli_program.proofs.RunLemmas.{runs_input}
use Rattle.cli_program.proofs.runs.open_and_run.Goals as goal

pub returns-clause-runs : goal.returns-clause-runs
returns-clause-runs g c =
    runs_input c.args.report c.args.opening.now c.args.pool c.args.machine.now c.args.machine.now c.args.input
    (console_of (g.I.Inputs.bytes_of c.args.inputs.now) (g.I.Opened.Source.state c.run_and_report.new.source) (g.W.Sink.state c.args.sink.now) (g.W.Sink.state c.run_and_report.new.sink)
    (g.E.Sink.state c.args.errors.now) (g.E.Sink.state c.run_and_report.new.errors))
    (g.I.Inputs.bytes_of c.args.inputs.now) _ _ c.run_and_report.result refl refl refl
    c.in_ok-open.ensures.opened c.run_and_report.ensures.runs

pub returns-clause-starved : goal.returns-clause-starved
returns-clause-starved g c = λ is.
    let told = c.run_and_report.ensures.starved is in
    inr (told.0, g.I.Opened.Source.state c.open.new.source, c.in_ok-open.ensures.opened, told.1)
