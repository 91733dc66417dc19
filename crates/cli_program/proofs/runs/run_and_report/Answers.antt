use Rattle.std.proofs.Common.{Err, ◌∙◌, ap}
use Rattle.std.proofs.lemmas.Result.{err_from_is_err_and}
use Rattle.cli.specs.Devices.{traffic_on}
use Rattle.cli_program.specs.Runs.{ReportsRun}
use Rattle.cli.proofs.DeviceLemmas.{on_devices}
use Rattle.cli_program.proofs.runs.run_and_report.Goals as goal

pub returns-in_err-summary-clause-runs : goal.returns-in_err-summary-clause-runs
returns-in_err-summary-clause-runs g c =
    let told = err_from_is_err_and c.from_residual.result c.from_residual.ensures.1 in
    on_devices
    (ReportsRun c.args.report c.args.opening.now c.args.pool c.args.machine.now (traffic_on (g.S.Source.state c.args.source.now) (g.S.Source.state c.run_session.new.source)
    (g.W.Sink.state c.args.sink.now) (g.W.Sink.state c.run_session.new.sink) (g.E.Sink.state c.args.errors.now) (g.E.Sink.state c.args.errors.now)))
    c.from_residual.result (Err c.in_err-summary.field-0.0) (told.1 ∙ ap Err told.2)
    (record {
      session = c.run_session.new.session;
      runs = c.in_err-summary.ensures.runs;
      reported = tt;
    })

pub returns-clause-runs : goal.returns-clause-runs
returns-clause-runs g c = record {
  session = c.run_session.new.session;
  runs = c.in_ok-summary.ensures.runs;
  reported = c.in_ok-write_report.ensures.written;
}

pub returns-in_err-write_report-clause-starved : goal.returns-in_err-write_report-clause-starved
returns-in_err-write_report-clause-starved g c = λ is. (
  c.in_err-write_report.ensures.wanted,
  (c.in_ok-summary.summary, (c.run_session.new.session.machine.now, c.in_ok-summary.ensures.runs.main)),
)
