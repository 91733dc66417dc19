use Rattle.std.proofs.Common.{◌∙◌, Err, ap}
use Rattle.std.proofs.lemmas.Result.{err_from_is_err_and}
use Rattle.cli.specs.Devices.{traffic_on}
use Rattle.cli.proofs.DeviceLemmas.{on_devices}
use Rattle.cli_replay.specs.Outputs.{Scripts}
use Rattle.cli_replay.proofs.replaying.write_script.Goals as goal

pub returns-in_err-summary-clause-scripts : goal.returns-in_err-summary-clause-scripts
returns-in_err-summary-clause-scripts g c = λ errors errors_now.
    let begun = g.T.TraceTaker.begun c.args.request.now in
    let takes = rw c.in_ok-taker.ensures.begins at c.in_err-summary.ensures.takes in
    let told = err_from_is_err_and c.from_residual-in_err-summary.result c.from_residual-in_err-summary.ensures.1 in
    let traffic = traffic_on (g.S.Source.state c.args.source.now) (g.S.Source.state c.take.new.source) (g.W.Sink.state c.args.sink.now) (g.W.Sink.state c.take.new.sink) errors errors_now in
    on_devices (Scripts (g.T.TraceTaker.Takes begun) g.T.TraceTaker.ran_out traffic) c.from_residual-in_err-summary.result (Err c.in_err-summary.field-0.0) (told.1 ∙ ap Err told.2)
    (record { new = c.take.new.self; takes = takes })
