use Rattle.std.proofs.Common.{◌≡◌, ◌∙◌, Err, ap, inr, sym}
use Rattle.std.proofs.lemmas.Result.{err_from_is_err_and}
use Rattle.std.specs.Io.KnownBytes.{Appends}
use Rattle.cc_io.specs.Devices.{TakesPrefix}
use Rattle.cc_io.specs.declared.summary.IoError.TheVariants.{Write}
use Rattle.cli.specs.Devices.{fault_of, traffic_on}
use Rattle.cli.proofs.DeviceLemmas.{on_devices}
use Rattle.cli_replay.specs.Outputs.{Samples}
use Rattle.cli_replay.proofs.OutputLemmas.{stops_sampling, writes_end}
use Rattle.cli_replay.proofs.replaying.write_series.Goals as goal

pub returns-in_err-summary-clause-samples : goal.returns-in_err-summary-clause-samples
returns-in_err-summary-clause-samples g c = λ errors errors_now.
    let begun = g.T.TraceTaker.begun c.args.request.now in
    let takes = rw c.in_ok-taker.ensures.begins at c.in_err-summary.ensures.takes in
    let told = err_from_is_err_and c.from_residual-in_err-summary.result c.from_residual-in_err-summary.ensures.1 in
    let traffic = traffic_on (g.S.Source.state c.args.source.now) (g.S.Source.state c.take.new.source) (g.W.Sink.state c.args.sink.now) (g.W.Sink.state c.take.new.sink) errors errors_now in
    on_devices (Samples (g.T.TraceTaker.Takes begun) g.T.TraceTaker.ran_out (g.T.TracePrinter.text c.args.request.now) traffic) c.from_residual-in_err-summary.result (Err c.in_err-summary.field-0.0)
    (told.1 ∙ ap Err told.2)
    (stops_sampling (g.T.TraceTaker.Takes begun) g.T.TraceTaker.ran_out (g.T.TracePrinter.text c.args.request.now) traffic c.in_err-summary.field-0.0
    (record { new = c.take.new.self; takes = takes }))

pub returns-in_err-write_end-clause-samples : goal.returns-in_err-write_end-clause-samples
returns-in_err-write_end-clause-samples g c = λ errors errors_now.
    let begun = g.T.TraceTaker.begun c.args.request.now in
    let takes = rw c.in_ok-taker.ensures.begins at c.in_ok-summary.ensures.takes in
    let told = err_from_is_err_and c.from_residual-in_err-write_end.result c.from_residual-in_err-write_end.ensures.1 in
    let is_write : c.in_err-write_end.field-0.0 ≡ Write = cc c.in_err-write_end.ensures.write in
    let source = g.S.Source.state c.args.source.now in
    let source_now = g.S.Source.state c.take.new.source in
    let sink = g.W.Sink.state c.args.sink.now in
    let sink_then = g.W.Sink.state c.take.new.sink in
    let sink_now = g.W.Sink.state c.write_end.new.sink in
    on_devices (Samples (g.T.TraceTaker.Takes begun) g.T.TraceTaker.ran_out (g.T.TracePrinter.text c.args.request.now)
    (traffic_on source source_now sink sink_now errors errors_now)) c.from_residual-in_err-write_end.result (Err Write) (told.1 ∙ ap Err (told.2 ∙ ap fault_of is_write))
    (inr (
      sink_then.taken,
      c.in_ok-summary.summary,
      writes_end (g.T.TraceTaker.Takes begun source.unread source_now.unread sink.taken sink_then.taken) g.T.TraceTaker.ran_out (g.T.TracePrinter.text c.args.request.now)
          (TakesPrefix sink_then.taken sink_now.taken) c.in_ok-summary.summary c.take.new.self c.has_run_out.result
          takes c.has_run_out.ensures (sym c.in_ok-fail_if.ensures.runs_out) c.in_err-write_end.ensures.sends.err,
    ))

pub returns-clause-samples : goal.returns-clause-samples
returns-clause-samples g c = λ errors errors_now.
    let begun = g.T.TraceTaker.begun c.args.request.now in
    let takes = rw c.in_ok-taker.ensures.begins at c.in_ok-summary.ensures.takes in
    let source = g.S.Source.state c.args.source.now in
    let source_now = g.S.Source.state c.take.new.source in
    let sink = g.W.Sink.state c.args.sink.now in
    let sink_then = g.W.Sink.state c.take.new.sink in
    let sink_now = g.W.Sink.state c.write_end.new.sink in (
      sink_then.taken,
      writes_end (g.T.TraceTaker.Takes begun source.unread source_now.unread sink.taken sink_then.taken) g.T.TraceTaker.ran_out (g.T.TracePrinter.text c.args.request.now)
          (Appends sink_then.taken sink_now.taken) _ c.take.new.self c.has_run_out.result takes c.has_run_out.ensures
          (sym c.in_ok-fail_if.ensures.runs_out) c.in_ok-write_end.ensures.sends.ok,
    )
