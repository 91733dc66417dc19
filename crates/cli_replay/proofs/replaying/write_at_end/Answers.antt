use Rattle.std.proofs.Common.{◌≡◌, ◌∙◌, Err, None, ap, sym}
use Rattle.std.proofs.lemmas.Result.{err_from_is_err_and}
use Rattle.std.specs.Io.KnownBytes.{Appends}
use Rattle.cc_io.specs.Devices.{TakesPrefix}
use Rattle.cc_io.specs.declared.summary.IoError.TheVariants.{Write}
use Rattle.cli.specs.Devices.{fault_of, traffic_on}
use Rattle.cli.proofs.DeviceLemmas.{on_devices}
use Rattle.cli_replay.specs.Outputs.{SumsUp}
use Rattle.cli_replay.proofs.OutputLemmas.{writes_end}
use Rattle.cli_replay.proofs.replaying.write_at_end.Goals as goal

pub returns-in_err-write_end-clause-sums_up : goal.returns-in_err-write_end-clause-sums_up
returns-in_err-write_end-clause-sums_up g c = λ errors errors_now.
    let begun = g.T.TraceTaker.begun c.args.request.now in
    let takes = rw c.in_ok-taker.ensures.begins at c.in_ok-summary.ensures.takes in
    let told = err_from_is_err_and c.from_residual-in_err-write_end.result c.from_residual-in_err-write_end.ensures.1 in
    let is_write : c.in_err-write_end.field-0.0 ≡ Write = cc c.in_err-write_end.ensures.write in
    let source = g.S.Source.state c.args.source.now in
    let source_now = g.S.Source.state c.take.new.source in
    let sink = g.W.Sink.state c.args.sink.now in
    let sink_now = g.W.Sink.state c.write_end.new.sink in
    on_devices (SumsUp (g.T.TraceTaker.Takes begun) g.T.TraceTaker.ran_out (g.T.TracePrinter.text c.args.request.now)
    (traffic_on source source_now sink sink_now errors errors_now)) c.from_residual-in_err-write_end.result (Err Write) (told.1 ∙ ap Err (told.2 ∙ ap fault_of is_write)) (
      c.in_ok-summary.summary,
      writes_end (g.T.TraceTaker.Takes begun source.unread source_now.unread None None) g.T.TraceTaker.ran_out (g.T.TracePrinter.text c.args.request.now)
          (TakesPrefix sink.taken sink_now.taken)
          c.in_ok-summary.summary c.take.new.self c.has_run_out.result takes c.has_run_out.ensures
          (sym c.in_ok-fail_if.ensures.runs_out) c.in_err-write_end.ensures.sends.err,
    )

pub returns-clause-sums_up : goal.returns-clause-sums_up
returns-clause-sums_up g c = λ errors errors_now.
    let begun = g.T.TraceTaker.begun c.args.request.now in
    let takes = rw c.in_ok-taker.ensures.begins at c.in_ok-summary.ensures.takes in
    let source = g.S.Source.state c.args.source.now in
    let source_now = g.S.Source.state c.take.new.source in
    let sink = g.W.Sink.state c.args.sink.now in
    let sink_now = g.W.Sink.state c.write_end.new.sink in
    writes_end (g.T.TraceTaker.Takes begun source.unread source_now.unread None None) g.T.TraceTaker.ran_out (g.T.TracePrinter.text c.args.request.now)
    (Appends sink.taken sink_now.taken)
    _ c.take.new.self c.has_run_out.result takes c.has_run_out.ensures (sym c.in_ok-fail_if.ensures.runs_out) c.in_ok-write_end.ensures.sends.ok
