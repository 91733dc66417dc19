use Rattle.std.proofs.Common.{◌≡◌, ◌∙◌, ℕ, List, ap, subst, sym}
use Rattle.cc_io.specs.Devices.{SendsBytes}
use Rattle.cc_replay.specs.Rows.{table_text}
use Rattle.cc_replay.specs.Summary.{summary_rows}
use Rattle.cli.specs.declared.invocation.ReplayOutput.{ReplayOutput}
use Rattle.cli.specs.declared.invocation.ReplayOutput.TheVariants.{Summary}
use Rattle.cli_replay.specs.Replaying.{replay_text}
use Rattle.cli_replay.proofs.ReplayingLemmas.{last_text}
use Rattle.cli_replay.proofs.takers.ReplayTracePrinter.write_end.Goals as goal

pub returns-in-Summary-clause-sends : goal.returns-in-Summary-clause-sends
returns-in-Summary-clause-sends g c =
    let numbers : table_text c.table_format.result (summary_rows c.figures.result) ≡ replay_text (Summary c.in-Summary.format) c.args.self.now =
    λ i. table_text (c.table_format.ensures i) (summary_rows (c.figures.ensures i)) in
    subst (λ (bytes : List ℕ). SendsBytes (g.W.Sink.state c.args.sink.now) (g.W.Sink.state c.write_summary.new.sink) bytes c.write_summary.result)
    (numbers ∙ ap (λ (output : ReplayOutput). replay_text output c.args.self.now) (sym c.in-Summary.is)) c.write_summary.ensures.sends

pub returns-in_default-clause-sends : goal.returns-in_default-clause-sends
returns-in_default-clause-sends g c =
    subst (λ (bytes : List ℕ). SendsBytes (g.W.Sink.state c.args.sink.now) (g.W.Sink.state c.end_series.new.series) bytes c.end_series.result)
    (last_text c.args.request.now.output c.args.self.now c.in_default.not-Summary c.in_default.not-Sizes) c.end_series.ensures.sends
