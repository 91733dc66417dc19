use Rattle.std.proofs.Common.{◌≡◌, ◌∙◌, ℕ, List, ap, subst}
use Rattle.cc_heap.specs.ChartDrawing.{chart_text}
use Rattle.cc_io.specs.Devices.{SendsBytes}
use Rattle.cli_replay.specs.Charting.{charted_text}
use Rattle.cli_replay.proofs.charting.ChartingTracePrinter.write_end.Goals as goal

pub returns-clause-sends : goal.returns-clause-sends
returns-clause-sends g c =
    let text : chart_text c.bytes.result.now c.self.inside.chart ≡ charted_text c.args.request.now.settings c.args.self.now =
    ap (λ (l : List ℕ). chart_text l c.self.inside.chart) (c.bytes.ensures.value ∙ c.caption_of-caption.ensures.value) ∙ ap (charted_text c.args.request.now.settings) c.self.view_is in
    subst (λ (bytes : List ℕ). SendsBytes (g.W.Sink.state c.args.sink.now) (g.W.Sink.state c.write_chart.new.sink) bytes c.write_chart.result) text c.write_chart.ensures.sends
