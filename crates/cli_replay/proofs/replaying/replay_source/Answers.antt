use Rattle.std.proofs.Common.{◌==◌, ◌∙◌, List, ap, length, sym}
use Rattle.cc_heap.specs.Lost.{empty_run}
use Rattle.cc_heap.specs.declared.policy.Policy.{Policy}
use Rattle.cc_replay.specs.Group.{begun_group}
use Rattle.cc_replay.specs.Replay.{begun}
use Rattle.cc_replay.specs.Script.{script_begun}
use Rattle.cli.specs.Devices.{traffic_on}
use Rattle.cli.specs.declared.invocation.ReplayOutput.TheVariants.{Chart, Script, Series, Sizes, Summary}
use Rattle.cli_replay.specs.Charting.{begun_chart}
use Rattle.cli_replay.proofs.ReplayingLemmas.{Alone, Drawn, Scripted, Sampled, Swept, Written, alone, by_output, swept}
use Rattle.cli_replay.proofs.replaying.replay_source.Goals as goal

pub returns-in-Chart-clause-replays : goal.returns-in-Chart-clause-replays
returns-in-Chart-clause-replays g c = λ errors errors_now.
    let traffic = traffic_on (g.S.Source.state c.args.source.now) (g.S.Source.state c.write_at_end.new.source) (g.W.Sink.state c.args.sink.now)
    (g.W.Sink.state c.write_at_end.new.sink) errors errors_now in
    by_output (Drawn c.args.request.now.settings (begun_chart c.args.request.now.settings c.args.request.now.reading) traffic c.write_at_end.result)
    (Written c.args.request.now.settings c.args.request.now.others c.args.request.now.reading traffic c.write_at_end.result) c.args.request.now.output Chart c.in-Chart.is
    (λ holds. holds) (c.write_at_end.ensures.sums_up errors errors_now)

pub returns-in-Script-clause-replays : goal.returns-in-Script-clause-replays
returns-in-Script-clause-replays g c = λ errors errors_now.
    let traffic = traffic_on (g.S.Source.state c.args.source.now) (g.S.Source.state c.write_script.new.source)
    (g.W.Sink.state c.args.sink.now) (g.W.Sink.state c.write_script.new.sink) errors errors_now in
    by_output (Scripted (script_begun c.args.request.now.settings c.args.request.now.reading) traffic c.write_script.result)
    (Written c.args.request.now.settings c.args.request.now.others c.args.request.now.reading traffic c.write_script.result) c.args.request.now.output Script c.in-Script.is
    (λ holds. holds) (c.write_script.ensures.scripts errors errors_now)

pub returns-in-Series-clause-replays : goal.returns-in-Series-clause-replays
returns-in-Series-clause-replays g c = λ errors errors_now.
    let traffic = traffic_on (g.S.Source.state c.args.source.now) (g.S.Source.state c.write_series.new.source)
    (g.W.Sink.state c.args.sink.now) (g.W.Sink.state c.write_series.new.sink) errors errors_now in
    by_output (Sampled (begun (empty_run c.args.request.now.settings) c.args.request.now.reading) traffic c.write_series.result)
    (Written c.args.request.now.settings c.args.request.now.others c.args.request.now.reading traffic c.write_series.result)
    c.args.request.now.output (Series c.in-Series.field-0) c.in-Series.is
    (λ holds. holds) (c.write_series.ensures.samples errors errors_now)

pub returns-in-Sizes-clause-replays : goal.returns-in-Sizes-clause-replays
returns-in-Sizes-clause-replays g c = λ errors errors_now.
    let traffic = traffic_on (g.S.Source.state c.args.source.now) (g.S.Source.state c.write_at_end-in-Sizes.new.source)
    (g.W.Sink.state c.args.sink.now) (g.W.Sink.state c.write_at_end-in-Sizes.new.sink) errors errors_now in
    by_output (Alone (begun (empty_run c.args.request.now.settings) c.args.request.now.reading) traffic c.write_at_end-in-Sizes.result)
    (Written c.args.request.now.settings c.args.request.now.others c.args.request.now.reading traffic c.write_at_end-in-Sizes.result)
    c.args.request.now.output (Sizes c.in-Sizes.field-0) c.in-Sizes.is
    (λ holds. holds) (c.write_at_end-in-Sizes.ensures.sums_up errors errors_now)

pub returns-then-is_empty-clause-replays : goal.returns-then-is_empty-clause-replays
returns-then-is_empty-clause-replays g c = λ errors errors_now.
    let traffic = traffic_on (g.S.Source.state c.args.source.now) (g.S.Source.state c.write_at_end-then-is_empty.new.source)
    (g.W.Sink.state c.args.sink.now) (g.W.Sink.state c.write_at_end-then-is_empty.new.sink) errors errors_now in
    by_output (Alone (begun (empty_run c.args.request.now.settings) c.args.request.now.reading) traffic c.write_at_end-then-is_empty.result)
    (Written c.args.request.now.settings c.args.request.now.others c.args.request.now.reading traffic c.write_at_end-then-is_empty.result)
    c.args.request.now.output (Summary c.in-Summary.field-0) c.in-Summary.is
    (alone c.in-Summary.field-0 c.args.request.now.settings c.args.request.now.others c.args.request.now.reading traffic c.write_at_end-then-is_empty.result
    (ap (λ (l : List Policy). length l == 0) (sym c.as_slice.ensures.value) ∙ sym c.is_empty.ensures ∙ c.if-is_empty.true))
    (c.write_at_end-then-is_empty.ensures.sums_up errors errors_now)

pub returns-else-is_empty-clause-replays : goal.returns-else-is_empty-clause-replays
returns-else-is_empty-clause-replays g c = λ errors errors_now.
    let traffic = traffic_on (g.S.Source.state c.args.source.now) (g.S.Source.state c.write_at_end-in-Summary.new.source)
    (g.W.Sink.state c.args.sink.now) (g.W.Sink.state c.write_at_end-in-Summary.new.sink) errors errors_now in
    by_output (Swept (begun_group c.args.request.now.settings c.args.request.now.others c.args.request.now.reading) traffic c.write_at_end-in-Summary.result)
    (Written c.args.request.now.settings c.args.request.now.others c.args.request.now.reading traffic c.write_at_end-in-Summary.result)
    c.args.request.now.output (Summary c.in-Summary.field-0) c.in-Summary.is
    (swept c.in-Summary.field-0 c.args.request.now.settings c.args.request.now.others c.args.request.now.reading traffic c.write_at_end-in-Summary.result
    (ap (λ (l : List Policy). length l == 0) (sym c.as_slice.ensures.value) ∙ sym c.is_empty.ensures ∙ c.if-is_empty.false))
    (c.write_at_end-in-Summary.ensures.sums_up errors errors_now)
