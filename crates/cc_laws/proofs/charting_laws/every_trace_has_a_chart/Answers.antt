use Rattle.cc_laws.proofs.ChartTotalLemmas.{some_chart}
use Rattle.cc_laws.proofs.charting_laws.every_trace_has_a_chart.Goals as goal

pub returns : goal.returns
returns c settings reading text =
    let made = some_chart settings reading text in (made.output, made.any_error, made.new, made.is, made.left)
