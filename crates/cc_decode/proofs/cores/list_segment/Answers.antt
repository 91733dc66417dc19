use Rattle.std.proofs.Common.{refl}
use Rattle.cc_decode.proofs.ListLemmas.{lists_segment}
use Rattle.cc_decode.proofs.cores.list_segment.Goals as goal

pub returns-clause-lists : goal.returns-clause-lists
returns-clause-lists g c =
    lists_segment c.args.options _ c.pump.new.answerer c.new-page.result c.args.words.now c.pump.new.source.bytes.now (g.W.Sink.state c.args.sink.now)
    (g.W.Sink.state c.pump.new.sink) c.pump.result refl refl c.new-page.ensures c.pump.ensures.outcome c.pump.ensures.pumps
