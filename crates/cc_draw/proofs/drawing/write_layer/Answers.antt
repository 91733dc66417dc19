use Rattle.cc_draw.specs.Drawing.{layer_text}
use Rattle.cc_draw.proofs.WritingLemmas.{begins_longer, writes_after}
use Rattle.cc_draw.proofs.drawing.write_layer.Goals as goal

pub returns-in-Err : goal.returns-in-Err
returns-in-Err g c = record {
  ok = tt;
  err = begins_longer _ _ c.args.before.now (layer_text c.args.layout.now c.args.state 1 c.args.objects.now) c.in-Err.ensures.writes.err;
  fails = c.in-Err.ensures.writes.fails;
}

pub returns : goal.returns
returns g c =
    writes_after (g.W.Sink.state c.args.sink.now) (g.W.Sink.state c.write_all.new.sink) (g.W.Sink.state c.write_objects.new.sink) c.args.before.now
    (layer_text c.args.layout.now c.args.state 1 c.args.objects.now) c.write_objects.result c.in-Ok.ensures.writes.ok c.write_objects.ensures
