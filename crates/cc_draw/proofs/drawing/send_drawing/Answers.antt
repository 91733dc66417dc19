use Rattle.std.proofs.Common.{subst}
use Rattle.cc_io.specs.Devices.{SendsBytes}
use Rattle.cc_draw.specs.Drawing.{laid_out_text}
use Rattle.cc_draw.specs.declared.layout.Layout.{Layout}
use Rattle.cc_draw.proofs.drawing.send_drawing.Goals as goal

pub returns-clause-sends : goal.returns-clause-sends
returns-clause-sends g c =
    subst
    (λ (layout : Layout). SendsBytes (g.W.Sink.state c.args.sink.now) (g.W.Sink.state c.send_laid_out.new.sink) (laid_out_text layout c.args.objects.now c.args.pool.now) c.send_laid_out.result)
    c.new.ensures.layout c.send_laid_out.ensures.sends
