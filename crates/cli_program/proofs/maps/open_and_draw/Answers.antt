use Rattle.std.proofs.Common.{refl}
use Rattle.cli.specs.Devices.{console_of}
use Rattle.cli_program.proofs.RunLemmas.{draws_input}
use Rattle.cli_program.proofs.maps.open_and_draw.Goals as goal

pub returns-clause-draws : goal.returns-clause-draws
returns-clause-draws g c = λ errors errors_now.
    draws_input c.args.svg c.args.opening.now c.args.machine.now c.args.machine.now c.args.input
    (console_of (g.I.Inputs.bytes_of c.args.inputs.now) (g.I.Opened.Source.state c.draw_end.new.source) (g.W.Sink.state c.args.sink.now) (g.W.Sink.state c.draw_end.new.sink) errors errors_now)
    (g.I.Inputs.bytes_of c.args.inputs.now) _ _ c.draw_end.result refl refl refl
    c.in_ok-open.ensures.opened (c.draw_end.ensures.draws errors errors_now)
