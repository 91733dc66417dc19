use Rattle.std.proofs.Common.{◌≡◌, ◌∙◌, rules}
use Rattle.cc_syntax.specs.Planning.{plan_opening, pool_of}
use Rattle.cli.specs.Devices.{Console, console_of}
use Rattle.cli_program.proofs.RunLemmas.{maps_file}
use Rattle.cli_program.proofs.maps.map_file.Goals as goal

pub returns-in-Ok-clause-executes : goal.returns-in-Ok-clause-executes
returns-in-Ok-clause-executes g c = λ errors errors_now.
    let texts : pool_of c.args.pool.base.now c.args.pool.length.now ≡ c.plan_numbers.result =
    cc (c.as_bytes.ensures.value, c.as_bytes-2.ensures.value, c.plan_numbers.ensures) in
    let is_opening : c.plan_opening-opening.result ≡ plan_opening c.in-Ok.base c.in-Ok.length c.args.align =
    search rules in
    let console : Console = console_of (g.I.Inputs.bytes_of c.args.inputs.now) (g.I.Opened.Source.state c.draw.new.source) (g.W.Sink.state c.args.sink.now) (g.W.Sink.state c.draw.new.sink) errors
    errors_now in
    maps_file c.args.limit c.args.pool c.args.align c.args.svg c.args.file console _ _ _ c.draw.result
    (texts ∙ c.in-Ok.is) is_opening c.file_input.ensures (c.draw.ensures.draws errors errors_now)
