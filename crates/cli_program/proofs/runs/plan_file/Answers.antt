use Rattle.std.proofs.Common.{◌≡◌, ◌∙◌, rules}
use Rattle.cc_syntax.specs.Planning.{plan_opening, pool_of}
use Rattle.cli.specs.Devices.{Console, console_of}
use Rattle.cli_program.proofs.RunLemmas.{plan_starves}
use Rattle.cli_program.proofs.runs.plan_file.Goals as goal

pub returns-in-Ok-clause-starved : goal.returns-in-Ok-clause-starved
returns-in-Ok-clause-starved g c = λ ran_out.
    let texts : pool_of c.args.pool.base.now c.args.pool.length.now ≡ c.plan_numbers.result =
    cc (c.as_bytes.ensures.value, c.as_bytes-2.ensures.value, c.plan_numbers.ensures) in
    let is_opening : c.plan_opening-opening.result ≡ plan_opening c.in-Ok.base c.in-Ok.length c.args.align =
    search rules in
    let console : Console = console_of (g.I.Inputs.bytes_of c.args.inputs.now) (g.I.Opened.Source.state c.run.new.source) (g.W.Sink.state c.args.sink.now) (g.W.Sink.state c.run.new.sink)
    (g.E.Sink.state c.args.errors.now) (g.E.Sink.state c.run.new.errors) in
    plan_starves c.args.report c.args.limit c.args.pool c.args.align c.args.file console _ _ _
    (texts ∙ c.in-Ok.is) is_opening c.file_input.ensures (c.run.ensures.starved ran_out)
