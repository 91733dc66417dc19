use Rattle.std.proofs.Common.{rules}
use Rattle.cli.specs.Devices.{Console, console_of}
use Rattle.cli_words.proofs.TaskLemmas.{hinted_at, no_hint}
use Rattle.cli_words.proofs.words.round_file.Goals as goal

pub returns-then-is_err-clause-rounds : goal.returns-then-is_err-clause-rounds
returns-then-is_err-clause-rounds g c =
    let console : Console = console_of (g.I.Inputs.bytes_of c.args.inputs.now) (g.I.Opened.Source.state c.round_input-result.new.source) (g.W.Sink.state c.args.sink.now)
    (g.W.Sink.state c.round_input-result.new.sink) (g.E.Sink.state c.args.errors.now) (g.E.Sink.state c.args.errors.now) in
    hinted_at c.args.base c.args.hints c.round_input-result.new.bare c.address_of-address.result c.file_input.result _ console c.round_input-result.result
    c.address_of-address.ensures c.file_input.ensures (no_hint _ c.round_input-result.result (search rules))
    (c.round_input-result.ensures.rounds console.errors console.errors_now)

pub returns-clause-rounds : goal.returns-clause-rounds
returns-clause-rounds g c =
    let console : Console = console_of (g.I.Inputs.bytes_of c.args.inputs.now) (g.I.Opened.Source.state c.round_input-result.new.source) (g.W.Sink.state c.args.sink.now)
    (g.W.Sink.state c.round_input-result.new.sink) (g.E.Sink.state c.args.errors.now) (g.E.Sink.state c.hint_numbers.new.errors) in
    hinted_at c.args.base c.args.hints c.round_input-result.new.bare c.address_of-address.result c.file_input.result _ console c.round_input-result.result
    c.address_of-address.ensures c.file_input.ensures (search rules)
    (c.round_input-result.ensures.rounds console.errors console.errors_now)
