use Rattle.cli.specs.Devices.{Console, console_of}
use Rattle.cli.specs.Input.{file_input}
use Rattle.cli_words.specs.DecodeOptions.{options_of, part_of}
use Rattle.cli_words.proofs.TaskLemmas.{lists_alike}
use Rattle.cli_words.proofs.words.list_file.Goals as goal

pub returns-then-is_err-clause-lists : goal.returns-then-is_err-clause-lists
returns-then-is_err-clause-lists g c = λ errors errors_now.
    let console : Console = console_of (g.I.Inputs.bytes_of c.args.inputs.now) (g.I.Opened.Source.state c.list_words-result.new.source) (g.W.Sink.state c.args.sink.now)
    (g.W.Sink.state c.list_words-result.new.sink) errors errors_now in
    lists_alike c.part_of-part.result (part_of c.args.values) c.options_of-options.result
    (options_of c.args.input c.args.format c.args.values c.args.bits) c.file_input.result (file_input c.args.file) console c.list_words-result.result
    c.part_of-part.ensures c.options_of-options.ensures c.file_input.ensures
    (c.list_words-result.ensures.lists errors errors_now)

pub returns-clause-lists : goal.returns-clause-lists
returns-clause-lists g c = λ errors errors_now.
    let console : Console = console_of (g.I.Inputs.bytes_of c.args.inputs.now) (g.I.Opened.Source.state c.list_words-result.new.source) (g.W.Sink.state c.args.sink.now)
    (g.W.Sink.state c.list_words-result.new.sink) errors errors_now in
    lists_alike c.part_of-part.result (part_of c.args.values) c.options_of-options.result
    (options_of c.args.input c.args.format c.args.values c.args.bits) c.file_input.result (file_input c.args.file) console c.list_words-result.result
    c.part_of-part.ensures c.options_of-options.ensures c.file_input.ensures
    (c.list_words-result.ensures.lists errors errors_now)
