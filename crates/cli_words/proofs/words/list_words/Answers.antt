use Rattle.std.proofs.Common.{Err, Ok, ◌∙◌, ap}
use Rattle.std.proofs.lemmas.Result.{err_from_is_err_and}
use Rattle.cli.specs.Devices.{Console, FromInput, console_of}
use Rattle.cli_words.specs.Tasks.{ListsWords}
use Rattle.cli.proofs.DeviceLemmas.{on_devices}
use Rattle.cli_words.proofs.TaskLemmas.{lists_opened}
use Rattle.cli_words.proofs.words.list_words.Goals as goal

pub returns-in_err-decode_words-clause-lists :
    goal.returns-in_err-decode_words-clause-lists
returns-in_err-decode_words-clause-lists g c = λ errors errors_now.
    let told = err_from_is_err_and c.from_residual-in_err-decode_words.result c.from_residual-in_err-decode_words.ensures.1 in
    let console : Console = console_of (g.I.Inputs.bytes_of c.args.inputs.now) (g.I.Opened.Source.state c.decode_words.new.source) (g.W.Sink.state c.args.sink.now)
    (g.W.Sink.state c.decode_words.new.sink) errors errors_now in
    on_devices (FromInput c.args.input console (ListsWords c.args.part c.args.options)) c.from_residual-in_err-decode_words.result
    (Err c.in_err-decode_words.field-0.0) (told.1 ∙ ap Err told.2)
    (lists_opened c.in_ok-passed.passed c.args.part c.args.options c.args.input console _ (Err c.in_err-decode_words.field-0.0)
    c.in_ok-passed.ensures.within c.in_ok-passed.ensures.opened c.in_err-decode_words.ensures)

pub returns-clause-lists : goal.returns-clause-lists
returns-clause-lists g c = λ errors errors_now.
    let console : Console = console_of (g.I.Inputs.bytes_of c.args.inputs.now) (g.I.Opened.Source.state c.decode_words.new.source) (g.W.Sink.state c.args.sink.now)
    (g.W.Sink.state c.decode_words.new.sink) errors errors_now in
    lists_opened c.in_ok-passed.passed c.args.part c.args.options c.args.input console _ (Ok c.in_ok-decode_words.field-0)
    c.in_ok-passed.ensures.within c.in_ok-passed.ensures.opened c.in_ok-decode_words.ensures
