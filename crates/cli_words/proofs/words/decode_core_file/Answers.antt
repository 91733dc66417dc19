use Rattle.std.proofs.Common.{Err, Ok, ◌∙◌, ap, false}
use Rattle.std.proofs.lemmas.Result.{err_from_is_err_and}
use Rattle.cli.specs.Devices.{Console, console_of}
use Rattle.cli.specs.Input.{file_input}
use Rattle.cli_words.specs.DecodeOptions.{search_of}
use Rattle.cli_words.specs.Tasks.{ListsCoreFile}
use Rattle.cli.proofs.DeviceLemmas.{on_devices}
use Rattle.cli_words.proofs.TaskLemmas.{lists_read}
use Rattle.cli_words.proofs.words.decode_core_file.Goals as goal

pub returns-in_err-decode_core-in-Ok-clause-lists :
    goal.returns-in_err-decode_core-in-Ok-clause-lists
returns-in_err-decode_core-in-Ok-clause-lists g c = λ errors errors_now.
    let told = err_from_is_err_and c.from_residual.result c.from_residual.ensures.1 in
    let console : Console = console_of (g.I.Inputs.bytes_of c.args.inputs.now) (g.I.Opened.Source.state c.read_input.new.source) (g.W.Sink.state c.args.sink.now)
    (g.W.Sink.state c.decode_core.new.sink) errors errors_now in
    on_devices (ListsCoreFile (file_input c.args.file) c.args.format (search_of false c.args.search) console) c.from_residual.result
    (Err c.in_err-decode_core-in-Ok.field-0.0) (told.1 ∙ ap Err told.2)
    (lists_read c.args.format c.search_of-search.result (search_of false c.args.search) c.as_slice.result.now c.in-Ok.bytes.items c.file_input.result (file_input c.args.file) console
    (Err c.in_err-decode_core-in-Ok.field-0.0) c.search_of-search.ensures c.file_input.ensures c.as_slice.ensures.value c.in-Ok.ensures.gave c.in_err-decode_core-in-Ok.ensures.lists)
