use Rattle.cli.specs.Input.{file_input}
use Rattle.cli_words.specs.DecodeOptions.{options_of, part_of}
use Rattle.cli_words.proofs.TaskLemmas.{lists_tagged, lists_untagged}
use Rattle.cli_words.proofs.words.decode_file.Goals as goal

pub returns-in-None-clause-decodes : goal.returns-in-None-clause-decodes
returns-in-None-clause-decodes g c = λ errors errors_now.
    lists_untagged c.args.values.tags (file_input c.args.file) (part_of c.args.values) (options_of c.args.input c.args.format c.args.values)
    _ c.list_file.result c.in-None.is (c.list_file.ensures.lists errors errors_now)

pub returns-in-Ok-clause-decodes : goal.returns-in-Ok-clause-decodes
returns-in-Ok-clause-decodes g c = λ errors errors_now.
    lists_tagged c.args.values.tags c.in-Some.path (file_input c.args.file) (part_of c.args.values) (options_of c.args.input c.args.format c.args.values)
    c.as_slice.result c.in-Ok.bits.items _ _ _ _ _ errors errors_now c.list_file-in-Ok.result
    c.in-Some.is c.as_slice.ensures.value c.in-Ok.ensures.kept c.in-Ok.ensures.reads (c.list_file-in-Ok.ensures.lists errors errors_now)
