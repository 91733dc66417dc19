use Rattle.std.proofs.Common.{refl}
use Rattle.cc_values.specs.Values.{words_of}
use Rattle.cc_syntax.specs.Commands.{command_in}
use Rattle.cc_script.proofs.answering.answer_line.Goals as goal

pub returns-clause-fits : goal.returns-clause-fits
returns-clause-fits g c = (c.take_command.ensures (command_in (words_of c.args.line.now)) refl).fits

pub returns-clause-same : goal.returns-clause-same
returns-clause-same g c = (c.take_command.ensures (command_in (words_of c.args.line.now)) refl).same

pub returns-clause-tally : goal.returns-clause-tally
returns-clause-tally g c = (c.take_command.ensures (command_in (words_of c.args.line.now)) refl).tally
