use Rattle.std.proofs.Common.{refl}
use Rattle.cc_values.specs.Values.{words_of}
use Rattle.cc_syntax.specs.Commands.{command_in}
use Rattle.cc_syntax.proofs.parsing.parse_words.Goals as goal

pub returns : goal.returns
returns c = c.take_command.ensures (command_in (words_of c.args.line.now)) refl
