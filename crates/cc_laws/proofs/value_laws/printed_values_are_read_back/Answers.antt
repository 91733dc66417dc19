use Rattle.cc_values.proofs.ReadBackLemmas.{decimal-read, hexadecimal-read, word-read}
use Rattle.cc_laws.proofs.value_laws.printed_values_are_read_back.Goals as goal

pub returns-clause-decimal : goal.returns-clause-decimal
returns-clause-decimal c = decimal-read

pub returns-clause-hexadecimal : goal.returns-clause-hexadecimal
returns-clause-hexadecimal c = hexadecimal-read

pub returns-clause-word : goal.returns-clause-word
returns-clause-word c = word-read
