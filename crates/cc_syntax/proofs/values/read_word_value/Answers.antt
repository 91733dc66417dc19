use Rattle.std.proofs.Common.{refl}
use Rattle.cc_values.proofs.ValueLemmas.{word_found, word_missed}
use Rattle.cc_syntax.proofs.values.read_word_value.Goals as goal

pub returns-in-Some : goal.returns-in-Some
returns-in-Some c = word_found c.args.text.now c.in-Some.word (c.in-Some.ensures.found.0 refl) c.in-Some.ensures.value

pub returns-in-None : goal.returns-in-None
returns-in-None c = word_missed c.args.text.now (λ is. cc (c.in-None.ensures.found.1 is))
