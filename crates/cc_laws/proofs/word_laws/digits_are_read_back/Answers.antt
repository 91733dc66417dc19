use Rattle.cc_word.proofs.ReadBackLemmas.{digits_of-value, digits-value}
use Rattle.cc_laws.proofs.word_laws.digits_are_read_back.Goals as goal

pub returns-clause-padded : goal.returns-clause-padded
returns-clause-padded c = digits_of-value

pub returns-clause-plain : goal.returns-clause-plain
returns-clause-plain c = digits-value
