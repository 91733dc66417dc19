use Rattle.cc_word.proofs.ReadBackLemmas.{word_text, word_value}
use Rattle.cc_laws.proofs.word_laws.words_are_read_back.Goals as goal

pub returns-clause-text : goal.returns-clause-text
returns-clause-text c = word_text

pub returns-clause-value : goal.returns-clause-value
returns-clause-value c = word_value
