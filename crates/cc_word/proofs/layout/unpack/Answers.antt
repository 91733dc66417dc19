use Rattle.cc_word.proofs.WordLemmas.{word_of-turned, word_of-same}
use Rattle.cc_word.proofs.layout.unpack.Goals as goal

pub returns-clause-only : goal.returns-clause-only
returns-clause-only c fields has =
    word_of-same fields _ c.args.word has (word_of-turned _ _ c.args.word c.fields_of_layout.ensures c.turned.ensures.back)
