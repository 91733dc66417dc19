use Rattle.cc_decode.proofs.AnnotatorLemmas.{none_digits, none_halves, some_digits, some_halves}
use Rattle.cc_decode.proofs.annotator.word_of_run.Goals as goal

pub returns-in-32-clause-none : goal.returns-in-32-clause-none
returns-in-32-clause-none c =
    let digits = c.without_prefix-digits in
    none_digits c.args.run.now digits.result.now c.read_word_fast.result digits.ensures.short digits.ensures.long c.in-32.is c.read_word_fast.ensures.found

pub returns-in-33-clause-none : goal.returns-in-33-clause-none
returns-in-33-clause-none c =
    let digits = c.without_prefix-digits in
    none_halves c.args.run.now digits.result.now c.join_halves.result digits.ensures.short digits.ensures.long c.in-33.is c.join_halves.ensures.none

pub returns-in-32-clause-word : goal.returns-in-32-clause-word
returns-in-32-clause-word c =
    let digits = c.without_prefix-digits in
    some_digits c.args.run.now digits.result.now c.read_word_fast.result digits.ensures.parts c.read_word_fast.ensures.found c.read_word_fast.ensures.value

pub returns-in-33-clause-word : goal.returns-in-33-clause-word
returns-in-33-clause-word c =
    let digits = c.without_prefix-digits in
    some_halves c.args.run.now digits.result.now c.join_halves.result digits.ensures.parts c.join_halves.ensures.word
