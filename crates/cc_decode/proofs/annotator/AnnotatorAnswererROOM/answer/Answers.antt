use Rattle.std.proofs.Common.{◌∙◌, refl, sym}
use Rattle.cc_decode.proofs.AnnotatorLemmas.{answers_run, answers_whole}
use Rattle.cc_decode.proofs.annotator.AnnotatorAnswererROOM.answer.Goals as goal

pub returns-then-is_word_character : goal.returns-then-is_word_character
returns-then-is_word_character c =
    answers_whole c.args.self.now c.args.entry.now c.args.out.now c.push.new.self c.in-len1-up.len_at_least c.if-entry-gt-MOST_RUN.false
    (sym c.is_word_character.ensures ∙ c.if-is_word_character.true) c.push.ensures

pub returns-else-is_word_character : goal.returns-else-is_word_character
returns-else-is_word_character c =
    answers_run c.args.self.now c.args.entry.now c.args.out.now c.push_run.new.out c.push_byte.new.batch _ c.before_next-self.result c.in-len1-up.len_at_least refl
    (sym c.is_word_character.ensures ∙ c.if-is_word_character.false) c.push_run.ensures.run c.push_byte.ensures.value c.push_run.ensures.fits c.before_next-self.ensures
