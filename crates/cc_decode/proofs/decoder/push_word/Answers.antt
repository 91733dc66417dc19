use Rattle.std.proofs.Common.{◌∙◌, [], append-nil, inl, inr, refl, sym}
use Rattle.std.proofs.lemmas.Bool.{false≢true}
use Rattle.cc_decode.proofs.decoder.push_word.Goals as goal

pub returns-else-is_wanted-clause-word : goal.returns-else-is_wanted-clause-word
returns-else-is_wanted-clause-word c = record {
  text = [];
  is_answer = inr (λ listed. false≢true (sym c.if-is_wanted.false ∙ c.is_wanted.ensures.1 listed), refl);
  written = sym (append-nil c.args.out.now);
}

pub returns-then-is_wanted-clause-word : goal.returns-then-is_wanted-clause-word
returns-then-is_wanted-clause-word c =
    let line = c.push_row_line.ensures.line in
    record { text = line.text; is_answer = inl (c.is_wanted.ensures.0 c.if-is_wanted.true, line.is_line); written = line.written }
