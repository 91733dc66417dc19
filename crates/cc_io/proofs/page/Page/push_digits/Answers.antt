use Rattle.std.proofs.Common.{◌∙◌, ap, List, ℕ, ◌++◌}
use Rattle.cc_word.proofs.DigitLemmas.{last_digits}
use Rattle.cc_io.proofs.page.Page.push_digits.Goals as goal

pub returns-clause-value : goal.returns-clause-value
returns-clause-value g c =
    c.push.ensures ∙ ap (λ (l : List ℕ). c.args.self.now ++ l) (rw c.write_word_fast.ensures (last_digits c.args.count c.args.number c.requires.digits))
