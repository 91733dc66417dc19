use Rattle.std.proofs.Common.{List, [], ◌∷◌, ℕ, ◌+◌, ◌++◌, ◌∙◌, ap, sym}
use Rattle.cc_io.proofs.DecimalLemmas.{flag_digit}
use Rattle.cc_syntax.proofs.printing.push_flag.Goals as goal

pub returns-clause-value : goal.returns-clause-value
returns-clause-value g c =
    c.push_known.ensures
    ∙ ap (λ (n : ℕ). c.args.line.now ++ (48 + n) ∷ []) c.from.ensures
    ∙ ap (λ (l : List ℕ). c.args.line.now ++ l) (sym (flag_digit c.args.flag))
