use Rattle.std.proofs.Common.{ℕ, List, arith, ◌≡◌, ◌∙◌, ◌++◌, append_assoc}
use Rattle.cc_word.specs.WordText.{hexadecimal}
use Rattle.cc_io.specs.Numbered.{with_hexadecimal}
use Rattle.cc_io.proofs.DecimalLemmas.{longer}
use Rattle.cc_io.proofs.numbered.push_hexadecimal.Goals as goal

joined : (done before : List ℕ) (number : ℕ) → (done ++ before) ++ hexadecimal number ≡ done ++ with_hexadecimal before number
unfolding with_hexadecimal
joined done before number = append_assoc done before (hexadecimal number)

pub returns-clause-value : goal.returns-clause-value
returns-clause-value g c = c.push_hexadecimal.ensures.value ∙ rw c.push.ensures (joined c.args.page.now c.args.before.now c.args.number)

pub returns-clause-fits : goal.returns-clause-fits
returns-clause-fits g c = omega (arith, longer c.args.page.now c.args.before.now c.push.new.self c.push.ensures, c.push_hexadecimal.ensures.fits)
