use Rattle.std.proofs.Common.{rules, arith, ◌≡◌, ◌∙◌, ◌∷◌, [], ℕ, List, ◌++◌}
use Rattle.cc_word.specs.WordText.{hexadecimal}
use Rattle.cc_io.specs.Numbered.{line_with_hexadecimal}
use Rattle.cc_io.proofs.DecimalLemmas.{in_line, longer}
use Rattle.cc_io.proofs.numbered.end_with_hexadecimal.Goals as goal

pub push_hexadecimal-requires : goal.push_hexadecimal-requires
push_hexadecimal-requires g c = (search rules, omega (arith, longer c.args.page.now c.args.before.now c.push.new.self c.push.ensures, c.requires))

pub push-requires-2 : goal.push-requires-2
push-requires-2 g c = (search rules, omega (arith, longer c.args.page.now c.args.before.now c.push.new.self c.push.ensures, c.push_hexadecimal.ensures.fits, c.requires))

pub push-requires-3 : goal.push-requires-3
push-requires-3 g c =
    let first = longer c.args.page.now c.args.before.now c.push.new.self c.push.ensures in
    (search rules, omega (arith, first, c.push_hexadecimal.ensures.fits, longer c.push_hexadecimal.new.self c.args.after.now c.push-2.new.self c.push-2.ensures, c.requires))

line : (done before : List ℕ) (number : ℕ) (after : List ℕ) → (((done ++ before) ++ hexadecimal number) ++ after) ++ 10 ∷ [] ≡ done ++ line_with_hexadecimal before number after
unfolding line_with_hexadecimal
line done before number after = in_line done before (hexadecimal number) after (10 ∷ [])

pub returns-clause-value : goal.returns-clause-value
returns-clause-value g c =
    c.push-3.ensures ∙ rw (c.push-2.ensures, c.push_hexadecimal.ensures.value, c.push.ensures) (line c.args.page.now c.args.before.now c.args.number c.args.after.now)

pub returns-clause-fits : goal.returns-clause-fits
returns-clause-fits g c =
    let first = longer c.args.page.now c.args.before.now c.push.new.self c.push.ensures in
    let second = longer c.push_hexadecimal.new.self c.args.after.now c.push-2.new.self c.push-2.ensures in
    omega (arith, first, c.push_hexadecimal.ensures.fits, second, longer c.push-2.new.self (10 ∷ []) c.push-3.new.self c.push-3.ensures)
