use Rattle.std.proofs.Common.{rules, arith, ◌≡◌, ◌∙◌, ◌∷◌, [], ℕ, List, ◌++◌, decimal}
use Rattle.cc_io.specs.Numbered.{line_with_decimal}
use Rattle.cc_io.proofs.DecimalLemmas.{in_line, longer}
use Rattle.cc_io.proofs.numbered.end_with_decimal.Goals as goal

pub push_decimal-requires : goal.push_decimal-requires
push_decimal-requires g c = (search rules, omega (arith, longer c.args.page.now c.args.before.now c.push.new.self c.push.ensures, c.requires))

pub push-requires-2 : goal.push-requires-2
push-requires-2 g c = (search rules, omega (arith, longer c.args.page.now c.args.before.now c.push.new.self c.push.ensures, c.push_decimal.ensures.fits, c.requires))

pub push-requires-3 : goal.push-requires-3
push-requires-3 g c =
    let first = longer c.args.page.now c.args.before.now c.push.new.self c.push.ensures in
    (search rules, omega (arith, first, c.push_decimal.ensures.fits, longer c.push_decimal.new.self c.args.after.now c.push-2.new.self c.push-2.ensures, c.requires))

line : (done before : List ℕ) (number : ℕ) (after : List ℕ) → (((done ++ before) ++ decimal number) ++ after) ++ 10 ∷ [] ≡ done ++ line_with_decimal before number after
unfolding line_with_decimal
line done before number after = in_line done before (decimal number) after (10 ∷ [])

pub returns-clause-value : goal.returns-clause-value
returns-clause-value g c =
    c.push-3.ensures ∙ rw (c.push-2.ensures, c.push_decimal.ensures.value, c.push.ensures) (line c.args.page.now c.args.before.now c.args.number c.args.after.now)

pub returns-clause-fits : goal.returns-clause-fits
returns-clause-fits g c =
    let first = longer c.args.page.now c.args.before.now c.push.new.self c.push.ensures in
    let second = longer c.push_decimal.new.self c.args.after.now c.push-2.new.self c.push-2.ensures in
    omega (arith, first, c.push_decimal.ensures.fits, second, longer c.push-2.new.self (10 ∷ []) c.push-3.new.self c.push-3.ensures)
