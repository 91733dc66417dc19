use Rattle.std.proofs.Common.{rules, arith, ap, length, ◌∙◌, ◌∷◌, [], append_assoc}
use Rattle.cc_io.proofs.DecimalLemmas.{longer}
use Rattle.cc_io.proofs.page.Page.push_line.Goals as goal

pub push-requires-2 : goal.push-requires-2
push-requires-2 g c =
    (search rules, omega (arith, longer c.args.self.now c.bytes.result.now c.push.new.self c.push.ensures, ap length c.bytes.ensures.value, c.requires))

pub returns-clause-value : goal.returns-clause-value
returns-clause-value g c = c.push-2.ensures ∙ rw (c.push.ensures, c.bytes.ensures.value) (append_assoc c.args.self.now c.args.line.now (10 ∷ []))

pub returns-clause-fits : goal.returns-clause-fits
returns-clause-fits g c =
    let first = longer c.args.self.now c.bytes.result.now c.push.new.self c.push.ensures in
    omega (arith, first, ap length c.bytes.ensures.value, longer c.push.new.self (10 ∷ []) c.push-2.new.self c.push-2.ensures)
