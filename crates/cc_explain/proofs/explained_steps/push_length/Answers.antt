use Rattle.std.proofs.Common.{◌≤◌, ◌+◌, arith, length}
use Rattle.cc_explain.proofs.TextLemmas.{longer}
use Rattle.cc_explain.proofs.explained_steps.push_length.Goals.{then-fields, else-fields}
use Rattle.cc_explain.proofs.explained_steps.push_length.Goals as goal

pub push-requires : goal.push-requires
push-requires c =
    let few : length c.if-fields.push.now ≤ 64 = elim c.if-fields.branch [ then-fields w ↦ rw w.push-is (omega arith) | else-fields w ↦ rw w.push-is (omega arith) ] in
    omega (arith, few, c.push_hexadecimal.ensures.fits, c.requires.room)

pub returns-clause-fits : goal.returns-clause-fits
returns-clause-fits c =
    let few : length c.if-fields.push.now ≤ 64 = elim c.if-fields.branch [ then-fields w ↦ rw w.push-is (omega arith) | else-fields w ↦ rw w.push-is (omega arith) ] in
    let with_rest : length c.push.new.self ≤ length c.push_hexadecimal.new.page + 64 = longer _ _ _ 64 c.push.ensures few in
    omega (arith, c.push_hexadecimal.ensures.fits, with_rest)
