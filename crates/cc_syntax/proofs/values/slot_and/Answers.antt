use Rattle.std.proofs.Common.{◌∙◌, ◌≤◌, ◌<◌, ◌-◌, ◌^◌, ap, arith, refl, sym, Ok, Err}
use Rattle.cc_word.specs.declared.refusal.Refusal.TheVariants.{OutOfRange}
use Rattle.cc_values.specs.Values.{both}
use Rattle.cc_syntax.proofs.SlotLemmas.{number_over, number_then}
use Rattle.cc_syntax.proofs.values.slot_and.Goals as goal

pub returns-in-Ok : goal.returns-in-Ok
returns-in-Ok g c =
    let fits : c.in-Some.number ≤ 2 ^ 32 - 1 = omega (arith, c.if-number-from.true, c.from.ensures) in
    ap (both (Ok c.in-Some.number)) (sym c.in-Ok.is ∙ c.read.ensures)
    ∙ number_then g.V.Value.value_in c.args.text.now c.in-Some.number c.in-Some.rest.now c.in-Some.ensures fits

pub returns-in-Err : goal.returns-in-Err
returns-in-Err g c =
    let fits : c.in-Some.number ≤ 2 ^ 32 - 1 = omega (arith, c.if-number-from.true, c.from.ensures) in
    ap (both (Ok c.in-Some.number)) (sym c.in-Err.is ∙ c.read.ensures)
    ∙ number_then g.V.Value.value_in c.args.text.now c.in-Some.number c.in-Some.rest.now c.in-Some.ensures fits

pub returns-in-Some-2 : goal.returns-in-Some-2
returns-in-Some-2 g c =
    let over : 2 ^ 32 - 1 < c.in-Some.number = omega (arith, c.if-number-from.false, c.from.ensures) in
    c.over_limit.ensures (Err OutOfRange) refl
    ∙ number_over g.V.Value.value_in c.args.text.now c.in-Some.number c.in-Some.rest.now c.in-Some.ensures over
