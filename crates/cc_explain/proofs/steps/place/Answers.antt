use Rattle.std.proofs.Common.{◌≤◌, ◌∙◌, ap, arith, ℕ, ◌^◌}
use Rattle.std.proofs.Math.Nat.{mul-le-mul_right}
use Rattle.cc_bounds.specs.Window.{section_of}
use Rattle.cc_explain.proofs.StepLemmas.{place-is}
use Rattle.cc_explain.proofs.steps.place.Goals as goal

pub overflow_mul-size : goal.overflow_mul-size
overflow_mul-size c = omega (arith, c.section-size.ensures.fits)

pub overflow_mul-scaled : goal.overflow_mul-scaled
overflow_mul-scaled c =
    let few : c.from.result ≤ 2 ^ 14 = omega (arith, c.from.ensures, c.requires.fits) in
    let scaled = mul-le-mul_right c.unit.result few in
    omega (arith, scaled, c.unit.ensures.fits)

pub overflow_add-result : goal.overflow_add-result
overflow_add-result c =
    let few : c.from.result ≤ 2 ^ 14 = omega (arith, c.from.ensures, c.requires.fits) in
    let scaled = mul-le-mul_right c.unit.result few in
    omega (arith, scaled, c.unit.ensures.fits, c.section-size.ensures.fits)

pub returns : goal.returns
returns c =
    let is_section = c.section-size.ensures.value ∙ ap section_of c.requires.is_exponent in
    let is_unit = c.unit.ensures.value ∙ ap (λ (n : ℕ). 2 ^ n) c.requires.is_exponent in
    place-is c.args.fields.now c.section-size.result is_section c.args.start c.args.mantissa c.from.result c.unit.result
    c.requires.window c.requires.fits c.from.ensures is_unit
