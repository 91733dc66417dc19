use Rattle.std.proofs.Common.{◌≡◌, Some, None, arith, sym, length, take, drop, ◌≤◌, ◌+◌, ◌*◌, ◌^◌, ◌∙◌}
use Rattle.cc_values.specs.Digits.{number_further}
use Rattle.cc_values.proofs.EightLemmas.{eight_known, eight_missed, room_of_eight, room_after_eight, positive, sum_fits}
use Rattle.cc_values.proofs.digits.read_eights.Goals as goal

pub overflow_mul-number : goal.overflow_mul-number
overflow_mul-number c =
    let some : 8 ≤ length c.eights.rest.now = omega (arith, c.in-Some.ensures.cases.2) in
    let room = room_of_eight c.args.radix c.eights.number c.eights.rest.now c.requires.radix some c.eights.invariant.fits in
    rw c.eighth_power.ensures.value (omega (arith, room, positive c.args.radix c.requires.radix 8))

pub overflow_add-number : goal.overflow_add-number
overflow_add-number c =
    let rest = c.eights.rest.now in
    let cases = c.in-Some.ensures.cases in
    let some : 8 ≤ length rest = omega (arith, cases.2) in
    let value : Some c.in_ok-read_eight.field-0 ≡ number_further c.args.radix 0 (take 8 rest) =
    rw (← cases.0) (sym (c.in_ok-read_eight.was) ∙ c.read_eight.ensures) in
    let room = room_after_eight c.args.radix c.eights.number c.in_ok-read_eight.field-0 rest some c.eights.invariant.fits value in
    rw (c.from.ensures, c.eighth_power.ensures.value)
    (omega (
      arith,
      sum_fits c.args.radix (c.eights.number * c.args.radix ^ 8 + c.in_ok-read_eight.field-0) (length (drop 8 rest)) c.requires.radix room,
    ))

pub returns-in_err-read_eight : goal.returns-in_err-read_eight
returns-in_err-read_eight c =
    let rest = c.eights.rest.now in
    let none : None ≡ number_further c.args.radix 0 (take 8 rest) =
    rw (← c.in-Some.ensures.cases.0) (sym (c.in_err-read_eight.was) ∙ c.read_eight.ensures) in
    c.from_residual.ensures ∙ eight_missed c.args.radix c.eights.number rest none ∙ c.eights.invariant.same

pub eights-preserved : goal.eights-preserved
eights-preserved c =
    let rest = c.eights.rest.now in
    let cases = c.in-Some.ensures.cases in
    let some : 8 ≤ length rest = omega (arith, cases.2) in
    let value : Some c.in_ok-read_eight.field-0 ≡ number_further c.args.radix 0 (take 8 rest) =
    rw (← cases.0) (sym (c.in_ok-read_eight.was) ∙ c.read_eight.ensures) in
    rw (c.from.ensures, c.eighth_power.ensures.value) (record {
      same =
          rw cases.1
          (eight_known c.args.radix c.eights.number c.in_ok-read_eight.field-0 rest c.requires.radix some value ∙ c.eights.invariant.same);
      eights = omega (arith, cases.2, c.eights.invariant.eights);
      fits = rw cases.1 (room_after_eight c.args.radix c.eights.number c.in_ok-read_eight.field-0 rest some c.eights.invariant.fits value);
    })
