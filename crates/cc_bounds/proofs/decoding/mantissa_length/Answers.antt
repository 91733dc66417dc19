use mir.Val.{bool_byte}
use Rattle.std.proofs.Common.{ℕ, Bool, true, false, ◌≡◌, ◌+◌, ◌-◌, ◌*◌, ◌%◌, ◌≤◌, ◌^◌, bit_and, bit_or, refl, arith}
use Rattle.std.proofs.lemmas.Nat.{and_mask}
use Rattle.std.proofs.lemmas.Grind.{or_after_shift}
use Rattle.cc_word.specs.Word.{bit_of}
use Rattle.cc_word.specs.declared.fields.Fields.{Fields}
use Rattle.cc_bounds.specs.Decoding.{without_exponent, base_mantissa, IsTopMantissa}
use Rattle.cc_bounds.proofs.DecodingLemmas.{without_exponent-le}
use Rattle.cc_bounds.proofs.StandingLemmas.{base_mantissa-fits}
use Rattle.cc_bounds.proofs.decoding.mantissa_length.Goals as goal

-- the bit above 12 bits, as a sum
joined : (ie : Bool) (bit sum : ℕ) → bit ≡ bool_byte ie → bit_or (bit * 4096 % 18446744073709551616) (bit_and sum 4095) ≡ bit_of ie * 4096 + sum % 4096
joined true bit sum is_bit =
    let low = and_mask sum 12 in
    let sum_is = or_after_shift bit 4096 18446744073709551616 (bit_and sum 4095) refl (omega (arith, low)) (omega arith) in omega (arith, sum_is, low)
joined false bit sum is_bit =
    let low = and_mask sum 12 in
    let sum_is = or_after_shift bit 4096 18446744073709551616 (bit_and sum 4095) refl (omega (arith, low)) (omega arith) in omega (arith, sum_is, low)

-- a bit is at most one
bit_small : (ie : Bool) → bit_of ie ≤ 1
bit_small true = omega arith
bit_small false = omega arith

-- the mantissa T, as far above B
top_mantissa : (fields : Fields) (top base bit : ℕ) → top ≡ without_exponent fields.ie fields.t → base ≡ base_mantissa fields
    → bit ≡ bool_byte fields.ie
    → IsTopMantissa fields
    ((base_mantissa fields + bit_or (bit * 4096 % 18446744073709551616) (bit_and ((top + (18446744073709551616 - base)) % 18446744073709551616) 4095)) % 2 ^ 14)
top_mantissa fields top base bit is_top is_base is_bit =
    let sum : ℕ = (top + (18446744073709551616 - base)) % 18446744073709551616 in
    let is = joined fields.ie bit sum is_bit in
    let small = bit_small fields.ie in
    let low = base_mantissa-fits fields in
    let less = without_exponent-le fields.ie fields.t in
    let high = fields.t_fits in
    record {
      fits = omega arith;
      stored = omega (arith, is, low, less, high);
      implied = omega (arith, is, low, small);
    }

pub returns-clause-top : goal.returns-clause-top
returns-clause-top c =
    top_mantissa c.args.fields.now c.without_exponent-top.result c.base_mantissa.result c.from.result
    c.without_exponent-top.ensures c.base_mantissa.ensures c.from.ensures

pub returns-clause-fits : goal.returns-clause-fits
returns-clause-fits c =
    let sum : ℕ = (c.without_exponent-top.result + (18446744073709551616 - c.base_mantissa.result)) % 18446744073709551616 in
    let is = joined c.args.fields.now.ie c.from.result sum c.from.ensures in
    let small = bit_small c.args.fields.now.ie in
    omega (arith, is, small)
