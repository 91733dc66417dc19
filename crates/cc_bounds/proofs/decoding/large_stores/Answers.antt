use Rattle.std.proofs.Common.{◌≡◌, ℕ, ◌-◌, ◌*◌, ◌≤◌, ◌%◌, ◌^◌, arith}
use Rattle.std.proofs.Math.Pow.{pow_mono}
use Rattle.cc_bounds.proofs.StoredLemmas.{large-stored}
use Rattle.cc_bounds.proofs.decoding.large_stores.Goals as goal

-- the shifted one, below 2 ^ 64
power : (field : ℕ) → 51 ≤ field → 1 * 2 ^ (64 - field) % 2 ^ 64 ≡ 2 ^ (64 - field)
power field large = let few : 64 - field ≤ 13 = omega arith in let fits = pow_mono few in omega (arith, fits)

pub returns : goal.returns
returns c span decoded =
    let law =
    large-stored c.args.fields.now span c.args.exponent c.mantissa_length.result decoded c.requires.is_field c.requires.large
    c.mantissa_length.ensures.fits c.mantissa_length.ensures.top in
    let p = power c.args.exponent c.requires.large in
    let b = c.base_mantissa.ensures in
    (λ yes. law.0 (grind (arith, yes, p, b)), λ stores. let fits = law.1 stores in grind (arith, fits, p, b))
