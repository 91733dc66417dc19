use Rattle.std.proofs.Common.{ℕ, ◌≡◌, ◌+◌, ◌-◌, ◌*◌, ◌%◌, ◌^◌, ◌<◌, arith, w64, ap, sym, ◌∙◌, inl, inr, bit_and}
use Rattle.std.specs.Int.{trailing_zeros}
use Rattle.std.proofs.lemmas.Bool.{cases_lt}
use Rattle.std.proofs.lemmas.Nat.{and_mask, pow-add, pow_pos}
use Rattle.std.proofs.lemmas.Nat.Bits.{bit_at-trailing_zeros}
use Rattle.std.proofs.Math.Nat.{add-mod-mod, mul-mod_left, pow-suc, zero-mod}
use Rattle.std.proofs.Math.Pow.{pow_mono}
use Rattle.cc_machine.proofs.aligned.padding.Goals as goal

-- the low bits of 2^64 - n lead from n to a multiple of their power of two
up_to_multiple : (n align power : ℕ) → n < 2 ^ 64 → power < 64 → align ≡ 1 * 2 ^ power % 2 ^ 64
    → (n + bit_and ((0 + (2 ^ 64 - n)) % 2 ^ 64) (1 * 2 ^ power % 2 ^ 64 - 1)) % align ≡ 0
up_to_multiple n align power small fits is =
    let p = pow_mono fits in
    let q = pow-suc 2 power in
    let pos = pow_pos power in
    let e : 1 * 2 ^ power % 2 ^ 64 ≡ 2 ^ power = omega (arith, p, q, pos) in
    let above : ℕ = (0 + (2 ^ 64 - n)) % 2 ^ 64 in
    let ends : 64 - power + power ≡ 64 = omega (arith, fits) in
    let whole : 2 ^ 64 % 2 ^ power ≡ 0 = ap (λ (k : ℕ). 2 ^ k % 2 ^ power) (sym ends)
    ∙ (ap (λ (k : ℕ). k % 2 ^ power) (pow-add 2 (64 - power) power) ∙ mul-mod_left (2 ^ (64 - power)) (2 ^ power)) in
    let sum : (n + above) % 2 ^ power ≡ 0 = elim (cases_lt 0 n) [
      | inl some ↦
          let full : n + above ≡ 2 ^ 64 = omega (arith, some, small) in
          ap (λ (k : ℕ). k % 2 ^ power) full ∙ whole
      | inr none ↦
          let full : n + above ≡ 0 = omega (arith, none) in
          ap (λ (k : ℕ). k % 2 ^ power) full ∙ zero-mod (2 ^ power)
    ] in
    rw (is, e) (ap (λ (k : ℕ). (n + k) % 2 ^ power) (and_mask above power) ∙ (add-mod-mod n above (2 ^ power) ∙ sum))

pub returns-then-align-lowest_bit-clause-multiple : goal.returns-then-align-lowest_bit-clause-multiple
returns-then-align-lowest_bit-clause-multiple c =
    up_to_multiple c.args.n c.args.align (trailing_zeros w64 c.args.align) c.ranges.n.fits
    (bit_at-trailing_zeros w64 c.args.align c.requires (omega (arith, c.ranges.align))).0 c.if-align-lowest_bit.true
