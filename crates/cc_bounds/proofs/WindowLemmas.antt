-- Whether an address is in the window, from its distance above the window's start.
use Rattle.std.proofs.Common.{refl, ap, ◌∙◌, zero, suc, ◌≡◌, nat_lt, ℕ, ◌+◌, ◌-◌, ◌*◌, ◌<◌, ◌≤◌, ◌/◌, ◌%◌, ◌^◌, arith, inl, inr}
use Rattle.std.specs.Prelude.{IsTrue, ◌↔◌}
use Rattle.std.proofs.Math.Nat.{div-mul-le_self, div-le_self, div-lt_iff_lt-mul}
use Rattle.std.proofs.Math.Pow.{pow_mono}
use Rattle.std.proofs.lemmas.Nat.{pow_pos}
use Rattle.std.proofs.lemmas.Bool.{cases_lt}
use Rattle.cc_bounds.specs.Window.{section_of, window_start_of, IsRepresentable}

-- the distance from the window's start up to the address, modulo 2 ^ 64
abbrev pub above_start : (base exponent address : ℕ) → ℕ
above_start base exponent address = (address + 2 * 2 ^ 64 - window_start_of base exponent) % 2 ^ 64

pub near-representable : (base exponent address : ℕ) → exponent ≤ 52 → base < 2 ^ 64 → address < 2 ^ 64
    → above_start base exponent address < 8 * section_of exponent → IsRepresentable base exponent address
near-representable base exponent address fits base_fits address_fits h =
    let section : ℕ = section_of exponent in
    let down = div-mul-le_self base section in
    let l : exponent + 11 ≤ 63 = omega arith in
    let section_fits = pow_mono l in
    let n : ℕ = address + 2 * 2 ^ 64 - window_start_of base exponent in
    record {
      laps = 2 - n / 2 ^ 64;
      from_start = omega (arith, down, section_fits, base_fits);
      below_end = omega (arith, down, section_fits, base_fits, h);
    }

pub representable-near : (base exponent address : ℕ) → exponent ≤ 52 → base < 2 ^ 64 → address < 2 ^ 64
    → IsRepresentable base exponent address → above_start base exponent address < 8 * section_of exponent
representable-near base exponent address fits base_fits address_fits h =
    let section : ℕ = section_of exponent in
    let down = div-mul-le_self base section in
    let l : exponent + 11 ≤ 63 = omega arith in
    let section_fits = pow_mono l in
    elim (cases_lt exponent 50) [
      | inl small ↦
          let l : exponent + 11 ≤ 60 = omega arith in
          let small_section = pow_mono l in
          omega (arith, down, small_section, h.from_start, h.below_end, base_fits)
      | inr large ↦
          let l : 61 ≤ exponent + 11 = omega arith in
          let large_section = pow_mono l in
          omega (arith, large_section)
    ]

-- the window's start as it is shifted: the base's section less one, as far as 64 bits go
shifted_start : (base section quotient : ℕ) → quotient ≡ base / section → base < 2 ^ 64 → 0 < section → section ≤ 2 ^ 63
    → (quotient + (2 ^ 64 - 1)) % 2 ^ 64 * section % 2 ^ 64 ≡ (2 ^ 64 + quotient * section - section) % 2 ^ 64
shifted_start base section zero is base_fits pos fits = omega (arith, pos, fits)
shifted_start base section (suc before) is base_fits pos fits =
    let down = div-le_self base section in
    let less : (suc before + (2 ^ 64 - 1)) % 2 ^ 64 ≡ before = omega (arith, is, down, base_fits) in
    ap (λ (n : ℕ). n * section % 2 ^ 64) less ∙ omega arith

-- the test of that distance, by words of 64 bits
pub representable_test : (base exponent address : ℕ) → exponent ≤ 52 → base < 2 ^ 64 → address < 2 ^ 64
    → IsTrue (nat_lt ((address + (2 ^ 64 - (base / 2 ^ (exponent + 11) + (2 ^ 64 - 1)) % 2 ^ 64 * 2 ^ (exponent + 11) % 2 ^ 64)) % 2 ^ 64
    / 2 ^ (exponent + 11)) 8) ↔ IsRepresentable base exponent address
representable_test base exponent address fits base_fits address_fits =
    let section : ℕ = section_of exponent in
    let start : ℕ = (base / section + (2 ^ 64 - 1)) % 2 ^ 64 * section % 2 ^ 64 in
    let pos = pow_pos (exponent + 11) in
    let l : exponent + 11 ≤ 63 = omega arith in
    let section_fits = pow_mono l in
    let down = div-mul-le_self base section in
    let is_start : start ≡ window_start_of base exponent % 2 ^ 64 = shifted_start base section (base / section) refl base_fits pos section_fits in
    let is_above : (address + (2 ^ 64 - start)) % 2 ^ 64 ≡ above_start base exponent address =
    omega (arith, is_start, down, base_fits, section_fits) in
    by_distance _ section is_above pos refl
  where
    lt_from : (a b : ℕ) → IsTrue (nat_lt a b) → a < b
    lt_from a b h = grind arith

    lt_to : (a b : ℕ) → a < b → IsTrue (nat_lt a b)
    lt_to a b h = grind arith

    by_distance : (distance section : ℕ) → distance ≡ above_start base exponent address → 0 < section → section ≡ section_of exponent
        → IsTrue (nat_lt (distance / section) 8) ↔ IsRepresentable base exponent address
    by_distance distance section is pos is_section = (
      λ h.
          let less = (div-lt_iff_lt-mul pos).0 (lt_from _ _ h) in
          near-representable base exponent address fits base_fits address_fits (omega (arith, less, is, is_section)),
      λ h.
          let less = representable-near base exponent address fits base_fits address_fits h in
          let less' : distance < 8 * section = omega (arith, less, is, is_section) in
          lt_to _ _ ((div-lt_iff_lt-mul pos).1 less'),
    )
