-- The first and the last address of a window.
use Rattle.std.proofs.Common.{ℕ, ◌≡◌, ◌∙◌, ◌+◌, ◌-◌, ◌*◌, ◌/◌, ◌%◌, ◌<◌, ◌≤◌, ◌^◌, arith, ap, sym, subst}
use Rattle.std.specs.Prelude.{◌↔◌}
use Rattle.std.proofs.Math.Nat.{div-mul-le_self}
use Rattle.std.proofs.Math.Pow.{pow_mono}
use Rattle.std.proofs.lemmas.Nat.{pow_pos}
use Rattle.cc_word.specs.declared.fields.Fields.{Fields}
use Rattle.cc_bounds.specs.declared.span.Span.{Span}
use Rattle.cc_bounds.specs.Decoding.{stored_exponent}
use Rattle.cc_bounds.specs.Window.{section_of, window_start_of, IsRepresentable}
use Rattle.cc_bounds.proofs.WindowLemmas.{above_start, near-representable, representable-near}
use Rattle.cc_ffi.specs.Windows.{distance, IsFromTo}

-- at exponents of at least 50, every address is in the window
pub large_window : (base exponent address : ℕ) → 50 ≤ exponent → exponent ≤ 52 → base < 2 ^ 64 → address < 2 ^ 64
    → IsFromTo 0 (2 ^ 64 - 1) address ↔ IsRepresentable base exponent address
large_window base exponent address large fits base_fits address_fits =
    let l : 61 ≤ exponent + 11 = omega arith in
    let large_section = pow_mono l in (
      λ h. near-representable base exponent address fits base_fits address_fits (omega (arith, large_section)),
      λ h. omega (arith, address_fits),
    )

-- below, eight sections fit 64 bits
pub some_sections : (exponent : ℕ) → exponent < 50 → 1 ≤ 8 * 2 ^ (exponent + 11) % 2 ^ 64
some_sections exponent small =
    let pos = pow_pos (exponent + 11) in
    let l : exponent + 11 ≤ 60 = omega arith in
    let section_fits = pow_mono l in
    omega (arith, pos, section_fits)

-- a distance of at most the last byte's is below the size
within : (d m n section : ℕ) → d ≡ n → m ≡ 8 * section - 1 → 0 < section → (d ≤ m) ↔ (n < 8 * section)
within d m n section is_d is_m pos = (λ h. omega (arith, is_d, is_m, pos, h), λ h. omega (arith, is_d, is_m, pos, h))

-- below, the window goes from its start as far as its eight sections
pub small_window : (base exponent address first last : ℕ) → exponent < 50 → base < 2 ^ 64 → address < 2 ^ 64
    → first ≡ (base / 2 ^ (exponent + 11) * 2 ^ (exponent + 11) % 2 ^ 64 + (2 ^ 64 - 1 * 2 ^ (exponent + 11) % 2 ^ 64)) % 2 ^ 64
    → last ≡ (first + (8 * 2 ^ (exponent + 11) % 2 ^ 64 - 1)) % 2 ^ 64
    → IsFromTo first last address ↔ IsRepresentable base exponent address
small_window base exponent address first last small base_fits address_fits is_first is_last =
    let section : ℕ = section_of exponent in
    let down = div-mul-le_self base section in
    let pos = pow_pos (exponent + 11) in
    let l : exponent + 11 ≤ 60 = omega arith in
    let section_fits = pow_mono l in
    let is_start : first ≡ window_start_of base exponent % 2 ^ 64 = omega (arith, is_first, down, base_fits, section_fits) in
    let is_above : distance first address ≡ above_start base exponent address =
    omega (arith, is_start, down, base_fits, section_fits, address_fits) in
    let first_fits : first < 2 ^ 64 = omega (arith, is_first) in
    let is_size : distance first last ≡ 8 * section - 1 = omega (arith, first_fits, is_last, pos, section_fits) in
    let fits : exponent ≤ 52 = omega arith in
    let test = within (distance first address) (distance first last) (above_start base exponent address) section is_above is_size pos in (
      λ h. near-representable base exponent address fits base_fits address_fits (test.0 h),
      λ h. test.1 (representable-near base exponent address fits base_fits address_fits h),
    )

-- a test of the decoded span and its exponent is one of the word's own
pub own_window : (fields own : Fields) (span found : Span) (e address : ℕ) (answer : Type 0) → fields ≡ own → span ≡ found
    → e ≡ stored_exponent own → answer ↔ IsRepresentable found.base e address
    → answer ↔ IsRepresentable span.base (stored_exponent fields) address
own_window fields own span found e address answer same is_span is_e h =
    let is : e ≡ stored_exponent fields = is_e ∙ ap (λ (f : Fields). stored_exponent f) (sym same) in
    subst (λ (n : ℕ). answer ↔ IsRepresentable span.base n address) is
    (subst (λ (s : Span). answer ↔ IsRepresentable s.base e address) (sym is_span) h)
