-- Fields with the encoding of a sound span decode to it, at each representable address.
use Rattle.std.proofs.Common.{subst, ◌≡◌, ℕ, ◌+◌, ◌-◌, ◌*◌, ◌<◌, ◌≤◌, ◌/◌, ◌%◌, ◌^◌, refl, sym, ◌∙◌, ap, arith, inl, inr}
use Rattle.std.proofs.Math.Nat.{mul-le-mul_right, div-mul-le_self, div-add-mod', add-mul-mod_self_right, mod-eq_of_lt}
use Rattle.std.proofs.Math.Pow.{pow_mono}
use Rattle.std.proofs.lemmas.Nat.{pow_pos, pow-add}
use Rattle.std.proofs.lemmas.Bool.{cases_lt}
use Rattle.cc_word.specs.declared.fields.Fields.{Fields}
use Rattle.cc_bounds.specs.Window.{IsRepresentable}
use Rattle.cc_bounds.specs.Decoding.{stored_exponent, base_mantissa, IsTopMantissa, window_size, first_section, IsWindow, IsPlaced, IsTopBeside, DecodesTo}
use Rattle.cc_bounds.proofs.PlaceLemmas.{units_lt}

-- numbers that whole sizes make equal are equal modulo the size
same_modulo : (size x y s v : ℕ) → x + s * size ≡ y + v * size → x % size ≡ y % size
same_modulo size x y s v h =
    sym (add-mul-mod_self_right x s size) ∙ ap (λ (n : ℕ). n % size) h ∙ add-mul-mod_self_right y v size

-- a number that is a small one and whole sizes has the small one as its remainder
rest_is : (size x rest v : ℕ) → rest < size → (s : ℕ) → x + s * size ≡ rest + v * size → x % size ≡ rest
rest_is size x rest v fits s h = same_modulo size x rest s v h ∙ mod-eq_of_lt fits

-- a section in units of an exponent
section-units : (e : ℕ) → 2 ^ (e + 11) ≡ 2 ^ 11 * 2 ^ e
section-units e = let k = pow-add 2 e 11 in omega (arith, k)

section_fits : (e : ℕ) → e ≤ 52 → 2 ^ (e + 11) ≤ 2 ^ 63
section_fits e fits = let l : e + 11 ≤ 63 = omega arith in pow_mono l

-- ---- the window of a representable address, raised

-- The window of an address for a span whose base is in section `n` of the address space: raised by
-- `laps` times 2 ^ 64, which whole windows make up, it holds the raised address.
pub record IsRaised (n e a laps windows : ℕ) : Type 0 where
  pub positive : 1 ≤ laps
  pub whole : windows * (8 * 2 ^ (e + 11)) ≡ laps * 2 ^ 64
  pub even : 51 ≤ e → laps % 2 ≡ 0
  pub from_start : n * 2 ^ (e + 11) + laps * 2 ^ 64 ≤ a + 2 ^ 66 + 2 ^ (e + 11)
  pub below_end : a + 2 ^ 66 < n * 2 ^ (e + 11) + laps * 2 ^ 64 + 7 * 2 ^ (e + 11)

pub record SomeRaise (n e a : ℕ) : Type 0 where
  pub laps : ℕ
  pub windows : ℕ
  pub raise : IsRaised n e a laps windows

raise_51 : (n a : ℕ) → n < 4 → a < 2 ^ 64 → SomeRaise n 51 a
raise_51 n a fits a_fits =
    elim (cases_lt (a + 2 ^ 62) (n * 2 ^ 62)) [
      | inl before ↦ record { laps = 2; windows = 1; raise = record { positive = omega arith; whole = refl; even = λ _. refl; from_start = omega arith; below_end = omega arith } }
      | inr after ↦ record { laps = 4; windows = 2; raise = record { positive = omega arith; whole = refl; even = λ _. refl; from_start = omega arith; below_end = omega arith } }
    ]

raise_52 : (n a : ℕ) → n < 2 → a < 2 ^ 64 → SomeRaise n 52 a
raise_52 n a fits a_fits = record {
  laps = 4;
  windows = 1;
  raise = record { positive = omega arith; whole = refl; even = λ _. refl; from_start = omega arith; below_end = omega arith };
}

-- below exponent 51 whole windows make up 2 ^ 64
pub windows-lap : (e : ℕ) → e ≤ 50 → 2 ^ (50 - e) * (8 * 2 ^ (e + 11)) ≡ 2 ^ 64
windows-lap e small =
    let s : 50 - e + (e + 14) ≡ 64 = omega arith in
    let p : 2 ^ 64 ≡ 2 ^ (50 - e) * 2 ^ (e + 14) = ap (λ (n : ℕ). 2 ^ n) (sym s) ∙ pow-add 2 (50 - e) (e + 14) in
    let eight : 2 ^ (e + 14) ≡ 8 * 2 ^ (e + 11) =
    let t : e + 14 ≡ e + 11 + 3 = omega arith in let q = pow-add 2 (e + 11) 3 in rw t (omega (arith, q)) in
    sym (p ∙ ap (λ (n : ℕ). 2 ^ (50 - e) * n) eight)

raise_small : (base e a : ℕ) → e ≤ 50 → base < 2 ^ 64 → a < 2 ^ 64 → IsRepresentable base e a → SomeRaise (base / 2 ^ (e + 11)) e a
raise_small base e a small base_fits a_fits h =
    let j : ℕ = h.laps in
    let c : ℕ = 2 ^ (50 - e) in
    let fits : 2 ^ (e + 11) ≤ 2 ^ 61 = let l : e + 11 ≤ 61 = omega arith in pow_mono l in
    let down : base / 2 ^ (e + 11) * 2 ^ (e + 11) ≤ base = div-mul-le_self base (2 ^ (e + 11)) in
    let from_start = h.from_start in
    let below_end = h.below_end in
    let few : j ≤ 3 = omega (arith, below_end, fits, down) in
    let lap = windows-lap e small in
    let laps = ap (λ (n : ℕ). (5 - j) * n) lap in
    record {
      laps = 5 - j;
      windows = (5 - j) * c;
      raise = record {
        positive = omega arith;
        whole = omega (arith, laps);
        even = λ l. absurd (omega arith);
        from_start = omega (arith, from_start, few, fits);
        below_end = omega (arith, below_end, few, fits);
      };
    }

pub raise_of : (base e a : ℕ) → e ≤ 52 → base < 2 ^ 64 → a < 2 ^ 64 → IsRepresentable base e a → SomeRaise (base / 2 ^ (e + 11)) e a
raise_of base e a e_fits base_fits a_fits h =
    elim (cases_lt e 51) [
      | inl small ↦ raise_small base e a (omega arith) base_fits a_fits h
      | inr large ↦
          elim (cases_lt e 52) [
            | inl fifty_one ↦
                let is : 51 ≡ e = omega arith in
                subst (λ (k : ℕ). SomeRaise (base / 2 ^ (k + 11)) k a) is (raise_51 (base / 2 ^ 62) a (omega arith) a_fits)
            | inr fifty_two ↦
                let is : 52 ≡ e = omega arith in
                subst (λ (k : ℕ). SomeRaise (base / 2 ^ (k + 11)) k a) is (raise_52 (base / 2 ^ 63) a (omega arith) a_fits)
          ]
    ]

-- ---- decoding

-- a span in units of an exponent
pub record IsSpanOf (p q e base top : ℕ) : Type 0 where
  pub e_fits : e ≤ 52
  pub is_base : base ≡ p * 2 ^ e
  pub is_top : top ≡ q * 2 ^ e
  pub in_order : p ≤ q
  pub close : q < p + 2 ^ 13
  pub base_fits : base < 2 ^ 64
  pub top_fits : top ≤ 2 ^ 64
  pub narrow : e < 51 → top < base + 2 ^ 63

module _ (p q e base top a laps windows : ℕ) (span : IsSpanOf p q e base top) (raise : IsRaised (p / 2 ^ 11) e a laps windows) where
  u : ℕ
  u = 2 ^ (e + 11)

  start : ℕ
  start = p / 2 ^ 11 * u + laps * 2 ^ 64 - u

  record Numbers : Type 0 where
    start_is : start + u ≡ p / 2 ^ 11 * u + laps * 2 ^ 64
    base_is : base ≡ p / 2 ^ 11 * u + p % 2 ^ 11 * 2 ^ e
    rest_fits : p % 2 ^ 11 * 2 ^ e < u
    top_le : top < base + 4 * u
    in_order : base ≤ top
    window_mantissas : 8 * u ≡ 2 ^ 14 * 2 ^ e

  numbers : Numbers
  unfolding u start
  numbers =
      let units = section-units e in
      let fits = section_fits e span.e_fits in
      let positive = raise.positive in
      let split = ap (λ (x : ℕ). x * 2 ^ e) (div-add-mod' p (2 ^ 11)) in
      let sections = ap (λ (x : ℕ). p / 2 ^ 11 * x) units in
      let rest = units_lt (p % 2 ^ 11) (2 ^ 11) (2 ^ e) 0 (omega arith) (pow_pos e) in
      let far = mul-le-mul_right (2 ^ e) span.close in
      let ordered = mul-le-mul_right (2 ^ e) span.in_order in
      let b = span.is_base in
      let t = span.is_top in
      let pos = pow_pos e in
      record {
        start_is = omega (arith, fits, positive);
        base_is = omega (arith, split, sections, b);
        rest_fits = omega (arith, rest, units);
        top_le = omega (arith, far, b, t, units, pos);
        in_order = omega (arith, ordered, b, t);
        window_mantissas = omega (arith, units);
      }

  begins : start % (8 * u) ≡ (p % 2 ^ 14 / 2 ^ 11 + 7) % 8 * u
  unfolding u
  begins =
      let n = numbers in
      let first : ℕ = (p % 2 ^ 14 / 2 ^ 11 + 7) % 8 in
      let laps_is = raise.whole in
      let turns : p / 2 ^ 11 + 7 ≡ first + 8 * ((p / 2 ^ 11 + 7) / 8) = omega arith in
      let turns' = ap (λ (x : ℕ). x * u) turns in
      let fits = units_lt first 8 u 0 (omega arith) (pow_pos (e + 11)) in
      rest_is (8 * u) start (first * u) ((p / 2 ^ 11 + 7) / 8 + windows) (omega (arith, fits)) 1
      (omega (arith, n.start_is, laps_is, turns'))

  -- the place of a mantissa of the span
  scaled : (number mantissa : ℕ) → number ≡ mantissa * 2 ^ e → (number + laps * 2 ^ 64) % (8 * u) ≡ mantissa % 2 ^ 14 * 2 ^ e
  unfolding u
  scaled number mantissa is =
      let n = numbers in
      let split = ap (λ (x : ℕ). x * 2 ^ e) (div-add-mod' mantissa (2 ^ 14)) in
      let sizes = ap (λ (x : ℕ). mantissa / 2 ^ 14 * x) n.window_mantissas in
      let fits = units_lt (mantissa % 2 ^ 14) (2 ^ 14) (2 ^ e) 0 (omega arith) (pow_pos e) in
      let laps_is = raise.whole in
      rest_is (8 * u) (number + laps * 2 ^ 64) (mantissa % 2 ^ 14 * 2 ^ e) (mantissa / 2 ^ 14 + windows)
      (omega (arith, fits, n.window_mantissas)) 0 (omega (arith, is, split, sizes, laps_is))

  pub decodes_back : (fields : Fields) → e ≡ stored_exponent fields → a ≡ fields.address → p % 2 ^ 14 ≡ base_mantissa fields
      → IsTopMantissa fields (q % 2 ^ 14) → DecodesTo fields (record { base = base; top = top })
  unfolding u
  decodes_back fields is_e is_a is_b is_t =
      let n = numbers in
      let size : window_size fields ≡ 8 * u = ap (λ (k : ℕ). 8 * 2 ^ (k + 11)) (sym is_e) in
      let fits = section_fits e span.e_fits in
      let from_start = raise.from_start in
      let below_end = raise.below_end in
      let even = raise.even in
      let narrow = span.narrow in
      let base_fits = span.base_fits in
      let top_fits = span.top_fits in
      let window : IsWindow fields start = record {
        begins =
            ap (λ (k : ℕ). start % k) size ∙ begins
            ∙ ap (λ (m : ℕ). (m / 2 ^ 11 + 7) % 8 * u) is_b
            ∙ ap (λ (k : ℕ). first_section fields * 2 ^ (k + 11)) is_e;
        holds_address = record {
          from_start = omega (arith, n.start_is, from_start, is_a);
          below_end = omega (arith, n.start_is, below_end, is_a, size);
        };
      } in
      let base_place : IsPlaced fields (base_mantissa fields) (base + laps * 2 ^ 64) = record {
        start = start;
        is_window = window;
        in_window = record {
          from_start = omega (arith, n.start_is, n.base_is);
          below_end = omega (arith, n.start_is, n.base_is, n.rest_fits, size);
        };
        scaled =
            ap (λ (k : ℕ). (base + laps * 2 ^ 64) % k) size ∙ scaled base p span.is_base
            ∙ ap (λ (m : ℕ). m * 2 ^ e) is_b ∙ ap (λ (k : ℕ). base_mantissa fields * 2 ^ k) is_e;
      } in
      let top_place : IsPlaced fields (q % 2 ^ 14) (top + laps * 2 ^ 64) = record {
        start = start;
        is_window = window;
        in_window = record {
          from_start = omega (arith, n.start_is, n.base_is, n.in_order);
          below_end = omega (arith, n.start_is, n.base_is, n.rest_fits, n.top_le, size);
        };
        scaled =
            ap (λ (k : ℕ). (top + laps * 2 ^ 64) % k) size ∙ scaled top q span.is_top
            ∙ ap (λ (k : ℕ). q % 2 ^ 14 * 2 ^ k) is_e;
      } in
      let beside : IsTopBeside e base (top + laps * 2 ^ 64) top = record {
        fits = omega arith;
        large = λ l. let z = even l in omega arith;
        small = λ l. omega arith;
        near = λ l. let z = narrow l in let o = n.in_order in omega arith;
      } in
      record {
        is_base = record { place = base + laps * 2 ^ 64; is_place = base_place; kept = omega (arith, base_fits) };
        is_top = record {
          mantissa = q % 2 ^ 14;
          place = top + laps * 2 ^ 64;
          is_mantissa = is_t;
          is_place = top_place;
          is_top = subst (λ (k : ℕ). IsTopBeside k base (top + laps * 2 ^ 64) top) is_e beside;
        };
      }
