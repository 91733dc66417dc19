-- The vertical axis reaches its bytes.
use Rattle.std.proofs.Common.{◌≡◌, ℕ, ◌+◌, ◌-◌, ◌*◌, ◌/◌, ◌^◌, ◌<◌, ◌≤◌, max, min, suc, zero, arith, inl, inr, subst}
use Rattle.std.proofs.Math.Nat.{div-lt_iff_lt-mul, lt-div-mul-add, lt_of_not-le, pow-suc}
use Rattle.std.proofs.Math.Pow.{pow_mono}
use Rattle.std.proofs.lemmas.Bool.{cases_lt}
use Rattle.std.proofs.lemmas.Nat.{leading_length, pow_pos}
use Rattle.std.specs.Int.Count.{count_leading_zeros}
use Rattle.cc_heap.specs.declared.curves.Curve.{Curve}
use Rattle.cc_heap.specs.declared.curves.Curve.TheVariants.{Live, Quarantine, Held, High}
use Rattle.cc_heap.specs.declared.levels.Levels.{Levels}
use Rattle.cc_heap.specs.ChartDrawing.{bytes_of}
use Rattle.cc_heap.specs.Scale.{reach_of, step_count, step_power, top_of}

-- eight steps reach the bytes, and no smaller power of two does
record IsStep (reach power : ℕ) : Type 0 where
  reaches : reach ≤ 8 * 2 ^ power
  least : (smaller : ℕ) → reach ≤ 8 * 2 ^ smaller → power ≤ smaller

is_step : (reach : ℕ) → reach ≤ 2 ^ 64 → IsStep reach (step_power reach)
is_step reach fits =
    let h = leading_length 64 ((reach - 1) / 8) (omega (arith, fits)) in
    by h.0 h.1 h.2 h.3
  where
    half : (bits : ℕ) → 2 ^ bits ≤ 2 * ((reach - 1) / 8) + 1 → (smaller : ℕ) → reach ≤ 8 * 2 ^ smaller → bits ≤ smaller
    half zero large smaller enough = omega arith
    half (suc bits) large smaller enough =
        let more : bits < smaller = lt_of_not-le (λ (less : smaller ≤ bits).
        let grows : 2 ^ smaller ≤ 2 ^ bits = pow_mono less in omega (arith, large, enough, grows, pow_pos bits, pow-suc 2 bits)) in
        omega (arith, more)

    by : (bits : ℕ) → count_leading_zeros 64 ((reach - 1) / 8) + bits ≡ 64 → (reach - 1) / 8 < 2 ^ bits
        → 2 ^ bits ≤ 2 * ((reach - 1) / 8) + 1 → IsStep reach (step_power reach)
    by bits sum below large =
        let is : bits ≡ step_power reach = omega (arith, sum) in
        subst (λ (power : ℕ). IsStep reach power) is (record {
          reaches = omega (arith, below);
          least = half bits large;
        })

pub least_step : (reach power : ℕ) → reach ≤ 2 ^ 64 → reach ≤ 8 * 2 ^ power → step_power reach ≤ power
least_step reach power fits enough = (is_step reach fits).least power enough

-- ---- the steps

one_more : (count step : ℕ) → count * step + step ≡ (count + 1) * step
one_more count step = grind arith

fewer : (first second step bytes : ℕ) → bytes ≤ first * step → bytes ≤ second * step → bytes ≤ min first second * step
fewer first second step bytes by_first by_second =
    elim (cases_lt first second) [
      | inl less ↦ let is : min first second ≡ first = omega (arith, less) in rw is by_first
      | inr more ↦ let is : min first second ≡ second = omega (arith, more) in rw is by_second
    ]

pub top_reaches : (reach : ℕ) → reach ≤ 2 ^ 64 → reach ≤ top_of reach
top_reaches reach fits =
    let last : reach - 1 < (reach - 1) / 2 ^ step_power reach * 2 ^ step_power reach + 2 ^ step_power reach =
    lt-div-mul-add {a = reach - 1} (pow_pos (step_power reach)) in
    let enough : reach ≤ ((reach - 1) / 2 ^ step_power reach + 1) * 2 ^ step_power reach =
    omega (arith, last, one_more ((reach - 1) / 2 ^ step_power reach) (2 ^ step_power reach)) in
    fewer ((reach - 1) / 2 ^ step_power reach + 1) 8 (2 ^ step_power reach) reach enough (is_step reach fits).reaches

pub least_count : (reach steps : ℕ) → reach ≤ steps * 2 ^ step_power reach → step_count reach ≤ max steps 1
least_count zero steps enough = omega arith
least_count (suc last) steps enough =
    let below : (suc last - 1) / 2 ^ step_power (suc last) < steps = (div-lt_iff_lt-mul (pow_pos (step_power (suc last)))).1 (omega (arith, enough)) in
    omega (arith, below)

-- ---- the curves

pub no_cut : (most : Levels) (curve : Curve) → most.live ≤ most.held → most.quarantine ≤ most.held
    → most.held ≤ 2 ^ 64 → most.high ≤ 2 ^ 64 → bytes_of curve most ≤ top_of (reach_of most)
no_cut most curve live quarantine held high =
    by curve (top_reaches (reach_of most) (omega arith))
  where
    by : (curve : Curve) → reach_of most ≤ top_of (reach_of most) → bytes_of curve most ≤ top_of (reach_of most)
    by Live reaches = omega (arith, reaches, live, held)
    by Quarantine reaches = omega (arith, reaches, quarantine, held)
    by Held reaches = omega (arith, reaches, held)
    by High reaches = omega (arith, reaches, high)
