-- The number of hexadecimal digits of a number of 65 bits.
use Rattle.std.proofs.Common.{◌≡◌, ℕ, ◌+◌, ◌*◌, ◌/◌, ◌^◌, ◌<◌, ◌≤◌, max, ◌∙◌, ap, arith, suc, zero, ◌-◌, inl, inr, ◌⊎◌}
use Rattle.std.proofs.Math.Nat.{pow-suc}
use Rattle.std.proofs.Math.Pow.{pow_mono}
use Rattle.std.proofs.lemmas.Bool.{cases_lt}
use Rattle.std.proofs.lemmas.Nat.{leading_length}
use Rattle.std.specs.Int.Count.{count_leading_zeros}
use Rattle.cc_word.proofs.DigitLemmas.{pow-bits}
use Rattle.cc_cap.specs.LineText.{HasDigits}

pub counted : (n count : ℕ) → n < 2 ^ 65 → count ≡ max ((131 - count_leading_zeros 128 n) / 4) 1 → HasDigits count n
counted n count small is =
    let h = leading_length 128 n (omega (arith, small)) in
    by h.0 h.1 h.2 h.3
  where
    half : (b k : ℕ) → k < b → 2 ^ b ≤ 2 * n + 1 → 2 ^ k ≤ n
    half zero k below large = absurd (omega (arith, below))
    half (suc b) k below large =
        let under : k ≤ b = omega (arith, below) in
        omega (arith, pow_mono under, pow-suc 2 b, large)

    bounded : (bits : ℕ) → 2 ^ bits ≤ 2 * n + 1 → bits < 66 ⊎ 66 ≤ bits → bits < 66
    bounded bits large (inl few) = few
    bounded bits large (inr many) = absurd (omega (arith, half bits 65 many large, small))

    by : (bits : ℕ) → count_leading_zeros 128 n + bits ≡ 128 → n < 2 ^ bits → 2 ^ bits ≤ 2 * n + 1 → HasDigits count n
    by bits sum below large =
        let few = bounded bits large (cases_lt bits 66) in
        let digits_are : count ≡ max ((3 + bits) / 4) 1 = is ∙ ap (λ (b : ℕ). max (b / 4) 1) (omega (arith, sum)) in
        let up : bits ≤ 4 * count = omega (arith, digits_are) in
        record {
          some = omega (arith, digits_are);
          most = omega (arith, digits_are, few);
          fits = rw (pow-bits count) (omega (arith, below, pow_mono up));
          least = λ more. rw (pow-bits (count - 1)) (half bits (4 * (count - 1)) (omega (arith, digits_are, more)) large);
        }
