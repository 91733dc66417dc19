-- Powers of ten, and the number of the digits of a number.
use Rattle.std.proofs.Common.{◌≡◌, ℕ, zero, suc, ◌+◌, ◌-◌, ◌*◌, ◌/◌, ◌%◌, ◌<◌, ◌≤◌, ◌^◌, max, List, [], ◌∷◌, ◌++◌, length, length-append, decimal, ◌⊎◌, inl, inr, refl, arith}
use Rattle.std.proofs.Math.Nat.{pow-le-pow_right}
use Rattle.std.proofs.lemmas.Fmt.{decimal_by_steps_wide, length-decimal-le_wide}

pub small_power : (zeros : ℕ) → zeros ≤ 30 → 10 ^ zeros ≤ 10 ^ 30
small_power zeros few = pow-le-pow_right (omega arith) few

some_power : (zeros : ℕ) → 0 < 10 ^ zeros
some_power zero = omega arith
some_power (suc zeros) = omega (arith, some_power zeros)

-- a number has more digits than a power of ten up to it has zeros
more_digits : (zeros n : ℕ) → n < 10 ^ 64 → 10 ^ zeros ≤ n → zeros < length (decimal n)
more_digits zeros n small reaches =
    decimal_by_steps_wide (λ m digits. (k : ℕ) → 10 ^ k ≤ m → k < length digits) one more n small zeros reaches
  where
    one : (m : ℕ) → m < 10 → (k : ℕ) → 10 ^ k ≤ m → k < 1
    one m few zero reached = omega arith
    one m few (suc k) reached = absurd (omega (arith, some_power k))

    more : (m : ℕ) (digits : List ℕ) → 10 ≤ m → ((k : ℕ) → 10 ^ k ≤ m / 10 → k < length digits) → (k : ℕ) → 10 ^ k ≤ m
        → k < length (digits ++ ((48 + m % 10) ∷ []))
    more m digits many fewer zero reached = omega (arith, length-append digits ((48 + m % 10) ∷ []))
    more m digits many fewer (suc k) reached =
        omega (arith, length-append digits ((48 + m % 10) ∷ []), fewer k (omega arith))

-- the power of ten of the first digit of a number, or of 1 for 0, has a zero for each digit after the first
pub zeros_of : (zeros events : ℕ) → events < 2 ^ 128 → 10 ^ zeros ≤ max events 1 → max events 1 < 10 * 10 ^ zeros
    → zeros ≡ length (decimal events) - 1
zeros_of zeros events fits low high =
    omega (arith, length-decimal-le_wide (suc zeros) events (omega arith) (omega arith) (omega arith), by events fits low)
  where
    by : (n : ℕ) → n < 2 ^ 128 → 10 ^ zeros ≤ max n 1 → (zeros ≡ 0) ⊎ (zeros < length (decimal n))
    by zero fits low = inl (least zeros low)
      where
        least : (k : ℕ) → 10 ^ k ≤ 1 → k ≡ 0
        least zero low = refl
        least (suc k) low = absurd (omega (arith, some_power k))
    by (suc n) fits low = inr (more_digits zeros (suc n) (omega arith) (omega arith))
