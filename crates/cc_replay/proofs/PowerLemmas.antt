-- A number of which one bit is set is a power of two.
use Rattle.std.proofs.Common.{◌≡◌, ℕ, zero, suc, ◌+◌, ◌*◌, ◌/◌, ◌%◌, ◌^◌, ◌<◌, true, refl, sym, ap, arith, inl, inr, subst}
use Rattle.std.specs.Prelude.{IfOk, Result, Ok, Err}
use Rattle.std.specs.Int.{IsPowerOfTwo, is_power_of_two}
use Rattle.std.specs.Int.Count.{ones, ones_in}
use Rattle.std.proofs.lemmas.Bool.{cases_eq, eq-eqb, eqb-true}
use Rattle.cc_word.specs.declared.refusal.Refusal.{Refusal}
use Rattle.cc_word.specs.declared.refusal.Refusal.TheVariants as refusal
use Rattle.cc_values.specs.Values.{both}

no_ones : (k n : ℕ) → n < 2 ^ k → ones_in k n ≡ 0 → n ≡ 0
unfolding ones_in
no_ones zero n fits none = omega (arith, fits)
no_ones (suc k) n fits none =
    let parts : n % 2 + ones_in k (n / 2) ≡ 0 = none in
    let half : n / 2 ≡ 0 = no_ones k (n / 2) (omega (arith, fits)) (omega (arith, parts)) in
    omega (arith, half, parts)

none_at_zero : (n : ℕ) → ones_in 0 n ≡ 0
unfolding ones_in
none_at_zero n = refl

one_in : (k n : ℕ) → n < 2 ^ k → ones_in k n ≡ 1 → IsPowerOfTwo n
unfolding ones_in
one_in zero n fits one = absurd (omega (arith, one, none_at_zero n))
one_in (suc k) n fits one =
    let parts : n % 2 + ones_in k (n / 2) ≡ 1 = one in
    elim (cases_eq (n % 2) 0) [
      | inl even ↦
          let half = one_in k (n / 2) (omega (arith, fits)) (omega (arith, parts, even)) in
          let is : n ≡ 2 * 2 ^ half.0 = omega (arith, half.1, even) in
          (suc half.0, omega (arith, is))
      | inr odd ↦
          let half : n / 2 ≡ 0 = no_ones k (n / 2) (omega (arith, fits)) (omega (arith, parts, odd)) in
          (0, omega (arith, half, odd))
    ]

below_its_power : (n : ℕ) → n < 2 ^ n
below_its_power zero = omega arith
below_its_power (suc n) = let less = below_its_power n in omega (arith, less)

pub one_bit : (n : ℕ) → is_power_of_two n ≡ true → IsPowerOfTwo n
unfolding ones
one_bit n is = one_in n n (below_its_power n) (eqb-true (ones_in n n) 1 is)

-- zero has no bit, and a power of two one
zero_ones : (k : ℕ) → ones_in k 0 ≡ 0
unfolding ones_in
zero_ones zero = refl
zero_ones (suc k) =
    let rest : ones_in k (0 / 2) ≡ 0 = zero_ones k in
    let whole : 0 % 2 + ones_in k (0 / 2) ≡ 0 = omega (arith, rest) in
    whole

power_ones : (k j : ℕ) → j < k → ones_in k (2 ^ j) ≡ 1
unfolding ones_in
power_ones zero j less = absurd (omega (arith, less))
power_ones (suc k) zero less =
    let rest : ones_in k (1 / 2) ≡ 0 = zero_ones k in
    let whole : 1 % 2 + ones_in k (1 / 2) ≡ 1 = omega (arith, rest) in
    whole
power_ones (suc k) (suc j) less =
    let even : 2 ^ suc j % 2 ≡ 0 = omega arith in
    let half : 2 ^ suc j / 2 ≡ 2 ^ j = omega arith in
    let rest : ones_in k (2 ^ j) ≡ 1 = power_ones k j (omega (arith, less)) in
    let whole : 2 ^ suc j % 2 + ones_in k (2 ^ suc j / 2) ≡ 1 = rw (even, half) (omega (arith, rest)) in
    whole

pub power_is_one : (n : ℕ) → IsPowerOfTwo n → is_power_of_two n ≡ true
unfolding ones
power_is_one n (k, is) =
    let one : ones_in n n ≡ 1 = subst (λ (m : ℕ). ones_in m m ≡ 1) (sym is) (power_ones (2 ^ k) k (below_its_power k)) in
    eq-eqb (ones_in n n) 1 one

pub one_is_a_power : IsPowerOfTwo 1
one_is_a_power = (0, refl)

-- ---- the alignment among the values of a line

abbrev second_of : Result ((ℕ × ℕ) × ℕ) Refusal → ℕ
second_of (Ok values) = values.1
second_of (Err refusal) = 0

pub aligned_second : (first : Result (ℕ × ℕ) Refusal) (second : Result ℕ Refusal) (pair : ℕ × ℕ) (align : ℕ)
    → both first second ≡ Ok (pair, align) → IfOk second IsPowerOfTwo → IsPowerOfTwo align
aligned_second (Ok first) (Ok second) pair align is aligned = let same : second ≡ align = ap second_of is in subst IsPowerOfTwo same aligned
aligned_second (Ok first) (Err fault) pair align is aligned = absurd cc
aligned_second (Err refusal.Syntax) second pair align is aligned = absurd cc
aligned_second (Err other) (Ok second) pair align is aligned = absurd cc
aligned_second (Err other) (Err fault) pair align is aligned = absurd cc
