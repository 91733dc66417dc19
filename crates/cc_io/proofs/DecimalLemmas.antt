-- The decimal digits of numbers of few digits, two by two as they are printed.
use Rattle.std.proofs.Common.{◌≡◌, Bool, false, ℕ, ◌+◌, ◌*◌, ◌/◌, ◌%◌, ◌^◌, ◌<◌, ◌≤◌, ◌==◌, true, refl, slice_index, List, [], ◌∷◌, ◌++◌, append_assoc, length, length-append, decimal, ap, ◌∙◌, arith}
use Rattle.std.proofs.lemmas.Bool.{eqb-true, agree_below_at}
use mir.Val.{bool_byte}
use Rattle.cc_word.specs.Word.{bit_of}
use Rattle.cc_io.specs.declared.page.TheConstants.{PAIRS}
use Rattle.std.proofs.lemmas.Fmt.{decimal_digit, decimal_step}

-- a number from 10 up has the digits of its tenth, and one digit more
more : (n : ℕ) (digits : List ℕ) → 10 ≤ n → n < 2 ^ 64 → decimal (n / 10) ≡ digits → decimal n ≡ digits ++ (48 + n % 10) ∷ []
more n digits some small tenth = decimal_step n some small ∙ ap (λ (l : List ℕ). l ++ (48 + n % 10) ∷ []) tenth

pub one_digit : (n : ℕ) → n < 10 → decimal n ≡ (48 + n % 10) ∷ []
one_digit n h = let same : n % 10 ≡ n = omega (arith, h) in rw same (decimal_digit n h)

pub flag_digit : (flag : Bool) → decimal (bit_of flag) ≡ (48 + bool_byte flag) ∷ []
flag_digit true = one_digit 1 (omega arith)
flag_digit false = one_digit 0 (omega arith)

pub two_digits : (n : ℕ) → 10 ≤ n → n < 100 → decimal n ≡ (48 + n / 10 % 10) ∷ (48 + n % 10) ∷ []
two_digits n low high = more n _ low (omega (arith, high)) (one_digit (n / 10) (omega (arith, high)))

three_digits : (n : ℕ) → 100 ≤ n → n < 1000 → decimal n ≡ (48 + n / 100 % 10) ∷ (48 + n / 10 % 10) ∷ (48 + n % 10) ∷ []
three_digits n low high =
    let hundreds : n / 10 / 10 ≡ n / 100 = omega arith in
    rw (← hundreds) (more n _ (omega (arith, low)) (omega (arith, high)) (two_digits (n / 10) (omega (arith, low)) (omega (arith, high))))

four_digits : (n : ℕ) → 1000 ≤ n → n < 10000
    → decimal n ≡ (48 + n / 1000 % 10) ∷ (48 + n / 100 % 10) ∷ (48 + n / 10 % 10) ∷ (48 + n % 10) ∷ []
four_digits n low high =
    let hundreds : n / 10 / 10 ≡ n / 100 = omega arith in
    let thousands : n / 10 / 100 ≡ n / 1000 = omega arith in
    rw (← hundreds, ← thousands) (more n _ (omega (arith, low)) (omega (arith, high)) (three_digits (n / 10) (omega (arith, low)) (omega (arith, high))))

five_digits : (n : ℕ) → 10000 ≤ n → n < 100000
    → decimal n ≡ (48 + n / 10000 % 10) ∷ (48 + n / 1000 % 10) ∷ (48 + n / 100 % 10) ∷ (48 + n / 10 % 10) ∷ (48 + n % 10) ∷ []
five_digits n low high =
    let hundreds : n / 10 / 10 ≡ n / 100 = omega arith in
    let thousands : n / 10 / 100 ≡ n / 1000 = omega arith in
    let first : n / 10 / 1000 ≡ n / 10000 = omega arith in
    rw (← hundreds, ← thousands, ← first) (more n _ (omega (arith, low)) (omega (arith, high)) (four_digits (n / 10) (omega (arith, low)) (omega (arith, high))))

six_digits : (n : ℕ) → 100000 ≤ n → n < 1000000
    → decimal n ≡ (48 + n / 100000 % 10) ∷ (48 + n / 10000 % 10) ∷ (48 + n / 1000 % 10) ∷ (48 + n / 100 % 10) ∷ (48 + n / 10 % 10) ∷ (48 + n % 10) ∷ []
six_digits n low high =
    let hundreds : n / 10 / 10 ≡ n / 100 = omega arith in
    let thousands : n / 10 / 100 ≡ n / 1000 = omega arith in
    let second : n / 10 / 1000 ≡ n / 10000 = omega arith in
    let first : n / 10 / 10000 ≡ n / 100000 = omega arith in
    rw (← hundreds, ← thousands, ← second, ← first) (more n _ (omega (arith, low)) (omega (arith, high)) (five_digits (n / 10) (omega (arith, low)) (omega (arith, high))))

-- the digits of the last pair, and of the pair before it
tens_of : (n : ℕ) → n % 100 / 10 ≡ n / 10 % 10
tens_of n = omega arith

ones_of : (n : ℕ) → n % 100 % 10 ≡ n % 10
ones_of n = omega arith

thousands_of : (n : ℕ) → n / 100 % 100 / 10 ≡ n / 1000 % 10
thousands_of n = omega arith

hundreds_of : (n : ℕ) → n / 100 % 100 % 10 ≡ n / 100 % 10
hundreds_of n = omega arith

pub two_alone : (n : ℕ) → 10 ≤ n → n < 100 → decimal n ≡ (48 + n / 10) ∷ (48 + n % 10) ∷ []
two_alone n low high = let tens : n / 10 ≡ n / 10 % 10 = omega (arith, high) in rw tens (two_digits n low high)

pub three_of_pairs : (n : ℕ) → 100 ≤ n → n < 1000
    → decimal n ≡ (48 + n / 100 % 10) ∷ (48 + n % 100 / 10) ∷ (48 + n % 100 % 10) ∷ []
three_of_pairs n low high = rw (tens_of n, ones_of n) (three_digits n low high)

pub two_pairs : (n : ℕ) → 1000 ≤ n → n < 10000
    → decimal n ≡ (48 + n / 100 / 10) ∷ (48 + n / 100 % 10) ∷ (48 + n % 100 / 10) ∷ (48 + n % 100 % 10) ∷ []
two_pairs n low high =
    let first : n / 100 / 10 ≡ n / 1000 % 10 = omega (arith, high) in
    rw (first, tens_of n, ones_of n) (four_digits n low high)

pub five_of_pairs : (n : ℕ) → 10000 ≤ n → n < 100000
    → decimal n ≡ (48 + n / 10000 % 10) ∷ (48 + n / 100 % 100 / 10) ∷ (48 + n / 100 % 100 % 10) ∷ (48 + n % 100 / 10) ∷ (48 + n % 100 % 10) ∷ []
five_of_pairs n low high = rw (thousands_of n, hundreds_of n, tens_of n, ones_of n) (five_digits n low high)

pub three_pairs : (n : ℕ) → 100000 ≤ n → n < 1000000
    → decimal n ≡ (48 + n / 10000 / 10) ∷ (48 + n / 10000 % 10) ∷ (48 + n / 100 % 100 / 10) ∷ (48 + n / 100 % 100 % 10) ∷ (48 + n % 100 / 10) ∷ (48 + n % 100 % 10) ∷ []
three_pairs n low high =
    let first : n / 10000 / 10 ≡ n / 100000 % 10 = omega (arith, high) in
    rw (first, thousands_of n, hundreds_of n, tens_of n, ones_of n) (six_digits n low high)

-- the last two digits, and those before them
pub last_pair : (n : ℕ) → 100 ≤ n → n < 2 ^ 64 → decimal n ≡ decimal (n / 100) ++ (48 + n % 100 / 10) ∷ (48 + n % 100 % 10) ∷ []
last_pair n some small =
    let hundredth : n / 10 / 10 ≡ n / 100 = omega arith in
    rw (tens_of n, ones_of n, ← hundredth)
    (more n _ (omega (arith, some)) small (decimal_step (n / 10) (omega (arith, some)) (omega (arith, small)))
    ∙ append_assoc (decimal (n / 10 / 10)) ((48 + n / 10 % 10) ∷ []) ((48 + n % 10) ∷ []))

-- what was appended in two pieces, or in three
pub in_two : (done a b whole : List ℕ) → a ++ b ≡ whole → (done ++ a) ++ b ≡ done ++ whole
in_two done a b whole e = append_assoc done a b ∙ ap (λ (l : List ℕ). done ++ l) e

pub in_three : (done a b c whole : List ℕ) → a ++ (b ++ c) ≡ whole → ((done ++ a) ++ b) ++ c ≡ done ++ whole
in_three done a b c whole e = append_assoc (done ++ a) b c ∙ in_two done a (b ++ c) whole e

-- what was appended in three pieces and a line feed
pub in_line : (done a b c feed : List ℕ) → (((done ++ a) ++ b) ++ c) ++ feed ≡ done ++ (((a ++ b) ++ c) ++ feed)
in_line done a b c feed =
    ap (λ (l : List ℕ). (l ++ c) ++ feed) (append_assoc done a b) ∙ ap (λ (l : List ℕ). l ++ feed) (append_assoc done (a ++ b) c)
    ∙ append_assoc done ((a ++ b) ++ c) feed

-- the number of bytes after some were appended
pub longer : (done bytes after : List ℕ) → after ≡ done ++ bytes → length after ≡ length done + length bytes
longer done bytes after is = ap length is ∙ length-append done bytes

-- the table of pairs has the two digits of each number
pub first_listed : (n : ℕ) → n < 100 → slice_index PAIRS (2 * n) ≡ 48 + n / 10
first_listed n fits =
    eqb-true (slice_index PAIRS (2 * n)) (48 + n / 10)
    (agree_below_at (λ k. slice_index PAIRS (2 * k) == 48 + k / 10) (λ k. true) 100 n refl fits)

pub second_listed : (n : ℕ) → n < 100 → slice_index PAIRS (2 * n + 1) ≡ 48 + n % 10
second_listed n fits =
    eqb-true (slice_index PAIRS (2 * n + 1)) (48 + n % 10)
    (agree_below_at (λ k. slice_index PAIRS (2 * k + 1) == 48 + k % 10) (λ k. true) 100 n refl fits)
