-- Hexadecimal digits, without leading zeros too.
use Rattle.std.proofs.Common.{◌≡◌, ℕ, ◌+◌, ◌*◌, ◌/◌, ◌%◌, ◌^◌, ◌<◌, ◌≤◌, List, [], ◌∷◌, drop, length, refl, sym, subst, ◌∙◌, ap, false, true, ◌==◌, arith, suc, zero, ◌++◌, ◌-◌, take, slice_index}
use Rattle.std.proofs.Common.{append_assoc, append-nil}
use Rattle.std.proofs.Math.Nat.{add-mul-div_right, add-mul-mod_self_right, div-div-eq-div-mul, div-one, pow-suc}
use Rattle.std.proofs.lemmas.Bool.{agree_below_at, eqb-true, eq-eqb, ne_eqb}
use Rattle.std.proofs.lemmas.Nat.{pow-add}
use Rattle.std.specs.Fmt.{digits, digits_onto, digit_glyph}
use Rattle.std.proofs.lemmas.List.{take_all}
use Rattle.hex.specs.Hex.{lower_digits}
use Rattle.cc_word.specs.WordText.{digits_of}

-- the digit in the table
glyph_is : (d : ℕ) → d < 16 → slice_index lower_digits d ≡ digit_glyph false d
glyph_is d fits =
    eqb-true (slice_index lower_digits d) (digit_glyph false d)
    (agree_below_at (λ b. slice_index lower_digits b == digit_glyph false b) (λ b. true) 16 d refl fits)

-- the digits after the first `k`
pub drop-digits_of : (k total count number : ℕ) → total ≡ k + count → drop k (digits_of total number) ≡ digits_of count number
unfolding digits_of
drop-digits_of zero total count number e = let same : total ≡ count = omega arith in ap (λ (n : ℕ). digits_of n number) same
drop-digits_of (suc k) zero count number e = absurd (omega arith)
drop-digits_of (suc k) (suc total) count number e = drop-digits_of k total count number (omega arith)

pub length-digits_of : (count number : ℕ) → length (digits_of count number) ≡ count
unfolding digits_of
length-digits_of zero number = refl
length-digits_of (suc count) number = ap suc (length-digits_of count number)

-- the last of 32 digits, as `&digits[32 - count..]` is read
pub last_digits : (count number : ℕ) → count ≤ 32 → take (32 - (32 - count)) (drop (32 - count) (digits_of 32 number)) ≡ digits_of count number
last_digits count number h =
    rw (drop-digits_of (32 - count) 32 count number (omega arith))
    (take_all (32 - (32 - count)) (digits_of count number) (omega (arith, length-digits_of count number)))

pub pos_pow : (d : ℕ) → 0 < 16 ^ d
pos_pow zero = omega arith
pos_pow (suc d) = omega (arith, pos_pow d, pow-suc 16 d)

pub pow-bits : (k : ℕ) → 16 ^ k ≡ 2 ^ (4 * k)
pow-bits zero = refl
pow-bits (suc k) =
    let order : 4 * suc k ≡ 4 * k + 4 = omega arith in
    rw (pow-suc 16 k, pow-bits k, order, pow-add 2 (4 * k) 4) refl

-- ---- the digits of a number in two parts

pub digits_of-join : (c d total n : ℕ) → total ≡ c + d → digits_of total n ≡ digits_of c (n / 16 ^ d) ++ digits_of d n
unfolding digits_of
digits_of-join zero d total n e = let same : total ≡ d = omega (arith, e) in ap (λ (t : ℕ). digits_of t n) same
digits_of-join (suc c) d zero n e = absurd (omega arith)
digits_of-join (suc c) d (suc total) n e =
    let order : total ≡ d + c = omega arith in
    let place : n / 16 ^ total ≡ n / 16 ^ d / 16 ^ c = ap (λ (t : ℕ). n / 16 ^ t) order ∙ ap (λ (p : ℕ). n / p) (pow-add 16 d c) ∙ sym (div-div-eq-div-mul n (16 ^ d) (16 ^ c)) in
    rw (place, digits_of-join c d total n (omega arith)) refl

-- ---- the remaining number has the last digits

digits_of-low : (d r h m : ℕ) → digits_of d (m + h * 16 ^ (d + r)) ≡ digits_of d m
unfolding digits_of
digits_of-low zero r h m = refl
digits_of-low (suc d) r h m =
    let order : suc d + r ≡ d + suc r = omega arith in
    let further : digits_of d (m + h * 16 ^ (suc d + r)) ≡ digits_of d m =
    ap (λ (k : ℕ). digits_of d (m + h * 16 ^ k)) order ∙ digits_of-low d (suc r) h m in
    let power : h * 16 ^ (suc d + r) ≡ h * 16 ^ r * 16 * 16 ^ d =
    ap (λ (k : ℕ). h * 16 ^ k) order ∙ ap (λ (p : ℕ). h * p) (pow-add 16 d (suc r)) ∙ parts in
    let place : (m + h * 16 ^ (suc d + r)) / 16 ^ d % 16 ≡ m / 16 ^ d % 16 =
    ap (λ (k : ℕ). (m + k) / 16 ^ d % 16) power
    ∙ ap (λ (k : ℕ). k % 16) (add-mul-div_right m (h * 16 ^ r * 16) (pos_pow d))
    ∙ add-mul-mod_self_right (m / 16 ^ d) (h * 16 ^ r) 16 in
    rw (place, further) refl
  where
    parts : h * (16 ^ d * 16 ^ suc r) ≡ h * 16 ^ r * 16 * 16 ^ d
    parts = rw (pow-suc 16 r) (grind arith)

pub in-halves : (n : ℕ) → digits_of 16 n ≡ digits_of 16 (n % 2 ^ 64)
in-halves n = ap (λ (m : ℕ). digits_of 16 m) (whole n) ∙ digits_of-low 16 0 (n / 2 ^ 64) (n % 2 ^ 64) where
  whole : (m : ℕ) → m ≡ m % 2 ^ 64 + m / 2 ^ 64 * 16 ^ 16
  whole m = omega arith

-- the sixteen digits of a half, and then those of the other
pub word_halves : (n : ℕ) → digits_of 16 (n / 2 ^ 64) ++ digits_of 16 (n % 2 ^ 64) ≡ digits_of 32 n
word_halves n =
    sym (digits_of-join 16 16 32 n refl ∙ ap (λ (l : List ℕ). digits_of 16 (n / 2 ^ 64) ++ l) (in-halves n))

-- ---- without leading zeros

last_digit : (n : ℕ) → digits_of 1 n ≡ digit_glyph false (n % 16) ∷ []
unfolding digits_of
last_digit n = ap (λ (g : ℕ). g ∷ []) (ap (λ (m : ℕ). slice_index lower_digits (m % 16)) (div-one n) ∙ glyph_is (n % 16) (omega arith))

-- a number of `suc c` digits, written from its last on
onto-count : (c k n : ℕ) (done : List ℕ) → suc c ≤ k → n < 16 ^ suc c → (0 < c → 16 ^ c ≤ n)
    → digits_onto k 16 false n done ≡ digits_of (suc c) n ++ done
onto-count c zero n done room fits least = absurd (omega arith)
onto-count zero (suc k) n done room fits least =
    let none : n / 16 ≡ 0 = omega (arith, fits) in
    rw (eq-eqb (n / 16) 0 none) (ap (λ (l : List ℕ). l ++ done) (sym (last_digit n)))
onto-count (suc c) (suc k) n done room fits least =
    let large : 16 ^ suc c ≤ n = least (omega arith) in
    let power = pow-suc 16 c in
    let next = pow-suc 16 (suc c) in
    let more : 0 < n / 16 = omega (arith, large, power, pos_pow c) in
    let glyph = digit_glyph false (n % 16) in
    let above = digits_of (suc c) (n / 16) in
    let parts : digits_of (suc (suc c)) n ≡ above ++ glyph ∷ [] =
    digits_of-join (suc c) 1 (suc (suc c)) n (omega arith) ∙ ap (λ (l : List ℕ). above ++ l) (last_digit n) in
    rw (ne_eqb (n / 16) 0 (λ e. omega (arith, e, more)))
    (onto-count c k (n / 16) (glyph ∷ done) (omega arith) (omega (arith, fits, next)) (λ some. omega (arith, large, power))
    ∙ sym (append_assoc above (glyph ∷ []) done) ∙ ap (λ (l : List ℕ). l ++ done) (sym parts))

-- a number of `count` digits
pub digits-count : (count n : ℕ) → 1 ≤ count → count ≤ 64 → n < 16 ^ count → (1 < count → 16 ^ (count - 1) ≤ n)
    → digits 16 false n ≡ digits_of count n
unfolding digits
digits-count zero n some most fits least = absurd (omega arith)
digits-count (suc c) n some most fits least =
    let before : suc c - 1 ≡ c = omega arith in
    onto-count c 64 n [] most fits (λ more. subst (λ (k : ℕ). 16 ^ k ≤ n) before (least (omega (arith, more)))) ∙ append-nil (digits_of (suc c) n)
