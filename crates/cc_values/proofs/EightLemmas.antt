-- Digits read eight at a time.
use Rattle.std.proofs.Common.{◌≡◌, ◌⊎◌, inl, inr, ℕ, zero, suc, Bool, true, false, ◌+◌, ◌-◌, ◌==◌, ◌*◌, ◌≤◌, ◌<◌, ◌^◌, ◌&&◌, max, List, [], ◌∷◌, ◌++◌, get_or, take, drop, length, slice_index}
use Rattle.std.proofs.Common.{Some, None, if◌then◌else◌, refl, sym, ◌∙◌, ap, arith, ◌↔◌}
use Rattle.std.proofs.lemmas.Bool.{ltb-true, lt-ltb}
use Rattle.std.proofs.lemmas.Nat.{pow-add}
use Rattle.std.proofs.lemmas.List.{take_all, take-append-drop, length-take, length-drop}
use Rattle.std.proofs.lemmas.List.Folds.{list_all-append}
use Rattle.std.proofs.Math.Nat.{pow-zero, pow-suc, mul-le-mul_left, mul-le-mul_right, mul_assoc}
use Rattle.std.specs.Char.{digit_value, is_digit}
use Rattle.std.specs.List.{list_all}
use Rattle.std.specs.Str.Parse.{digits_value_after, AllDigits}
use Rattle.std.proofs.lemmas.Bool.{agree_below_at, eqb-true}
use Rattle.std.proofs.lemmas.List.Sums.{AllPass-from_list_all, list_all-from_AllPass}
use Rattle.std.specs.List.{AllPass}
use Rattle.hex.specs.Hex.{is_hex_digit}
use Rattle.std.proofs.lemmas.Int.Digits.{digits_value-lt}
use Rattle.cc_values.specs.Numbers.{numeral_of}
use Rattle.cc_values.specs.Digits.{number_further}

value_parts : (radix before : ℕ) (first rest : List ℕ)
    → digits_value_after radix before (first ++ rest) ≡ digits_value_after radix (digits_value_after radix before first) rest
value_parts radix before [] rest = refl
value_parts radix before (digit ∷ first) rest = value_parts radix (before * radix + digit_value digit) first rest

both_pass : (a b : Bool) (n : ℕ) → (if a && b then Some n else None) ≡ (if a then (if b then Some n else None) else None)
both_pass true b n = refl
both_pass false b n = refl

-- The number of two parts.
parts : (radix n : ℕ) (first rest : List ℕ)
    → number_further radix n (first ++ rest)
    ≡ (if list_all (λ digit. is_digit digit radix) first then number_further radix (digits_value_after radix n first) rest else None)
parts radix n first rest =
    rw (list_all-append (λ digit. is_digit digit radix) first rest, value_parts radix n first rest)
    (both_pass (list_all (λ digit. is_digit digit radix) first) (list_all (λ digit. is_digit digit radix) rest)
    (digits_value_after radix (digits_value_after radix n first) rest))

-- Digits whose number is known.
given : (a : Bool) (n v : ℕ) → Some v ≡ (if a then Some n else None) → (a ≡ true) × (v ≡ n)
given true n v h = (refl, cc h)
given false n v h = cc h

missed : (a : Bool) (n : ℕ) → None ≡ (if a then Some n else None) → a ≡ false
missed true n h = cc h
missed false n h = refl

pub digits_known : (radix n v : ℕ) (ds : List ℕ) → Some v ≡ number_further radix n ds
    → (list_all (λ digit. is_digit digit radix) ds ≡ true) × (v ≡ digits_value_after radix n ds)
digits_known radix n v ds h = given (list_all (λ digit. is_digit digit radix) ds) (digits_value_after radix n ds) v h

pub parts_known : (radix n v : ℕ) (first rest : List ℕ) → Some v ≡ number_further radix n first
    → number_further radix v rest ≡ number_further radix n (first ++ rest)
parts_known radix n v first rest h =
    let known = digits_known radix n v first h in
    sym (parts radix n first rest ∙ rw (known.0, ← known.1) refl)

pub parts_missed : (radix n m : ℕ) (first rest : List ℕ) → None ≡ number_further radix n first
    → None ≡ number_further radix m (first ++ rest)
parts_missed radix n m first rest h =
    let none = missed (list_all (λ digit. is_digit digit radix) first) (digits_value_after radix n first) h in
    sym (parts radix m first rest ∙ rw none refl)

-- Eight digits after those of a number.
eight_decimal : (n : ℕ) (ds : List ℕ) → length ds ≡ 8 → digits_value_after 10 n ds ≡ n * 10 ^ 8 + digits_value_after 10 0 ds
eight_decimal n (d0 ∷ d1 ∷ d2 ∷ d3 ∷ d4 ∷ d5 ∷ d6 ∷ d7 ∷ []) h = omega arith
eight_decimal n _ h = absurd (omega arith)

eight_hexadecimal : (n : ℕ) (ds : List ℕ) → length ds ≡ 8 → digits_value_after 16 n ds ≡ n * 16 ^ 8 + digits_value_after 16 0 ds
eight_hexadecimal n (d0 ∷ d1 ∷ d2 ∷ d3 ∷ d4 ∷ d5 ∷ d6 ∷ d7 ∷ []) h = omega arith
eight_hexadecimal n _ h = absurd (omega arith)

eight_after : (radix n : ℕ) (ds : List ℕ) → (radix ≡ 10) ⊎ (radix ≡ 16) → length ds ≡ 8
    → digits_value_after radix n ds ≡ n * radix ^ 8 + digits_value_after radix 0 ds
eight_after radix n ds (inl ten) h = rw ten (eight_decimal n ds h)
eight_after radix n ds (inr sixteen) h = rw sixteen (eight_hexadecimal n ds h)

-- The first eight of the remaining digits.
pub eight_known : (radix n v : ℕ) (ds : List ℕ) → (radix ≡ 10) ⊎ (radix ≡ 16) → 8 ≤ length ds
    → Some v ≡ number_further radix 0 (take 8 ds) → number_further radix (n * radix ^ 8 + v) (drop 8 ds) ≡ number_further radix n ds
eight_known radix n v ds known some h =
    let is = digits_known radix 0 v (take 8 ds) h in
    let value : digits_value_after radix n (take 8 ds) ≡ n * radix ^ 8 + v =
    eight_after radix n (take 8 ds) known (omega (arith, some, length-take 8 ds)) ∙ rw (← is.1) refl in
    sym (
    ap (number_further radix n) (sym (take-append-drop 8 ds)) ∙ parts radix n (take 8 ds) (drop 8 ds)
    ∙ rw (is.0, value) refl)

pub eight_missed : (radix n : ℕ) (ds : List ℕ) → None ≡ number_further radix 0 (take 8 ds) → None ≡ number_further radix n ds
eight_missed radix n ds h =
    parts_missed radix 0 n (take 8 ds) (drop 8 ds) h ∙ ap (number_further radix n) (take-append-drop 8 ds)

passes_small : (radix d : ℕ) (b rest : Bool) → is_digit d radix ≡ b → (b && rest) ≡ true → (digit_value d < radix) × (rest ≡ true)
passes_small radix d true rest e h = (ltb-true (digit_value d) radix e, h)
passes_small radix d false rest e h = cc h

all_digits : (radix : ℕ) (ds : List ℕ) → list_all (λ digit. is_digit digit radix) ds ≡ true → AllDigits radix ds
all_digits radix [] h = tt
all_digits radix (d ∷ ds) h =
    let both = passes_small radix d (is_digit d radix) (list_all (λ digit. is_digit digit radix) ds) refl h in
    (both.0, all_digits radix ds both.1)

pub known_small : (radix v : ℕ) (ds : List ℕ) → Some v ≡ number_further radix 0 ds → v < radix ^ length ds
known_small radix v ds h =
    let is = digits_known radix 0 v ds h in
    rw is.1 (digits_value-lt radix ds (all_digits radix ds is.0))

-- A number that fits 64 bits with all remaining digits still does after some of them.
pub fits_further : (n v b p : ℕ) → (n + 1) * (b * p) ≤ 2 ^ 64 → v < b → (n * b + v + 1) * p ≤ 2 ^ 64
fits_further n v b p room small =
    let grown : n * b + v + 1 ≤ (n + 1) * b = omega (arith, small) in
    let more : (n * b + v + 1) * p ≤ (n + 1) * b * p = mul-le-mul_right p grown in
    let same : (n + 1) * b * p ≡ (n + 1) * (b * p) = mul_assoc (n + 1) b p in
    omega (arith, room, more, same)

-- A hexadecimal digit is a digit to base 16.
pub hex_same : (byte : ℕ) → byte < 256 → is_digit byte 16 ≡ is_hex_digit byte
hex_same byte fits = agree_below_at (λ b. is_digit b 16) is_hex_digit 256 byte refl fits

all_hex_same : (ds : List ℕ) → ((i : ℕ) → get_or ds i 0 < 256)
    → list_all (λ digit. is_digit digit 16) ds ≡ list_all is_hex_digit ds
all_hex_same [] fits = refl
all_hex_same (d ∷ ds) fits = rw (hex_same d (fits 0), all_hex_same ds (λ i. fits (suc i))) refl

-- The number of eight hexadecimal digits, and the result for bytes of which one is not such a
-- digit.
pub hexadecimal_known : (ds : List ℕ) (v : ℕ) → ((i : ℕ) → get_or ds i 0 < 256) → AllPass is_hex_digit ds
    → v ≡ digits_value_after 16 0 ds → Some v ≡ number_further 16 0 ds
hexadecimal_known ds v fits passes is =
    rw (all_hex_same ds fits, list_all-from_AllPass is_hex_digit ds passes, is) refl

pub hexadecimal_missed : (ds : List ℕ) → ((i : ℕ) → get_or ds i 0 < 256) → ¬ AllPass is_hex_digit ds
    → None ≡ number_further 16 0 ds
hexadecimal_missed ds fits fails = by (list_all is_hex_digit ds) refl where
  by : (b : Bool) → list_all is_hex_digit ds ≡ b → None ≡ number_further 16 0 ds
  by true e = absurd (fails (AllPass-from_list_all is_hex_digit ds e))
  by false e = rw (all_hex_same ds fits, e) refl

-- IsDecimal holds if `worth` is the value of the byte as a decimal digit, or more than 9 for
-- another byte.
pub record IsDecimal (byte worth : ℕ) : Type 0 where
  pub digit : (worth < 10) ↔ (digit_value byte < 10)
  pub value : worth < 10 → worth ≡ digit_value byte

passes_ten : (byte value : ℕ) → IsDecimal byte value → value < 10 → is_digit byte 10 ≡ true
passes_ten byte value is small = lt-ltb (digit_value byte) 10 (is.digit.0 small)

pub decimal_known : (ds : List ℕ) (a b c d e f g h : ℕ) → length ds ≡ 8 → IsDecimal (slice_index ds 0) a → IsDecimal (slice_index ds 1) b
    → IsDecimal (slice_index ds 2) c → IsDecimal (slice_index ds 3) d → IsDecimal (slice_index ds 4) e → IsDecimal (slice_index ds 5) f
    → IsDecimal (slice_index ds 6) g → IsDecimal (slice_index ds 7) h → max (max (max a b) (max c d)) (max (max e f) (max g h)) ≤ 9
    → Some (a * 10000000 + b * 1000000 + c * 100000 + d * 10000 + e * 1000 + f * 100 + g * 10 + h) ≡ number_further 10 0 ds
decimal_known (d0 ∷ d1 ∷ d2 ∷ d3 ∷ d4 ∷ d5 ∷ d6 ∷ d7 ∷ []) a b c d e f g h eight is0 is1 is2 is3 is4 is5 is6 is7 small =
    let v0 : a ≡ digit_value d0 = is0.value (omega (arith, small)) in
    let v1 : b ≡ digit_value d1 = is1.value (omega (arith, small)) in
    let v2 : c ≡ digit_value d2 = is2.value (omega (arith, small)) in
    let v3 : d ≡ digit_value d3 = is3.value (omega (arith, small)) in
    let v4 : e ≡ digit_value d4 = is4.value (omega (arith, small)) in
    let v5 : f ≡ digit_value d5 = is5.value (omega (arith, small)) in
    let v6 : g ≡ digit_value d6 = is6.value (omega (arith, small)) in
    let v7 : h ≡ digit_value d7 = is7.value (omega (arith, small)) in
    let sum : a * 10000000 + b * 1000000 + c * 100000 + d * 10000 + e * 1000 + f * 100 + g * 10 + h
    ≡ digits_value_after 10 0 (d0 ∷ d1 ∷ d2 ∷ d3 ∷ d4 ∷ d5 ∷ d6 ∷ d7 ∷ []) = omega (arith, v0, v1, v2, v3, v4, v5, v6, v7) in
    rw (
      passes_ten d0 a is0 (omega (arith, small)),
      passes_ten d1 b is1 (omega (arith, small)),
      passes_ten d2 c is2 (omega (arith, small)),
      passes_ten d3 d is3 (omega (arith, small)),
      passes_ten d4 e is4 (omega (arith, small)),
      passes_ten d5 f is5 (omega (arith, small)),
      passes_ten d6 g is6 (omega (arith, small)),
      passes_ten d7 h is7 (omega (arith, small)),
    ) (ap Some sum)
decimal_known _ a b c d e f g h eight is0 is1 is2 is3 is4 is5 is6 is7 small = absurd (omega (arith, eight))

-- If all digits pass, each is small.
first_small : (byte : ℕ) (rest : Bool) → (is_digit byte 10 && rest) ≡ true → (digit_value byte < 10) × (rest ≡ true)
first_small byte rest h = passes_small 10 byte (is_digit byte 10) rest refl h

pub decimal_missed : (ds : List ℕ) (a b c d e f g h : ℕ) → length ds ≡ 8 → IsDecimal (slice_index ds 0) a → IsDecimal (slice_index ds 1) b
    → IsDecimal (slice_index ds 2) c → IsDecimal (slice_index ds 3) d → IsDecimal (slice_index ds 4) e → IsDecimal (slice_index ds 5) f
    → IsDecimal (slice_index ds 6) g → IsDecimal (slice_index ds 7) h → 9 < max (max (max a b) (max c d)) (max (max e f) (max g h))
    → None ≡ number_further 10 0 ds
decimal_missed (d0 ∷ d1 ∷ d2 ∷ d3 ∷ d4 ∷ d5 ∷ d6 ∷ d7 ∷ []) a b c d e f g h eight is0 is1 is2 is3 is4 is5 is6 is7 large =
    by (list_all (λ digit. is_digit digit 10) (d0 ∷ d1 ∷ d2 ∷ d3 ∷ d4 ∷ d5 ∷ d6 ∷ d7 ∷ [])) refl
  where
    by : (all : Bool) → list_all (λ digit. is_digit digit 10) (d0 ∷ d1 ∷ d2 ∷ d3 ∷ d4 ∷ d5 ∷ d6 ∷ d7 ∷ []) ≡ all
        → None ≡ number_further 10 0 (d0 ∷ d1 ∷ d2 ∷ d3 ∷ d4 ∷ d5 ∷ d6 ∷ d7 ∷ [])
    by false e = rw e refl
    by true e =
        let p0 = first_small d0 _ e in
        let p1 = first_small d1 _ p0.1 in
        let p2 = first_small d2 _ p1.1 in
        let p3 = first_small d3 _ p2.1 in
        let p4 = first_small d4 _ p3.1 in
        let p5 = first_small d5 _ p4.1 in
        let p6 = first_small d6 _ p5.1 in
        let p7 = first_small d7 _ p6.1 in
        let s0 = is0.digit.1 p0.0 in
        let s1 = is1.digit.1 p1.0 in
        let s2 = is2.digit.1 p2.0 in
        let s3 = is3.digit.1 p3.0 in
        let s4 = is4.digit.1 p4.0 in
        let s5 = is5.digit.1 p5.0 in
        let s6 = is6.digit.1 p6.0 in
        let s7 = is7.digit.1 p7.0 in
        absurd (omega (arith, large, s0, s1, s2, s3, s4, s5, s6, s7))
decimal_missed _ a b c d e f g h eight is0 is1 is2 is3 is4 is5 is6 is7 large = absurd (omega (arith, eight))

-- The number of digits that always fit 64 bits.
pub radix_most : (radix : ℕ) → (radix ≡ 10) ⊎ (radix ≡ 16) → radix ≤ 16
radix_most radix (inl ten) = omega (arith, ten)
radix_most radix (inr sixteen) = omega (arith, sixteen)

sixteen_power : (n : ℕ) → n ≤ 16 → 16 ^ n ≤ 2 ^ 64
sixteen_power n few =
    let none = eqb-true (16 ^ n - 2 ^ 64) 0 (agree_below_at (λ k. (16 ^ k - 2 ^ 64) == 0) (λ k. true) 17 n refl (omega (arith, few))) in
    omega (arith, none)

pub sixteen_fit : (radix n : ℕ) → radix ≡ 16 → n ≤ 16 → radix ^ n ≤ 2 ^ 64
sixteen_fit radix n sixteen few = rw sixteen (sixteen_power n few)

ten_power : (n : ℕ) → n ≤ 19 → 10 ^ n ≤ 2 ^ 64
ten_power n few =
    let none = eqb-true (10 ^ n - 2 ^ 64) 0 (agree_below_at (λ k. (10 ^ k - 2 ^ 64) == 0) (λ k. true) 20 n refl (omega (arith, few))) in
    omega (arith, none)

pub nineteen_fit : (radix n : ℕ) → (radix ≡ 10) ⊎ (radix ≡ 16) → ¬ (radix ≡ 16) → n ≤ 19 → radix ^ n ≤ 2 ^ 64
nineteen_fit radix n (inr sixteen) other few = absurd (other sixteen)
nineteen_fit radix n (inl ten) other few = rw ten (ten_power n few)

pub sixteen_digits_fit : (radix : ℕ) → (radix ≡ 10) ⊎ (radix ≡ 16) → (0 + 1) * radix ^ 16 ≤ 2 ^ 64
sixteen_digits_fit radix (inl ten) = rw ten (omega arith)
sixteen_digits_fit radix (inr sixteen) = rw sixteen (omega arith)

pub radix_some : (radix : ℕ) → (radix ≡ 10) ⊎ (radix ≡ 16) → 1 ≤ radix
radix_some radix (inl ten) = omega (arith, ten)
radix_some radix (inr sixteen) = omega (arith, sixteen)

-- All the digits, if there is one.
pub whole_numeral : (radix : ℕ) (ds : List ℕ) → 0 < length ds → number_further radix 0 ds ≡ numeral_of radix ds
whole_numeral radix ds some = rw (lt-ltb 0 (length ds) some) refl

-- The first digits, and the remaining ones.
pub split_known : (radix at v : ℕ) (ds : List ℕ) → 0 < length ds → Some v ≡ number_further radix 0 (take at ds)
    → number_further radix v (drop at ds) ≡ numeral_of radix ds
split_known radix at v ds some h =
    parts_known radix 0 v (take at ds) (drop at ds) h
    ∙ ap (number_further radix 0) (take-append-drop at ds)
    ∙ whole_numeral radix ds some

pub split_missed : (radix at : ℕ) (ds : List ℕ) → 0 < length ds → None ≡ number_further radix 0 (take at ds) → None ≡ numeral_of radix ds
split_missed radix at ds some h =
    parts_missed radix 0 0 (take at ds) (drop at ds) h
    ∙ ap (number_further radix 0) (take-append-drop at ds)
    ∙ whole_numeral radix ds some

-- The remaining digits fit if all do.
pub split_fits : (radix at v : ℕ) (ds : List ℕ) → at ≤ length ds → radix ^ length ds ≤ 2 ^ 64 → Some v ≡ number_further radix 0 (take at ds)
    → (v + 1) * radix ^ length (drop at ds) ≤ 2 ^ 64
split_fits radix at v ds within fits h =
    let first : length (take at ds) ≡ at = omega (arith, within, length-take at ds) in
    let rest : length ds ≡ at + length (drop at ds) = omega (arith, within, length-drop at ds) in
    let small : v < radix ^ at = rw first at (known_small radix v (take at ds) h) in
    let power : radix ^ length ds ≡ radix ^ at * radix ^ length (drop at ds) =
    ap (λ (k : ℕ). radix ^ k) rest ∙ pow-add radix at (length (drop at ds)) in
    let grown : (v + 1) * radix ^ length (drop at ds) ≤ radix ^ at * radix ^ length (drop at ds) =
    mul-le-mul_right (radix ^ length (drop at ds)) (omega (arith, small)) in
    omega (arith, fits, power, grown)

-- A part of a product fits if the product does.
pub product_fits : (n b p : ℕ) → 1 ≤ p → (n + 1) * (b * p) ≤ 2 ^ 64 → (n + 1) * b ≤ 2 ^ 64
product_fits n b p some room =
    let grown : (n + 1) * b * 1 ≤ (n + 1) * b * p = mul-le-mul_left ((n + 1) * b) some in
    let same : (n + 1) * b * p ≡ (n + 1) * (b * p) = mul_assoc (n + 1) b p in
    omega (arith, room, grown, same)

power_grows : (b k : ℕ) → 1 ≤ b → 1 ≤ b ^ k
power_grows b zero some = omega (arith, pow-zero b)
power_grows b (suc k) some =
    let before = power_grows b k some in
    let grown : b ^ k * 1 ≤ b ^ k * b = mul-le-mul_left (b ^ k) some in
    rw (pow-suc b k) (omega (arith, before, grown))

pub positive : (radix : ℕ) → (radix ≡ 10) ⊎ (radix ≡ 16) → (k : ℕ) → 1 ≤ radix ^ k
positive radix (inl ten) k = power_grows radix k (omega (arith, ten))
positive radix (inr sixteen) k = power_grows radix k (omega (arith, sixteen))

-- Eight of the remaining digits, as the loop reads them.
pub room_of_eight : (radix n : ℕ) (rest : List ℕ) → (radix ≡ 10) ⊎ (radix ≡ 16) → 8 ≤ length rest
    → (n + 1) * radix ^ length rest ≤ 2 ^ 64 → (n + 1) * radix ^ 8 ≤ 2 ^ 64
room_of_eight radix n rest known some room =
    let split : length rest ≡ 8 + length (drop 8 rest) = omega (arith, some, length-drop 8 rest) in
    let power : radix ^ length rest ≡ radix ^ 8 * radix ^ length (drop 8 rest) =
    ap (λ (k : ℕ). radix ^ k) split ∙ pow-add radix 8 (length (drop 8 rest)) in
    product_fits n (radix ^ 8) (radix ^ length (drop 8 rest)) (positive radix known (length (drop 8 rest))) (rw (← power) room)

pub room_after_eight : (radix n v : ℕ) (rest : List ℕ) → 8 ≤ length rest
    → (n + 1) * radix ^ length rest ≤ 2 ^ 64 → Some v ≡ number_further radix 0 (take 8 rest)
    → (n * radix ^ 8 + v + 1) * radix ^ length (drop 8 rest) ≤ 2 ^ 64
room_after_eight radix n v rest some room h =
    let split : length rest ≡ 8 + length (drop 8 rest) = omega (arith, some, length-drop 8 rest) in
    let power : radix ^ length rest ≡ radix ^ 8 * radix ^ length (drop 8 rest) =
    ap (λ (k : ℕ). radix ^ k) split ∙ pow-add radix 8 (length (drop 8 rest)) in
    let first : length (take 8 rest) ≡ 8 = omega (arith, some, length-take 8 rest) in
    fits_further n v (radix ^ 8) (radix ^ length (drop 8 rest)) (rw (← power) room) (rw first at (known_small radix v (take 8 rest) h))

pub sum_fits : (radix x k : ℕ) → (radix ≡ 10) ⊎ (radix ≡ 16) → (x + 1) * radix ^ k ≤ 2 ^ 64 → x < 2 ^ 64
sum_fits radix x k known room =
    let grown : (x + 1) * 1 ≤ (x + 1) * radix ^ k = mul-le-mul_left (x + 1) (positive radix known k) in
    omega (arith, room, grown)

-- The elements from a position on, as slices are read.
pub tail_whole : (at : ℕ) (ds : List ℕ) → take (length ds - at) (drop at ds) ≡ drop at ds
tail_whole at ds = take_all (length ds - at) (drop at ds) (omega (arith, length-drop at ds))
