-- Digits read and written by vectors, which a proof sees as the lists of their lanes.
use Rattle.std.proofs.Common.{◌++◌, bit_and, replicate, if◌then◌else◌, ◌<◌, ◌≡◌, ℕ, zero, suc, Bool, true, false, cond, ltb, ◌+◌, ◌*◌, ◌-◌, ◌/◌, ◌%◌, ◌^◌, List, [], ◌∷◌, length, map, slice_index}
use Rattle.std.proofs.Common.{◌==◌, ◌&&◌, refl, sym, ◌∙◌, ap, arith, Fits, w8, ltb-true, ltb-false}
use Rattle.std.proofs.lemmas.Bool.{agree_below_at, eqb-true}
use Rattle.std.specs.List.{list_all}
use Rattle.std.specs.Char.{digit_value}
use Rattle.std.specs.Str.Parse.{digits_value_after}
use Rattle.hex.specs.Hex.{is_hex_digit, lower_digits}
use Rattle.cc_word.specs.DigitValue.{IsValue}
use lib.Lanes.{Each1, Each2, mask_l, zip2, sel_l, top, pick_l, digits_l, number_l}
use Rattle.std.proofs.lemmas.Simd.{mask_l-mod}
use Rattle.std.proofs.lemmas.List.{length-map}
use Rattle.std.proofs.lemmas.Nat.{and_mask}
use Rattle.std.proofs.Math.Nat.{pow-suc, div-div-eq-div-mul, div-one}
use Rattle.cc_word.specs.WordText.{digits_of}
use Rattle.cc_word.proofs.TextLemmas.{twice, byte_at-is, byte-high, byte-low}
use Rattle.cc_word.proofs.PairLemmas.{bytes_value_after}
use Rattle.cc_word.proofs.ReadingLemmas.{digit-below, first_passes, second_passes}

-- ---- the mask of the values above 15

abbrev pub over : ℕ → Bool
over value = ltb 15 value

over-none : (byte value : ℕ) (b : Bool) → is_hex_digit byte ≡ b → IsValue byte value → over value ≡ false → b ≡ true
over-none byte value true e h none = refl
over-none byte value false e h none = absurd (omega (arith, h.other e, ltb-false 15 value none))

mask-first : (b : Bool) (rest : ℕ) → cond b 1 0 + 2 * rest ≡ 0 → (b ≡ false) × (rest ≡ 0)
mask-first true rest h = absurd (omega (arith, h))
mask-first false rest h = (refl, omega (arith, h))

-- if no value is above 15, all bytes are digits
pub none_over : (text values : List ℕ) → length text ≡ length values → Each2 IsValue text values
    → mask_l (map over values) ≡ 0 → list_all is_hex_digit text ≡ true
none_over [] values same h none = refl
none_over (byte ∷ text) [] same h none = absurd (omega arith)
none_over (byte ∷ text) (value ∷ values) same h none =
    let split = mask-first (over value) (mask_l (map over values)) none in
    let first = over-none byte value (is_hex_digit byte) refl h.0 split.0 in
    rw first (none_over text values (omega arith) h.1 split.1)

not-over : (value : ℕ) (b : Bool) → over value ≡ b → value < 16 → b ≡ false
not-over value true e small = absurd (omega (arith, small, ltb-true 15 value e))
not-over value false e small = refl

-- if all bytes are digits, no value is above 15
pub over_none : (text values : List ℕ) → length text ≡ length values → Each2 IsValue text values
    → list_all is_hex_digit text ≡ true → mask_l (map over values) ≡ 0
over_none [] [] same h all = refl
over_none [] (value ∷ values) same h all = absurd (omega arith)
over_none (byte ∷ text) [] same h all = absurd (omega arith)
over_none (byte ∷ text) (value ∷ values) same h all =
    let first = first_passes (is_hex_digit byte) (list_all is_hex_digit text) all in
    let rest = over_none text values (omega arith) h.1 (second_passes (is_hex_digit byte) (list_all is_hex_digit text) all) in
    let small : value < 16 = omega (arith, h.0.digit first, digit-below byte first) in
    rw (not-over value (over value) refl small, rest) refl

-- ---- the bytes of values, two for each

-- the operations on lanes
abbrev pub plus : ℕ → ℕ → ℕ
plus a b = (a + b) % 2 ^ 8

abbrev pub less : ℕ → ℕ → ℕ
less a b = (a + (2 ^ 8 - b)) % 2 ^ 8

abbrev pub times : ℕ → ℕ → ℕ
times a b = a * b % 2 ^ 8

abbrev pub below : ℕ → ℕ → ℕ
below a b = cond (ltb a b) 255 0

-- the places that the code names
abbrev pub firsts : List ℕ
firsts = 0 ∷ 2 ∷ 4 ∷ 6 ∷ 8 ∷ 10 ∷ 12 ∷ 14 ∷ 16 ∷ 18 ∷ 20 ∷ 22 ∷ 24 ∷ 26 ∷ 28 ∷ 30 ∷ []

abbrev pub seconds : List ℕ
seconds = 1 ∷ 3 ∷ 5 ∷ 7 ∷ 9 ∷ 11 ∷ 13 ∷ 15 ∷ 17 ∷ 19 ∷ 21 ∷ 23 ∷ 25 ∷ 27 ∷ 29 ∷ 31 ∷ []

abbrev pub highest_first : List ℕ
highest_first = 7 ∷ 23 ∷ 6 ∷ 22 ∷ 5 ∷ 21 ∷ 4 ∷ 20 ∷ 3 ∷ 19 ∷ 2 ∷ 18 ∷ 1 ∷ 17 ∷ 0 ∷ 16 ∷ []

abbrev pub joined : (high low : ℕ) → ℕ
joined high low = plus (times high 16) low

pub paired : List ℕ → List ℕ
paired [] = []
paired (high ∷ []) = []
paired (high ∷ low ∷ values) = joined high low ∷ paired values

-- the bytes of the values of digits have the number of the digits
pub paired-value : (n before : ℕ) (text values : List ℕ) → length text ≡ twice n → length text ≡ length values → Each2 IsValue text values
    → list_all is_hex_digit text ≡ true → digits_value_after 16 before text ≡ bytes_value_after before (paired values)
unfolding paired bytes_value_after
paired-value zero before [] [] even same h all = refl
paired-value zero before [] (v ∷ values) even same h all = absurd (omega arith)
paired-value zero before (b ∷ text) values even same h all = absurd (omega arith)
paired-value (suc n) before [] values even same h all = absurd (omega arith)
paired-value (suc n) before (b ∷ []) values even same h all = absurd (omega arith)
paired-value (suc n) before (b ∷ c ∷ text) [] even same h all = absurd (omega arith)
paired-value (suc n) before (b ∷ c ∷ text) (v ∷ []) even same h all = absurd (omega arith)
paired-value (suc n) before (b ∷ c ∷ text) (v ∷ w ∷ values) even same h all =
    let first = first_passes (is_hex_digit b) (is_hex_digit c && list_all is_hex_digit text) all in
    let others = second_passes (is_hex_digit b) (is_hex_digit c && list_all is_hex_digit text) all in
    let second = first_passes (is_hex_digit c) (list_all is_hex_digit text) others in
    let step : (before * 16 + digit_value b) * 16 + digit_value c ≡ before * 256 + joined v w =
    omega (arith, h.0.digit first, h.1.0.digit second, digit-below b first, digit-below c second) in
    ap (λ (m : ℕ). digits_value_after 16 m text) step
    ∙ paired-value n (before * 256 + joined v w) text values (omega arith) (omega arith) h.1.1
    (second_passes (is_hex_digit c) (list_all is_hex_digit text) others)

-- the same, as the code picks the values
pub bytes_are : (values : List ℕ) → length values ≡ 32
    → zip2 plus (zip2 times (pick_l 0 (values ++ values) firsts) (replicate 16 16)) (pick_l 0 (values ++ values) seconds) ≡ paired values
unfolding paired
bytes_are (v0 ∷ v1 ∷ v2 ∷ v3 ∷ v4 ∷ v5 ∷ v6 ∷ v7 ∷ v8 ∷ v9 ∷ v10 ∷ v11 ∷ v12 ∷ v13 ∷ v14 ∷ v15 ∷ v16 ∷ v17 ∷ v18 ∷ v19 ∷ v20 ∷ v21 ∷ v22 ∷ v23 ∷ v24 ∷ v25 ∷ v26 ∷ v27 ∷ v28 ∷ v29 ∷ v30 ∷ v31 ∷ [])
    h = refl
bytes_are _ h = absurd (omega arith)

pub length-paired : (values : List ℕ) → length values ≡ 32 → length (paired values) ≡ 16
unfolding paired
length-paired (v0 ∷ v1 ∷ v2 ∷ v3 ∷ v4 ∷ v5 ∷ v6 ∷ v7 ∷ v8 ∷ v9 ∷ v10 ∷ v11 ∷ v12 ∷ v13 ∷ v14 ∷ v15 ∷ v16 ∷ v17 ∷ v18 ∷ v19 ∷ v20 ∷ v21 ∷ v22 ∷ v23 ∷ v24 ∷ v25 ∷ v26 ∷ v27 ∷ v28 ∷ v29 ∷ v30 ∷ v31 ∷
    []) h = refl
length-paired _ h = absurd (omega arith)

-- ---- the value of a byte

-- a decimal digit's value, or at least 16
abbrev pub decimal_lane : ℕ → ℕ
decimal_lane byte = less (cond (top 7 (below (plus byte 198) 6)) 6 (plus byte 198)) 246

-- a letter's value, or at least 16
abbrev pub letter_lane : ℕ → ℕ
letter_lane byte = plus (cond (top 7 (below (less (bit_and byte 223) 65) 245)) (less (bit_and byte 223) 65) 245) 10

abbrev pub value_lane : ℕ → ℕ
value_lane byte = cond (top 7 (below (decimal_lane byte) (letter_lane byte))) (decimal_lane byte) (letter_lane byte)

abbrev pub is_right : (is_digit : Bool) (byte : ℕ) → Bool
is_right is_digit byte = if is_digit then value_lane byte == digit_value byte else ltb 15 (value_lane byte)

right-value : (byte : ℕ) (b : Bool) → is_hex_digit byte ≡ b → is_right b byte ≡ true → IsValue byte (value_lane byte)
right-value byte true e right = record { digit = λ _. eqb-true (value_lane byte) (digit_value byte) right; other = λ none. absurd (cc (e, none)) }
right-value byte false e right = record { digit = λ yes. absurd (cc (e, yes)); other = λ _. ltb-true 15 (value_lane byte) right }

value_is : (byte : ℕ) → byte < 256 → IsValue byte (value_lane byte)
value_is byte fits =
    right-value byte (is_hex_digit byte) refl
    (agree_below_at (λ b. is_right (is_hex_digit b) b) (λ b. true) 256 byte refl fits)

-- the values of `n` bytes, as the code computes them
abbrev pub decimal_lanes : ℕ → List ℕ → List ℕ
decimal_lanes n text =
    zip2 less
    (sel_l (map (top 7) (zip2 below (zip2 plus text (replicate n 198)) (replicate n 6))) (replicate n 6) (zip2 plus text (replicate n 198)))
    (replicate n 246)

abbrev pub upper_lanes : ℕ → List ℕ → List ℕ
upper_lanes n text = zip2 less (zip2 bit_and text (replicate n 223)) (replicate n 65)

abbrev pub letter_lanes : ℕ → List ℕ → List ℕ
letter_lanes n text =
    zip2 plus (sel_l (map (top 7) (zip2 below (upper_lanes n text) (replicate n 245))) (upper_lanes n text) (replicate n 245)) (replicate n 10)

abbrev pub value_lanes : ℕ → List ℕ → List ℕ
value_lanes n text = sel_l (map (top 7) (zip2 below (decimal_lanes n text) (letter_lanes n text))) (decimal_lanes n text) (letter_lanes n text)

pub length-value_lanes : (n : ℕ) (text : List ℕ) → length text ≡ n → length (value_lanes n text) ≡ n
length-value_lanes zero [] h = refl
length-value_lanes zero (b ∷ text) h = absurd (omega arith)
length-value_lanes (suc n) [] h = absurd (omega arith)
length-value_lanes (suc n) (b ∷ text) h = ap suc (length-value_lanes n text (omega arith))

pub values_are : (n : ℕ) (text : List ℕ) → length text ≡ n → Each1 (Fits w8) text → Each2 IsValue text (value_lanes n text)
values_are zero [] h fits = tt
values_are zero (b ∷ text) h fits = absurd (omega arith)
values_are (suc n) [] h fits = absurd (omega arith)
values_are (suc n) (b ∷ text) h fits = (value_is b fits.0.fits, values_are n text (omega arith) fits.1)

-- ---- the mask

top-below : (b : Bool) → top 7 (cond b 255 0) ≡ b
top-below true = refl
top-below false = refl

mask-lanes : (n : ℕ) (values : List ℕ) → length values ≡ n → map (top 7) (zip2 below (replicate n 15) values) ≡ map over values
mask-lanes zero [] h = refl
mask-lanes zero (v ∷ values) h = absurd (omega arith)
mask-lanes (suc n) [] h = absurd (omega arith)
mask-lanes (suc n) (v ∷ values) h = λ i. top-below (over v) i ∷ mask-lanes n values (omega arith) i

pub mask_over : (values : List ℕ) → length values ≡ 32
    → mask_l (map (top 7) (zip2 below (replicate 32 15) values)) % 2 ^ 64 ≡ mask_l (map over values)
mask_over values h =
    ap (λ (ms : List Bool). mask_l ms % 2 ^ 64) (mask-lanes 32 values h)
    ∙ mask_l-mod (map over values) 64 (omega (arith, length-map values over, h))

-- ---- the digits of numbers below 16

abbrev pub digit_lane : ℕ → ℕ
digit_lane value = plus (plus value 48) (cond (top 7 (below 9 value)) 39 0)

digit_lane-is : (value : ℕ) → value < 16 → digit_lane value ≡ slice_index lower_digits value
digit_lane-is value fits =
    eqb-true (digit_lane value) (slice_index lower_digits value)
    (agree_below_at (λ v. digit_lane v == slice_index lower_digits v) (λ v. true) 16 value refl fits)

pub digits_are : (n : ℕ) (values : List ℕ) → length values ≡ n → Each1 (λ value. value < 16) values
    → zip2 plus (zip2 plus values (replicate n 48)) (sel_l (map (top 7) (zip2 below (replicate n 9) values)) (replicate n 39) (replicate n 0))
    ≡ map (λ value. slice_index lower_digits value) values
digits_are zero [] h small = refl
digits_are zero (v ∷ values) h small = absurd (omega arith)
digits_are (suc n) [] h small = absurd (omega arith)
digits_are (suc n) (v ∷ values) h small = λ i. digit_lane-is v small.0 i ∷ digits_are n values (omega arith) small.1 i

-- ---- the digits of eight bytes, as they are picked

divided : (k n : ℕ) → ℕ
divided zero n = n
divided (suc k) n = divided k (n / 256)

divided-is : (k n : ℕ) → divided k n ≡ n / 256 ^ k
unfolding divided
divided-is zero n = sym (div-one n)
divided-is (suc k) n =
    divided-is k (n / 256) ∙ div-div-eq-div-mul n 256 (256 ^ k)
    ∙ ap (λ (m : ℕ). n / m) (let p = pow-suc 256 k in omega (arith, p))

high_lane : (k half : ℕ) → divided k half % 256 / 16 ≡ half / 16 ^ suc (twice k) % 16
high_lane k half =
    ap (λ (m : ℕ). m % 256 / 16) (divided-is k half) ∙ ap (λ (m : ℕ). m / 16) (sym (byte_at-is k half)) ∙ byte-high k half

low_lane : (k half : ℕ) → bit_and (divided k half % 256) 15 ≡ half / 16 ^ twice k % 16
low_lane k half =
    and_mask (divided k half % 256) 4 ∙ ap (λ (m : ℕ). m % 256 % 16) (divided-is k half)
    ∙ ap (λ (m : ℕ). m % 16) (sym (byte_at-is k half)) ∙ byte-low k half

abbrev pub half_bytes : ℕ → List ℕ
half_bytes number = digits_l (2 ^ 8) 16 number

abbrev pub picked : ℕ → List ℕ
picked number =
    map (λ value. slice_index lower_digits value)
    (pick_l 0 (zip2 (λ a b. a / 2 ^ b) (half_bytes number) (replicate 16 4) ++ zip2 bit_and (half_bytes number) (replicate 16 15)) highest_first)

picked-is : (half : ℕ) → picked half ≡ digits_of 16 half
unfolding divided digits_of
picked-is half = λ i. slice_index lower_digits (high_lane 7 half i) ∷ slice_index lower_digits (low_lane 7 half i) ∷ slice_index lower_digits (high_lane 6 half i) ∷ slice_index lower_digits
    (low_lane 6 half i) ∷ slice_index lower_digits (high_lane 5 half i) ∷ slice_index lower_digits (low_lane 5 half i) ∷ slice_index lower_digits (high_lane 4 half i) ∷ slice_index lower_digits
    (low_lane 4 half i) ∷ slice_index lower_digits (high_lane 3 half i) ∷ slice_index lower_digits (low_lane 3 half i) ∷ slice_index lower_digits (high_lane 2 half i) ∷ slice_index lower_digits
    (low_lane 2 half i) ∷ slice_index lower_digits (high_lane 1 half i) ∷ slice_index lower_digits (low_lane 1 half i) ∷ slice_index lower_digits (high_lane 0 half i) ∷ slice_index lower_digits
    (low_lane 0 half i) ∷ []

pub half_picked : (half : ℕ) → picked (number_l (2 ^ 64) (half ∷ 0 ∷ [])) ≡ digits_of 16 half
half_picked half =
    let e : number_l (2 ^ 64) (half ∷ 0 ∷ []) ≡ half = omega arith in
    ap (λ (n : ℕ). picked n) e ∙ picked-is half
