-- Numbers read from eight digits, two at a time.
use Rattle.std.proofs.Common.{◌-◌, ◌<◌, ◌≤◌, ◌≡◌, ℕ, Bool, true, false, ◌+◌, ◌*◌, ◌^◌, List, [], ◌∷◌, length, drop, slice_index, ◌==◌, ◌&&◌, Option, Some, None, is_some, if◌then◌else◌, refl, sym}
use Rattle.std.proofs.Common.{◌∙◌, ap, arith}
use Rattle.std.proofs.lemmas.Bool.{eqb-true, agree_below_at}
use Rattle.std.proofs.lemmas.Nat.{pow-add}
use Rattle.std.proofs.lemmas.List.{drop_all, drop_more}
use Rattle.std.proofs.lemmas.List.Sums.{AllPass-from_list_all, list_all-from_AllPass}
use Rattle.std.proofs.Math.Pow.{pow_mono}
use Rattle.std.specs.List.{list_all, AllPass}
use Rattle.hex.specs.Hex.{hex_digit_value, is_hex_digit}
use Rattle.cc_word.proofs.TextLemmas.{digit_value-hex}
use Rattle.std.specs.Char.{digit_value}
use Rattle.std.specs.Str.Parse.{AllDigits, digits_value, digits_value_after}
use Rattle.std.proofs.lemmas.Int.Digits.{digits_value-lt}
use Rattle.cc_word.specs.declared.kernels.TheConstants.{DIGIT_VALUES, FIRST_DIGIT_VALUES}

-- what the table has for a byte
abbrev pub worth : ℕ → ℕ
worth byte = if is_hex_digit byte then digit_value byte else 2 ^ 32

pub value_listed : (byte : ℕ) → byte < 256 → slice_index DIGIT_VALUES byte ≡ (if is_hex_digit byte then digit_value byte else 2 ^ 32)
value_listed byte fits =
    eqb-true (slice_index DIGIT_VALUES byte) (worth byte)
    (agree_below_at (λ b. slice_index DIGIT_VALUES b == worth b) (λ b. true) 256 byte refl fits)

pub first_value_listed : (byte : ℕ) → byte < 256
    → slice_index FIRST_DIGIT_VALUES byte ≡ 16 * (if is_hex_digit byte then digit_value byte else 2 ^ 32)
first_value_listed byte fits =
    eqb-true (slice_index FIRST_DIGIT_VALUES byte) (16 * worth byte)
    (agree_below_at (λ b. slice_index FIRST_DIGIT_VALUES b == 16 * worth b) (λ b. true) 256 byte refl fits)

pub worth-most : (byte : ℕ) → byte < 256 → worth byte ≤ 2 ^ 32
worth-most byte fits =
    let none = eqb-true (worth byte - 2 ^ 32) 0 (agree_below_at (λ b. (worth b - 2 ^ 32) == 0) (λ b. true) 256 byte refl fits) in
    omega (arith, none)

-- the number that bytes make after `before`: each adds its worth to 16 times the number so far
pub gathered : (before : ℕ) (bytes : List ℕ) → ℕ
gathered before [] = before
gathered before (byte ∷ bytes) = gathered (before * 16 + worth byte) bytes

pub gathered_more : (before i : ℕ) (bytes : List ℕ) → i < length bytes
    → gathered (before * 16 + worth (slice_index bytes i)) (drop (i + 1) bytes) ≡ gathered before (drop i bytes)
unfolding gathered
gathered_more before i bytes within = rw (drop_more bytes i 0 within) refl

-- the same, two bytes at a time
pub gathered_pair : (before i : ℕ) (bytes : List ℕ) → 2 * i + 1 < length bytes
    → gathered (before * 256 + 16 * worth (slice_index bytes (2 * i)) + worth (slice_index bytes (2 * i + 1))) (drop (2 * (i + 1)) bytes)
    ≡ gathered before (drop (2 * i) bytes)
gathered_pair before i bytes within =
    let first : ℕ = before * 16 + worth (slice_index bytes (2 * i)) in
    let joined : before * 256 + 16 * worth (slice_index bytes (2 * i)) + worth (slice_index bytes (2 * i + 1))
    ≡ first * 16 + worth (slice_index bytes (2 * i + 1)) = omega arith in
    let place : 2 * (i + 1) ≡ 2 * i + 1 + 1 = omega arith in
    rw (joined, place) (gathered_more first (2 * i + 1) bytes within ∙ gathered_more before (2 * i) bytes (omega arith))

-- more bytes never make the number less
gathered-least : (before : ℕ) (bytes : List ℕ) → before ≤ gathered before bytes
unfolding gathered
gathered-least before [] = omega arith
gathered-least before (byte ∷ bytes) = omega (arith, gathered-least (before * 16 + worth byte) bytes)

-- a small number is one of digits
digits_one : (byte : ℕ) (after : Bool) (b : Bool) (before whole : ℕ) → is_hex_digit byte ≡ b
    → before * 16 + worth byte ≤ whole → whole < 2 ^ 32 → after ≡ true → (is_hex_digit byte && after) ≡ true
digits_one byte after true before whole e least small rest = rw (e, rest) refl
digits_one byte after false before whole e least small rest =
    let w : worth byte ≡ 2 ^ 32 = rw e refl in
    absurd (omega (arith, w, small, least))

gathered-digits : (before : ℕ) (bytes : List ℕ) → gathered before bytes < 2 ^ 32 → list_all is_hex_digit bytes ≡ true
unfolding gathered
gathered-digits before [] small = refl
gathered-digits before (byte ∷ bytes) small =
    digits_one byte (list_all is_hex_digit bytes) (is_hex_digit byte) before (gathered (before * 16 + worth byte) bytes) refl
    (gathered-least (before * 16 + worth byte) bytes) small (gathered-digits (before * 16 + worth byte) bytes small)

pub first_passes : (a b : Bool) → (a && b) ≡ true → a ≡ true
first_passes true b h = refl
first_passes false b h = cc h

pub second_passes : (a b : Bool) → (a && b) ≡ true → b ≡ true
second_passes true b h = h
second_passes false b h = cc h

worth-digit : (byte : ℕ) → is_hex_digit byte ≡ true → worth byte ≡ digit_value byte
worth-digit byte h = rw h refl

-- for digits, the number is their value
gathered-value : (before : ℕ) (bytes : List ℕ) → list_all is_hex_digit bytes ≡ true → gathered before bytes ≡ digits_value_after 16 before bytes
unfolding gathered
gathered-value before [] digits = refl
gathered-value before (byte ∷ bytes) digits =
    rw (worth-digit byte (first_passes (is_hex_digit byte) (list_all is_hex_digit bytes) digits))
    (gathered-value (before * 16 + digit_value byte) bytes (second_passes (is_hex_digit byte) (list_all is_hex_digit bytes) digits))

some_value : (o : Option ℕ) → is_some o ≡ true → (v : ℕ) × (o ≡ Some v)
some_value (Some v) h = (v, refl)
some_value None h = cc h

hex-below : (byte value : ℕ) → hex_digit_value byte ≡ Some value → value < 16
hex-below byte value h = grind (arith, h)

pub digit-below : (byte : ℕ) → is_hex_digit byte ≡ true → digit_value byte < 16
digit-below byte h =
    let v = some_value (hex_digit_value byte) h in
    rw (digit_value-hex byte v.0 v.1) (hex-below byte v.0 v.1)

all_below : (bytes : List ℕ) → list_all is_hex_digit bytes ≡ true → AllDigits 16 bytes
all_below [] digits = tt
all_below (byte ∷ bytes) digits = (
  digit-below byte (first_passes (is_hex_digit byte) (list_all is_hex_digit bytes) digits),
  all_below bytes (second_passes (is_hex_digit byte) (list_all is_hex_digit bytes) digits),
)

-- the value of eight digits is below 2 ^ 32
eight-small : (bytes : List ℕ) → length bytes ≡ 8 → list_all is_hex_digit bytes ≡ true → digits_value 16 bytes < 2 ^ 32
eight-small bytes eight digits =
    let below : digits_value 16 bytes < 16 ^ length bytes = digits_value-lt 16 bytes (all_below bytes digits) in
    rw eight at below

-- the number of eight bytes: below 2 ^ 32 if and only if they are digits, and then their value
pub record Gathered (number : ℕ) (bytes : List ℕ) : Type 0 where
  pub digits : number < 2 ^ 32 → AllPass is_hex_digit bytes
  pub small : AllPass is_hex_digit bytes → number < 2 ^ 32
  pub value : number < 2 ^ 32 → number ≡ digits_value 16 bytes

pub gathered_all : (number i : ℕ) (bytes : List ℕ) → length bytes ≡ 8 → length bytes ≤ i
    → gathered number (drop i bytes) ≡ gathered 0 bytes → Gathered number bytes
unfolding gathered
gathered_all number i bytes eight all same =
    let e : number ≡ gathered 0 bytes = ap (gathered number) (sym (drop_all i bytes all)) ∙ same in
    let passes : number < 2 ^ 32 → list_all is_hex_digit bytes ≡ true = λ small. gathered-digits 0 bytes (rw e at small) in
    record {
      digits = λ small. AllPass-from_list_all is_hex_digit bytes (passes small);
      small =
          λ digits.
          let all = list_all-from_AllPass is_hex_digit bytes digits in
          rw (e, gathered-value 0 bytes all) (eight-small bytes eight all);
      value = λ small. e ∙ gathered-value 0 bytes (passes small);
    }

-- ---- the overflows of the sum

pub room_further : (i number first second : ℕ) → number + 2 ^ 32 ≤ 2 ^ (32 + 8 * i) → first ≤ 2 ^ 32 → second ≤ 2 ^ 32
    → number * 256 + 16 * first + second + 2 ^ 32 ≤ 2 ^ (32 + 8 * (i + 1))
room_further i number first second room most also =
    let more : 32 + 8 * (i + 1) ≡ 32 + 8 * i + 8 = omega arith in
    let power : 2 ^ (32 + 8 * i + 8) ≡ 2 ^ (32 + 8 * i) * 2 ^ 8 = pow-add 2 (32 + 8 * i) 8 in
    rw more (omega (arith, power, room, most, also))

pub room_fits : (i : ℕ) → i ≤ 4 → 2 ^ (32 + 8 * i) ≤ 2 ^ 64
room_fits i few = let most : 32 + 8 * i ≤ 64 = omega arith in pow_mono most
