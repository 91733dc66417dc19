-- The word of a text that hex decodes.
use Rattle.std.proofs.Common.{◌≡◌, ℕ, zero, suc, ◌+◌, ◌*◌, ◌%◌, List, [], ◌∷◌, length, Option, Some, None, Result, Ok, Err, refl, sym, ◌∙◌, ap, arith}
use Rattle.std.specs.Int.{w128, from_be_bytes}
use Rattle.std.specs.Prelude.{MatchResult}
use Rattle.hex.specs.Hex.{decode_sized, decode_pairs, pair_value, value_at, digit_or_error, hex_digit_value, ◌>>=◌}
use Rattle.hex.specs.declared.error.FromHexError.{FromHexError}
use Rattle.hex.proofs.HexLemmas.{decode_sized-ok, decode_sized-twice, decode_of-even}
use Rattle.std.specs.Char.{digit_value}
use Rattle.std.specs.Str.Parse.{digits_value, digits_value_after}
use Rattle.cc_word.proofs.TextLemmas.{twice, digit_value-hex}

-- the number that bytes write after those of a number, the highest first
unfoldable pub bytes_value_after : (before : ℕ) (bytes : List ℕ) → ℕ
bytes_value_after before [] = before
bytes_value_after before (byte ∷ bytes) = bytes_value_after (before * 256 + byte) bytes

-- the first of two steps that both succeed
bind_ok : {A B : Type 0} (r : Result A FromHexError) (f : A → Result B FromHexError) (y : B)
    → (r >>= f) ≡ Ok y → (x : A) × (r ≡ Ok x) × (f x ≡ Ok y)
bind_ok (Ok x) f y h = (x, refl, h)
bind_ok (Err e) f y h = cc h

digit_read : (digit i : ℕ) (o : Option ℕ) (value : ℕ) → digit_or_error digit i o ≡ Ok value → o ≡ Some value
digit_read digit i (Some v) value h = cc h
digit_read digit i None value h = cc h

ok_value : {A : Type 0} → A → Result A FromHexError → A
ok_value d (Ok x) = x
ok_value d (Err e) = d

-- the text of some bytes has their number, and two digits for each
pub decode_pairs-value : (before i : ℕ) (text bytes : List ℕ) → decode_pairs i text ≡ Ok bytes
    → (digits_value_after 16 before text ≡ bytes_value_after before bytes) × (length text ≡ twice (length bytes))
unfolding decode_pairs bytes_value_after ok_value
decode_pairs-value before i [] bytes h =
    let e : [] ≡ bytes = ap (ok_value []) h in rw (← e) (refl, refl)
decode_pairs-value before i (digit ∷ []) bytes h = cc h
decode_pairs-value before i (high ∷ low ∷ rest) bytes h =
    let p = bind_ok (pair_value high low i) _ bytes h in
    let q = bind_ok (decode_pairs (i + 2) rest) _ bytes p.2 in
    let ph = bind_ok (value_at high i) _ p.0 p.1 in
    let pl = bind_ok (value_at low (i + 1)) _ p.0 ph.2 in
    let ih = decode_pairs-value (before * 256 + p.0) (i + 2) rest q.0 q.1 in
    let eh = digit_value-hex high ph.0 (digit_read high i (hex_digit_value high) ph.0 ph.1) in
    let el = digit_value-hex low pl.0 (digit_read low (i + 1) (hex_digit_value low) pl.0 pl.1) in
    let eb : ph.0 * 16 + pl.0 ≡ p.0 = ap (ok_value 0) pl.2 in
    let e : p.0 ∷ q.0 ≡ bytes = ap (ok_value []) q.2 in
    let step : (before * 16 + digit_value high) * 16 + digit_value low ≡ before * 256 + p.0 = rw (eh, el) (omega (arith, eb)) in (
      ap (λ (n : ℕ). digits_value_after 16 n rest) step ∙ ih.0 ∙ ap (bytes_value_after before) e,
      ap (λ (n : ℕ). suc (suc n)) ih.1 ∙ ap (λ (xs : List ℕ). twice (length xs)) e,
    )

-- sixteen bytes in the order of `from_be_bytes`
pub from_be_bytes-value : (xs : List ℕ) → length xs ≡ 16 → from_be_bytes w128 xs ≡ bytes_value_after 0 xs
unfolding bytes_value_after
from_be_bytes-value (b0 ∷ b1 ∷ b2 ∷ b3 ∷ b4 ∷ b5 ∷ b6 ∷ b7 ∷ b8 ∷ b9 ∷ b10 ∷ b11 ∷ b12 ∷ b13 ∷ b14 ∷ b15 ∷ []) h = omega arith
from_be_bytes-value _ h = absurd (omega arith)

length-twice : (n k : ℕ) → twice n ≡ twice k → n ≡ k
length-twice zero zero h = refl
length-twice zero (suc k) h = absurd (omega arith)
length-twice (suc n) zero h = absurd (omega arith)
length-twice (suc n) (suc k) h = let e : twice n ≡ twice k = omega arith in ap suc (length-twice n k e)

twice-is : (n : ℕ) → twice n ≡ 2 * n
twice-is zero = refl
twice-is (suc n) = let e = twice-is n in omega (arith, e)

-- a text of 2 * n digits has the number of its n bytes
decode_sized-value : (n : ℕ) (text bytes : List ℕ) → decode_sized text n ≡ Ok bytes
    → (digits_value 16 text ≡ bytes_value_after 0 bytes) × (length bytes ≡ n)
decode_sized-value n text bytes h =
    let len = decode_sized-ok text n bytes h in
    let even : length text % 2 ≡ 0 = omega (arith, len) in
    let pairs : decode_pairs 0 text ≡ Ok bytes = sym (decode_sized-twice text n len ∙ decode_of-even text even) ∙ h in
    let v = decode_pairs-value 0 0 text bytes pairs in
    let l : twice (length bytes) ≡ 2 * n = sym v.1 ∙ len in
    (v.0, length-twice (length bytes) n (l ∙ sym (twice-is n)))

-- the word of the bytes that a text decodes to
pub decode_sized-word : (text bytes : List ℕ) → decode_sized text 16 ≡ Ok bytes → from_be_bytes w128 bytes ≡ digits_value 16 text
decode_sized-word text bytes h =
    let v = decode_sized-value 16 text bytes h in
    from_be_bytes-value bytes v.1 ∙ sym v.0

-- what `decode_to_slice` says of its result and of the bytes that it leaves
abbrev pub SaysDecoded : Result (List ℕ) FromHexError → Result (Unit {0}) FromHexError → List ℕ → Type 0
SaysDecoded decoded result bytes = MatchResult decoded (λ right. (result ≡ Ok tt) × (bytes ≡ right)) (λ e. result ≡ Err e)

pub decoded_ok : (decoded : Result (List ℕ) FromHexError) (bytes : List ℕ) → SaysDecoded decoded (Ok tt) bytes → decoded ≡ Ok bytes
decoded_ok (Ok right) bytes h = ap Ok (sym h.1)
decoded_ok (Err e) bytes h = cc h

pub decoded_err : (decoded : Result (List ℕ) FromHexError) (bytes : List ℕ) (error : FromHexError) → SaysDecoded decoded (Err error) bytes → decoded ≡ Err error
decoded_err (Ok right) bytes error h = cc h.0
decoded_err (Err e) bytes error h = cc h
