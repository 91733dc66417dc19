-- Each relation of decoding has at most one number, and so each word at most one span.
use Rattle.std.proofs.Common.{refl, ◌≡◌, ℕ, ◌+◌, ◌-◌, ◌*◌, ◌<◌, ◌≤◌, ◌/◌, ◌%◌, ◌^◌, Bool, true, false, sym, ◌∙◌, ap, arith, inl, inr, min}
use Rattle.std.specs.Prelude.{if◌then◌else◌}
use Rattle.std.proofs.Math.Nat.{mul-le-mul_right, div-add-mod'}
use Rattle.std.proofs.lemmas.Bool.{cases_lt}
use Rattle.cc_word.specs.Word.{bit_of}
use Rattle.cc_word.specs.declared.fields.Fields.{Fields}
use Rattle.cc_bounds.specs.declared.span.Span.{Span}
use Rattle.cc_bounds.specs.Decoding.{exponent_digits, exponent_field, stored_exponent, without_exponent}
use Rattle.cc_bounds.specs.Decoding.{base_mantissa, IsTopMantissa, window_size, IsWindow, IsPlaced, IsDecodedBase, IsTopBeside, IsDecodedTop, DecodesTo}

-- numbers that are equal modulo a size, and less than it apart, are equal
pub close_same : (size less more : ℕ) → less ≤ more → more < less + size → less % size ≡ more % size → less ≡ more
close_same size less more in_order near same =
    let less_split = div-add-mod' less size in
    let more_split = div-add-mod' more size in
    let few : ℕ = less / size in
    let many : ℕ = more / size in
    elim (cases_lt few many) [
      | inl below ↦ let scaled = mul-le-mul_right size below in absurd (omega arith)
      | inr above ↦ elim (cases_lt many few) [
        | inl less ↦ let scaled = mul-le-mul_right size less in absurd (omega arith)
        | inr more ↦ let equal : few ≡ many = omega arith in let scaled = ap (λ (n : ℕ). n * size) equal in omega arith
      ]
    ]

-- the same in either order
pub near_same : (size one other : ℕ) → one < other + size → other < one + size → one % size ≡ other % size → one ≡ other
near_same size one other below above same =
    let back = sym same in
    elim (cases_lt one other) [
      | inl less ↦ close_same size one other (omega arith) (omega arith) same
      | inr more ↦ sym (close_same size other one (omega arith) (omega arith) back)
    ]

-- ---- the exponent

-- over plain numbers
min-if : (ie : Bool) (digits : ℕ) → (if ie then min 52 digits else 0) ≡ min 52 (if ie then digits else 0)
min-if true digits = refl
min-if false digits = refl

-- the exponent is its field, or 52 if that is more
pub exponent_field-capped : (fields : Fields) → stored_exponent fields ≡ min 52 (exponent_field fields)
exponent_field-capped fields = min-if fields.ie (exponent_digits fields)

if-fits : (ie : Bool) (digits : ℕ) → digits ≤ 63 → (if ie then digits else 0) ≤ 63
if-fits true digits fits = fits
if-fits false digits fits = omega arith

-- the field has six bits
pub exponent_field-fits : (fields : Fields) → exponent_field fields ≤ 63
exponent_field-fits fields = if-fits fields.ie (exponent_digits fields) (omega arith)

-- ---- the top mantissa

-- a field without the exponent's bits is not larger
pub without_exponent-le : (ie : Bool) (field : ℕ) → without_exponent ie field ≤ field
without_exponent-le true field = omega arith
without_exponent-le false field = omega arith

-- over plain numbers
mantissa_same : (base stored bit one other : ℕ) → base < 2 ^ 14 → one < 2 ^ 14 → other < 2 ^ 14
    → one % 2 ^ 12 ≡ stored → other % 2 ^ 12 ≡ stored
    → (one + 2 ^ 14 - base) % 2 ^ 14 / 2 ^ 12 ≡ bit → (other + 2 ^ 14 - base) % 2 ^ 14 / 2 ^ 12 ≡ bit → one ≡ other
mantissa_same base stored bit one other fits one_fits other_fits one_stored other_stored one_bit other_bit = omega arith

-- fields have one top mantissa
pub IsTopMantissa-same : (fields : Fields) (one other : ℕ) → IsTopMantissa fields one → IsTopMantissa fields other → one ≡ other
IsTopMantissa-same fields one other is_one is_other =
    let less = without_exponent-le fields.ie fields.b in
    let fits = fields.b_fits in
    mantissa_same (base_mantissa fields) (without_exponent fields.ie fields.t) (bit_of fields.ie) one other (omega arith)
    is_one.fits is_other.fits is_one.stored is_other.stored is_one.implied is_other.implied

-- ---- the window and the places in it

-- fields have one window
pub IsWindow-same : (fields : Fields) (one other : ℕ) → IsWindow fields one → IsWindow fields other → one ≡ other
IsWindow-same fields one other is_one is_other =
    let here = is_one.holds_address in
    let there = is_other.holds_address in
    near_same (window_size fields) one other (omega arith) (omega arith) (is_one.begins ∙ sym is_other.begins)

-- a mantissa has one place
pub IsPlaced-same : (fields : Fields) (mantissa one other : ℕ) → IsPlaced fields mantissa one → IsPlaced fields mantissa other → one ≡ other
IsPlaced-same fields mantissa one other is_one is_other =
    let window = IsWindow-same fields is_one.start is_other.start is_one.is_window is_other.is_window in
    let here = is_one.in_window in
    let there = is_other.in_window in
    near_same (window_size fields) one other (omega arith) (omega arith) (is_one.scaled ∙ sym is_other.scaled)

-- ---- the top

-- there is one top for a base and a place
pub IsTopBeside-same : (exponent base place one other : ℕ) → base < 2 ^ 64 → IsTopBeside exponent base place one
    → IsTopBeside exponent base place other → one ≡ other
IsTopBeside-same exponent base place one other fits is_one is_other =
    elim (cases_lt exponent 51) [
      | inl small ↦
          let one_small = is_one.small small in
          let other_small = is_other.small small in
          let one_near = is_one.near small in
          let other_near = is_other.near small in
          omega arith
      | inr large ↦ is_one.large large ∙ sym (is_other.large large)
    ]

-- ---- the span

-- fields have one base
pub IsDecodedBase-same : (fields : Fields) (one other : ℕ) → IsDecodedBase fields one → IsDecodedBase fields other → one ≡ other
IsDecodedBase-same fields one other is_one is_other =
    let place = IsPlaced-same fields (base_mantissa fields) is_one.place is_other.place is_one.is_place is_other.is_place in
    is_one.kept ∙ ap (λ (n : ℕ). n % 2 ^ 64) place ∙ sym is_other.kept

-- fields have one top for a base
pub IsDecodedTop-same : (fields : Fields) (base one other : ℕ) → base < 2 ^ 64 → IsDecodedTop fields base one
    → IsDecodedTop fields base other → one ≡ other
IsDecodedTop-same fields base one other fits is_one is_other =
    let mantissa = IsTopMantissa-same fields is_one.mantissa is_other.mantissa is_one.is_mantissa is_other.is_mantissa in
    let moved = rw mantissa at is_one.is_place in
    let place = IsPlaced-same fields is_other.mantissa is_one.place is_other.place moved is_other.is_place in
    let beside = rw place at is_one.is_top in
    IsTopBeside-same (stored_exponent fields) base is_other.place one other fits beside is_other.is_top

-- fields decode to one span
pub DecodesTo-same : (fields : Fields) (one other : Span) → DecodesTo fields one → DecodesTo fields other → one ≡ other
DecodesTo-same fields one other is_one is_other =
    let base = IsDecodedBase-same fields one.base other.base is_one.is_base is_other.is_base in
    let fits : other.base < 2 ^ 64 = let kept = is_other.is_base.kept in omega arith in
    let moved = rw base at is_one.is_top in
    let top = IsDecodedTop-same fields other.base one.top other.top fits moved is_other.is_top in
    λ i. record { base = base i; top = top i }
