-- Granules: the number that a request touches, the smallest that is coarse enough, and rounding to
-- them.
use Rattle.std.proofs.Common.{subst, ◌≡◌, ℕ, zero, suc, ◌+◌, ◌-◌, ◌*◌, ◌<◌, ◌≤◌, ◌/◌, ◌^◌, refl, sym, ◌∙◌, ap, arith, inl, inr}
use Rattle.std.specs.Int.{div_ceil}
use Rattle.std.specs.Int.Count.{count_leading_zeros}
use Rattle.std.proofs.Math.Nat.{add-div_right, div-mul-le_self, lt-div-mul-add, le_of_mul-le-mul_right, lt_of_mul-lt-mul_right, pow-suc}
use Rattle.std.proofs.Math.Pow.{pow_mono}
use Rattle.std.proofs.lemmas.Nat.{pow_pos, pow-add, le-div, leading_length}
use Rattle.std.proofs.lemmas.Nat.Bits.{and_high_mask}
use Rattle.std.specs.Int.Bits.{bit_and}
use Rattle.std.proofs.lemmas.Bool.{cases_lt}
use Rattle.std.proofs.lemmas.Grind.{div_ceil_times}
use Rattle.cc_bounds.specs.declared.span.Span.{Span}
use Rattle.cc_bounds.specs.Span.{length_of}
use Rattle.cc_bounds.specs.Granule.{granule_count, IsCoarseEnough, IsGranule, IsExponent, rounded_to, IsGranted}

-- ---- division rounded up

pub le-div_ceil : (n g : ℕ) → 0 < g → n ≤ div_ceil n g * g
le-div_ceil n g pos = (div_ceil_times n g pos).0

pub div_ceil-lt : (n g : ℕ) → 0 < g → div_ceil n g * g < n + g
div_ceil-lt n g pos = (div_ceil_times n g pos).1

pub div_ceil-le : (n g m : ℕ) → 0 < g → n ≤ m * g → div_ceil n g ≤ m
div_ceil-le n g m pos h =
    let near = div_ceil-lt n g pos in
    let less : div_ceil n g * g < (m + 1) * g = omega (arith, near, h) in
    let k = lt_of_mul-lt-mul_right g less in
    omega (arith, k)

-- a multiple of the granule is not rounded
pub div_ceil-multiple : (m g : ℕ) → 0 < g → div_ceil (m * g) g ≡ m
div_ceil-multiple m g pos =
    let most = div_ceil-le (m * g) g m pos (omega arith) in
    let up = le-div_ceil (m * g) g pos in
    let least = le_of_mul-le-mul_right up pos in
    omega (arith, most, least)

-- a division rounds up if the divisor less one was added before it
pub div_ceil_by_sum : (n g rest : ℕ) → 0 < g → rest ≡ g - 1 → (n + rest) / g ≡ div_ceil n g
div_ceil_by_sum n g rest pos is =
    let down = div-mul-le_self (n + rest) g in
    let above = lt-div-mul-add {a = n + rest} pos in
    let least = div_ceil-le n g ((n + rest) / g) pos (omega (arith, above, is)) in
    let up = le-div_ceil n g pos in
    let less : (n + rest) / g * g < (div_ceil n g + 1) * g = omega (arith, down, up, is) in
    let most = lt_of_mul-lt-mul_right g less in
    omega (arith, least, most)

-- the same, of a power of two
pub div_ceil_shifted : (n power rest : ℕ) → rest ≡ 2 ^ power - 1 → (n + rest) / 2 ^ power ≡ div_ceil n (2 ^ power)
div_ceil_shifted n power rest is = div_ceil_by_sum n (2 ^ power) rest (pow_pos power) is

-- the granule of the last byte, counted from 1
pub last_granule : (top power : ℕ) → 0 < top → (top - 1) / 2 ^ power + 1 ≡ div_ceil top (2 ^ power)
last_granule top power some =
    let pos = pow_pos power in
    let sum : top - 1 + 2 ^ power ≡ top + (2 ^ power - 1) = omega (arith, some, pos) in
    sym (add-div_right (top - 1) pos) ∙ ap (λ (n : ℕ). n / 2 ^ power) sum ∙ div_ceil_shifted top power (2 ^ power - 1) refl

-- adding the low bits and then clearing them rounds up to a multiple of the power of two
pub rounded_up_masked : (n power rest : ℕ) → n ≤ 2 ^ 64 → power ≤ 55 → rest ≡ 2 ^ power - 1
    → bit_and (n + rest) (2 ^ 128 - 1 - rest) ≡ div_ceil n (2 ^ power) * 2 ^ power
rounded_up_masked n power rest fits power_fits is =
    let pos = pow_pos power in
    let p = pow_mono power_fits in
    let mask : 2 ^ 128 - 1 - rest ≡ 2 ^ 128 - 2 ^ power = omega (arith, is, pos, p) in
    let cleared = and_high_mask 128 power (omega arith) (n + rest) (omega (arith, fits, is, p)) in
    ap (λ (m : ℕ). bit_and (n + rest) m) mask ∙ cleared ∙ ap (λ (k : ℕ). k * 2 ^ power) (div_ceil_shifted n power rest is)

-- ---- counting granules

-- a request within another touches at most as many granules
pub granule_count-within : (inner outer : Span) (g : ℕ) → 0 < g → outer.base ≤ inner.base → inner.top ≤ outer.top
    → granule_count inner g ≤ granule_count outer g
granule_count-within inner outer g pos base top =
    let up = le-div_ceil outer.top g pos in
    let tops = div_ceil-le inner.top g (div_ceil outer.top g) pos (omega (arith, up, top)) in
    let down = div-mul-le_self outer.base g in
    let bases = le-div (outer.base / g) inner.base g pos (omega (arith, down, base)) in
    omega (arith, tops, bases)

-- the number of granules that a request touches, if a span of whole granules covers it
pub granule_count-covered : (request : Span) (g n m : ℕ) → 0 < g → n * g ≤ request.base → request.top ≤ m * g
    → granule_count request g ≤ m - n
granule_count-covered request g n m pos base top =
    let down = le-div n request.base g pos base in
    let up = div_ceil-le request.top g m pos top in
    omega (arith, down, up)

-- of twice the granule a request touches at least half as many
granule_count-twice : (request : Span) (g : ℕ) → 0 < g → granule_count request g ≤ 2 * granule_count request (2 * g)
granule_count-twice request g pos =
    let c : ℕ = div_ceil request.top (2 * g) in
    let n : ℕ = request.base / (2 * g) in
    let up = le-div_ceil request.top (2 * g) (omega arith) in
    let down = div-mul-le_self request.base (2 * g) in
    let top = div_ceil-le request.top g (2 * c) pos (omega (arith, up)) in
    let base = le-div (2 * n) request.base g pos (omega (arith, down)) in
    omega (arith, top, base)

-- ---- the least exponent

-- the exponent is the least whose granule is coarse enough
pub record IsLeastExponent (request : Span) (exponent : ℕ) : Type 0 where
  pub few : granule_count request (2 ^ (exponent + 3)) ≤ 1023
  pub least : (other : ℕ) → granule_count request (2 ^ (other + 3)) ≤ 1023 → exponent ≤ other

pub least_same : (request : Span) (e k : ℕ) → IsLeastExponent request e → IsLeastExponent request k → e ≡ k
least_same request e k h l = let x = h.least k l.few in let y = l.least e h.few in omega arith

-- at exponent 52 every request is coarse enough
pub few_at_52 : (request : Span) → request.top ≤ 2 ^ 64 → granule_count request (2 ^ 55) ≤ 1023
few_at_52 request fits = omega arith

pub least-fits : (request : Span) (e : ℕ) → request.top ≤ 2 ^ 64 → IsLeastExponent request e → e ≤ 52
least-fits request e fits h = h.least 52 (few_at_52 request fits)

double : (e : ℕ) → 2 ^ (suc e + 3) ≡ 2 * 2 ^ (e + 3)
double e = let s : suc e + 3 ≡ suc (e + 3) = omega arith in let p = pow-suc 2 (e + 3) in rw s (omega (arith, p))

-- the least exponent of a request of 4,096 bytes or more leaves at least 512 granules
pub least-many : (request : Span) (e : ℕ) → 4096 ≤ length_of request → IsLeastExponent request e
    → 512 ≤ granule_count request (2 ^ (e + 3))
least-many request zero long h =
    let up = le-div_ceil request.top 8 (omega arith) in
    let down = div-mul-le_self request.base 8 in
    omega (arith, up, down)
least-many request (suc e) long h =
    let half = granule_count-twice request (2 ^ (e + 3)) (pow_pos (e + 3)) in
    let half' = rw (← double e) at half in
    elim (cases_lt 1023 (granule_count request (2 ^ (e + 3)))) [
      | inl more ↦ omega (arith, half', more)
      | inr few ↦ let l = h.least e few in absurd (omega arith)
    ]

-- 511 granules of the least exponent are shorter than the request
pub least-short : (request : Span) (e : ℕ) → 4096 ≤ length_of request → IsLeastExponent request e
    → 511 * 2 ^ (e + 3) < length_of request
least-short request zero long h = omega arith
least-short request (suc e) long h =
    let half : ℕ = 2 ^ (e + 3) in
    let pos = pow_pos (e + 3) in
    let two = double e in
    elim (cases_lt 1023 (granule_count request half)) [
      | inl many ↦
          let down = lt-div-mul-add {a = request.base} pos in
          elim (cases_lt (511 * (2 * half)) (length_of request)) [
            | inl good ↦ omega (arith, two, good)
            | inr bad ↦
                let up = div_ceil-le request.top half (request.base / half + 1023) pos (omega (arith, bad, down)) in
                absurd (omega (arith, up, many))
          ]
      | inr few ↦ let l = h.least e few in absurd (omega arith)
    ]

-- ---- the granule and the least exponent

-- powers of two are in the order of their exponents
pub pow-order : (j k : ℕ) → 2 ^ j ≤ 2 ^ k → j ≤ k
pow-order j k h =
    elim (cases_lt k j) [
      | inl less ↦
          let p : 2 ^ suc k ≤ 2 ^ j = pow_mono less in
          let q = pow-suc 2 k in
          let pos = pow_pos k in
          absurd (omega (arith, p, q, h, pos))
      | inr more ↦ more
    ]

pub coarse_enough : (request : Span) (e : ℕ) → granule_count request (2 ^ (e + 3)) ≤ 1023 → IsCoarseEnough request (2 ^ (e + 3))
coarse_enough request e few =
    let p = pow-add 2 e 3 in
    let pos = pow_pos e in
    record { power = (e + 3, refl); from_eight = omega (arith, p, pos); few = few }

pub granule-least : (request : Span) (e : ℕ) → 4096 ≤ length_of request → IsGranule request (2 ^ (e + 3)) → IsLeastExponent request e
granule-least request e long h = record {
  few = (h.large long).few;
  least = λ other few.
      let le = h.least (2 ^ (other + 3)) long (coarse_enough request other few) in
      let order = pow-order (e + 3) (other + 3) le in
      omega (arith, order);
}

pub least-granule : (request : Span) (e : ℕ) → 4096 ≤ length_of request → IsLeastExponent request e → IsGranule request (2 ^ (e + 3))
least-granule request e long h = record {
  small = λ short. absurd (omega (arith, short, long));
  large = λ _. coarse_enough request e h.few;
  least = λ other _ coarse. by_power other coarse coarse.power.0 coarse.power.1;
}
  where
    by_power : (other : ℕ) → IsCoarseEnough request other → (k : ℕ) → other ≡ 2 ^ k → 2 ^ (e + 3) ≤ other
    by_power other coarse k is =
        let eight : 2 ^ 3 ≤ 2 ^ k = rw is at coarse.from_eight in
        let three : 3 ≤ k = pow-order 3 k eight in
        let split : k ≡ k - 3 + 3 = omega arith in
        let is' : other ≡ 2 ^ (k - 3 + 3) = is ∙ ap (λ (n : ℕ). 2 ^ n) split in
        let few : granule_count request (2 ^ (k - 3 + 3)) ≤ 1023 = rw is' at coarse.few in
        let order = h.least (k - 3) few in
        let order' : e + 3 ≤ k - 3 + 3 = omega (arith, order) in
        rw is' (pow_mono order')

-- an exponent whose predecessors are not coarse enough is the least
pub first-least : (request : Span) (e : ℕ) → granule_count request (2 ^ (e + 3)) ≤ 1023
    → ((k : ℕ) → k < e → 1023 < granule_count request (2 ^ (k + 3))) → IsLeastExponent request e
first-least request e few before = record {
  few = few;
  least = λ other few'. elim (cases_lt other e) [ inl less ↦ let m = before other less in absurd (omega (arith, m, few')) | inr more ↦ more ];
}

-- ---- one granule, one exponent, one granted span

pub granule_same : (request : Span) (g h : ℕ) → IsGranule request g → IsGranule request h → g ≡ h
granule_same request g h is_g is_h =
    elim (cases_lt (length_of request) 4096) [
      | inl short ↦ is_g.small short ∙ sym (is_h.small short)
      | inr long ↦
          let x = is_g.least h long (is_h.large long) in
          let y = is_h.least g long (is_g.large long) in
          omega (arith, x, y)
    ]

pub exponent-least : (request : Span) (e : ℕ) → 4096 ≤ length_of request → IsExponent request e → IsLeastExponent request e
exponent-least request e long h = granule-least request e long (h.large long)

pub least-exponent : (request : Span) (e : ℕ) → 4096 ≤ length_of request → IsLeastExponent request e → IsExponent request e
least-exponent request e long h = record {
  small = λ short. absurd (omega (arith, short, long));
  large = λ _. least-granule request e long h;
}

pub exponent_same : (request : Span) (e k : ℕ) → IsExponent request e → IsExponent request k → e ≡ k
exponent_same request e k is_e is_k =
    elim (cases_lt (length_of request) 4096) [
      | inl short ↦ is_e.small short ∙ sym (is_k.small short)
      | inr long ↦ least_same request e k (exponent-least request e long is_e) (exponent-least request k long is_k)
    ]

pub granted_same : (request one other : Span) → IsGranted request one → IsGranted request other → one ≡ other
granted_same request one other h k =
    h.is_rounded ∙ ap (λ (g : ℕ). rounded_to g request) (granule_same request h.granule k.granule h.is_granule k.is_granule)
    ∙ sym k.is_rounded

-- ---- the granule as a power of two

-- a power of two whose predecessors from 8 up are not coarse enough is the granule
pub first_granule : (request : Span) (power : ℕ) → 4096 ≤ length_of request → 3 ≤ power → granule_count request (2 ^ power) ≤ 1023
    → ((k : ℕ) → 3 ≤ k → k < power → 1023 < granule_count request (2 ^ k)) → IsGranule request (2 ^ power)
first_granule request power long three few before =
    let split : power ≡ power - 3 + 3 = omega arith in
    let few' : granule_count request (2 ^ (power - 3 + 3)) ≤ 1023 = rw split at few in
    let least = first-least request (power - 3) few' (λ k less. before (k + 3) (omega arith) (omega arith)) in
    rw split (least-granule request (power - 3) long least)

-- the exponent of the granule's power of two
pub power-exponent : (request : Span) (power : ℕ) → IsGranule request (2 ^ power) → (length_of request < 4096 → power ≡ 0)
    → (4096 ≤ length_of request → 3 ≤ power) → IsExponent request (power - 3)
power-exponent request power h small large = record {
  small = λ short. let z = small short in omega (arith, z);
  large = λ long.
      let three = large long in
      let split : power ≡ power - 3 + 3 = omega (arith, three) in
      subst (λ (n : ℕ). IsGranule request (2 ^ n)) split h;
}

-- ---- the granule of a length, and its growth by the rounding of the ends

-- a request not longer than `n` granules touches at most one more
pub granule_count-few : (request : Span) (g n : ℕ) → 0 < g → request.base ≤ request.top → length_of request ≤ n * g
    → granule_count request g ≤ n + 1
granule_count-few request g n pos order short =
    let down = lt-div-mul-add {a = request.base} pos in
    let up = div_ceil-le request.top g (request.base / g + 1 + n) pos (omega (arith, down, short)) in
    omega (arith, up)

-- a request at least as long as `n` granules touches at least `n`
pub granule_count-many : (request : Span) (g n : ℕ) → 0 < g → request.base ≤ request.top → n * g ≤ length_of request
    → n ≤ granule_count request g
granule_count-many request g n pos order long =
    let up = le-div_ceil request.top g pos in
    let down = div-mul-le_self request.base g in
    let products : (n + request.base / g) * g ≤ div_ceil request.top g * g = omega (arith, up, down, long) in
    let k = le_of_mul-le-mul_right products pos in
    omega (arith, k)

-- a request of 512 granules or more touches more than 1,023 of any smaller granule
length-before : (request : Span) (power : ℕ) → request.base ≤ request.top → 512 * 2 ^ power ≤ length_of request
    → (k : ℕ) → 3 ≤ k → k < power → 1023 < granule_count request (2 ^ k)
length-before request power order least k three less =
    let p : 2 ^ suc k ≤ 2 ^ power = pow_mono less in
    let q = pow-suc 2 k in
    let many = granule_count-many request (2 ^ k) 1024 (pow_pos k) order (omega (arith, least, p, q)) in
    omega (arith, many)

-- the length and the granule have one power if the request touches few enough
pub length_granule : (request : Span) (size power : ℕ) → 512 * 2 ^ power ≤ size → size ≡ length_of request
    → 4096 ≤ length_of request → 3 ≤ power → granule_count request (2 ^ power) ≤ 1023 → IsGranule request (2 ^ power)
length_granule request size power least is long three few =
    let least' : 512 * 2 ^ power ≤ length_of request = omega (arith, least, is) in
    first_granule request power long three few (length-before request power (omega arith) least')

-- ---- the power of two by the leading zeros of the distance from the first byte to the last

-- the leading zeros of a number give a power of two of which it has 512 or more, and less than 1,024
pub record IsLeading (number zeros : ℕ) : Type 0 where
  pub zeros_fit : zeros ≤ 54
  pub least : 512 * 2 ^ (54 - zeros) ≤ number
  pub below : number < 1024 * 2 ^ (54 - zeros)

pub leading_number : (number : ℕ) → 4095 ≤ number → number < 2 ^ 64 → IsLeading number (count_leading_zeros 64 number)
leading_number number long fits =
    let h = leading_length 64 number fits in
    by_bits h.0 (count_leading_zeros 64 number) h.1 h.2 h.3
  where
    by_bits : (bits zeros : ℕ) → zeros + bits ≡ 64 → number < 2 ^ bits → 2 ^ bits ≤ 2 * number + 1 → IsLeading number zeros
    by_bits bits zeros sum small large =
        elim (cases_lt bits 12) [
          | inl few ↦
              let less : bits ≤ 11 = omega (arith, few) in
              let p : 2 ^ bits ≤ 2 ^ 11 = pow_mono less in
              absurd (omega (arith, p, small, long))
          | inr many ↦
              let is : 54 - zeros ≡ bits - 10 = omega (arith, sum, many) in
              let split : bits ≡ bits - 10 + 10 = omega (arith, many) in
              let units = ap (λ (n : ℕ). 2 ^ n) split ∙ pow-add 2 (bits - 10) 10 in
              record {
                zeros_fit = omega (arith, sum, many);
                least = rw is (omega (arith, units, large));
                below = rw is (omega (arith, units, small));
              }
        ]

too_short : (number power : ℕ) → 4095 ≤ number → number < 1024 * 2 ^ power → power < 2 → ⊥
too_short number power long below small =
    let less : power ≤ 1 = omega (arith, small) in
    let p : 2 ^ power ≤ 2 ^ 1 = pow_mono less in
    omega (arith, p, long, below)

-- the number of granules that a request touches, from that of its first byte to that of its last
touched : (request : Span) (last power : ℕ) → request.top ≡ last + 1
    → granule_count request (2 ^ power) ≡ last / 2 ^ power + 1 - request.base / 2 ^ power
touched request last power is =
    let count = last_granule request.top power (omega (arith, is)) in
    let same : request.top - 1 ≡ last = omega (arith, is) in
    let count' : last / 2 ^ power + 1 ≡ div_ceil request.top (2 ^ power) = rw same at count in
    ap (λ (n : ℕ). n - request.base / 2 ^ power) (sym count')

-- a request that touches less than 1,024 granules of the power has that granule
few_granules : (request : Span) (last power : ℕ) → request.top ≡ last + 1 → request.base + 4095 ≤ last
    → 512 * 2 ^ power ≤ last - request.base → last - request.base < 1024 * 2 ^ power
    → last / 2 ^ power - request.base / 2 ^ power < 1023 → (3 ≤ power) × IsGranule request (2 ^ power)
few_granules request last power is long least below few =
    let count = touched request last power is in
    let far : 4095 ≤ last - request.base = omega (arith, long) in
    let three : 3 ≤ power =
    elim (cases_lt power 3) [
      | inl small ↦
          elim (cases_lt power 2) [
            | inl less ↦ absurd (too_short (last - request.base) power far below less)
            | inr two ↦
                let is_two : power ≡ 2 = omega (arith, small, two) in
                let few' : last / 2 ^ 2 - request.base / 2 ^ 2 < 1023 = rw is_two at few in
                absurd (omega (arith, few', long))
          ]
      | inr large ↦ large
    ] in (
      three,
      length_granule request (length_of request) power (omega (arith, least, is)) refl (omega (arith, long, is)) three
          (rw count (omega (arith, few))),
    )

-- a request that touches 1,024 granules of the power has the next one
many_granules : (request : Span) (last power : ℕ) → request.top ≡ last + 1 → request.base + 4095 ≤ last
    → 512 * 2 ^ power ≤ last - request.base → last - request.base < 1024 * 2 ^ power
    → 1023 ≤ last / 2 ^ power - request.base / 2 ^ power → (3 ≤ power + 1) × IsGranule request (2 ^ (power + 1))
many_granules request last power is long least below many =
    let count = touched request last power is in
    let far : 4095 ≤ last - request.base = omega (arith, long) in
    let two : 2 ^ (power + 1) ≡ 2 * 2 ^ power = let s : power + 1 ≡ suc power = omega arith in let p = pow-suc 2 power in rw s (omega (arith, p)) in
    let three : 3 ≤ power + 1 =
    elim (cases_lt power 2) [
      | inl small ↦ absurd (too_short (last - request.base) power far below small)
      | inr large ↦ omega (arith, large)
    ] in
    let long' : 4096 ≤ length_of request = omega (arith, long, is) in
    let few = granule_count-few request (2 ^ (power + 1)) 512 (pow_pos (power + 1)) (omega (arith, is, long)) (omega (arith, below, two, is)) in
    let more : 1023 < granule_count request (2 ^ power) = rw count (omega (arith, many)) in (
      three,
      first_granule request (power + 1) long' three (omega (arith, few))
          (λ k from_three less. elim (cases_lt k power) [
            | inl smaller ↦ length-before request power (omega (arith, is, long)) (omega (arith, least, is)) k from_three smaller
            | inr larger ↦ let same : k ≡ power = omega (arith, less, larger) in rw same more
          ]),
    )

-- the granule of a request, if `more` is 1 for one that touches 1,024 granules of the power
granule_of_last : (request : Span) (last power more : ℕ) → request.top ≡ last + 1 → request.base + 4095 ≤ last
    → 512 * 2 ^ power ≤ last - request.base → last - request.base < 1024 * 2 ^ power
    → (last / 2 ^ power - request.base / 2 ^ power < 1023 → more ≡ 0) → (1023 ≤ last / 2 ^ power - request.base / 2 ^ power → more ≡ 1)
    → (3 ≤ power + more) × IsGranule request (2 ^ (power + more))
granule_of_last request last power more is long least below none one =
    elim (cases_lt (last / 2 ^ power - request.base / 2 ^ power) 1023) [
      | inl few ↦ let same : power + more ≡ power = let h = none few in omega (arith, h) in rw same (few_granules request last power is long least below few)
      | inr many ↦ rw (one many) (many_granules request last power is long least below many)
    ]

-- the same, by the steps that lead to `power` and `more`
pub granule_of_steps : (request : Span) (last far raised power before more : ℕ) → 4096 ≤ length_of request
    → (request.base < request.top → request.top ≡ last + 1) → (request.base ≤ last → far ≡ last - request.base)
    → (4095 ≤ far → raised ≡ far) → 512 * 2 ^ power ≤ raised → raised < 1024 * 2 ^ power
    → (request.base / 2 ^ power ≤ last / 2 ^ power → before ≡ last / 2 ^ power - request.base / 2 ^ power)
    → (before < 1023 → more ≡ 0) → (1023 ≤ before → more ≡ 1) → (3 ≤ power + more) × IsGranule request (2 ^ (power + more))
granule_of_steps request last far raised power before more long last_is far_is raised_is least below before_is none one =
    let is : request.top ≡ last + 1 = last_is (omega (arith, long)) in
    let apart : request.base + 4095 ≤ last = omega (arith, long, is) in
    let far' = far_is (omega (arith, apart)) in
    let raised' = raised_is (omega (arith, far', apart)) in
    let down = div-mul-le_self request.base (2 ^ power) in
    let before' = before_is (le-div (request.base / 2 ^ power) last (2 ^ power) (pow_pos power) (omega (arith, down, apart))) in
    granule_of_last request last power more is apart (omega (arith, least, raised', far')) (omega (arith, below, raised', far'))
    (λ few. none (omega (arith, few, before'))) (λ many. one (omega (arith, many, before')))
