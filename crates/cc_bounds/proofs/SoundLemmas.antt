-- Sound spans: what a request is granted is one, of the same exponent.
use Rattle.std.proofs.Common.{subst, ◌≡◌, ◌==◌, ◌&&◌, ◌↔◌, Bool, true, false, IsTrue, ℕ, ◌+◌, ◌-◌, ◌*◌, ◌<◌, ◌≤◌, ◌/◌, ◌^◌, refl, sym, ◌∙◌, ap, arith, inl, inr}
use Rattle.std.specs.Int.{div_ceil}
use Rattle.std.proofs.Math.Nat.{mul-le-mul_right, div-mul-le_self, le_of_mul-le-mul_right, lt-div-mul-add}
use Rattle.std.proofs.lemmas.Nat.{pow_pos, pow-add, shl-shr}
use Rattle.std.proofs.lemmas.Bool.{cases_lt, eqb-false, eqb-true, true≢false}
use Rattle.cc_bounds.specs.declared.span.Span.{Span}
use Rattle.cc_bounds.specs.Span.{IsSpan, length_of}
use Rattle.cc_bounds.specs.Granule.{IsCoarseEnough, IsGranule, IsExponent, rounded_to, IsGranted, IsSound}
use Rattle.cc_bounds.proofs.GranuleLemmas.{le-div_ceil, div_ceil-lt, div_ceil-le, div_ceil-multiple, granule_count-within, granule_count-covered, IsLeastExponent, least_same, least-fits}
use Rattle.cc_bounds.proofs.GranuleLemmas.{granule_same, least-many, pow-order, granule-least, least-granule, exponent-least, least-exponent}

-- ---- rounding

-- spans are equal if their ends are
pub same_span : (one other : Span) → one.base ≡ other.base → one.top ≡ other.top → one ≡ other
same_span one other base top = λ i. record { base = base i; top = top i }

-- rounding to one byte changes nothing
pub rounded_to-one : (span : Span) → rounded_to 1 span ≡ span
rounded_to-one span = same_span (rounded_to 1 span) span (omega arith) (omega arith)

-- a coarse enough granule has an exponent
pub record HasExponent (granule : ℕ) : Type 0 where
  pub exponent : ℕ
  pub is : granule ≡ 2 ^ (exponent + 3)

pub coarse-exponent : (request : Span) (granule : ℕ) → IsCoarseEnough request granule → HasExponent granule
coarse-exponent request granule h =
    let k : ℕ = h.power.0 in
    let eight : 2 ^ 3 ≤ 2 ^ k = rw h.power.1 at h.from_eight in
    let three : 3 ≤ k = pow-order 3 k eight in
    let split : k ≡ k - 3 + 3 = omega arith in
    record { exponent = k - 3; is = h.power.1 ∙ ap (λ (n : ℕ). 2 ^ n) split }

-- ---- what a request of 4,096 bytes or more is granted

-- The granted span goes from granule `first` to granule `last` of the request's exponent: 512 to 1,023 of them,
-- and less than one beyond the request at each end.
pub record IsLongGranted (request granted : Span) : Type 0 where
  pub exponent : ℕ
  pub first : ℕ
  pub last : ℕ
  pub least : IsLeastExponent request exponent
  pub exponent_fits : exponent ≤ 52
  pub few : last ≤ first + 1023
  pub many : first + 512 ≤ last
  pub first_is : first ≡ request.base / 2 ^ (exponent + 3)
  pub last_is : last ≡ div_ceil request.top (2 ^ (exponent + 3))
  pub base_is : granted.base ≡ first * 2 ^ (exponent + 3)
  pub top_is : granted.top ≡ last * 2 ^ (exponent + 3)
  pub from_base : granted.base ≤ request.base
  pub to_top : request.top ≤ granted.top
  pub near_base : request.base < granted.base + 2 ^ (exponent + 3)
  pub near_top : granted.top < request.top + 2 ^ (exponent + 3)
  pub top_fits : granted.top ≤ 2 ^ 64

-- whole granules make up the address space
granules-whole : (e : ℕ) → e ≤ 52 → 2 ^ (61 - e) * 2 ^ (e + 3) ≡ 2 ^ 64
granules-whole e fits =
    let s : 61 - e + (e + 3) ≡ 64 = omega arith in
    sym (pow-add 2 (61 - e) (e + 3)) ∙ ap (λ (n : ℕ). 2 ^ n) s

pub long-granted : (request granted : Span) (e : ℕ) → IsSpan request → 4096 ≤ length_of request → IsLeastExponent request e
    → granted ≡ rounded_to (2 ^ (e + 3)) request → IsLongGranted request granted
long-granted request granted e span long h is =
    let g : ℕ = 2 ^ (e + 3) in
    let n : ℕ = request.base / g in
    let m : ℕ = div_ceil request.top g in
    let pos : 0 < g = pow_pos (e + 3) in
    let e_fits = least-fits request e span.top_fits h in
    let down = div-mul-le_self request.base g in
    let down' = mod-near request.base g pos in
    let up = le-div_ceil request.top g pos in
    let up' = div_ceil-lt request.top g pos in
    let order : n ≤ m = le_of_mul-le-mul_right (omega (arith, down, up, long)) pos in
    let many = least-many request e long h in
    let few = h.few in
    let whole = granules-whole e e_fits in
    let most = div_ceil-le request.top g (2 ^ (61 - e)) pos (omega (arith, whole, span.top_fits)) in
    let most' = mul-le-mul_right g most in
    let base : granted.base ≡ n * g = ap (λ (s : Span). s.base) is in
    let top : granted.top ≡ m * g = ap (λ (s : Span). s.top) is in
    record {
      exponent = e;
      first = n;
      last = m;
      least = h;
      exponent_fits = e_fits;
      few = omega (arith, few);
      many = omega (arith, many, order);
      first_is = refl;
      last_is = refl;
      base_is = base;
      top_is = top;
      from_base = omega (arith, base, down);
      to_top = omega (arith, top, up);
      near_base = omega (arith, base, down');
      near_top = omega (arith, top, up');
      top_fits = omega (arith, top, most', whole);
    }
  where
    mod-near : (n g : ℕ) → 0 < g → n < n / g * g + g
    mod-near n g pos = lt-div-mul-add {a = n} pos

pub granted-long : (request granted : Span) → IsSpan request → 4096 ≤ length_of request → IsGranted request granted
    → IsLongGranted request granted
granted-long request granted span long h =
    let has = coarse-exponent request h.granule (h.is_granule.large long) in
    let is_granule : IsGranule request (2 ^ (has.exponent + 3)) = rw has.is at h.is_granule in
    let rounded : granted ≡ rounded_to (2 ^ (has.exponent + 3)) request =
    h.is_rounded ∙ ap (λ (g : ℕ). rounded_to g request) has.is in
    long-granted request granted has.exponent span long (granule-least request has.exponent long is_granule) rounded

-- what a shorter request is granted
pub granted-short : (request granted : Span) → length_of request < 4096 → IsGranted request granted → granted ≡ request
granted-short request granted short h =
    h.is_rounded ∙ ap (λ (g : ℕ). rounded_to g request) (h.is_granule.small short) ∙ rounded_to-one request

-- ---- the granted span is sound

-- the granted span has the exponent of the request
pub long-least : (request granted : Span) (h : IsLongGranted request granted) → IsLeastExponent granted h.exponent
long-least request granted h =
    let e : ℕ = h.exponent in
    let g : ℕ = 2 ^ (e + 3) in
    let base = h.base_is in
    let top = h.top_is in
    let count = granule_count-covered granted g h.first h.last (pow_pos (e + 3)) (omega (arith, base)) (omega (arith, top)) in
    let few = h.few in
    record {
      few = omega (arith, count, few);
      least = λ other few'.
          let less = granule_count-within request granted (2 ^ (other + 3)) (pow_pos (other + 3)) h.from_base h.to_top in
          h.least.least other (omega (arith, less, few'));
    }

-- whole granules are not rounded
pub rounded_to-whole : (span : Span) (n m k : ℕ) → span.base ≡ n * 2 ^ k → span.top ≡ m * 2 ^ k → span ≡ rounded_to (2 ^ k) span
rounded_to-whole span n m k base top =
    same_span span (rounded_to (2 ^ k) span)
    (base ∙ ap (λ (x : ℕ). x * 2 ^ k) (sym (shl-shr n k)) ∙ ap (λ (x : ℕ). x / 2 ^ k * 2 ^ k) (sym base))
    (top ∙ ap (λ (x : ℕ). x * 2 ^ k) (sym (div_ceil-multiple m (2 ^ k) (pow_pos k))) ∙ ap (λ (x : ℕ). div_ceil x (2 ^ k) * 2 ^ k) (sym top))

-- what the granted span of a request is
pub record IsSoundGrant (request granted : Span) : Type 0 where
  pub is_span : IsSpan granted
  pub sound : IsSound granted
  pub as_long : 4096 ≤ length_of request → 4096 ≤ length_of granted
  pub as_short : length_of request < 4096 → length_of granted < 4096
  pub exponent : (e : ℕ) → IsExponent request e → IsExponent granted e

pub granted-sound : (request granted : Span) → IsSpan request → IsGranted request granted → IsSoundGrant request granted
granted-sound request granted span h =
    elim (cases_lt (length_of request) 4096) [
      | inl short ↦
          let same = sym (granted-short request granted short h) in
          subst (λ (s : Span). IsSoundGrant request s) same (own request span short)
      | inr long ↦
          let facts = granted-long request granted span long h in
          let base = facts.from_base in
          let top = facts.to_top in
          let base_fits = span.base_fits in
          let long' : 4096 ≤ length_of granted = omega (arith, base, top, long) in
          let least = long-least request granted facts in
          record {
            is_span = record {
              in_order = omega (arith, base, top, span.in_order);
              base_fits = omega (arith, base, base_fits);
              top_fits = facts.top_fits;
            };
            sound = record {
              granule = 2 ^ (facts.exponent + 3);
              is_granule = least-granule granted facts.exponent long' least;
              is_rounded = rounded_to-whole granted facts.first facts.last (facts.exponent + 3) facts.base_is facts.top_is;
            };
            as_long = λ _. long';
            as_short = λ short. absurd (omega (arith, short, long));
            exponent = λ e is.
                let same = least_same request facts.exponent e facts.least (exponent-least request e long is) in
                least-exponent granted e long' (subst (λ (n : ℕ). IsLeastExponent granted n) same least);
          }
    ]
  where
    own : (request : Span) → IsSpan request → length_of request < 4096 → IsSoundGrant request request
    own request span short = record {
      is_span = span;
      sound = record {
        granule = 1;
        is_granule = record {
          small = λ _. refl;
          large = λ long. absurd (omega (arith, short, long));
          least = λ other long _. absurd (omega (arith, short, long));
        };
        is_rounded = sym (rounded_to-one request);
      };
      as_long = λ long. long;
      as_short = λ s. s;
      exponent = λ e is. is;
    }

-- A request is exact if and only if it equals the span that it is granted.
equals_itself : (n : ℕ) → (n == n) ≡ true
equals_itself n = by (n == n) refl where
  by : (same : Bool) → (n == n) ≡ same → same ≡ true
  by true is = refl
  by false is = absurd (eqb-false n n is refl)

equal_ends : (one other : Span) (base top : Bool) → (one.base == other.base) ≡ base → (one.top == other.top) ≡ top → (base && top) ≡ true → one ≡ other
equal_ends one other true true base top is = same_span one other (eqb-true one.base other.base base) (eqb-true one.top other.top top)
equal_ends one other true false base top is = absurd (true≢false (sym is))
equal_ends one other false top' base top is = absurd (true≢false (sym is))

pub exact_by_power : (request granted : Span) (granule : ℕ) (exact : Bool) → IsGranule request granule → granted ≡ rounded_to granule request
    → exact ≡ (granted.base == request.base && granted.top == request.top) → IsTrue exact ↔ IsSound request
exact_by_power request granted granule exact is_granule is_rounded exact_is = (
  λ yes. record {
    granule = granule;
    is_granule = is_granule;
    is_rounded = sym (equal_ends granted request _ _ refl refl (sym exact_is ∙ yes)) ∙ is_rounded;
  },
  λ sound.
      let same : granted ≡ request =
      is_rounded ∙ ap (λ (n : ℕ). rounded_to n request) (granule_same request granule sound.granule is_granule sound.is_granule) ∙ sym sound.is_rounded in
      exact_is ∙ ap (λ (s : Span). s.base == request.base && s.top == request.top) same ∙ rw (equals_itself request.base, equals_itself request.top) refl,
)
