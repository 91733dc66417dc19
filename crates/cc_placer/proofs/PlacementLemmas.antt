-- Multiples of the alignment, and places.
use Rattle.std.proofs.Common.{ℕ, suc, ◌≡◌, ◌+◌, ◌*◌, ◌/◌, ◌%◌, ◌-◌, ◌<◌, ◌≤◌, max, List, Contains, arith}
use Rattle.std.specs.Int.{div_ceil}
use Rattle.std.proofs.Math.Nat.{div-add-mod, mul-mod_left, mod-lt, mul-suc, mul_comm, lt_of_mul-lt-mul_left, mul-le-mul_left}
use Rattle.cc_bounds.proofs.GranuleLemmas.{div_ceil-lt, le-div_ceil}
use Rattle.cc_bounds.specs.declared.span.Span.{Span}
use Rattle.cc_bounds.specs.Span.{SharesByte, span_from}
use Rattle.cc_placer.specs.Placement.{IsApartFrom}

-- a multiple from n up, less than `align` above n
pub record IsNextMultiple (n align multiple : ℕ) : Type 0 where
  pub aligned : multiple % align ≡ 0
  pub from : n ≤ multiple
  pub near : multiple < n + align

-- the number `align - 1` above n is one, without its remainder
pub without_remainder : (n align unit : ℕ) → 0 < align → unit ≡ align
    → IsNextMultiple n align (n + (unit - 1) - (n + (unit - 1)) % unit)
without_remainder n align unit some is =
    let end : ℕ = n + (align - 1) in
    let whole = div-add-mod end align in
    let below = mod-lt end some in
    let multiple : end - end % align ≡ end / align * align = omega (arith, whole, mul_comm align (end / align)) in
    rw is (record {
      aligned = rw multiple (mul-mod_left (end / align) align);
      from = omega (arith, below, some);
      near = omega (arith, some);
    })

-- a multiple less than `align` above n is at most each multiple from n up
pub least_multiple : (align n multiple other : ℕ) → 0 < align → multiple % align ≡ 0 → other % align ≡ 0
    → n ≤ other → multiple < n + align → multiple ≤ other
least_multiple align n multiple other some multiple_is other_is from near =
    let multiple_at = div-add-mod multiple align in
    let other_at = div-add-mod other align in
    let below : align * (multiple / align) < align * suc (other / align) = omega (
      arith,
      mul-suc align
          (other / align),
    ) in
    let units : multiple / align < suc (other / align) = lt_of_mul-lt-mul_left align below in
    let same : align * (multiple / align) ≤ align * (other / align) = mul-le-mul_left align (omega arith) in
    omega arith

-- a multiple from n up, less than `align` above n, is n rounded up
pub multiple-div_ceil : (align n multiple : ℕ) → 0 < align → multiple % align ≡ 0 → n ≤ multiple
    → multiple < n + align → multiple ≡ div_ceil n align * align
multiple-div_ceil align n multiple some is from near =
    let other = mul-mod_left (div_ceil n align) align in
    let covers = le-div_ceil n align some in
    let close = div_ceil-lt n align some in
    let below = least_multiple align n multiple (div_ceil n align * align) some is other covers near in
    let above = least_multiple align n (div_ceil n align * align) multiple some other is from close in
    omega (arith, below, above)

pub at_most_unless_above : (a b : ℕ) → (b < a → ⊥) → a ≤ b
at_most_unless_above a b not_above = omega arith

-- a place from a start up is past each held span in which the bytes from that start share a byte
pub past_obstacle : (held : List Span) (obstacle : Span) (start size place : ℕ) → Contains held obstacle
    → SharesByte (span_from start size) obstacle → 0 < size
    → start ≤ place → IsApartFrom held (span_from place size) → obstacle.top ≤ place
past_obstacle held obstacle start size place is_held shares some from apart =
    at_most_unless_above obstacle.top place (λ above. apart obstacle is_held (record {
      byte = max place obstacle.base;
      in_one = record {
        from_base = omega arith;
        below_top = omega (
          arith,
          shares.in_one.from_base,
          shares.in_one.below_top,
          shares.in_other.from_base,
          shares.in_other.below_top,
        );
      };
      in_other = record {
        from_base = omega arith;
        below_top = omega (
          arith,
          shares.in_one.from_base,
          shares.in_one.below_top,
          shares.in_other.from_base,
          shares.in_other.below_top,
        );
      };
    }))
