-- The gaps of a pool: a place is a place in one gap.
use Rattle.std.proofs.Common.{ℕ, zero, suc, ◌≡◌, ◌-◌, ◌<◌, ◌≤◌, List, [], ◌∷◌, Option, Some, None, Contains, length, get_or, arith, ap, inl, inr}
use Rattle.std.proofs.lemmas.Bool.{cases_lt}
use Rattle.std.proofs.lemmas.List.Elements.{Contains-get_or}
use Rattle.std.proofs.lemmas.List.Sums.{sum_by-cons, sum_by-remove}
use Rattle.cc_bounds.specs.declared.span.Span.{Span}
use Rattle.cc_bounds.specs.Span.{HasByte, IsWithin, span_from}
use Rattle.cc_placer.specs.Placement.{IsApartFrom, IsPlace, IsRoom}
use Rattle.cc_machine.specs.Gaps.{AreGaps, FitsGap, IsFirstFit}
use Rattle.cc_machine.specs.FreeSpace.{AreGapsOf, LiesInGap, bytes_at, count_at}
use Rattle.cc_placer.proofs.PlacementLemmas.{at_most_unless_above}

-- a span of a list that has a byte is counted there
pub counted : (spans : List Span) (k : ℕ) (d : Span) (address : ℕ) → k < length spans → (get_or spans k d).base ≤ address
    → address < (get_or spans k d).top → 1 ≤ count_at address spans
counted spans k d address within from below =
    omega (arith, sum_by-remove (bytes_at address) spans k d within, from, below)

pub counted_contained : (spans : List Span) (span : Span) (address : ℕ) → Contains spans span → HasByte span address
    → 1 ≤ count_at address spans
counted_contained spans span address (k, within, is) has =
    counted spans k span address within (omega (arith, ap (λ (s : Span). s.base) is, has.from_base))
    (omega (arith, ap (λ (s : Span). s.top) is, has.below_top))

-- a span of a list that has the byte at an address
pub record HasOne (spans : List Span) (address : ℕ) : Type 0 where
  pub at : ℕ
  pub within : at < length spans
  pub from_base : (d : Span) → (get_or spans at d).base ≤ address
  pub below_top : (d : Span) → address < (get_or spans at d).top

one_later : (first : Span) (spans : List Span) (address : ℕ) → HasOne spans address → HasOne (first ∷ spans) address
one_later first spans address one = record {
  at = suc one.at;
  within = omega (arith, one.within);
  from_base = one.from_base;
  below_top = one.below_top;
}

-- if a byte is counted, a span has it
pub one_counted : (spans : List Span) (address : ℕ) → 1 ≤ count_at address spans → HasOne spans address
one_counted [] address some = absurd (omega arith)
one_counted (first ∷ spans) address some =
    let sum = sum_by-cons (bytes_at address) first spans in
    elim (cases_lt address first.base) [
      | inl below ↦ one_later first spans address (one_counted spans address (omega (arith, sum, some, below)))
      | inr from ↦
          elim (cases_lt address first.top) [
            | inl inside ↦
                record {
                  at = zero;
                  within = omega arith;
                  from_base = λ d. from;
                  below_top = λ d. inside;
                }
            | inr above ↦ one_later first spans address (one_counted spans address (omega (arith, sum, some, above)))
          ]
    ]

-- no gap has the byte at the top of a gap
pub none_at_top : (gaps : List Span) (k : ℕ) (d : Span) → AreGaps gaps → k < length gaps
    → count_at (get_or gaps k d).top gaps ≡ 0
none_at_top gaps k d are within =
    elim (cases_lt 0 (count_at (get_or gaps k d).top gaps)) [
      | inl some ↦
          let one = one_counted gaps (get_or gaps k d).top some in
          absurd (elim (cases_lt one.at k) [
            | inl before ↦
                omega
                (arith, are.apart one.at k d before within, (are.some k d within).not_empty, one.below_top d)
            | inr from ↦
                elim (cases_lt k one.at) [
                  | inl after ↦ omega (arith, are.apart k one.at d after one.within, one.from_base d)
                  | inr most ↦
                      let same : one.at ≡ k = omega arith in
                      let top = rw same at one.below_top d in
                      omega (arith, top)
                ]
          ])
      | inr none ↦ omega (arith, none)
    ]

-- no byte is in a held span and in a gap
pub never_both : (pool : Span) (held gaps : List Span) (address : ℕ) → AreGapsOf pool held gaps
    → 1 ≤ count_at address held → 1 ≤ count_at address gaps → ⊥
never_both pool held gaps address are one other = omega (arith, are.each address, one, other)

-- a byte of a span in the pool that is apart from the held ones is in a gap
pub free_byte : (pool : Span) (held gaps : List Span) (span : Span) (address : ℕ) → AreGapsOf pool held gaps
    → IsWithin span pool
    → IsApartFrom held span → HasByte span address → count_at address gaps ≡ 1
free_byte pool held gaps span address are inside apart has =
    let none : count_at address held ≡ 0 =
    elim (cases_lt 0 (count_at address held)) [
      | inl some ↦
          let one = one_counted held address some in
          absurd (apart (get_or held one.at span) (Contains-get_or held one.at span one.within) (record {
            byte = address;
            in_one = has;
            in_other = record { from_base = one.from_base span; below_top = one.below_top span };
          }))
      | inr none ↦ omega (arith, none)
    ] in
    omega (arith, are.each address, none, inside.from_base, inside.to_top, has.from_base, has.below_top)

-- a span in the pool that is apart from the held ones lies within one gap
pub lies_in_gap : (pool : Span) (held gaps : List Span) (span : Span) → AreGapsOf pool held gaps → IsWithin span pool
    → IsApartFrom held span
    → span.base < span.top → LiesInGap gaps span
lies_in_gap pool held gaps span are inside apart some =
    let first = free_byte pool held gaps span span.base are inside apart
    (record { from_base = omega arith; below_top = some }) in
    let one = one_counted gaps span.base (omega (arith, first)) in
    record {
      at = one.at;
      within = one.within;
      from_base = one.from_base;
      to_top = λ d.
          at_most_unless_above span.top (get_or gaps one.at d).top (λ above.
          let none = none_at_top gaps one.at d are.are_gaps one.within in
          let free = free_byte pool held gaps span (get_or gaps one.at d).top are inside apart
          (record { from_base = omega (arith, one.below_top d); below_top = above }) in
          omega (arith, none, free));
    }

-- a gap lies within the pool
pub gap_in_pool : (pool : Span) (held gaps : List Span) (k : ℕ) (d : Span) → AreGapsOf pool held gaps → k < length gaps
    → IsWithin (get_or gaps k d) pool
gap_in_pool pool held gaps k d are within =
    let some = (are.are_gaps.some k d within).not_empty in
    let low = counted gaps k d (get_or gaps k d).base within (omega arith) some in
    let high = counted gaps k d ((get_or gaps k d).top - 1) within (omega (arith, some)) (omega (arith, some)) in
    record {
      from_base = omega (arith, low, are.each (get_or gaps k d).base);
      to_top = omega (arith, some, high, are.each ((get_or gaps k d).top - 1));
    }

-- a place lies within one gap
pub place_fits : (pool : Span) (held gaps : List Span) (size align start : ℕ) → AreGapsOf pool held gaps → 0 < size
    → IsPlace pool held size align start → FitsGap gaps size align start
place_fits pool held gaps size align start are some place =
    let lies = lies_in_gap pool held gaps (span_from start size) are place.in_pool place.apart (omega (arith, some)) in
    record {
      aligned = place.aligned;
      gap = get_or gaps lies.at (span_from start size);
      among = Contains-get_or gaps lies.at (span_from start size) lies.within;
      within = record { from_base = lies.from_base (span_from start size); to_top = lies.to_top (span_from start size) };
    }

-- a start within one gap is a place
pub fit_is_place : (pool : Span) (held gaps : List Span) (size align start : ℕ) → AreGapsOf pool held gaps
    → FitsGap gaps size align start → IsPlace pool held size align start
fit_is_place pool held gaps size align start are fit =
    let (k, within, is) = fit.among in
    let inside = gap_in_pool pool held gaps k fit.gap are within in
    let base : (get_or gaps k fit.gap).base ≡ fit.gap.base = ap (λ (s : Span). s.base) is in
    let top : (get_or gaps k fit.gap).top ≡ fit.gap.top = ap (λ (s : Span). s.top) is in
    record {
      aligned = fit.aligned;
      in_pool = record {
        from_base = omega (arith, inside.from_base, base, fit.within.from_base);
        to_top = omega (arith, inside.to_top, top, fit.within.to_top);
      };
      apart = λ other among shares.
          never_both pool held gaps shares.byte are (counted_contained held other shares.byte among shares.in_other)
          (counted_contained gaps fit.gap shares.byte fit.among (record {
            from_base = omega (arith, shares.in_one.from_base, fit.within.from_base);
            below_top = omega (arith, shares.in_one.below_top, fit.within.to_top);
          }));
    }

-- the first fit among the gaps is the placement
pub first_fit_is_room : (pool : Span) (held gaps : List Span) (size align : ℕ) (result : Option ℕ)
    → AreGapsOf pool held gaps → 0 < size
    → IsFirstFit gaps size align result → IsRoom pool held size align result
first_fit_is_room pool held gaps size align None are some none =
    λ start place. none start (place_fits pool held gaps size align start are some place)
first_fit_is_room pool held gaps size align (Some start) are some fits = record {
  place = fit_is_place pool held gaps size align start are fits.0;
  least = λ other place. fits.1 other (place_fits pool held gaps size align other are some place);
}
