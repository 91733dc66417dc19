-- In a pool there is a placement or no place.
use Rattle.std.proofs.Common.{ℕ, zero, suc, ◌⊎◌, ◌%◌, List, [], ◌∷◌, refl, sym, subst, inl, inr, arith}
use Rattle.std.proofs.Math.Decide.{map_dec, ℕ_discrete}
use Rattle.cc_bounds.specs.declared.span.Span.{Span}
use Rattle.cc_bounds.specs.Span.{SharesByte, span_from}
use Rattle.cc_bounds.proofs.DecisionLemmas.{dec_both, least_below, dec-IsWithin, dec-SharesByte}
use Rattle.cc_placer.specs.Placement.{IsApartFrom, IsPlace, IsPlacement, HasNoPlace}

dec-IsApartFrom : (spans : List Span) (span : Span) → Dec (IsApartFrom spans span)
dec-IsApartFrom [] span = yes (λ other among. absurd (omega (arith, among.1)))
dec-IsApartFrom (first ∷ spans) span = by_first (dec-SharesByte span first) (dec-IsApartFrom spans span)
  where
    by_first : Dec (SharesByte span first) → Dec (IsApartFrom spans span) → Dec (IsApartFrom (first ∷ spans) span)
    by_first (yes shares) rest = no (λ apart. apart first (0, omega arith, refl) shares)
    by_first (no not) (no close) =
        no (λ apart. close (λ other among. apart other (suc among.0, omega (arith, among.1), among.2)))
    by_first (no not) (yes apart) = yes by_place
      where
        by_place : IsApartFrom (first ∷ spans) span
        by_place other (zero, within, is) shares = not (subst (λ (s : Span). SharesByte span s) (sym is) shares)
        by_place other (suc k, within, is) shares = apart other (k, omega (arith, within), is) shares

dec-IsPlace : (pool : Span) (held : List Span) (size align start : ℕ) → Dec (IsPlace pool held size align start)
dec-IsPlace pool held size align start =
    map_dec (λ h. record { aligned = h.0; in_pool = h.1.0; apart = h.1.1 }) (λ h. (h.aligned, (h.in_pool, h.apart)))
    (dec_both (ℕ_discrete (start % align) 0)
    (dec_both (dec-IsWithin (span_from start size) pool) (dec-IsApartFrom held (span_from start size))))

-- a placement
pub record HasPlacement (pool : Span) (held : List Span) (size align : ℕ) : Type 0 where
  pub start : ℕ
  pub is : IsPlacement pool held size align start

-- there is one, or no place
pub placement_or_none : (pool : Span) (held : List Span) (size align : ℕ)
    → HasPlacement pool held size align ⊎ HasNoPlace pool held size align
placement_or_none pool held size align =
    elim (least_below (IsPlace pool held size align) (dec-IsPlace pool held size align) (suc pool.top)) [
      | inl found ↦ inl (record { start = found.number; is = record { place = found.is; least = found.least } })
      | inr none ↦ inr (λ start place. none start (omega (arith, place.in_pool.to_top)) place)
    ]
