-- The first start that fits a gap: among the gaps of a block, and among the gaps of blocks.
use Rattle.std.proofs.Common.{ℕ, ◌≡◌, ◌%◌, ◌<◌, ◌≤◌, Some, None, List, length, get_or, arith, sym, ap, ◌∙◌, inl, inr}
use Rattle.std.proofs.lemmas.Bool.{cases_eq, cases_lt}
use Rattle.std.proofs.lemmas.List.{get_or_default}
use Rattle.cc_bounds.specs.declared.span.Span.{Span}
use Rattle.cc_bounds.specs.Span.{IsWithin, span_from}
use Rattle.cc_machine.specs.Fit.{IsFit, IsLeastFit, LackFit}
use Rattle.cc_machine.specs.Gaps.{AreGaps, FitsGap, IsFirstFit}

-- ---- Among the gaps of a block.

-- a gap without a fit has no start that fits it
pub none_at : (gap : Span) (size align start : ℕ) → IsFit gap.base gap.top size align None → start % align ≡ 0
    → IsWithin (span_from start size) gap → ⊥
none_at gap size align start none aligned within = omega (arith, none start within.from_base aligned, within.to_top)

-- a later gap begins no lower
pub bases_rise : (gaps : List Span) (i j : ℕ) (d : Span) → AreGaps gaps → i ≤ j → j < length gaps
    → (get_or gaps i d).base ≤ (get_or gaps j d).base
bases_rise gaps i j d are low within =
    elim (cases_eq i j) [
      | inl same ↦ rw same (omega arith)
      | inr other ↦
          omega (arith, are.apart i j d (omega (arith, low, other)) within, (are.some i d (omega (arith, low, within))).not_empty)
    ]

pub first_at : (gaps : List Span) (at : ℕ) (d : Span) (size align start : ℕ) → AreGaps gaps → at < length gaps
    → LackFit gaps at size align → IsLeastFit (get_or gaps at d).base (get_or gaps at d).top size align start
    → IsFirstFit gaps size align (Some start)
first_at gaps at d size align start are within none fit = (
  record {
    aligned = fit.aligned;
    gap = get_or gaps at d;
    among = (at, within, get_or_default gaps at (get_or gaps at d) d within);
    within = record { from_base = fit.from_start; to_top = fit.to_end };
  },
  least,
)
  where
    least : (other : ℕ) → FitsGap gaps size align other → start ≤ other
    least other fits =
        let here = get_or_default gaps at d fits.gap within in
        elim (cases_lt fits.among.0 at) [
          | inl low ↦ absurd (none_at fits.gap size align other
              (rw (fits.among.2) at (none fits.among.0 fits.gap low)) fits.aligned fits.within)
          | inr high ↦ elim (cases_eq fits.among.0 at) [
            | inl same ↦
                let is : get_or gaps at d ≡ fits.gap = here ∙ (ap (λ (k : ℕ). get_or gaps k fits.gap) (sym same) ∙ fits.among.2) in
                fit.least other (omega (arith, ap (λ (s : Span). s.base) is, fits.within.from_base)) fits.aligned
            | inr other_one ↦
                let apart = are.apart at fits.among.0 fits.gap (omega (arith, high, other_one)) fits.among.1 in
                omega (
                  arith,
                  apart,
                  ap (λ (s : Span). s.top) here,
                  ap (λ (s : Span). s.base) fits.among.2,
                  fits.within.from_base,
                  fit.to_end,
                )
          ]
        ]
