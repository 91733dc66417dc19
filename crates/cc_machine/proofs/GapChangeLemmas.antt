-- The gaps of a pool when a span is held or given back: the change is at one position.
use Rattle.std.proofs.Common.{ℕ, zero, suc, ◌≡◌, ◌≢◌, ◌+◌, ◌-◌, ◌<◌, ◌≤◌, max, min, List, ◌∷◌, Some, None, Contains, length, get_or, slice_get, insert, remove, set, sum_by, arith, refl, ◌∙◌, sym}
use Rattle.std.proofs.Common.{ap, inl, inr}
use Rattle.std.proofs.lemmas.Bool.{cases_lt}
use Rattle.std.proofs.lemmas.List.{get_or_default, get_or-set_same, get_or-set_other, length-set}
use Rattle.std.proofs.lemmas.Option.{get_or_from_slice_get, slice_get-get_or, slice_get_within}
use Rattle.std.proofs.lemmas.List.Edits.{get_or-remove_above, get_or-remove_below, length-remove}
use Rattle.std.proofs.lemmas.List.Elements.{All-cons, All-set, All-tail, Contains-get_or}
use Rattle.std.proofs.lemmas.List.Quantifiers.{all_pairs_remove}
use Rattle.std.proofs.lemmas.List.Sorted.{All-permutation, IsPermutation-insert, IsPermutation-remove, IsPermutation-sym, sum_by-IsPermutation}
use Rattle.std.proofs.lemmas.List.Sums.{sum_by-cons, sum_by-insert, sum_by-le, sum_by-le-sum_by, sum_by-remove, sum_by-set}
use Rattle.cc_bounds.specs.declared.span.Span.{Span}
use Rattle.cc_bounds.specs.Span.{IsWithin}
use Rattle.cc_placer.specs.Placement.{AddsSpan, IsApartFrom, RemovesSpan}
use Rattle.cc_placer.specs.PlacerState.{IsSomeBytes}
use Rattle.cc_machine.specs.Gaps.{AreGaps}
use Rattle.cc_machine.specs.FreeSpace.{AddsBytes, AreGapsOf, LiesInGap, bytes_at, count_at}
use Rattle.cc_placer.proofs.PlacementLemmas.{at_most_unless_above}
use Rattle.cc_placer.proofs.SortedLemmas.{insert_related}
use Rattle.cc_machine.proofs.FreeSpaceLemmas.{HasOne, counted, counted_contained, gap_in_pool, never_both, none_at_top, one_counted}

-- ---- Order.

-- a gap at a position can be another that stays below the later ones and above the earlier
pub gaps_set : (gaps : List Span) (i : ℕ) (gap : Span) → AreGaps gaps → i < length gaps → IsSomeBytes gap
    → ((k : ℕ) (d : Span) → k < i → (get_or gaps k d).top < gap.base)
    → ((k : ℕ) (d : Span) → i < k → k < length gaps → gap.top < (get_or gaps k d).base)
    → AreGaps (set gaps i gap)
gaps_set gaps i gap are inside some below above = record {
  some = All-set IsSomeBytes gaps i gap some are.some;
  apart = by_positions;
}
  where
    by_positions : (k j : ℕ) (d : Span) → k < j → j < length (set gaps i gap)
        → (get_or (set gaps i gap) k d).top < (get_or (set gaps i gap) j d).base
    by_positions k j d less within =
        let long : j < length gaps = rw length-set at within in
        elim (cases_lt k i) [
          | inl first ↦
              rw (get_or-set_other gaps i k gap d (λ same. omega (arith, same, first)))
              (elim (cases_lt j i) [
                | inl second ↦
                    rw (get_or-set_other gaps i j gap d (λ same. omega (arith, same, second)))
                    (are.apart k j d less long)
                | inr from ↦
                    elim (cases_lt i j) [
                      | inl second ↦
                          rw (get_or-set_other gaps i j gap d (λ same. omega (arith, same, second)))
                          (are.apart k j d less long)
                      | inr most ↦
                          let same : j ≡ i = omega arith in
                          rw (same, get_or-set_same gaps i gap d inside) (below k d first)
                    ]
              ])
          | inr from ↦
              elim (cases_lt i k) [
                | inl first ↦
                    rw (
                      get_or-set_other gaps i k gap d (λ same. omega (arith, same, first)),
                      get_or-set_other gaps i j
                          gap d (λ same. omega (arith, same, first, less)),
                    )
                    (are.apart k j d less long)
                | inr most ↦
                    let same : k ≡ i = omega arith in
                    rw (
                      get_or-set_other gaps i j gap d (λ at. omega (arith, at, same, less)),
                      same,
                      get_or-set_same
                          gaps i gap d inside,
                    )
                    (above j d (omega (arith, same, less)) long)
              ]
        ]

-- a gap can be narrower
pub gaps_narrowed : (gaps : List Span) (i : ℕ) (d gap : Span) → AreGaps gaps → i < length gaps → gap.base < gap.top
    → (get_or gaps i d).base ≤ gap.base → gap.top ≤ (get_or gaps i d).top
    → AreGaps (set gaps i gap)
gaps_narrowed gaps i d gap are inside some from to =
    let here = are.some i d inside in
    gaps_set gaps i gap are inside (record { not_empty = some; fits = omega (arith, to, here.fits) })
    (λ k e less.
    let apart = are.apart k i e less inside in
    let same = ap (λ (s : Span). s.base) (get_or_default gaps i d e inside) in
    omega (arith, apart, same, from))
    (λ k e more within.
    let apart = are.apart i k e more within in
    let same = ap (λ (s : Span). s.top) (get_or_default gaps i d e inside) in
    omega (arith, apart, same, to))

-- a gap can be removed
pub gaps_removed : (gaps : List Span) (i : ℕ) (d : Span) → AreGaps gaps → i < length gaps → AreGaps (remove gaps i)
gaps_removed gaps i d are inside = record {
  some = All-tail IsSomeBytes (get_or gaps i d) (remove gaps i)
      (All-permutation IsSomeBytes gaps (get_or gaps i d ∷ remove gaps i)
      (IsPermutation-remove gaps i (get_or gaps i d) inside (get_or_default gaps i d (get_or gaps i d) inside)) are.some);
  apart = all_pairs_remove (λ (gap later : Span). gap.top < later.base) gaps i inside are.apart;
}

-- a gap can be inserted between those that stay below and above it
pub gaps_inserted : (gaps : List Span) (i : ℕ) (gap : Span) → AreGaps gaps → i ≤ length gaps → IsSomeBytes gap
    → ((k : ℕ) (d : Span) → k < i → (get_or gaps k d).top < gap.base)
    → ((k : ℕ) (d : Span) → i ≤ k → k < length gaps → gap.top < (get_or gaps k d).base)
    → AreGaps (insert gaps i gap)
gaps_inserted gaps i gap are fits some below above = record {
  some = All-permutation IsSomeBytes (gap ∷ gaps) (insert gaps i gap) (IsPermutation-insert gaps i gap)
      (All-cons IsSomeBytes gap gaps some are.some);
  apart = insert_related (λ (gap later : Span). gap.top < later.base) gaps i gap are.apart fits below above;
}

-- ---- A span is taken out of its gap.

-- the gaps before a position end at an address or below, and the one there ends above it
pub record IsLocatedAt (gaps : List Span) (address at : ℕ) : Type 0 where
  pub within : at ≤ length gaps
  pub below : (k : ℕ) (d : Span) → k < at → (get_or gaps k d).top ≤ address
  pub above : (d : Span) → at < length gaps → address < (get_or gaps at d).top

-- the gap at a position is around a span
pub record IsAround (gaps : List Span) (i : ℕ) (gap span : Span) : Type 0 where
  pub within : i < length gaps
  pub base_is : (get_or gaps i gap).base ≡ gap.base
  pub top_is : (get_or gaps i gap).top ≡ gap.top
  pub from_base : gap.base ≤ span.base
  pub to_top : span.top ≤ gap.top
  pub some : span.base < span.top

-- the gap around a span is read
pub around_read : (gaps : List Span) (i : ℕ) (gap span : Span) → slice_get gaps i ≡ Some gap → IsWithin span gap
    → span.base < span.top → IsAround gaps i gap span
around_read gaps i gap span read within some =
    let is : get_or gaps i gap ≡ gap = get_or_from_slice_get gaps i gap gap read in
    record {
      within = slice_get_within gaps i gap read;
      base_is = ap (λ (s : Span). s.base) is;
      top_is = ap (λ (s : Span). s.top) is;
      from_base = within.from_base;
      to_top = within.to_top;
      some = some;
    }

-- the first gap that ends above the base of a span that lies in a gap is the one around it
located_at : (gaps : List Span) (i : ℕ) (span : Span) (lies : LiesInGap gaps span) → AreGaps gaps
    → IsLocatedAt gaps span.base i → span.base < span.top → lies.at ≡ i
located_at gaps i span lies are at some =
    elim (cases_lt lies.at i) [
      | inl before ↦ absurd (omega (arith, at.below lies.at span before, lies.to_top span, some))
      | inr from ↦
          elim (cases_lt i lies.at) [
            | inl after ↦
                absurd (omega (
                  arith,
                  at.above span (omega (arith, after, lies.within)),
                  are.apart i lies.at span after lies.within,
                  lies.from_base span,
                ))
            | inr most ↦ omega arith
          ]
    ]

pub around : (gaps : List Span) (i : ℕ) (gap span : Span) → AreGaps gaps → LiesInGap gaps span
    → IsLocatedAt gaps span.base i → span.base < span.top → slice_get gaps i ≡ Some gap → IsAround gaps i gap span
around gaps i gap span are lies at some read =
    let same = located_at gaps i span lies are at some in
    let is : get_or gaps i gap ≡ gap = get_or_from_slice_get gaps i gap gap read in
    let base : (get_or gaps i gap).base ≡ gap.base = ap (λ (s : Span). s.base) is in
    let top : (get_or gaps i gap).top ≡ gap.top = ap (λ (s : Span). s.top) is in
    let from : (get_or gaps i gap).base ≤ span.base = rw same at lies.from_base gap in
    let to : span.top ≤ (get_or gaps i gap).top = rw same at lies.to_top gap in
    record {
      within = omega (arith, same, lies.within);
      base_is = base;
      top_is = top;
      from_base = omega (arith, base, from);
      to_top = omega (arith, top, to);
      some = some;
    }

-- there is such a gap
pub never_the_end : (gaps : List Span) (i : ℕ) (span : Span) → AreGaps gaps → LiesInGap gaps span
    → IsLocatedAt gaps span.base i → span.base < span.top → slice_get gaps i ≡ None → ⊥
never_the_end gaps i span are lies at some read =
    let same = located_at gaps i span lies are at some in
    let is : Some (get_or gaps i span) ≡ None = sym (slice_get-get_or gaps i span (omega (arith, same, lies.within))) ∙ read in
    cc

-- what is left of a gap is a gap
pub gaps_left : (gaps : List Span) (i : ℕ) (gap span rest : Span) → AreGaps gaps → IsAround gaps i gap span
    → rest.base < rest.top → gap.base ≤ rest.base → rest.top ≤ gap.top → AreGaps (set gaps i rest)
gaps_left gaps i gap span rest are it some from to =
    gaps_narrowed gaps i gap rest are it.within some (omega (arith, it.base_is, from)) (omega (arith, it.top_is, to))

-- a whole gap is taken
pub taken_whole : (gaps : List Span) (i : ℕ) (gap span : Span) → IsAround gaps i gap span → gap.base ≡ span.base
    → gap.top ≡ span.top → AddsBytes (remove gaps i) span gaps
taken_whole gaps i gap span it base top address =
    omega (arith, sum_by-remove (bytes_at address) gaps i gap it.within, it.base_is, it.top_is, base, top)

-- the lower part of a gap is taken
pub taken_low : (gaps : List Span) (i : ℕ) (gap span upper : Span) → IsAround gaps i gap span → gap.base ≡ span.base
    → upper.base ≡ span.top → upper.top ≡ gap.top → AddsBytes (set gaps i upper) span gaps
taken_low gaps i gap span upper it base from to address =
    omega (
      arith,
      sum_by-set (bytes_at address) gaps i upper gap it.within,
      it.base_is,
      it.top_is,
      it.to_top,
      it.some,
      base,
      from,
      to,
    )

-- the upper part of a gap is taken
pub taken_high : (gaps : List Span) (i : ℕ) (gap span lower : Span) → IsAround gaps i gap span → gap.top ≡ span.top
    → lower.base ≡ gap.base → lower.top ≡ span.base → AddsBytes (set gaps i lower) span gaps
taken_high gaps i gap span lower it top from to address =
    omega (
      arith,
      sum_by-set (bytes_at address) gaps i lower gap it.within,
      it.base_is,
      it.top_is,
      it.from_base,
      it.some,
      top,
      from,
      to,
    )

-- a byte of a span is in one of two parts of it
two_parts : (address : ℕ) (whole low high : Span) → low.base ≡ whole.base → low.top ≡ high.base → high.top ≡ whole.top
    → low.base ≤ low.top → high.base ≤ high.top
    → bytes_at address whole ≡ bytes_at address low + bytes_at address high
two_parts address whole low high from middle to first second = omega (arith, from, middle, to, first, second)

sums_of_parts : (more fewer old whole low high rest part : ℕ) → more ≡ fewer + low → fewer + whole ≡ old + high
    → whole ≡ low + rest → rest ≡ part + high → old ≡ more + part
sums_of_parts more fewer old whole low high rest part first second third fourth = omega arith

-- the middle of a gap is taken
pub taken_middle : (gaps : List Span) (i : ℕ) (gap span lower upper : Span) → IsAround gaps i gap span
    → lower.base ≡ gap.base → lower.top ≡ span.base → upper.base ≡ span.top → upper.top ≡ gap.top
    → AddsBytes (insert (set gaps i upper) i lower) span gaps
taken_middle gaps i gap span lower upper it low_from low_to high_from high_to address =
    let rest : Span = record { base = span.base; top = gap.top } in
    sums_of_parts (count_at address (insert (set gaps i upper) i lower)) (count_at address (set gaps i upper))
    (count_at address gaps) (bytes_at address (get_or gaps i gap)) (bytes_at address lower) (bytes_at address upper)
    (bytes_at address rest) (bytes_at address span)
    (sum_by-insert (bytes_at address) (set gaps i upper) i lower)
    (sum_by-set (bytes_at address) gaps i upper gap it.within)
    (two_parts address (get_or gaps i gap) lower rest (low_from ∙ sym it.base_is) low_to (sym it.top_is)
    (omega (arith, low_from, low_to, it.from_base)) (omega (arith, it.some, it.to_top)))
    (two_parts address rest span upper refl (sym high_from) high_to (omega (arith, it.some))
    (omega (arith, high_from, high_to, it.to_top)))

-- and two parts of it are left
pub gaps_split : (gaps : List Span) (i : ℕ) (gap span lower upper : Span) → AreGaps gaps → IsAround gaps i gap span
    → lower.base ≡ gap.base → lower.top ≡ span.base → upper.base ≡ span.top → upper.top ≡ gap.top
    → lower.base < lower.top → upper.base < upper.top → AreGaps (insert (set gaps i upper) i lower)
gaps_split gaps i gap span lower upper are it low_from low_to high_from high_to low_some high_some =
    let here = are.some i gap it.within in
    let left = gaps_left gaps i gap span upper are it high_some
    (omega (arith, high_from, it.from_base, it.some)) (omega (arith, high_to)) in
    gaps_inserted (set gaps i upper) i lower left (rw length-set (omega (arith, it.within)))
    (record { not_empty = low_some; fits = omega (arith, low_to, it.to_top, it.some, it.top_is, here.fits) })
    (λ k d less.
    rw (get_or-set_other gaps i k upper d (λ same. omega (arith, same, less)))
    (let apart = are.apart k i d less it.within in
    let same = ap (λ (s : Span). s.base) (get_or_default gaps i gap d it.within) in
    omega (arith, apart, same, it.base_is, low_from)))
    (λ k d from within.
    let long : k < length gaps = rw length-set at within in
    elim (cases_lt i k) [
      | inl more ↦
          rw (get_or-set_other gaps i k upper d (λ same. omega (arith, same, more)))
          (let apart = are.apart i k d more long in
          let same = ap (λ (s : Span). s.top) (get_or_default gaps i gap d it.within) in
          omega (arith, apart, same, it.top_is, low_to, it.to_top, it.some))
      | inr most ↦
          let same : k ≡ i = omega arith in
          rw (same, get_or-set_same gaps i upper d it.within) (omega (arith, low_to, high_from, it.some))
    ])

-- ---- The row after a change has the gaps that were said.

pub gaps_after : (new gaps : List Span) → new ≡ gaps → AreGaps gaps → AreGaps new
gaps_after new gaps is are = rw is are

pub gaps_inserted_after : (new gaps : List Span) (i j : ℕ) (span : Span) → new ≡ gaps → j ≡ i
    → AreGaps (insert gaps i span) → AreGaps (insert new j span)
gaps_inserted_after new gaps i j span is at are = rw (is, at) are

pub gaps_set_after : (new gaps : List Span) (i j : ℕ) (span : Span) → new ≡ gaps → j ≡ i
    → AreGaps (set gaps i span) → AreGaps (set new j span)
gaps_set_after new gaps i j span is at are = rw (is, at) are

pub inserted_after : (last new gaps : List Span) (i j : ℕ) (span : Span) → last ≡ insert new j span → new ≡ gaps → j ≡ i
    → last ≡ insert gaps i span
inserted_after last new gaps i j span last_is is at = rw (← is, ← at) last_is

pub set_after : (last new gaps : List Span) (i j : ℕ) (span : Span) → last ≡ set new j span → new ≡ gaps → j ≡ i
    → last ≡ set gaps i span
set_after last new gaps i j span last_is is at = rw (← is, ← at) last_is

pub taken_after : (new gaps old : List Span) (span : Span) → new ≡ gaps → AddsBytes gaps span old → AddsBytes new span old
taken_after new gaps old span is bytes = rw is bytes

pub given_after : (new gaps old : List Span) (span : Span) → new ≡ gaps → AddsBytes old span gaps → AddsBytes old span new
given_after new gaps old span is bytes = rw is bytes

-- ---- A span comes back.

-- the gaps before a position end at the base of a span or below, and the others begin at its top or above
pub record IsBetween (gaps : List Span) (i : ℕ) (span : Span) : Type 0 where
  pub within : i ≤ length gaps
  pub some : IsSomeBytes span
  pub below : (k : ℕ) (d : Span) → k < i → (get_or gaps k d).top ≤ span.base
  pub above : (k : ℕ) (d : Span) → i ≤ k → k < length gaps → span.top ≤ (get_or gaps k d).base

pub between : (gaps : List Span) (i : ℕ) (span : Span) → AreGaps gaps → IsLocatedAt gaps span.base i → IsSomeBytes span
    → IsApartFrom gaps span → IsBetween gaps i span
between gaps i span are at some apart = record {
  within = at.within;
  some = some;
  below = at.below;
  above = λ k d from within.
      let here = are.some k d within in
      let ends : span.base < (get_or gaps k d).top = elim (cases_lt i k) [
        | inl more ↦ omega (arith, at.above d (omega (arith, more, within)), are.apart i k d more within, here.not_empty)
        | inr most ↦ let same : i ≡ k = omega arith in rw same at at.above d (omega (arith, same, within))
      ] in
      at_most_unless_above span.top (get_or gaps k d).base (λ below.
      apart (get_or gaps k d) (Contains-get_or gaps k d within) (record {
        byte = max span.base (get_or gaps k d).base;
        in_one = record { from_base = omega arith; below_top = omega (arith, below, some.not_empty) };
        in_other = record { from_base = omega arith; below_top = omega (arith, ends, here.not_empty) };
      }));
}

strict : (a b : ℕ) → a ≤ b → a ≢ b → a < b
strict a b most differ = elim (cases_lt a b) [ inl less ↦ less | inr from ↦ absurd (differ (omega arith)) ]

-- no gap ends at the base of the span, and none begins at its top
abbrev pub TouchesNoneBelow : List Span → (i : ℕ) → Span → Type 0
TouchesNoneBelow gaps i span = (k : ℕ) (d : Span) → k + 1 ≡ i → (get_or gaps k d).top ≢ span.base

abbrev pub TouchesNoneAbove : List Span → (i : ℕ) → Span → Type 0
TouchesNoneAbove gaps i span = (d : Span) → i < length gaps → (get_or gaps i d).base ≢ span.top

far_below : (gaps : List Span) (i : ℕ) (span : Span) → AreGaps gaps → IsBetween gaps i span
    → TouchesNoneBelow gaps i span → (k : ℕ) (d : Span) → k < i → (get_or gaps k d).top < span.base
far_below gaps i span are it none k d less =
    elim (cases_lt (k + 1) i) [
      | inl more ↦
          let within = it.within in
          let next : k + 1 < length gaps = omega arith in
          omega (arith, are.apart k (k + 1) d (omega arith) next, (are.some (k + 1) d next).not_empty, it.below (k + 1) d more)
      | inr last ↦ strict _ _ (it.below k d less) (none k d (omega arith))
    ]

far_above : (gaps : List Span) (i : ℕ) (span : Span) → AreGaps gaps → IsBetween gaps i span
    → TouchesNoneAbove gaps i span → (k : ℕ) (d : Span) → i ≤ k → k < length gaps → span.top < (get_or gaps k d).base
far_above gaps i span are it none k d from within =
    elim (cases_lt i k) [
      | inl more ↦
          let first : i < length gaps = omega arith in
          omega (arith, are.apart i k d more within, (are.some i d first).not_empty, it.above i d (omega arith) first)
      | inr last ↦
          let same : k ≡ i = omega arith in
          strict _ _ (it.above k d from within)
          (rw same (λ touches. none d (omega (arith, same, within)) (sym touches)))
    ]

-- a span that touches no gap is a gap of its own
pub gaps_beside : (gaps : List Span) (i : ℕ) (span : Span) → AreGaps gaps → IsBetween gaps i span
    → TouchesNoneBelow gaps i span → TouchesNoneAbove gaps i span → AreGaps (insert gaps i span)
gaps_beside gaps i span are it below above =
    gaps_inserted gaps i span are it.within it.some (far_below gaps i span are it below) (far_above gaps i span are it above)

pub given_beside : (gaps : List Span) (i : ℕ) (span : Span) → AddsBytes gaps span (insert gaps i span)
given_beside gaps i span address = omega (arith, sum_by-insert (bytes_at address) gaps i span)

-- the gap at a position has these ends
pub record HasEnds (gaps : List Span) (i base top : ℕ) : Type 0 where
  pub within : i < length gaps
  pub base_is : (d : Span) → (get_or gaps i d).base ≡ base
  pub top_is : (d : Span) → (get_or gaps i d).top ≡ top

-- a span joins the gap below it
pub gaps_joined_below : (gaps : List Span) (b i base : ℕ) (span joined : Span) → AreGaps gaps → IsBetween gaps i span
    → b + 1 ≡ i → HasEnds gaps b base span.base → TouchesNoneAbove gaps i span → joined.base ≡ base → joined.top ≡ span.top
    → AreGaps (set gaps b joined)
gaps_joined_below gaps b i base span joined are it next has above from to =
    gaps_set gaps b joined are has.within
    (record {
      not_empty = omega (arith, from, to, has.base_is span, has.top_is span, (are.some b span has.within).not_empty, it.some.not_empty);
      fits = omega (arith, to, it.some.fits);
    })
    (λ k d less. omega (arith, are.apart k b d less has.within, has.base_is d, from))
    (λ k d more within. omega (arith, far_above gaps i span are it above k d (omega (arith, next, more)) within, to))

pub given_below : (gaps : List Span) (b base : ℕ) (span joined : Span) → AreGaps gaps → HasEnds gaps b base span.base
    → span.base < span.top → joined.base ≡ base → joined.top ≡ span.top → AddsBytes gaps span (set gaps b joined)
given_below gaps b base span joined are has some from to address =
    omega (
      arith,
      sum_by-set (bytes_at address) gaps b joined span has.within,
      has.base_is span,
      has.top_is span,
      (are.some b span has.within).not_empty,
      some,
      from,
      to,
    )

-- a span joins the gap above it
pub gaps_joined_above : (gaps : List Span) (i top : ℕ) (span joined : Span) → AreGaps gaps → IsBetween gaps i span
    → HasEnds gaps i span.top top → TouchesNoneBelow gaps i span → joined.base ≡ span.base → joined.top ≡ top
    → AreGaps (set gaps i joined)
gaps_joined_above gaps i top span joined are it has below from to =
    gaps_set gaps i joined are has.within
    (record {
      not_empty = omega (arith, from, to, has.base_is span, has.top_is span, (are.some i span has.within).not_empty, it.some.not_empty);
      fits = omega (arith, to, has.top_is span, (are.some i span has.within).fits);
    })
    (λ k d less. omega (arith, far_below gaps i span are it below k d less, from))
    (λ k d more within. omega (arith, are.apart i k d more within, has.top_is d, to))

pub given_above : (gaps : List Span) (i top : ℕ) (span joined : Span) → AreGaps gaps → HasEnds gaps i span.top top
    → span.base < span.top → joined.base ≡ span.base → joined.top ≡ top → AddsBytes gaps span (set gaps i joined)
given_above gaps i top span joined are has some from to address =
    omega (
      arith,
      sum_by-set (bytes_at address) gaps i joined span has.within,
      has.base_is span,
      has.top_is span,
      (are.some i span has.within).not_empty,
      some,
      from,
      to,
    )

-- a span joins both gaps next to it
pub gaps_joined_both : (gaps : List Span) (b i base top : ℕ) (span joined : Span) → AreGaps gaps → IsBetween gaps i span
    → b + 1 ≡ i → HasEnds gaps b base span.base → HasEnds gaps i span.top top → joined.base ≡ base → joined.top ≡ top
    → AreGaps (set (remove gaps i) b joined)
gaps_joined_both gaps b i base top span joined are it next low high from to =
    let left = length-remove gaps i high.within in
    gaps_set (remove gaps i) b joined (gaps_removed gaps i span are high.within) (omega (arith, left, next, high.within))
    (record {
      not_empty = omega (
        arith,
        from,
        to,
        low.base_is span,
        low.top_is span,
        high.base_is span,
        high.top_is span,
        (are.some b span low.within).not_empty,
        (are.some i span high.within).not_empty,
        it.some.not_empty,
      );
      fits = omega (arith, to, high.top_is span, (are.some i span high.within).fits);
    })
    (λ k d less.
    rw (get_or-remove_below gaps i d k (omega (arith, less, next)) high.within)
    (omega (arith, are.apart k b d less low.within, low.base_is d, from)))
    (λ k d more within.
    rw (get_or-remove_above gaps i d k (omega (arith, more, next)) high.within)
    (omega (
      arith,
      are.apart i (k + 1) d (omega (arith, more, next)) (omega (arith, within, left)),
      high.top_is d,
      to,
    )))

pub given_both : (gaps : List Span) (b i base top : ℕ) (span joined : Span) → AreGaps gaps → b + 1 ≡ i
    → HasEnds gaps b base span.base → HasEnds gaps i span.top top → span.base < span.top → joined.base ≡ base
    → joined.top ≡ top
    → AddsBytes gaps span (set (remove gaps i) b joined)
given_both gaps b i base top span joined are next low high some from to address =
    let left = length-remove gaps i high.within in
    let within : b < length (remove gaps i) = omega (arith, left, next, high.within) in
    let here : get_or (remove gaps i) b span ≡ get_or gaps b span = get_or-remove_below gaps i span b
    (omega (arith, next)) high.within in
    omega (
      arith,
      sum_by-set (bytes_at address) (remove gaps i) b joined span within,
      sum_by-remove (bytes_at address) gaps i span high.within,
      ap (λ (s : Span). s.base) here,
      ap (λ (s : Span). s.top) here,
      low.base_is span,
      low.top_is span,
      high.base_is span,
      high.top_is span,
      (are.some b span low.within).not_empty,
      (are.some i span high.within).not_empty,
      some,
      from,
      to,
    )

-- what was read of the gaps next to a place
pub touches_none_below : (gaps : List Span) (i : ℕ) (span : Span) (top : ℕ) → top ≡ span.base → i ≤ length gaps
    → ((k : ℕ) (gap : Span) → k + 1 ≡ i → slice_get gaps k ≡ Some gap → gap.top ≢ top)
    → TouchesNoneBelow gaps i span
touches_none_below gaps i span top top_is within none k d next touches =
    none k (get_or gaps k d) next (slice_get-get_or gaps k d (omega arith)) (touches ∙ sym top_is)

pub touches_none_above : (gaps : List Span) (i : ℕ) (span : Span)
    → ((gap : Span) → slice_get gaps i ≡ Some gap → gap.base ≢ span.top) → TouchesNoneAbove gaps i span
touches_none_above gaps i span none d within = none (get_or gaps i d) (slice_get-get_or gaps i d within)

pub ends_read : (gaps : List Span) (i base top : ℕ) (gap : Span) → slice_get gaps i ≡ Some gap → gap.base ≡ base
    → gap.top ≡ top → HasEnds gaps i base top
ends_read gaps i base top gap read base_is top_is = record {
  within = slice_get_within gaps i gap read;
  base_is = λ d. ap (λ (s : Span). s.base) (get_or_from_slice_get gaps i gap d read) ∙ base_is;
  top_is = λ d. ap (λ (s : Span). s.top) (get_or_from_slice_get gaps i gap d read) ∙ top_is;
}

-- ---- Held spans.

-- the bytes of a span that is held are the pool's
pub held_in_pool : (pool : Span) (held gaps : List Span) (span : Span) → AreGapsOf pool held gaps → Contains held span
    → (span.base < span.top) × IsWithin span pool
held_in_pool pool held gaps span are among =
    let (k, within, is) = among in
    let base : (get_or held k span).base ≡ span.base = ap (λ (s : Span). s.base) is in
    let top : (get_or held k span).top ≡ span.top = ap (λ (s : Span). s.top) is in
    let some : span.base < span.top = omega (arith, are.are_some k span within, base, top) in
    let low = counted_contained held span span.base among (record { from_base = omega arith; below_top = some }) in
    let high = counted_contained held span (span.top - 1) among
    (record { from_base = omega (arith, some); below_top = omega (arith, some) }) in (
      some,
      record {
        from_base = omega (arith, low, are.each span.base);
        to_top = omega (arith, some, high, are.each (span.top - 1));
      },
    )

-- and in no gap
pub held_apart : (pool : Span) (held gaps : List Span) (span : Span) → AreGapsOf pool held gaps → Contains held span
    → IsApartFrom gaps span
held_apart pool held gaps span are among gap gap_among shares =
    never_both pool held gaps shares.byte are (counted_contained held span shares.byte among shares.in_one)
    (counted_contained gaps gap shares.byte gap_among shares.in_other)

-- the gaps next to one more span
pub gaps_of_more : (pool : Span) (held gaps more left : List Span) (span : Span) → AreGapsOf pool held gaps
    → span.base < span.top
    → AddsSpan held span more → AreGaps left → AddsBytes left span gaps → AreGapsOf pool more left
gaps_of_more pool held gaps more left span are some adds are_left bytes = record {
  are_gaps = are_left;
  are_some = All-permutation (λ s. s.base < s.top) (span ∷ held) more adds
      (All-cons (λ (s : Span). s.base < s.top) span held some are.are_some);
  each = λ address.
      sums_more (count_at address more) (count_at address (span ∷ held)) (count_at address held) (count_at address gaps)
      (count_at address left)
      (bytes_at address span) (bytes_at address pool)
      (sum_by-IsPermutation (bytes_at address) (span ∷ held) more adds)
      (sum_by-cons (bytes_at address) span held) (bytes address) (are.each address);
}
  where
    sums_more : (more both held gaps left part pool : ℕ) → more ≡ both → both ≡ part + held → gaps ≡ left + part
        → held + gaps ≡ pool → more + left ≡ pool
    sums_more more both held gaps left part pool first second third fourth = omega arith

-- and next to one fewer
pub gaps_of_fewer : (pool : Span) (held gaps fewer left : List Span) (span : Span) → AreGapsOf pool held gaps
    → RemovesSpan held span fewer → AreGaps left → AddsBytes gaps span left → AreGapsOf pool fewer left
gaps_of_fewer pool held gaps fewer left span are removes are_left bytes = record {
  are_gaps = are_left;
  are_some = All-tail (λ (s : Span). s.base < s.top) span fewer
      (All-permutation (λ s. s.base < s.top) held (span ∷ fewer) (IsPermutation-sym (span ∷ fewer) held removes)
      are.are_some);
  each = λ address.
      sums_fewer (count_at address held) (count_at address (span ∷ fewer)) (count_at address fewer)
      (count_at address gaps) (count_at address left)
      (bytes_at address span) (bytes_at address pool)
      (sum_by-IsPermutation (bytes_at address) (span ∷ fewer) held removes)
      (sum_by-cons (bytes_at address) span fewer) (bytes address) (are.each address);
}
  where
    sums_fewer : (held both fewer gaps left part pool : ℕ) → held ≡ both → both ≡ part + fewer → left ≡ gaps + part
        → held + gaps ≡ pool → fewer + left ≡ pool
    sums_fewer held both fewer gaps left part pool first second third fourth = omega arith

-- ---- The number of gaps.

-- 1 if a span begins below an address, and else 0
abbrev begins_below : (address : ℕ) → Span → ℕ
begins_below address span = min 1 (address - span.base)

-- a span with the byte at the top of a gap begins above the gap's base
held_begins : (pool : Span) (held gaps : List Span) (k j : ℕ) (d : Span) → AreGapsOf pool held gaps → k < length gaps
    → j < length held
    → (get_or held j d).base ≤ (get_or gaps k d).top → (get_or gaps k d).top < (get_or held j d).top
    → (get_or gaps k d).base ≤ (get_or held j d).base
held_begins pool held gaps k j d are within inside from below =
    at_most_unless_above (get_or gaps k d).base (get_or held j d).base (λ above.
    let some = (are.are_gaps.some k d within).not_empty in
    never_both pool held gaps (get_or gaps k d).base are
    (counted held j d (get_or gaps k d).base inside (omega (arith, above)) (omega (arith, below, some)))
    (counted gaps k d (get_or gaps k d).base within (omega arith) some))

-- the top of a gap that another follows is held
held_top : (pool : Span) (held gaps : List Span) (k : ℕ) (d : Span) → AreGapsOf pool held gaps → k + 1 < length gaps
    → HasOne held (get_or gaps k d).top
held_top pool held gaps k d are within =
    let some = (are.are_gaps.some k d (omega arith)).not_empty in
    let here = gap_in_pool pool held gaps k d are (omega arith) in
    let next = gap_in_pool pool held gaps (k + 1) d are within in
    let next_some = (are.are_gaps.some (k + 1) d within).not_empty in
    let apart = are.are_gaps.apart k (k + 1) d (omega arith) within in
    one_counted held (get_or gaps k d).top (omega (
      arith,
      are.each (get_or gaps k d).top,
      none_at_top gaps k d are.are_gaps (omega arith),
      some,
      here.from_base,
      next.to_top,
      next_some,
      apart,
    ))

-- at least as many held spans begin below a gap as gaps are before it
begin_before : (pool : Span) (held gaps : List Span) (k : ℕ) (d : Span) → AreGapsOf pool held gaps → k < length gaps
    → k ≤ sum_by (begins_below (get_or gaps k d).base) held
begin_before pool held gaps zero d are within = omega arith
begin_before pool held gaps (suc k) d are within =
    one_more (begin_before pool held gaps k d are (omega (arith, within)))
    (held_top pool held gaps k d are (omega (arith, within)))
  where
    one_more : k ≤ sum_by (begins_below (get_or gaps k d).base) held → HasOne held (get_or gaps k d).top
        → suc k ≤ sum_by (begins_below (get_or gaps (suc k) d).base) held
    one_more before one =
        let apart = are.are_gaps.apart k (suc k) d (omega arith) within in
        let some = (are.are_gaps.some k d (omega (arith, within))).not_empty in
        let from = held_begins pool held gaps k one.at d are (omega (arith, within)) one.within (one.from_base d)
        (one.below_top d) in
        let rest = sum_by-le-sum_by (begins_below (get_or gaps k d).base) (begins_below (get_or gaps (suc k) d).base)
        (remove held one.at) (λ span. omega (arith, apart, some)) in
        let low = sum_by-remove (begins_below (get_or gaps k d).base) held one.at d one.within in
        let high = sum_by-remove (begins_below (get_or gaps (suc k) d).base) held one.at d one.within in
        omega (arith, before, rest, low, high, from, one.from_base d, apart)

-- there is at most one gap more than there are held spans
pub few_gaps : (pool : Span) (held gaps : List Span) → AreGapsOf pool held gaps → length gaps ≤ length held + 1
few_gaps pool held gaps are =
    elim (cases_lt 0 (length gaps)) [
      | inl some ↦
          let last = length gaps - 1 in
          let before = begin_before pool held gaps last pool are (omega (arith, some)) in
          let most = sum_by-le (begins_below (get_or gaps last pool).base) 1 held (λ k d within. omega arith) in
          omega (arith, some, before, most)
      | inr none ↦ omega (arith, none)
    ]
