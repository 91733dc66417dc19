use Rattle.std.proofs.Common.{◌≡◌, ◌+◌, Some, slice_get, arith, refl, insert}
use Rattle.std.proofs.lemmas.List.Edits.{length-insert}
use Rattle.cc_bounds.specs.declared.span.Span.{Span}
use Rattle.cc_machine.specs.GapRowState.{IsPlaceIn, gaps_in, index_of}
use Rattle.cc_machine.proofs.GapChangeLemmas.{HasEnds, IsBetween, TouchesNoneAbove, TouchesNoneBelow, between, ends_read, gaps_after, gaps_beside, gaps_joined_above, gaps_joined_below}
use Rattle.cc_machine.proofs.GapChangeLemmas.{gaps_joined_both, gaps_set_after, given_above, given_after, given_below, given_beside, given_both, set_after, touches_none_above, touches_none_below}
use Rattle.cc_machine.proofs.gaps.give.Goals as goal

pub insert-requires-clause-order : goal.insert-requires-clause-order
insert-requires-clause-order c =
    let it : IsBetween (gaps_in c.args.row.now) (index_of c.args.row.now c.locate-next.result.0) c.args.span =
    between _ _ _ c.requires.gaps (record {
      within = c.locate-next.ensures.within;
      below = c.locate-next.ensures.below;
      above = c.locate-next.ensures.above;
    }) c.requires.some c.requires.apart in
    let low : TouchesNoneBelow (gaps_in c.args.row.now) (index_of c.args.row.now c.locate-next.result.0) c.args.span =
    touches_none_below _ _ c.args.span c.from.result c.from.ensures it.within (rw c.in-None-None.is-0 at c.gap_up_to-below.ensures.none) in
    let high : TouchesNoneAbove (gaps_in c.args.row.now) (index_of c.args.row.now c.locate-next.result.0) c.args.span =
    touches_none_above _ _ c.args.span (rw (c.in-None-None.is-1, c.locate-next.ensures.gap) at c.top_from-above.ensures.none) in
    gaps_beside (gaps_in c.args.row.now) (index_of c.args.row.now c.locate-next.result.0) c.args.span c.requires.gaps it low high

pub insert-requires-clause-room : goal.insert-requires-clause-room
insert-requires-clause-room c =
    let it : IsBetween (gaps_in c.args.row.now) (index_of c.args.row.now c.locate-next.result.0) c.args.span =
    between _ _ _ c.requires.gaps (record {
      within = c.locate-next.ensures.within;
      below = c.locate-next.ensures.below;
      above = c.locate-next.ensures.above;
    }) c.requires.some c.requires.apart in
    let low : TouchesNoneBelow (gaps_in c.args.row.now) (index_of c.args.row.now c.locate-next.result.0) c.args.span =
    touches_none_below _ _ c.args.span c.from.result c.from.ensures it.within (rw c.in-None-None.is-0 at c.gap_up_to-below.ensures.none) in
    let high : TouchesNoneAbove (gaps_in c.args.row.now) (index_of c.args.row.now c.locate-next.result.0) c.args.span =
    touches_none_above _ _ c.args.span (rw (c.in-None-None.is-1, c.locate-next.ensures.gap) at c.top_from-above.ensures.none) in
    let most = c.requires.room (insert (gaps_in c.args.row.now) (index_of c.args.row.now c.locate-next.result.0) c.args.span)
    (gaps_beside (gaps_in c.args.row.now) (index_of c.args.row.now c.locate-next.result.0) c.args.span c.requires.gaps it low high)
    (given_beside (gaps_in c.args.row.now) (index_of c.args.row.now c.locate-next.result.0) c.args.span) in
    omega (arith, most, length-insert (gaps_in c.args.row.now) (index_of c.args.row.now c.locate-next.result.0) c.args.span it.within)

pub returns-in-None-None-clause-gaps : goal.returns-in-None-None-clause-gaps
returns-in-None-None-clause-gaps c =
    let it : IsBetween (gaps_in c.args.row.now) (index_of c.args.row.now c.locate-next.result.0) c.args.span =
    between _ _ _ c.requires.gaps (record {
      within = c.locate-next.ensures.within;
      below = c.locate-next.ensures.below;
      above = c.locate-next.ensures.above;
    }) c.requires.some c.requires.apart in
    let low : TouchesNoneBelow (gaps_in c.args.row.now) (index_of c.args.row.now c.locate-next.result.0) c.args.span =
    touches_none_below _ _ c.args.span c.from.result c.from.ensures it.within (rw c.in-None-None.is-0 at c.gap_up_to-below.ensures.none) in
    let high : TouchesNoneAbove (gaps_in c.args.row.now) (index_of c.args.row.now c.locate-next.result.0) c.args.span =
    touches_none_above _ _ c.args.span (rw (c.in-None-None.is-1, c.locate-next.ensures.gap) at c.top_from-above.ensures.none) in
    gaps_after _ _ c.insert.ensures.gaps (gaps_beside (gaps_in c.args.row.now) (index_of c.args.row.now c.locate-next.result.0) c.args.span c.requires.gaps it low high)

pub set-requires-clause-within : goal.set-requires-clause-within
set-requires-clause-within c =
    let it : IsBetween (gaps_in c.args.row.now) (index_of c.args.row.now c.locate-next.result.0) c.args.span =
    between _ _ _ c.requires.gaps (record {
      within = c.locate-next.ensures.within;
      below = c.locate-next.ensures.below;
      above = c.locate-next.ensures.above;
    }) c.requires.some c.requires.apart in
    let low : TouchesNoneBelow (gaps_in c.args.row.now) (index_of c.args.row.now c.locate-next.result.0) c.args.span =
    touches_none_below _ _ c.args.span c.from.result c.from.ensures it.within (rw c.in-None-Some.is-0 at c.gap_up_to-below.ensures.none) in
    let read : (gap : Span) × (slice_get (gaps_in c.args.row.now) (index_of c.args.row.now c.locate-next.result.0) ≡ Some gap) × (gap.base ≡ c.args.span.top) × (gap.top ≡ c.in-None-Some.top)
    = rw (c.in-None-Some.is-1, c.locate-next.ensures.gap) at c.top_from-above.ensures.some in
    let high : HasEnds (gaps_in c.args.row.now) (index_of c.args.row.now c.locate-next.result.0) c.args.span.top c.in-None-Some.top = ends_read _ _ _ _ read.0 read.1 read.2 read.3 in
    high.within

pub set-requires-clause-order : goal.set-requires-clause-order
set-requires-clause-order c =
    let it : IsBetween (gaps_in c.args.row.now) (index_of c.args.row.now c.locate-next.result.0) c.args.span =
    between _ _ _ c.requires.gaps (record {
      within = c.locate-next.ensures.within;
      below = c.locate-next.ensures.below;
      above = c.locate-next.ensures.above;
    }) c.requires.some c.requires.apart in
    let low : TouchesNoneBelow (gaps_in c.args.row.now) (index_of c.args.row.now c.locate-next.result.0) c.args.span =
    touches_none_below _ _ c.args.span c.from.result c.from.ensures it.within (rw c.in-None-Some.is-0 at c.gap_up_to-below.ensures.none) in
    let read : (gap : Span) × (slice_get (gaps_in c.args.row.now) (index_of c.args.row.now c.locate-next.result.0) ≡ Some gap) × (gap.base ≡ c.args.span.top) × (gap.top ≡ c.in-None-Some.top)
    = rw (c.in-None-Some.is-1, c.locate-next.ensures.gap) at c.top_from-above.ensures.some in
    let high : HasEnds (gaps_in c.args.row.now) (index_of c.args.row.now c.locate-next.result.0) c.args.span.top c.in-None-Some.top = ends_read _ _ _ _ read.0 read.1 read.2 read.3 in
    gaps_joined_above (gaps_in c.args.row.now) (index_of c.args.row.now c.locate-next.result.0) c.in-None-Some.top c.args.span (record { base = c.args.span.base; top = c.in-None-Some.top })
    c.requires.gaps it high low refl refl

pub returns-in-None-Some-clause-gaps : goal.returns-in-None-Some-clause-gaps
returns-in-None-Some-clause-gaps c =
    let it : IsBetween (gaps_in c.args.row.now) (index_of c.args.row.now c.locate-next.result.0) c.args.span =
    between _ _ _ c.requires.gaps (record {
      within = c.locate-next.ensures.within;
      below = c.locate-next.ensures.below;
      above = c.locate-next.ensures.above;
    }) c.requires.some c.requires.apart in
    let low : TouchesNoneBelow (gaps_in c.args.row.now) (index_of c.args.row.now c.locate-next.result.0) c.args.span =
    touches_none_below _ _ c.args.span c.from.result c.from.ensures it.within (rw c.in-None-Some.is-0 at c.gap_up_to-below.ensures.none) in
    let read : (gap : Span) × (slice_get (gaps_in c.args.row.now) (index_of c.args.row.now c.locate-next.result.0) ≡ Some gap) × (gap.base ≡ c.args.span.top) × (gap.top ≡ c.in-None-Some.top)
    = rw (c.in-None-Some.is-1, c.locate-next.ensures.gap) at c.top_from-above.ensures.some in
    let high : HasEnds (gaps_in c.args.row.now) (index_of c.args.row.now c.locate-next.result.0) c.args.span.top c.in-None-Some.top = ends_read _ _ _ _ read.0 read.1 read.2 read.3 in
    gaps_after _ _ c.set.ensures.gaps (gaps_joined_above (gaps_in c.args.row.now) (index_of c.args.row.now c.locate-next.result.0) c.in-None-Some.top c.args.span
    (record { base = c.args.span.base; top = c.in-None-Some.top }) c.requires.gaps it high low refl refl)

pub returns-in-None-Some-clause-bytes : goal.returns-in-None-Some-clause-bytes
returns-in-None-Some-clause-bytes c =
    let it : IsBetween (gaps_in c.args.row.now) (index_of c.args.row.now c.locate-next.result.0) c.args.span =
    between _ _ _ c.requires.gaps (record {
      within = c.locate-next.ensures.within;
      below = c.locate-next.ensures.below;
      above = c.locate-next.ensures.above;
    }) c.requires.some c.requires.apart in
    let low : TouchesNoneBelow (gaps_in c.args.row.now) (index_of c.args.row.now c.locate-next.result.0) c.args.span =
    touches_none_below _ _ c.args.span c.from.result c.from.ensures it.within (rw c.in-None-Some.is-0 at c.gap_up_to-below.ensures.none) in
    let read : (gap : Span) × (slice_get (gaps_in c.args.row.now) (index_of c.args.row.now c.locate-next.result.0) ≡ Some gap) × (gap.base ≡ c.args.span.top) × (gap.top ≡ c.in-None-Some.top)
    = rw (c.in-None-Some.is-1, c.locate-next.ensures.gap) at c.top_from-above.ensures.some in
    let high : HasEnds (gaps_in c.args.row.now) (index_of c.args.row.now c.locate-next.result.0) c.args.span.top c.in-None-Some.top = ends_read _ _ _ _ read.0 read.1 read.2 read.3 in
    given_after _ _ (gaps_in c.args.row.now) c.args.span c.set.ensures.gaps
    (given_above (gaps_in c.args.row.now) (index_of c.args.row.now c.locate-next.result.0) c.in-None-Some.top c.args.span (record { base = c.args.span.base; top = c.in-None-Some.top })
    c.requires.gaps high c.requires.some.not_empty refl refl)

pub set-requires-in-Some-None-clause-order : goal.set-requires-in-Some-None-clause-order
set-requires-in-Some-None-clause-order c =
    let it : IsBetween (gaps_in c.args.row.now) (index_of c.args.row.now c.locate-next.result.0) c.args.span =
    between _ _ _ c.requires.gaps (record {
      within = c.locate-next.ensures.within;
      below = c.locate-next.ensures.below;
      above = c.locate-next.ensures.above;
    }) c.requires.some c.requires.apart in
    let found : IsPlaceIn c.args.row.now c.in-Some-None.below × (index_of c.args.row.now c.in-Some-None.below + 1 ≡ (index_of c.args.row.now c.locate-next.result.0))
    × (slice_get (gaps_in c.args.row.now) (index_of c.args.row.now c.in-Some-None.below) ≡ Some (record { base = c.in-Some-None.base; top = c.from.result }))
    = rw c.in-Some-None.is-0 at c.gap_up_to-below.ensures.some in
    let low : HasEnds (gaps_in c.args.row.now) (index_of c.args.row.now c.in-Some-None.below) c.in-Some-None.base c.args.span.base =
    ends_read _ _ _ _ _ found.2 refl c.from.ensures in
    let high : TouchesNoneAbove (gaps_in c.args.row.now) (index_of c.args.row.now c.locate-next.result.0) c.args.span =
    touches_none_above _ _ c.args.span (rw (c.in-Some-None.is-1, c.locate-next.ensures.gap) at c.top_from-above.ensures.none) in
    gaps_joined_below (gaps_in c.args.row.now) (index_of c.args.row.now c.in-Some-None.below) (index_of c.args.row.now c.locate-next.result.0) c.in-Some-None.base c.args.span
    (record { base = c.in-Some-None.base; top = c.args.span.top }) c.requires.gaps it found.1 low high refl refl

pub returns-in-Some-None-clause-gaps : goal.returns-in-Some-None-clause-gaps
returns-in-Some-None-clause-gaps c =
    let it : IsBetween (gaps_in c.args.row.now) (index_of c.args.row.now c.locate-next.result.0) c.args.span =
    between _ _ _ c.requires.gaps (record {
      within = c.locate-next.ensures.within;
      below = c.locate-next.ensures.below;
      above = c.locate-next.ensures.above;
    }) c.requires.some c.requires.apart in
    let found : IsPlaceIn c.args.row.now c.in-Some-None.below × (index_of c.args.row.now c.in-Some-None.below + 1 ≡ (index_of c.args.row.now c.locate-next.result.0))
    × (slice_get (gaps_in c.args.row.now) (index_of c.args.row.now c.in-Some-None.below) ≡ Some (record { base = c.in-Some-None.base; top = c.from.result }))
    = rw c.in-Some-None.is-0 at c.gap_up_to-below.ensures.some in
    let low : HasEnds (gaps_in c.args.row.now) (index_of c.args.row.now c.in-Some-None.below) c.in-Some-None.base c.args.span.base =
    ends_read _ _ _ _ _ found.2 refl c.from.ensures in
    let high : TouchesNoneAbove (gaps_in c.args.row.now) (index_of c.args.row.now c.locate-next.result.0) c.args.span =
    touches_none_above _ _ c.args.span (rw (c.in-Some-None.is-1, c.locate-next.ensures.gap) at c.top_from-above.ensures.none) in
    gaps_after _ _ c.set-in-Some-None.ensures.gaps (gaps_joined_below (gaps_in c.args.row.now) (index_of c.args.row.now c.in-Some-None.below) (index_of c.args.row.now c.locate-next.result.0)
    c.in-Some-None.base c.args.span (record { base = c.in-Some-None.base; top = c.args.span.top }) c.requires.gaps it found.1 low high refl refl)

pub returns-in-Some-None-clause-bytes : goal.returns-in-Some-None-clause-bytes
returns-in-Some-None-clause-bytes c =
    let it : IsBetween (gaps_in c.args.row.now) (index_of c.args.row.now c.locate-next.result.0) c.args.span =
    between _ _ _ c.requires.gaps (record {
      within = c.locate-next.ensures.within;
      below = c.locate-next.ensures.below;
      above = c.locate-next.ensures.above;
    }) c.requires.some c.requires.apart in
    let found : IsPlaceIn c.args.row.now c.in-Some-None.below × (index_of c.args.row.now c.in-Some-None.below + 1 ≡ (index_of c.args.row.now c.locate-next.result.0))
    × (slice_get (gaps_in c.args.row.now) (index_of c.args.row.now c.in-Some-None.below) ≡ Some (record { base = c.in-Some-None.base; top = c.from.result }))
    = rw c.in-Some-None.is-0 at c.gap_up_to-below.ensures.some in
    let low : HasEnds (gaps_in c.args.row.now) (index_of c.args.row.now c.in-Some-None.below) c.in-Some-None.base c.args.span.base =
    ends_read _ _ _ _ _ found.2 refl c.from.ensures in
    let high : TouchesNoneAbove (gaps_in c.args.row.now) (index_of c.args.row.now c.locate-next.result.0) c.args.span =
    touches_none_above _ _ c.args.span (rw (c.in-Some-None.is-1, c.locate-next.ensures.gap) at c.top_from-above.ensures.none) in
    given_after _ _ (gaps_in c.args.row.now) c.args.span c.set-in-Some-None.ensures.gaps
    (given_below (gaps_in c.args.row.now) (index_of c.args.row.now c.in-Some-None.below) c.in-Some-None.base c.args.span (record { base = c.in-Some-None.base; top = c.args.span.top })
    c.requires.gaps low c.requires.some.not_empty refl refl)

pub remove-requires-clause-within : goal.remove-requires-clause-within
remove-requires-clause-within c =
    let it : IsBetween (gaps_in c.args.row.now) (index_of c.args.row.now c.locate-next.result.0) c.args.span =
    between _ _ _ c.requires.gaps (record {
      within = c.locate-next.ensures.within;
      below = c.locate-next.ensures.below;
      above = c.locate-next.ensures.above;
    }) c.requires.some c.requires.apart in
    let found : IsPlaceIn c.args.row.now c.in-Some-Some.below × (index_of c.args.row.now c.in-Some-Some.below + 1 ≡ (index_of c.args.row.now c.locate-next.result.0))
    × (slice_get (gaps_in c.args.row.now) (index_of c.args.row.now c.in-Some-Some.below) ≡ Some (record { base = c.in-Some-Some.base; top = c.from.result }))
    = rw c.in-Some-Some.is-0 at c.gap_up_to-below.ensures.some in
    let low : HasEnds (gaps_in c.args.row.now) (index_of c.args.row.now c.in-Some-Some.below) c.in-Some-Some.base c.args.span.base =
    ends_read _ _ _ _ _ found.2 refl c.from.ensures in
    let read : (gap : Span) × (slice_get (gaps_in c.args.row.now) (index_of c.args.row.now c.locate-next.result.0) ≡ Some gap) × (gap.base ≡ c.args.span.top) × (gap.top ≡ c.in-Some-Some.top)
    = rw (c.in-Some-Some.is-1, c.locate-next.ensures.gap) at c.top_from-above.ensures.some in
    let high : HasEnds (gaps_in c.args.row.now) (index_of c.args.row.now c.locate-next.result.0) c.args.span.top c.in-Some-Some.top = ends_read _ _ _ _ read.0 read.1 read.2 read.3 in
    high.within

pub set-requires-in-Some-Some-clause-order : goal.set-requires-in-Some-Some-clause-order
set-requires-in-Some-Some-clause-order c =
    let it : IsBetween (gaps_in c.args.row.now) (index_of c.args.row.now c.locate-next.result.0) c.args.span =
    between _ _ _ c.requires.gaps (record {
      within = c.locate-next.ensures.within;
      below = c.locate-next.ensures.below;
      above = c.locate-next.ensures.above;
    }) c.requires.some c.requires.apart in
    let found : IsPlaceIn c.args.row.now c.in-Some-Some.below × (index_of c.args.row.now c.in-Some-Some.below + 1 ≡ (index_of c.args.row.now c.locate-next.result.0))
    × (slice_get (gaps_in c.args.row.now) (index_of c.args.row.now c.in-Some-Some.below) ≡ Some (record { base = c.in-Some-Some.base; top = c.from.result }))
    = rw c.in-Some-Some.is-0 at c.gap_up_to-below.ensures.some in
    let low : HasEnds (gaps_in c.args.row.now) (index_of c.args.row.now c.in-Some-Some.below) c.in-Some-Some.base c.args.span.base =
    ends_read _ _ _ _ _ found.2 refl c.from.ensures in
    let read : (gap : Span) × (slice_get (gaps_in c.args.row.now) (index_of c.args.row.now c.locate-next.result.0) ≡ Some gap) × (gap.base ≡ c.args.span.top) × (gap.top ≡ c.in-Some-Some.top)
    = rw (c.in-Some-Some.is-1, c.locate-next.ensures.gap) at c.top_from-above.ensures.some in
    let high : HasEnds (gaps_in c.args.row.now) (index_of c.args.row.now c.locate-next.result.0) c.args.span.top c.in-Some-Some.top = ends_read _ _ _ _ read.0 read.1 read.2 read.3 in
    gaps_set_after _ _ (index_of c.args.row.now c.in-Some-Some.below) _ (record { base = c.in-Some-Some.base; top = c.in-Some-Some.top }) c.remove.ensures.gaps
    (c.remove.ensures.places c.in-Some-Some.below found.0 (omega (arith, found.1))).1
    (gaps_joined_both (gaps_in c.args.row.now) (index_of c.args.row.now c.in-Some-Some.below) (index_of c.args.row.now c.locate-next.result.0) c.in-Some-Some.base c.in-Some-Some.top c.args.span
    (record { base = c.in-Some-Some.base; top = c.in-Some-Some.top }) c.requires.gaps it found.1 low high refl refl)

pub returns-in-Some-Some-clause-gaps : goal.returns-in-Some-Some-clause-gaps
returns-in-Some-Some-clause-gaps c =
    let it : IsBetween (gaps_in c.args.row.now) (index_of c.args.row.now c.locate-next.result.0) c.args.span =
    between _ _ _ c.requires.gaps (record {
      within = c.locate-next.ensures.within;
      below = c.locate-next.ensures.below;
      above = c.locate-next.ensures.above;
    }) c.requires.some c.requires.apart in
    let found : IsPlaceIn c.args.row.now c.in-Some-Some.below × (index_of c.args.row.now c.in-Some-Some.below + 1 ≡ (index_of c.args.row.now c.locate-next.result.0))
    × (slice_get (gaps_in c.args.row.now) (index_of c.args.row.now c.in-Some-Some.below) ≡ Some (record { base = c.in-Some-Some.base; top = c.from.result }))
    = rw c.in-Some-Some.is-0 at c.gap_up_to-below.ensures.some in
    let low : HasEnds (gaps_in c.args.row.now) (index_of c.args.row.now c.in-Some-Some.below) c.in-Some-Some.base c.args.span.base =
    ends_read _ _ _ _ _ found.2 refl c.from.ensures in
    let read : (gap : Span) × (slice_get (gaps_in c.args.row.now) (index_of c.args.row.now c.locate-next.result.0) ≡ Some gap) × (gap.base ≡ c.args.span.top) × (gap.top ≡ c.in-Some-Some.top)
    = rw (c.in-Some-Some.is-1, c.locate-next.ensures.gap) at c.top_from-above.ensures.some in
    let high : HasEnds (gaps_in c.args.row.now) (index_of c.args.row.now c.locate-next.result.0) c.args.span.top c.in-Some-Some.top = ends_read _ _ _ _ read.0 read.1 read.2 read.3 in
    gaps_after _ _ (set_after _ _ _ (index_of c.args.row.now c.in-Some-Some.below) _ (record { base = c.in-Some-Some.base; top = c.in-Some-Some.top }) c.set-in-Some-Some.ensures.gaps
    c.remove.ensures.gaps (c.remove.ensures.places c.in-Some-Some.below found.0 (omega (arith, found.1))).1)
    (gaps_joined_both (gaps_in c.args.row.now) (index_of c.args.row.now c.in-Some-Some.below) (index_of c.args.row.now c.locate-next.result.0) c.in-Some-Some.base c.in-Some-Some.top c.args.span
    (record { base = c.in-Some-Some.base; top = c.in-Some-Some.top }) c.requires.gaps it found.1 low high refl refl)

pub returns-in-Some-Some-clause-bytes : goal.returns-in-Some-Some-clause-bytes
returns-in-Some-Some-clause-bytes c =
    let it : IsBetween (gaps_in c.args.row.now) (index_of c.args.row.now c.locate-next.result.0) c.args.span =
    between _ _ _ c.requires.gaps (record {
      within = c.locate-next.ensures.within;
      below = c.locate-next.ensures.below;
      above = c.locate-next.ensures.above;
    }) c.requires.some c.requires.apart in
    let found : IsPlaceIn c.args.row.now c.in-Some-Some.below × (index_of c.args.row.now c.in-Some-Some.below + 1 ≡ (index_of c.args.row.now c.locate-next.result.0))
    × (slice_get (gaps_in c.args.row.now) (index_of c.args.row.now c.in-Some-Some.below) ≡ Some (record { base = c.in-Some-Some.base; top = c.from.result }))
    = rw c.in-Some-Some.is-0 at c.gap_up_to-below.ensures.some in
    let low : HasEnds (gaps_in c.args.row.now) (index_of c.args.row.now c.in-Some-Some.below) c.in-Some-Some.base c.args.span.base =
    ends_read _ _ _ _ _ found.2 refl c.from.ensures in
    let read : (gap : Span) × (slice_get (gaps_in c.args.row.now) (index_of c.args.row.now c.locate-next.result.0) ≡ Some gap) × (gap.base ≡ c.args.span.top) × (gap.top ≡ c.in-Some-Some.top)
    = rw (c.in-Some-Some.is-1, c.locate-next.ensures.gap) at c.top_from-above.ensures.some in
    let high : HasEnds (gaps_in c.args.row.now) (index_of c.args.row.now c.locate-next.result.0) c.args.span.top c.in-Some-Some.top = ends_read _ _ _ _ read.0 read.1 read.2 read.3 in
    given_after _ _ (gaps_in c.args.row.now) c.args.span (set_after _ _ _ (index_of c.args.row.now c.in-Some-Some.below) _ (record { base = c.in-Some-Some.base; top = c.in-Some-Some.top })
    c.set-in-Some-Some.ensures.gaps c.remove.ensures.gaps (c.remove.ensures.places c.in-Some-Some.below found.0 (omega (arith, found.1))).1)
    (given_both (gaps_in c.args.row.now) (index_of c.args.row.now c.in-Some-Some.below) (index_of c.args.row.now c.locate-next.result.0) c.in-Some-Some.base c.in-Some-Some.top c.args.span
    (record { base = c.in-Some-Some.base; top = c.in-Some-Some.top }) c.requires.gaps found.1 low high c.requires.some.not_empty refl refl)
